-- A program prints the text that its log fixes, however the bytes come and whatever rooms it lends: a call takes a byte only where there is room for the most that
-- an item prints, so every text stands whole in its room, and the texts of the calls in a row are those of all bytes.
-- Assumes nothing.
use mathlib.Core.Path.{◌≡◌, refl, sym, ap, ap₂, ◌∙◌, subst}
use mathlib.Core.Bool.{true}
use mathlib.Core.Logic.{⊎_elim}
use mathlib.Core.List.{List, [], ◌∷◌, ◌++◌, append_assoc}
use Prim.Native.Nat.{ℕ, zero, suc, ◌+◌, ◌^◌, ◌≤◌, ◌<◌}
use native.Mathlib.Numerals.{add-one}
use native.Mathlib.Omega.{arith}
use borrow.Author.Tests.{le-leb, leb-true}
use lib.Dec.{ltb, leb, eqb}
use lib.ListN.{length, get_or, take, drop, replicate, length-append, length-replicate, take-append-drop}
use lib.Seq.{sets, take-append_seam}
use Rattle.wire.proofs.Numbers.{Bytes}
use Rattle.laws.proofs.Tests.{clash}
use Rattle.text.specs.Text.{behind}
use Rattle.text.proofs.Decimal.{below_or}
use Rattle.text.proofs.Lengths.{r_line-longest}
use Rattle.text.proofs.Places.{fits}
use Rattle.journal.specs.declared.Log.{Log}
use Rattle.pieces.specs.declared.Waiting.{Waiting}
use Rattle.pieces.specs.declared.Fed.{Fed}
use Rattle.journal.specs.Log.{next_item, fresh_log, log_text}
use Rattle.coming.specs.Coming.{has_room}
use Rattle.pieces.specs.Machine.{Came, nothing, with_byte, is_whole, came, bytes_came, front_came, Feeds, end_line}
use Rattle.journal.specs.Reached.{Reached, fresh, item}
use Rattle.pieces.specs.Program.{Handed, Program, feeds, finishes}
use Rattle.pieces.proofs.Feeding.{follow, run_append, ran_next}
use Rattle.laws.proofs.Tests.{either}
use Rattle.journal.proofs.Reached.{next_small, item_short}
use Rattle.pieces.proofs.Writing.{writes}

-- ---- a byte, and bytes

-- A byte leads to a reached log, and prints no more than an item does.
record Takes (c : Came) : Type 0 where
  reached : Reached c.log
  short : length c.text ≤ 1056

came-takes : (log : Log) (w : Waiting) (b : ℕ) → Reached log → Takes (came log w b)
unfolding came
came-takes log w b r =
    either Takes (is_whole (with_byte w b)) (λ t. record { reached = item r _ _; short = item_short r _ _ }) (λ t. record { reached = r; short = omega arith })

pub run_reached : (bs : List ℕ) (log : Log) (w : Waiting) → Reached log → Reached (bytes_came log w bs).log
unfolding bytes_came
run_reached [] log w r = r
run_reached (b ∷ bs) log w r = run_reached bs (came log w b).log (came log w b).waiting (came-takes log w b r).reached

-- ---- one call

-- A text that fits its room is the front of it, up to the place behind it.
front-is : (room text : List ℕ) {left : List ℕ} {next : ℕ} → length room < 2 ^ 64 → length text ≤ length room → next ≡ behind 0 text → left ≡ sets room 0 text → take next left ≡ text
front-is room text {next = next} small there place stored =
    let f = fits {l = room} {at = 0} {text = text} small (omega arith) (record { place = place; bytes = stored }) in
    let end : next ≡ length text = omega (arith, f.0) in
    ap₂ (λ (n : ℕ) (l : List ℕ). take n l) end f.1 ∙ take-append_seam text (drop (0 + length text) room)

module _ (log : Log) (w : Waiting) (piece room : List ℕ) where
  -- Nothing of a text is dropped.
  room_there : (n : ℕ) → Reached log → length room < 2 ^ 64 → n ≤ length piece
      → ((j : ℕ) → j < n → has_room (length room) (behind 0 (front_came log w piece j).text) ≡ true) → length (front_came log w piece n).text ≤ length room
  unfolding has_room behind bytes_came
  room_there zero o small h roomy = omega arith
  room_there (suc n) o small h roomy =
      let t = came-takes (front_came log w piece n).log (front_came log w piece n).waiting (get_or piece n 0) (run_reached (take n piece) log w o) in
      let before = leb-true (behind 0 (front_came log w piece n).text + 1056) (length room) (roomy n (omega arith)) in
      let e = ap (λ (m : ℕ). front_came log w piece m) (sym (add-one n)) ∙ ran_next log w piece room n h in
      subst (λ (c : Came). length c.text ≤ length room) (sym e) (rw length-append (omega (arith, t.short, before)))

  -- What a call wrote is the text of the bytes that it took, whole.
  pub wrote : {r : Fed} {left : List ℕ} → Reached log → length room < 2 ^ 64 → Feeds log w piece room r left → take r.written left ≡ (front_came log w piece r.taken).text
  wrote {r} o small f = front-is room (front_came log w piece r.taken).text small (room_there r.taken o small f.within f.roomy) f.place f.stored

  -- With a room of `Stretch::MOST` bytes a call takes at least one byte.
  pub goes_on : {r : Fed} {left : List ℕ} → 1 ≤ length piece → 1056 ≤ length room → Feeds log w piece room r left → 1 ≤ r.taken
  unfolding has_room behind bytes_came
  goes_on {r} some most f =
      ⊎_elim
      (λ no.
      let nought : r.taken ≡ 0 = omega arith in
      let place : r.written ≡ 0 = f.place ∙ ap (λ (n : ℕ). behind 0 (front_came log w piece n).text) nought in
      clash (ap (λ (n : ℕ). leb (n + 1056) (length room)) place ∙ le-leb 1056 (length room) most) (f.full (omega arith)))
      (λ yes. yes)
      (below_or r.taken 1 (ltb r.taken 1) refl)

-- ---- all calls

end_short : (log : Log) (w : Waiting) → length (end_line log w) ≤ 27
unfolding end_line
end_short log w =
    either (λ (l : List ℕ). length l ≤ 27) (eqb w.have 0) (λ t. omega arith) (λ t. r_line-longest (next_item log.items) 21 (next_small log.items) (omega arith))

-- The text of the bytes that came, and of the end.
abbrev ended : Came → List ℕ
ended c = c.text ++ end_line c.log c.waiting

all_printed : {log : Log} {w : Waiting} {bytes printed : List ℕ} → Reached log → Program log w bytes printed → printed ≡ ended (bytes_came log w bytes)
unfolding bytes_came
all_printed o (finishes {log} {w} room small most place stored) = front-is room (end_line log w) small (omega (arith, end_short log w)) place stored
all_printed o (feeds {log} {w} {r} piece later room small f rest) =
    let a = front_came log w piece r.taken in
    let b = drop r.taken piece ++ later in
    let split : piece ++ later ≡ take r.taken piece ++ b =
    ap (λ (l : List ℕ). l ++ later) (sym (take-append-drop r.taken piece)) ∙ append_assoc (take r.taken piece) (drop r.taken piece) later in
    let whole : bytes_came log w (piece ++ later) ≡ follow a b = ap (bytes_came log w) split ∙ run_append (take r.taken piece) b log w in
    let next = all_printed (subst Reached (sym f.leaves) (run_reached (take r.taken piece) log w o)) rest in
    ap₂ ◌++◌ (wrote log w piece room o small f) (next ∙ ap₂ (λ (l : Log) (n : Waiting). ended (bytes_came l n b)) f.leaves f.waits)
    ∙ sym (append_assoc a.text (bytes_came a.log a.waiting b).text _) ∙ sym (ap ended whole)

-- The claim: from a fresh log, whatever pieces the bytes come in and whatever rooms are lent, what is printed is the text of the whole log.
pub program_prints : {bytes printed : List ℕ} → Bytes bytes → Program fresh_log nothing bytes printed → printed ≡ log_text bytes
program_prints {bytes} h p = all_printed fresh p ∙ writes bytes h

-- ---- a turn of a program: what came so far, and what was handed over for printing

pub handed-none : Handed [] [] fresh_log nothing
unfolding bytes_came
handed-none = record { bytes = λ i. omega arith; leaves = refl }

bytes_join : (a b : List ℕ) → Bytes a → Bytes b → Bytes (a ++ b)
bytes_join [] b h k i = k i
bytes_join (x ∷ a) b h k zero = h 0
bytes_join (x ∷ a) b h k (suc i) = bytes_join a b (λ j. h (suc j)) k i

bytes-front : (n : ℕ) (l : List ℕ) → Bytes l → Bytes (take n l)
bytes-front zero l h i = omega arith
bytes-front (suc n) [] h i = omega arith
bytes-front (suc n) (x ∷ l) h zero = h 0
bytes-front (suc n) (x ∷ l) h (suc i) = bytes-front n l (λ j. h (suc j)) i

-- A call of `feed` goes on where the one before ended, and what it wrote is the text of what it took.
pub tells : {log : Log} {w : Waiting} {piece room left come said : List ℕ} {r : Fed} → length room < 2 ^ 64 → Bytes piece → Feeds log w piece room r left
    → Handed come said log w → Handed (come ++ take r.taken piece) (said ++ take r.written left) r.log r.waiting
tells {log} {w} {piece} {room} {left} {come} {said} {r} small some f t =
    let front = take r.taken piece in
    let o : Reached log = subst Reached (ap (λ (c : Came). c.log) t.leaves) (run_reached come fresh_log nothing fresh) in
    record {
      bytes = bytes_join come front t.bytes (bytes-front r.taken piece some);
      leaves =
          run_append come front fresh_log nothing ∙ ap (λ (c : Came). follow c front) t.leaves
          ∙ (λ i. record { text = said ++ sym (wrote log w piece room o small f) i; log = sym f.leaves i; waiting = sym f.waits i });
    }

-- Where the log ends, that and what `finish` wrote is the text of the whole log.
pub ends : {log : Log} {w : Waiting} (room : List ℕ) {left come said : List ℕ} {next : ℕ} → length room < 2 ^ 64 → 27 ≤ length room
    → next ≡ behind 0 (end_line log w) → left ≡ sets room 0 (end_line log w) → Handed come said log w → said ++ take next left ≡ log_text come
ends {log} {w} room {left} {come} {said} small most place stored t =
    ap (λ (l : List ℕ). said ++ l) (front-is room (end_line log w) small (omega (arith, end_short log w)) place stored) ∙ sym (ap ended t.leaves) ∙ writes come t.bytes

-- ---- every log can be handed over so

one_byte : (log : Log) (w : Waiting) (b : ℕ) (room : List ℕ) → 1056 ≤ length room
    → (r : Fed) × (r.taken ≡ 1) × Feeds log w (b ∷ []) room r (sets room 0 (bytes_came log w (b ∷ [])).text)
unfolding has_room behind bytes_came
one_byte log w b room most =
    let c = bytes_came log w (b ∷ []) in (
      record { log = c.log; waiting = c.waiting; taken = 1; written = behind 0 c.text },
      refl,
      record {
        within = omega arith;
        leaves = refl;
        waits = refl;
        place = refl;
        stored = refl;
        roomy = λ j h.
            let nought : j ≡ 0 = omega arith in
            ap (λ (n : ℕ). leb (behind 0 (front_came log w (b ∷ []) n).text + 1056) (length room)) nought ∙ le-leb 1056 (length room) most;
        full = λ h. absurd (omega arith);
      },
    )

-- For one, a byte at a time with rooms of `Stretch::MOST` bytes.
pub some_program : (bytes : List ℕ) (log : Log) (w : Waiting) → (printed : List ℕ) × Program log w bytes printed
some_program [] log w =
    let room : List ℕ = replicate 1056 0 in
    let long : length room ≡ 1056 = length-replicate {A = ℕ} 1056 0 in
    (take (behind 0 (end_line log w)) (sets room 0 (end_line log w)), finishes room (omega arith) (omega arith) refl refl)
some_program (b ∷ bs) log w =
    let room : List ℕ = replicate 1056 0 in
    let long : length room ≡ 1056 = length-replicate {A = ℕ} 1056 0 in
    let f = one_byte log w b room (omega arith) in
    let r : Fed = f.0 in
    let rest = some_program bs r.log r.waiting in
    let left : drop r.taken (b ∷ []) ++ bs ≡ bs = ap (λ (n : ℕ). drop n (b ∷ []) ++ bs) f.1 in
    (take r.written (sets room 0 (bytes_came log w (b ∷ [])).text) ++ rest.0, feeds (b ∷ []) bs room (omega arith) f.2 (subst (λ (l : List ℕ). Program r.log r.waiting l rest.0) (sym left) rest.1))
