-- What is handed over of a room is what `feed` or `finish` wrote there, so the laws of `pieces` on a turn and on the end speak of it.
-- Assumes nothing.
use mathlib.Core.Path.{◌≡◌, sym, ap, ◌∙◌, subst}
use mathlib.Core.List.{List, [], ◌++◌, append_assoc, append-nil}
use Rattle.std.proofs.Common.{Option, IfSome}
use Rattle.std.specs.Io.KnownBytes.{Consumes, Appends, IsAtEnd}
use Rattle.std.proofs.KnownBytes.{Consumes-nil, Consumes-trans, Consumes-whole, Appends-nil, Appends-trans}
use Prim.Native.Nat.{ℕ, ◌+◌, ◌-◌, ◌^◌, ◌≤◌, ◌<◌}
use native.Mathlib.Omega.{arith}
use lib.ListN.{length, take, drop, take-append-drop}
use Rattle.std.proofs.lemmas.List.{length-take}
use lib.Seq.{sets, take-append_seam, drop-drop}
use Rattle.wire.proofs.Numbers.{Bytes}
use Rattle.text.specs.Text.{behind}
use Rattle.journal.specs.declared.Log.{Log}
use Rattle.journal.specs.Log.{fresh_log, log_text}
use Rattle.pieces.specs.declared.Waiting.{Waiting}
use Rattle.pieces.specs.declared.Fed.{Fed}
use Rattle.pieces.specs.Machine.{nothing, Feeds, end_line}
use Rattle.pieces.specs.Program.{Handed}
use Rattle.coming.proofs.Parts.{drop-take}
use Rattle.pieces.proofs.Program.{handed-none, tells, ends}
use Rattle.cart.specs.declared.Printed.{Printed}
use Rattle.cart.specs.declared.Turn.{Turn}
use Rattle.cart.specs.Turns.{Turns, Ends, SoFar, Running}

-- So many bytes as there are at the front are the front.
front_same : (n : ℕ) (l : List ℕ) {count : ℕ} → count ≡ length (take n l) → take count l ≡ take n l
front_same n l e =
    ap (λ (k : ℕ). take k l) e ∙ ap (take (length (take n l))) (sym (take-append-drop n l)) ∙ take-append_seam (take n l) (drop n l)

pub turned : {log : Log} {w : Waiting} {piece room left : List ℕ} {r : Fed} (p : Printed) → length room < 2 ^ 64 → Bytes piece → Feeds log w piece room r left
    → p.count ≡ length (take r.written left) → Turns log w piece (record { log = r.log; waiting = r.waiting; taken = r.taken; printed = p }) left
turned {piece = piece} {left = left} {r = r} p small some f e =
    record {
      within = f.within;
      tells =
          λ come said t.
          subst (λ (l : List ℕ). Handed (come ++ take r.taken piece) (said ++ l) r.log r.waiting) (sym (front_same r.written left e)) (tells small some f t);
    }

pub ended : {log : Log} {w : Waiting} (room : List ℕ) {left : List ℕ} {next : ℕ} (p : Printed) → length room ≡ 65536
    → next ≡ behind 0 (end_line log w) → left ≡ sets room 0 (end_line log w) → p.count ≡ length (take next left) → Ends log w p left
ended room {left} {next} p long place stored e =
    record {
      ends = λ come said t. ap (λ (l : List ℕ). said ++ l) (front_same next left e) ∙ ends room (omega arith) (omega arith) place stored t;
    }

-- ---- the loop: what was read, and what of it was taken

-- Before the first read.
pub begun : {log : Log} {w : Waiting} {left : List ℕ} → log ≡ fresh_log → w ≡ nothing → left ≡ [] → SoFar log w left
begun {w = w} a b e =
    record {
      all = [];
      come = [];
      said = [];
      split = sym e;
      handed = subst (λ (l : Log). Handed [] [] l w) (sym a) (subst (λ (v : Waiting). Handed [] [] fresh_log v) (sym b) handed-none);
    }

-- A read, where all that came before was taken.
pub brought : {log : Log} {w : Waiting} {left : List ℕ} (more : List ℕ) → left ≡ [] → SoFar log w left → SoFar log w more
brought more e r =
    record {
      all = r.all ++ more;
      come = r.come;
      said = r.said;
      split = ap (λ (l : List ℕ). l ++ more) (r.split ∙ ap (λ (l : List ℕ). r.come ++ l) e ∙ append-nil r.come);
      handed = r.handed;
    }

-- A turn: the bytes that it took came, and what it handed over was said.
pub took : {log : Log} {w : Waiting} {piece rest room : List ℕ} {t : Turn} → Turns log w piece t room → rest ≡ drop t.taken piece → SoFar log w piece
    → SoFar t.log t.waiting rest
took {piece = piece} {room = room} {t = t} h e r =
    record {
      all = r.all;
      come = r.come ++ take t.taken piece;
      said = r.said ++ take t.printed.count room;
      split =
          r.split ∙ ap (λ (l : List ℕ). r.come ++ l) (sym (take-append-drop t.taken piece))
          ∙ sym (append_assoc r.come (take t.taken piece) (drop t.taken piece)) ∙ ap (λ (l : List ℕ). (r.come ++ take t.taken piece) ++ l) (sym e);
      handed = h.tells r.come r.said r.handed;
    }

-- The end, where all that was read was taken: what was handed over is the text of the log that was read.
pub whole : {log : Log} {w : Waiting} {left room : List ℕ} {p : Printed} → Ends log w p room → left ≡ [] → (r : SoFar log w left) → r.said ++ take p.count room ≡ log_text r.all
whole h e r = h.ends r.come r.said r.handed ∙ ap log_text (sym (r.split ∙ ap (λ (l : List ℕ). r.come ++ l) e ∙ append-nil r.come))

-- What is left of a piece from `at` to n, behind its first k bytes.
pub left_of : (n at k : ℕ) (l : List ℕ) → k ≤ n - at → take (n - (at + k)) (drop (at + k) l) ≡ drop k (take (n - at) (drop at l))
left_of n at k l h =
    let j = n - (at + k) in
    let same : n - at ≡ k + j = omega arith in
    sym (ap (λ (m : ℕ). drop k (take m (drop at l))) same ∙ drop-take k j (drop at l) ∙ ap (take j) (drop-drop k at l))

-- ---- the loop: what the reader gave, and what the writer holds

-- Nothing is left of a read where all of it was taken.
pub none_left : (space : List ℕ) {n at : ℕ} → at ≡ n → take (n - at) (drop at space) ≡ []
none_left space {n} {at} e =
    let nought : n - at ≡ 0 = omega arith in
    ap (λ (k : ℕ). take k (drop at space)) nought

-- A turn takes no more than was left.
pub took_within : {log : Log} {w : Waiting} {room : List ℕ} {t : Turn} (n at : ℕ) (space : List ℕ) → Turns log w (take (n - at) (drop at space)) t room → t.taken ≤ n - at
took_within n at space h = omega (arith, h.within, length-take (n - at) (drop at space))

-- What came of a read is what is left of it before any of that is taken.
pub came : (given given' : Option (List ℕ)) (space : List ℕ) (n : ℕ) → Consumes given given' (take n space) → Consumes given given' (take (n - 0) space)
came given given' space n h =
    let same : n ≡ n - 0 = omega arith in
    subst (λ (k : ℕ). Consumes given given' (take k space)) same h

pub running_begun : (given held : Option (List ℕ)) {log : Log} {w : Waiting} {left : List ℕ} → log ≡ fresh_log → w ≡ nothing → left ≡ [] → Running given given held held log w left
unfolding begun
running_begun given held a b e = record { so_far = begun a b e; read = Consumes-nil given; printed = Appends-nil held }

module _ {given₀ given held₀ held : Option (List ℕ)} {log : Log} {w : Waiting} {left : List ℕ} (r : Running given₀ given held₀ held log w left) where
  -- Bytes came, or none.
  pub running_read : (given' : Option (List ℕ)) (bytes : List ℕ) → left ≡ [] → Consumes given given' bytes → Running given₀ given' held₀ held log w bytes
  unfolding brought
  running_read given' bytes e h =
      record {
        so_far = brought bytes e r.so_far;
        read = Consumes-trans given₀ given given' r.so_far.all bytes r.read h;
        printed = r.printed;
      }

  -- A turn took some of the bytes, and handed its text over.
  pub running_took : (held' : Option (List ℕ)) {rest room : List ℕ} {t : Turn} → Turns log w left t room → rest ≡ drop t.taken left
      → Appends held held' (take t.printed.count room) → Running given₀ given held₀ held' t.log t.waiting rest
  unfolding took
  running_took held' {rest} {room} {t} h e p =
      record {
        so_far = took h e r.so_far;
        read = r.read;
        printed = Appends-trans held₀ held held' r.so_far.said (take t.printed.count room) r.printed p;
      }

-- At the end, whatever the reader and the writer are, all that was handed over is the text of all that was read.
pub handed_over : {given₀ given held₀ held : Option (List ℕ)} {log : Log} {w : Waiting} {left room : List ℕ} {p : Printed}
    → (r : Running given₀ given held₀ held log w left) → left ≡ [] → Ends log w p room → r.so_far.said ++ take p.count room ≡ log_text r.so_far.all
handed_over r none h = whole h none r.so_far

-- And so, of a reader whose bytes are known and that has no more, the text of its bytes is what the writer holds more.
pub all_handed_over : {given₀ given held₀ held : Option (List ℕ)} (held' : Option (List ℕ)) {log : Log} {w : Waiting} {left : List ℕ} (room : List ℕ) (count : ℕ)
    → (r : Running given₀ given held₀ held log w left) → IsAtEnd given → r.so_far.said ++ take count room ≡ log_text r.so_far.all → Appends held held' (take count room)
    → IfSome given₀ (λ bytes. Appends held₀ held' (log_text bytes))
all_handed_over {given₀} {given} {held₀} {held} held' room count r at_end all q =
    let said = Appends-trans held₀ held held' r.so_far.said (take count room) r.printed q in
    Consumes-whole given₀ given r.so_far.all (λ bytes. Appends held₀ held' (log_text bytes)) r.read at_end (subst (Appends held₀ held') all said)
