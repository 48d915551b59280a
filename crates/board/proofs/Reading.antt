-- What reading hands out on a reached board: the best k of the held reports, each by its number, its score and its edition (docs/RULES.md, rule 17.6).
-- Assumes nothing.
use mathlib.Core.Path.{◌≡◌, refl, sym, ap, ◌∙◌, subst}
use mathlib.Core.Bool.{true}
use mathlib.Core.List.{List, [], ◌∷◌, ◌++◌, map, map-id}
use Prim.Native.Nat.{ℕ, zero, suc, ◌/◌, ◌%◌, ◌≤◌, ◌<◌}
use native.Mathlib.Nat.{le_of_suc-le-suc, not-suc-le-zero}
use native.Mathlib.Omega.{arith}
use lib.IntN.{pos}
use lib.ListN.{length, take, replicate}
use Rattle.laws.specs.Lists.{◌∈◌}
use Rattle.laws.proofs.Tests.{clash, and_both}
use Rattle.laws.proofs.Lists.{get_d_in}
use Rattle.values.specs.declared.Values.{Values}
use Rattle.values.specs.Range.{low_edition}
use Rattle.values.specs.Names.{edition_of}
use Rattle.values.proofs.Names.{name-number, name_edition}
use Rattle.values.proofs.Facts.{range_facts, low_edition_same}
use Rattle.search.proofs.Best.{length_best_le}
use Rattle.ranking.specs.declared.Rule.{Rule}
use Rattle.ranking.specs.Standing.{Held, Entry, above, entry, entries, top}
use Rattle.ranking.proofs.Entries.{above_strict, top_of}
use Rattle.window.specs.Rows.{held_reports, fit_window}
use Rattle.window.proofs.Standing.{held_permitted}
use Rattle.list.specs.Lines.{all_of}
use Rattle.list.proofs.Blank.{all_in}
use Rattle.question.specs.declared.Question.{Question}
use Rattle.question.specs.Lines.{asked, finished}
use Rattle.slot.specs.Asking.{Shown}
use Rattle.slot.specs.Asking.{read_in}
use Rattle.slot.specs.Fitness.{slot_fit}
use Rattle.slot.specs.Gauges.{no_question}
use Rattle.slot.proofs.Standing.{Stands, Slot, stands, searches, searches_on, empty-waits, not_searching}
use Rattle.slot.proofs.Standing as state
use Rattle.board.specs.Work.{slot_at}
use Rattle.board.specs.Calls.{fit_board, read_call}
use Rattle.board.specs.Reached.{Reached}
use Rattle.board.specs.declared.Board.{Board}
use Rattle.board.proofs.Refusals.{zero_not}
use Rattle.board.proofs.Seats.{read_there}
use Rattle.board.proofs.Known.{read_known}
use Rattle.board.proofs.Kept.{kept, slot_of}
use Rattle.board.proofs.Demands.{reached_window}

-- The answer has these lines and no other, best first.
pub record Shows (l : List Entry) (r : Shown) : Type 0 where
  pub answered : r.refusal ≡ 0
  pub as_many : r.len ≡ length l
  pub numbers_are : take r.len r.numbers ≡ map (λ e. e.name / 4097) l
  pub scores_are : take r.len r.scores ≡ map (λ e. e.score) l
  pub editions_are : take r.len r.editions ≡ map (λ e. e.name % 4097) l

-- ---- a stored list

-- What is read of a column at the places of the lines.
column : {A B : Type 0} (f : Entry → A) (g : A → B) (d : A) (n p : ℕ) (l : List Entry) → length l ≤ n → take (length l) (map g (take n (map f l ++ replicate p d))) ≡ map (λ e. g (f e)) l
column f g d n p [] h = refl
column f g d zero p (x ∷ l) h = absurd (not-suc-le-zero h)
column f g d (suc n) p (x ∷ l) h = ap (λ m. g (f x) ∷ m) (column f g d n p l (le_of_suc-le-suc h))

asked_shows : (k : ℕ) (rule : Rule) (l : List Entry) (next : ℕ) → 1 ≤ k → length l ≤ 16 → Shows l (read_in (asked k rule l next))
unfolding read_in
asked_shows k rule l next some few =
    subst (Shows l) (sym (zero_not _ _ used))
    (record {
      answered = refl;
      as_many = refl;
      numbers_are = column (λ e. e.name) (λ m. m / 4097) 0 16 16 l few;
      scores_are = ap (take (length l)) (sym (map-id _)) ∙ column (λ e. e.score) (λ s. s) (pos 0) 16 16 l few;
      editions_are = column (λ e. e.name) (λ m. m % 4097) 0 16 16 l few;
    })
  where
    used : k ≡ 0 → ⊥
    used z = omega arith

stands_shows : (hs : List Held) (q : Question) → Stands hs q → Shows (top q.rule q.k hs) (read_in q)
stands_shows hs q s =
    subst (λ p. Shows (top p.rule p.k hs) (read_in p)) (sym s.is)
    (asked_shows s.k s.rule (top s.rule s.k hs) s.next s.asks.positive
    (omega (arith, s.asks.small, length_best_le (above s.rule) (above_strict s.rule) s.k (entries s.rule hs))))

-- ---- what reading shows

module _ {n : ℕ} {past : List Values} {b : Board} (reached : Reached n past b) (slot : ℕ) (there_is : slot < 32) where
  abbrev q : Question
  q = slot_at b slot

  abbrev best-lines : List Entry
  best-lines = top q.rule q.k (held_reports b.window)

  -- In a slot whose question's search has ended.
  pub read_shows : finished (slot_at b slot) ≡ true → Shows (top (slot_at b slot).rule (slot_at b slot).k (held_reports b.window)) (read_in (slot_at b slot))
  read_shows f = go (slot_of b (kept reached) slot there_is)
    where
      go : Slot b.window q → Shows best-lines (read_in q)
      go (state.empty e) = clash f (ap finished e ∙ empty-waits)
      go (stands s) = stands_shows (held_reports b.window) q s
      go (searches s) = clash f (searches_on b.window (reached_window reached) q s)

  -- On a fit board, in a slot with a question: no search is in its middle, and the reading is not refused.
  pub read_call_shows : fit_board b ≡ true → ((slot_at b slot).k ≡ 0 → ⊥) → Shows (top (slot_at b slot).rule (slot_at b slot).k (held_reports b.window)) (read_call b slot)
  unfolding fit_board
  read_call_shows fit used = subst (Shows best-lines) (sym (read_known b fit slot ∙ read_there b slot there_is)) (go (slot_of b (kept reached) slot there_is))
    where
      fits : slot_fit b.window q ≡ true
      fits =
          all_in (slot_fit b.window) b.slots (and_both (fit_window b.window) (all_of (slot_fit b.window) b.slots) fit).1 q
          (get_d_in no_question b.slots slot (omega (arith, (kept reached).many)))

      go : Slot b.window q → Shows best-lines (read_in q)
      go (state.empty e) = absurd (used (ap (λ p. p.k) e))
      go (stands s) = stands_shows (held_reports b.window) q s
      go (searches s) = absurd (not_searching b.window (reached_window reached) q fits s)

-- ---- whose lines they are

-- The name that a report stands by on a list has its number and its edition.
module _ (rule : Rule) (h : Held) where
  pub entry-number : (entry rule h).name / 4097 ≡ h.number
  entry-number = name-number h.number h.values.edition

  pub entry_edition : edition_of ((entry rule h).name % 4097) ≡ low_edition h.values.edition
  entry_edition = name_edition h.number h.values.edition

-- A line is that of a held report: its number, its score and the edition it was entered with.
pub record LineOf (rule : Rule) (hs : List Held) (e : Entry) : Type 0 where
  pub report : Held
  pub held : report ∈ hs
  pub stands_so : entry rule report ≡ e
  pub number : e.name / 4097 ≡ report.number
  pub edition : edition_of (e.name % 4097) ≡ report.values.edition

pub line_of : {n : ℕ} {past : List Values} {b : Board} → Reached n past b → (rule : Rule) (k : ℕ) {e : Entry} → e ∈ top rule k (held_reports b.window) → LineOf rule (held_reports b.window) e
line_of {b = b} reached rule k m =
    let r = top_of rule k (held_reports b.window) m in
    let h : Held = r.0 in
    let heat = (range_facts h.values (held_permitted b.window (reached_window reached) h r.1)).heat_fits in
    record {
      report = h;
      held = r.1;
      stands_so = r.2;
      number = subst (λ (x : Entry). x.name / 4097 ≡ h.number) r.2 (entry-number rule h);
      edition = subst (λ (x : Entry). edition_of (x.name % 4097) ≡ h.values.edition) r.2 (entry_edition rule h ∙ low_edition_same h.values.edition heat);
    }
