-- The loop over the slots: after i turns the first i places of each answer hold what the turns of the first i questions leave.
-- Assumes nothing.
use mathlib.Core.Path.{◌≡◌, refl, sym, ap, ap₂, ◌∙◌}
use mathlib.Core.Bool.{true, cond}
use mathlib.Core.List.{List, [], ◌∷◌, map}
use Rattle.std.specs.Prelude.{Option, Ok}
use Prim.Native.Nat.{ℕ, ◌+◌, ◌≤◌, ◌<◌}
use native.Mathlib.Omega.{arith}
use borrow.Author.Tests.{le-leb}
use lib.Dec.{leb}
use lib.ListN.{length, get_or, set}
use Rattle.laws.proofs.Tests.{if_so}
use Rattle.values.specs.declared.Values.{Values}
use Rattle.values.specs.declared.Edition.{Edition}
use Rattle.values.specs.Range.{in_range, low}
use Rattle.values.specs.Names.{named}
use Rattle.values.proofs.Facts.{range_facts, low_same, low_edition_same}
use Rattle.values.proofs.Names.{name-number, name_edition}
use Rattle.ranking.specs.Standing.{Held}
use Rattle.window.specs.declared.Window.{Window}
use Rattle.window.specs.declared.Row.{Row}
use Rattle.window.specs.Rows.{values_at, report_at, added, standing}
use Rattle.question.specs.declared.Question.{Question}
use Rattle.list.specs.Rows.{rows_in}
use Rattle.question.specs.Lines.{in_rows}
use Rattle.slot.specs.declared.Turned as code
use Rattle.slot.specs.Turn.{Turned}
use Rattle.slot.specs.Answers.{turned_answer}
use Rattle.slot.specs.Turn.{turn}
use Rattle.slot.specs.Gauges.{no_question}
use Rattle.slot.proofs.Filling.{Filled, filled_none, filled_more, filled_all}
use Rattle.slot.proofs.Turns.{rows_alone}
use Rattle.board.specs.Work.{outgoing, enter_refusal, enter_work}
use Rattle.board.specs.declared.Board.{Board}
use Rattle.board.specs.Answers.{searches, entered_answer}
use Rattle.board.proofs.Refusals.{zero_is, enterable}

module _ (h : Held) (old : List Question) (gone : ℕ) (reports : List Held) where
  abbrev pub one : Question → Turned
  one q = turn q h gone reports

  -- What is answered of a question: the steps of its search, if it was searched.
  abbrev pub steps_of : Question → Option ℕ
  steps_of q = (turned_answer (one q)).steps

  -- After i turns.
  pub record Turns (i : ℕ) (slots : List Question) (steps : List (Option ℕ)) : Type 0 where
    pub slots_are : Filled (λ q. (one q).question) old i slots
    pub steps_are : Filled steps_of old i steps

  pub turns-none : (slots : List Question) (steps : List (Option ℕ)) → length slots ≡ length old → length steps ≡ length old → Turns 0 slots steps
  turns-none slots steps a b = record { slots_are = filled_none (λ q. (one q).question) old slots a; steps_are = filled_none steps_of old steps b }

  pub turns_more : {i : ℕ} {slots : List Question} {steps : List (Option ℕ)} → i < length old → Turns i slots steps → (t : code.Turned) → t ≡ turned_answer (one (get_or old i no_question))
      → Turns (i + 1) (set slots i t.question) (set steps i t.steps)
  turns_more {i} {slots} {steps} below u t e =
      record {
        slots_are = filled_more (λ q. (one q).question) old i slots no_question t.question below u.slots_are (ap (λ (r : code.Turned). r.question) e);
        steps_are = filled_more steps_of old i steps no_question t.steps below u.steps_are (ap (λ (r : code.Turned). r.steps) e);
      }

  -- One after the other they are what is answered of all.
  pub searches_are : (l : List Question) → map steps_of l ≡ searches (map (λ q. (one q).searched) l) (map (λ q. (one q).steps) l)
  searches_are [] = refl
  searches_are (q ∷ l) = ap (λ m. steps_of q ∷ m) (searches_are l)

-- The row of the report of that number and those values.
abbrev pub as_row : ℕ → Values → Row
as_row number v = record { loss = v.loss; shake = v.shake; name = named number v.edition }

-- It has the report, where its values are in their range.
pub row_report : (number : ℕ) (v : Values) → in_range v ≡ true → report_at (as_row number v) ≡ record { number = number; values = v }
row_report number v may =
    let same : values_at (as_row number v) ≡ v =
    ap (λ e. record { loss = v.loss; shake = v.shake; edition = e })
    (name_edition number v.edition ∙ low_edition_same v.edition (range_facts v may).heat_fits) in
    ap₂ (λ n u. record { number = n; values = u }) (name-number number v.edition) (ap low same ∙ low_same v may)

-- The next number has a name in every edition.
pub new_name : (entered : ℕ) (e : Edition) → entered < 1000000 → cond (leb (entered + 1) 1048319) (named (entered + 1) e) 0 ≡ named (entered + 1) e
new_name entered e room = if_so _ _ (le-leb (entered + 1) 1048319 (omega arith))

-- When all turns are taken, the answer is there.
pub turns-all : (b : Board) (v : Values) {row : Row} {leaves i : ℕ} {window : Window} {slots : List Question} {steps : List (Option ℕ)} → enter_refusal b.window.counts v ≡ 0
    → row ≡ as_row (b.window.counts.entered + 1) v → leaves ≡ outgoing b.window → window ≡ added b.window v → length b.slots ≤ i
    → Turns (report_at row) b.slots leaves (standing (rows_in window.rows) 1024) i slots steps
    → Ok (record { number = b.window.counts.entered + 1; steps = steps; board = record { window = window; slots = slots } }) ≡ entered_answer (enter_work b v)
unfolding enter_work in_rows
turns-all b v {row} {leaves} {i} {window} {slots} {steps} taken r o w h t =
    let number = b.window.counts.entered + 1 in
    let new = ap report_at r ∙ row_report number v (enterable b.window.counts v taken).permitted in
    let rows = rows_alone window 1024 ∙ ap (λ u. standing u 1024) w in
    let slots-all = filled_all _ _ i slots h t.slots_are ∙ (λ j. map (λ q. (turn q (new j) (o j) (rows j)).question) b.slots) in
    let steps-all = filled_all _ _ i steps h t.steps_are ∙ (λ j. map (steps_of (new j) b.slots (o j) (rows j)) b.slots) ∙ searches_are _ b.slots _ _ b.slots in
    (λ j. Ok (record { number = number; steps = steps-all j; board = record { window = w j; slots = slots-all j } }))
    ∙ ap entered_answer (sym (zero_is _ _ taken))
