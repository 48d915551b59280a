-- What setting, removing and reading do to one slot, whatever it holds (docs/RULES.md, sections 6 and 9).
use Rattle.std.specs.Prelude.{ℕ, cond, ◌&&◌, List, [], replicate, leb, eqb, ℤ, pos}
use Rattle.ranking.specs.declared.Rule.{Rule}
use Rattle.ranking.specs.Cells.{weights_fit, ranges_proper, ties_known}
use Rattle.ranking.specs.Standing.{Held}
use Rattle.list.specs.Lines.{most_lines, numbers_in, editions_in}
use Rattle.question.specs.declared.Question.{Question}
use Rattle.question.specs.declared.Searched.{Searched}
use Rattle.question.specs.Lines.{asked, empty_slot, searched_in}

-- What setting comes to in numbers: the refusal's, or 0, the steps of the search, and what the slot holds then.
pub record Seated : Type 0 where
  pub refusal : ℕ
  pub steps : ℕ
  pub question : Question

-- What reading comes to in numbers: the refusal's, or 0, and the list, 0 past its lines.
pub record Shown : Type 0 where
  pub refusal : ℕ
  pub len : ℕ
  pub numbers : List ℕ
  pub scores : List ℤ
  pub editions : List ℕ

-- A search of these reports from its beginning to its end, and its steps; none, where k is over 16.
abbrev pub searched_among : Question → List Held → Searched
searched_among q reports = cond (leb q.k most_lines) (searched_in q reports) (record { steps = 0; question = q })

-- Refusals 14, 15, 30, 33 and 16, in their order, of a slot that holds a question with that k, or 0.
abbrev pub ask_refusal : (held k : ℕ) → Rule → ℕ
ask_refusal held k rule =
    cond (leb 1 k && leb k most_lines) (cond (weights_fit rule) (cond (ranges_proper rule) (cond (ties_known rule) (cond (eqb held 0) 0 16) 33) 30) 15) 14

-- Rule 6.5: a question that is set is searched to the end, and the steps are answered.
unfoldable pub set_in : Question → ℕ → Rule → List Held → Seated
set_in q k rule reports =
    cond (eqb (ask_refusal q.k k rule) 0)
    (let found = searched_among (asked k rule [] 0) reports in
    record { refusal = 0; steps = found.steps; question = found.question })
    (record { refusal = ask_refusal q.k k rule; steps = 0; question = q })

-- Refusal 17, of a slot that holds a question with that k, or 0.
abbrev pub empty_refusal : ℕ → ℕ
empty_refusal held = cond (eqb held 0) 17 0

-- Rule 6.6: a removed slot is a fresh one; one that is empty stays.
unfoldable pub emptied : Question → Question
emptied q = cond (eqb q.k 0) q empty_slot

-- Rule 9.1: the refusal's number, and 0 for all else.
abbrev pub not_shown : ℕ → Shown
not_shown refusal = record { refusal = refusal; len = 0; numbers = replicate most_lines 0; scores = replicate most_lines (pos 0); editions = replicate most_lines 0 }

-- Rule 17.6: the list, each report by its number and its edition.
unfoldable pub read_in : Question → Shown
read_in q =
    cond (eqb q.k 0) (not_shown 17)
    (record { refusal = 0; len = q.len; numbers = numbers_in q.names; scores = q.scores; editions = editions_in q.names })
