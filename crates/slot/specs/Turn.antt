-- What a report's entry does to one question (docs/RULES.md, section 8).
use Rattle.std.specs.Prelude.{ℕ, ◌/◌, Bool, true, false, not, cond, ◌&&◌, List, ltb, ℤ}
use Rattle.values.specs.declared.Values.{Values}
use Rattle.values.specs.Names.{editions}
use Rattle.ranking.specs.Cells.{cell, score, is_scored, points}
use Rattle.ranking.specs.Standing.{Held, Entry, entry, has_place}
use Rattle.question.specs.declared.Question.{Question}
use Rattle.question.specs.Lines.{lines, with_entry, cut_to_k, is_marked}
use Rattle.list.specs.Lines.{all_of}
use Rattle.slot.specs.Asking.{searched_among}

-- What a turn comes to: whether the question was searched, the steps of that, 0 where it wasn't, and what the slot holds then.
pub record Turned : Type 0 where
  pub searched : Bool
  pub steps : ℕ
  pub question : Question

-- The question's list has a place for a report that enters now with this score.
abbrev pub place_on : Question → ℤ → Bool
place_on q s = has_place q.rule q.k q.len (lines q) s

-- Rules 8.1, 16.2 and 17.3: these values count, the question has a mark on their cell, and its list has a place for them.
unfoldable pub takes : Question → Values → Bool
takes q v =
    is_scored (score q.rule v) && is_marked q (cell v) && place_on q (points (score q.rule v))

-- Rule 8.1: the report is put on the list if the question takes it, and the list is cut to k.
unfoldable pub listed : Question → Held → Question
listed q h = cond (takes q h.values) (cut_to_k (with_entry q (entry q.rule h))) q

-- The number of a line's report, which is in its name (rule 17.6).
abbrev pub number_named : Entry → ℕ
number_named e = e.name / editions

-- A line's report came after that number.
abbrev pub later : ℕ → Entry → Bool
later gone e = ltb gone (number_named e)

-- The question lists a report that has gone: one of a number up to that.
unfoldable pub lists : Question → ℕ → Bool
lists q gone = not (all_of (later gone) (lines q))

-- Rules 8.1 and 8.2: one question's turn, in this order: the new report is added; those of a number up to `gone` leave, and a question that lists one of them is searched from the
-- beginning, over the reports that are left, and has the marks of that search.
unfoldable pub turn : Question → Held → ℕ → List Held → Turned
turn q h gone reports =
    let p = listed q h in
    cond (lists p gone)
    (let found = searched_among p reports in
    record { searched = true; steps = found.steps; question = found.question })
    (record { searched = false; steps = 0; question = p })
