-- Which questions are fit, and what a step and a beginning answer (docs/RULES.md, section 9).
use Rattle.std.specs.Prelude.{ℕ, ◌+◌, ◌/◌, min, Bool, cond, ◌&&◌, ◌||◌, drop, leb, ltb, eqb, Result, Ok, Err}
use Rattle.laws.specs.Whole.{equal}
use Rattle.values.specs.Names.{editions}
use Rattle.ranking.specs.declared.Rule.{Rule}
use Rattle.ranking.specs.Cells.{cell_count, fit_rule, in_order}
use Rattle.ranking.specs.Standing.{Held, Entry, above, is_counted, entry}
use Rattle.window.specs.declared.Counts.{Counts}
use Rattle.window.specs.declared.Window.{Window}
use Rattle.window.specs.Rows.{sized, row_of, report_in, held_reports, fit_window}
pub use Rattle.list.specs.Lines.{all_of}
use Rattle.list.specs.Lines.{most_lines, lines_of, falls, blank}
use Rattle.question.specs.Lines.{lines, finished, begun, stepped}
use Rattle.question.specs.declared.Question.{Question}
use Rattle.refusal.specs.declared.Refusal.{Refusal}
use Rattle.refusal.specs.declared.Refusal.TheVariants.{Unfit, SearchFinished}

-- A window of these counts holds the report of number m: numbers start at 1 (rule 5.2), and the held ones are the latest.
unfoldable pub holds_number : Counts → ℕ → Bool
holds_number c m = sized c.size && leb 1 m && leb m c.entered && ltb c.entered (m + c.held)

-- Rules 9.5, 16.6 and 17.6: a line is that of a report that counts, of its edition.
abbrev pub is_line_of : Rule → Entry → Held → Bool
is_line_of rule e h = is_counted rule h && eqb e.name (entry rule h).name && equal e.score (entry rule h).score

-- A line names a report that is held and counts, with its edition and its score, as its row has it.
unfoldable pub held_as : Window → Rule → Entry → Bool
held_as w rule e =
    holds_number w.counts (e.name / editions) && is_line_of rule e (report_in w (row_of w.counts.size (e.name / editions)))

-- Rules 9.5 and 16.6: the cell that is next is in the visiting order, or none is.
unfoldable pub next_fits : Rule → ℕ → Bool
next_fits rule next = eqb next cell_count || in_order rule next

-- Rule 9.5: every number is in its range, and the list has at most k lines, and no more than reports are held.
unfoldable pub ranges_fit : Question → ℕ → Bool
ranges_fit q held =
    leb 1 q.k && leb q.k most_lines && fit_rule q.rule && next_fits q.rule q.next && leb q.len (min q.k held)

-- Rules 9.5, 9.6 and 17.6: each line names a held report that counts, with its edition and its score, the lines fall in rank, and places past the list's end are 0.
unfoldable pub fit_question : Window → Question → Bool
fit_question w q =
    ranges_fit q w.counts.held
    && all_of (held_as w q.rule) (lines q)
    && falls (above q.rule) (lines q)
    && all_of blank (drop q.len (lines_of q.names q.scores))

-- What a step or a beginning comes to: the refusal's number, or 0, and the question as it leaves it.
pub record Stepped : Type 0 where
  pub refusal : ℕ
  pub question : Question

-- As it is answered: the question, or the refusal of that number, which leaves the one handed in.
abbrev pub answered : Stepped → Result Question Refusal
answered s = cond (eqb s.refusal 0) (Ok s.question) (Err (cond (eqb s.refusal 25) SearchFinished Unfit))

-- Rules 7.7 and 9.4: a step, refused 24, then 25; a refusal hands the question back.
unfoldable pub step_call : Window → Question → Stepped
step_call w q =
    cond (fit_window w && fit_question w q)
    (cond (finished q) (record { refusal = 25; question = q }) (record { refusal = 0; question = stepped q (held_reports w) }))
    (record { refusal = 24; question = q })

-- Rules 7.8 and 9.4: a beginning, refused 24; by rule 7.9 also where the search hasn't ended.
unfoldable pub begin_call : Window → Question → Stepped
begin_call w q =
    cond (fit_window w && fit_question w q && finished q)
    (record { refusal = 0; question = begun q })
    (record { refusal = 24; question = q })
