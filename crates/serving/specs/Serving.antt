-- What an item for one slot prints, and what the slot holds then.
use Rattle.std.specs.Prelude.{ℕ, cond, ◌≡◌, List, [], get_or, take, eqb}
use Rattle.std.proofs.lemmas.List.Edits.{sets}
use Rattle.ranking.specs.Standing.{Held}
use Rattle.list.specs.Lines.{numbers_in}
use Rattle.question.specs.declared.Question.{Question}
use Rattle.slot.specs.Asking.{set_in, emptied}
use Rattle.text.specs.Text as text
use Rattle.text.specs.Text.{r_line, q_line, s_line, behind}
use Rattle.journal.specs.Log.{rule_in}

-- What showing a slot prints that has that question in it.
unfoldable pub shown_text : (item slot : ℕ) → Question → List ℕ
shown_text item slot q = cond (eqb q.k 0) (r_line item 17) (q_line slot (take q.len (text.entries_of (numbers_in q.names) q.scores)))

-- What setting a question prints: the S line of its search, or the refusal's line.
unfoldable pub seated_text : (item slot refusal steps : ℕ) → List ℕ
seated_text item slot refusal steps = cond (eqb refusal 0) (s_line item slot steps) (r_line item refusal)

-- What an item for one slot prints, and what the slot holds then.
pub record Served : Type 0 where
  pub text : List ℕ
  pub question : Question

-- Rules 11.1, 17.7 and 18.6: a slot is shown (20), emptied (19) or set (17, 22 and 23), over these reports.
unfoldable pub served : (tag item : ℕ) → List ℕ → Question → List Held → Served
served tag item v q reports =
    cond (eqb tag 20) (record { text = shown_text item (get_or v 0 0) q; question = q })
    (cond (eqb tag 19) (record { text = cond (eqb q.k 0) (r_line item 17) []; question = emptied q })
    (let seated = set_in q (get_or v 1 0) (rule_in v) reports in
    record { text = seated_text item (get_or v 0 0) seated.refusal seated.steps; question = seated.question }))

-- Its text is stored from `at` on, and this is what the slot holds then.
pub record Serves (done : Served) (room : List ℕ) (at : ℕ) (q : Question) (next : ℕ) (left : List ℕ) : Type 0 where
  pub holds : q ≡ done.question
  pub place : next ≡ behind at done.text
  pub stored : left ≡ sets room at done.text
