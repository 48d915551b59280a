-- Any two outcomes that a contract allows are equal, since each contract is an equation.
-- Assumes nothing.
use mathlib.Core.Path.{sym, ◌∙◌}
use Rattle.laws.proofs.Outcomes.{OneAnswer}
use Rattle.question.proofs.Question.fresh.Kinds as fresh-kinds
use Rattle.question.proofs.Question.fresh.Reads as fresh-reads
use Rattle.question.proofs.Question.with_entry.Kinds as with-entry-kinds
use Rattle.question.proofs.Question.with_entry.Reads as with-entry-reads
use Rattle.question.proofs.Question.cut_to_k.Kinds as cut-to-k-kinds
use Rattle.question.proofs.Question.cut_to_k.Reads as cut-to-k-reads
use Rattle.question.proofs.Question.finished.Kinds as finished-kinds
use Rattle.question.proofs.Question.finished.Reads as finished-reads
use Rattle.question.proofs.Question.stepped.Kinds as stepped-kinds
use Rattle.question.proofs.Question.stepped.Reads as stepped-reads
use Rattle.question.proofs.Question.cut_with.Kinds as cut-with-kinds
use Rattle.question.proofs.Question.cut_with.Reads as cut-with-reads
use Rattle.question.proofs.Question.rest_blank.Kinds as rest-blank-kinds
use Rattle.question.proofs.Question.rest_blank.Reads as rest-blank-reads
use Rattle.question.proofs.Question.searched.Kinds as searched-kinds
use Rattle.question.proofs.Question.searched.Reads as searched-reads
use Rattle.question.proofs.Question.searched_in.Kinds as searched-in-kinds
use Rattle.question.proofs.Question.searched_in.Reads as searched-in-reads
use Rattle.question.proofs.Question.steps.Kinds as steps-kinds
use Rattle.question.proofs.Question.steps.Reads as steps-reads
use Rattle.question.proofs.Question.is_past.Kinds as is-past-kinds
use Rattle.question.proofs.Question.is_past.Reads as is-past-reads
use Rattle.question.proofs.Question.is_marked.Kinds as is-marked-kinds
use Rattle.question.proofs.Question.is_marked.Reads as is-marked-reads
use Rattle.question.proofs.Question.marks.Kinds as marks-kinds
use Rattle.question.proofs.Question.marks.Reads as marks-reads
use Rattle.question.proofs.Question.fit.Kinds as fit-kinds
use Rattle.question.proofs.Question.fit.Reads as fit-reads
use Rattle.question.proofs.Question.step.Kinds as step-kinds
use Rattle.question.proofs.Question.step.Reads as step-reads
use Rattle.question.proofs.Question.begin.Kinds as begin-kinds
use Rattle.question.proofs.Question.begin.Reads as begin-reads
use Rattle.question.proofs.holds_number.Kinds as holds-number-kinds
use Rattle.question.proofs.holds_number.Reads as holds-number-reads

fresh_once : OneAnswer 0 fresh-kinds.ps fresh-kinds.r fresh-reads.Post
fresh_once κs a x y s t p q = p ∙ sym q

with_entry_once : OneAnswer 0 with-entry-kinds.ps with-entry-kinds.r with-entry-reads.Post
with_entry_once κs a x y s t p q = p ∙ sym q

cut_to_k_once : OneAnswer 0 cut-to-k-kinds.ps cut-to-k-kinds.r cut-to-k-reads.Post
cut_to_k_once κs a x y s t p q = p ∙ sym q

finished_once : OneAnswer 0 finished-kinds.ps finished-kinds.r finished-reads.Post
finished_once κs a x y s t p q = p ∙ sym q

stepped_once : OneAnswer 0 stepped-kinds.ps stepped-kinds.r stepped-reads.Post
stepped_once κs a x y s t p q = p ∙ sym q

cut_with_once : OneAnswer 0 cut-with-kinds.ps cut-with-kinds.r cut-with-reads.Post
cut_with_once κs a x y s t p q = p ∙ sym q

rest_blank_once : OneAnswer 0 rest-blank-kinds.ps rest-blank-kinds.r rest-blank-reads.Post
rest_blank_once κs a x y s t p q = p ∙ sym q

searched_once : OneAnswer 0 searched-kinds.ps searched-kinds.r searched-reads.Post
searched_once κs a x y s t p q = p ∙ sym q

searched_in_once : OneAnswer 1 searched-in-kinds.ps searched-in-kinds.r searched-in-reads.Post
searched_in_once κs a x y s t p q = p ∙ sym q

steps_once : OneAnswer 0 steps-kinds.ps steps-kinds.r steps-reads.Post
steps_once κs a x y s t p q = p ∙ sym q

is_marked_once : OneAnswer 0 is-marked-kinds.ps is-marked-kinds.r is-marked-reads.Post
is_marked_once κs a x y s t p q = p ∙ sym q

is_past_once : OneAnswer 0 is-past-kinds.ps is-past-kinds.r is-past-reads.Post
is_past_once κs a x y s t p q = p ∙ sym q

marks_once : OneAnswer 0 marks-kinds.ps marks-kinds.r marks-reads.Post
marks_once κs a x y s t p q = p ∙ sym q

fit_once : OneAnswer 0 fit-kinds.ps fit-kinds.r fit-reads.Post
fit_once κs a x y s t p q = p ∙ sym q

step_once : OneAnswer 0 step-kinds.ps step-kinds.r step-reads.Post
step_once κs a x y s t p q = p ∙ sym q

begin_once : OneAnswer 0 begin-kinds.ps begin-kinds.r begin-reads.Post
begin_once κs a x y s t p q = p ∙ sym q

holds_number_once : OneAnswer 0 holds-number-kinds.ps holds-number-kinds.r holds-number-reads.Post
holds_number_once κs a x y s t p q = p ∙ sym q
