-- Any two outcomes that a contract allows are equal, since each contract is an equation.
-- Assumes nothing.
use mathlib.Core.Path.{sym, ◌∙◌}
use Rattle.laws.proofs.Outcomes.{OneAnswer}
use Rattle.list.proofs.Lines.none.Kinds as none-kinds
use Rattle.list.proofs.Lines.none.Reads as none_reads
use Rattle.list.proofs.Lines.line_count.Kinds as line-count-kinds
use Rattle.list.proofs.Lines.line_count.Reads as line-count-reads
use Rattle.list.proofs.Lines.first_lines.Kinds as first-lines-kinds
use Rattle.list.proofs.Lines.first_lines.Reads as first-lines-reads
use Rattle.list.proofs.Lines.placed.Kinds as placed-kinds
use Rattle.list.proofs.Lines.placed.Reads as placed-reads
use Rattle.list.proofs.Lines.best.Kinds as best-kinds
use Rattle.list.proofs.Lines.best.Reads as best-reads
use Rattle.list.proofs.Lines.falls.Kinds as falls-kinds
use Rattle.list.proofs.Lines.falls.Reads as falls-reads
use Rattle.list.proofs.Lines.rest_blank.Kinds as rest-blank-kinds
use Rattle.list.proofs.Lines.rest_blank.Reads as rest-blank-reads
use Rattle.list.proofs.Lines.bar.Kinds as bar-kinds
use Rattle.list.proofs.Lines.bar.Reads as bar-reads
use Rattle.list.proofs.gathered.Kinds as gathered-kinds
use Rattle.list.proofs.gathered.Reads as gathered-reads
use Rattle.list.proofs.numbers_in.Kinds as numbers-in-kinds
use Rattle.list.proofs.numbers_in.Reads as numbers-in-reads
use Rattle.list.proofs.editions_in.Kinds as editions-in-kinds
use Rattle.list.proofs.editions_in.Reads as editions-in-reads

none_once : OneAnswer 0 none-kinds.ps none-kinds.r none_reads.Post
none_once κs a x y s t p q = p ∙ sym q

line_count_once : OneAnswer 0 line-count-kinds.ps line-count-kinds.r line-count-reads.Post
line_count_once κs a x y s t p q = p ∙ sym q

first_lines_once : OneAnswer 0 first-lines-kinds.ps first-lines-kinds.r first-lines-reads.Post
first_lines_once κs a x y s t p q = p ∙ sym q

placed_once : OneAnswer 0 placed-kinds.ps placed-kinds.r placed-reads.Post
placed_once κs a x y s t p q = p ∙ sym q

best_once : OneAnswer 0 best-kinds.ps best-kinds.r best-reads.Post
best_once κs a x y s t p q = p ∙ sym q

falls_once : OneAnswer 0 falls-kinds.ps falls-kinds.r falls-reads.Post
falls_once κs a x y s t p q = p ∙ sym q

rest_blank_once : OneAnswer 0 rest-blank-kinds.ps rest-blank-kinds.r rest-blank-reads.Post
rest_blank_once κs a x y s t p q = p ∙ sym q

bar_once : OneAnswer 0 bar-kinds.ps bar-kinds.r bar-reads.Post
bar_once κs a x y s t p q = p ∙ sym q

gathered_once : OneAnswer 1 gathered-kinds.ps gathered-kinds.r gathered-reads.Post
gathered_once κs a x y s t p q = p ∙ sym q

numbers_in_once : OneAnswer 0 numbers-in-kinds.ps numbers-in-kinds.r numbers-in-reads.Post
numbers_in_once κs a x y s t p q = p ∙ sym q

editions_in_once : OneAnswer 0 editions-in-kinds.ps editions-in-kinds.r editions-in-reads.Post
editions_in_once κs a x y s t p q = p ∙ sym q
