-- Any two outcomes that a contract allows are equal, since each contract is an equation.
-- Assumes nothing.
use mathlib.Core.Path.{sym, ◌∙◌}
use Rattle.laws.proofs.Outcomes.{OneAnswer}
use Rattle.ledger.proofs.Ledger.fresh.Kinds as fresh-kinds
use Rattle.ledger.proofs.Ledger.fresh.Reads as fresh-reads
use Rattle.ledger.proofs.Ledger.fit.Kinds as fit-kinds
use Rattle.ledger.proofs.Ledger.fit.Reads as fit-reads
use Rattle.ledger.proofs.Ledger.set.Kinds as set-kinds
use Rattle.ledger.proofs.Ledger.set.Reads as set_Reads
use Rattle.ledger.proofs.Ledger.remove.Kinds as remove-kinds
use Rattle.ledger.proofs.Ledger.remove.Reads as remove-reads
use Rattle.ledger.proofs.Ledger.read.Kinds as read-kinds
use Rattle.ledger.proofs.Ledger.read.Reads as read-reads
use Rattle.ledger.proofs.Ledger.enter.Kinds as enter-kinds
use Rattle.ledger.proofs.Ledger.enter.Reads as enter-reads
use Rattle.ledger.proofs.Ledger.tally.Kinds as tally-kinds
use Rattle.ledger.proofs.Ledger.tally.Reads as tally-reads
use Rattle.ledger.proofs.Ledger.report.Kinds as report-kinds
use Rattle.ledger.proofs.Ledger.report.Reads as report-reads

fresh_once : OneAnswer 0 fresh-kinds.ps fresh-kinds.r fresh-reads.Post
fresh_once κs a x y s t p q = p ∙ sym q

fit_once : OneAnswer 0 fit-kinds.ps fit-kinds.r fit-reads.Post
fit_once κs a x y s t p q = p ∙ sym q

set_once : OneAnswer 0 set-kinds.ps set-kinds.r set_Reads.Post
set_once κs a x y s t p q = p ∙ sym q

remove_once : OneAnswer 0 remove-kinds.ps remove-kinds.r remove-reads.Post
remove_once κs a x y s t p q = p ∙ sym q

read_once : OneAnswer 0 read-kinds.ps read-kinds.r read-reads.Post
read_once κs a x y s t p q = p ∙ sym q

enter_once : OneAnswer 0 enter-kinds.ps enter-kinds.r enter-reads.Post
enter_once κs a x y s t p q = p ∙ sym q

tally_once : OneAnswer 0 tally-kinds.ps tally-kinds.r tally-reads.Post
tally_once κs a x y s t p q = p ∙ sym q

report_once : OneAnswer 0 report-kinds.ps report-kinds.r report-reads.Post
report_once κs a x y s t p q = p ∙ sym q
