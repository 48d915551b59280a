-- Any two outcomes that a contract allows are equal, since each contract is an equation.
-- Assumes nothing.
use mathlib.Core.Path.{sym, ◌∙◌}
use Rattle.laws.proofs.Outcomes.{OneAnswer}
use Rattle.board.proofs.Board.fresh.Kinds as fresh-kinds
use Rattle.board.proofs.Board.fresh.Reads as fresh-reads
use Rattle.board.proofs.Board.none.Kinds as none-kinds
use Rattle.board.proofs.Board.none.Reads as none-reads
use Rattle.board.proofs.Board.fit.Kinds as fit-kinds
use Rattle.board.proofs.Board.fit.Reads as fit-reads
use Rattle.board.proofs.Board.set.Kinds as set-kinds
use Rattle.board.proofs.Board.set.Reads as set_Reads
use Rattle.board.proofs.Board.remove.Kinds as remove-kinds
use Rattle.board.proofs.Board.remove.Reads as remove-reads
use Rattle.board.proofs.Board.read.Kinds as read-kinds
use Rattle.board.proofs.Board.read.Reads as read-reads
use Rattle.board.proofs.Board.enter.Kinds as enter-kinds
use Rattle.board.proofs.Board.enter.Reads as enter-reads
use Rattle.board.proofs.Board.slots_fit.Kinds as slots-fit-kinds
use Rattle.board.proofs.Board.slots_fit.Reads as slots-fit-reads
use Rattle.board.proofs.Board.set_work.Kinds as set-work-kinds
use Rattle.board.proofs.Board.set_work.Reads as set-work-reads
use Rattle.board.proofs.Board.remove_work.Kinds as remove-work-kinds
use Rattle.board.proofs.Board.remove_work.Reads as remove-work-reads
use Rattle.board.proofs.Board.read_work.Kinds as read-work-kinds
use Rattle.board.proofs.Board.read_work.Reads as read-work-reads
use Rattle.board.proofs.Board.enter_work.Kinds as enter-work-kinds
use Rattle.board.proofs.Board.enter_work.Reads as enter-work-reads
use Rattle.board.proofs.Arrival.of.Kinds as arrival-kinds
use Rattle.board.proofs.Arrival.of.Reads as arrival-reads

fresh_once : OneAnswer 0 fresh-kinds.ps fresh-kinds.r fresh-reads.Post
fresh_once κs a x y s t p q = p ∙ sym q

none_once : OneAnswer 0 none-kinds.ps none-kinds.r none-reads.Post
none_once κs a x y s t p q = p ∙ sym q

fit_once : OneAnswer 0 fit-kinds.ps fit-kinds.r fit-reads.Post
fit_once κs a x y s t p q = p ∙ sym q

set_once : OneAnswer 0 set-kinds.ps set-kinds.r set_Reads.Post
set_once κs a x y s t p q = p ∙ sym q

remove_once : OneAnswer 0 remove-kinds.ps remove-kinds.r remove-reads.Post
remove_once κs a x y s t p q = p ∙ sym q

read_once : OneAnswer 0 read-kinds.ps read-kinds.r read-reads.Post
read_once κs a x y s t p q = p ∙ sym q

enter_once : OneAnswer 0 enter-kinds.ps enter-kinds.r enter-reads.Post
enter_once κs a x y s t p q = p ∙ sym q

slots_fit_once : OneAnswer 0 slots-fit-kinds.ps slots-fit-kinds.r slots-fit-reads.Post
slots_fit_once κs a x y s t p q = p ∙ sym q

set_work_once : OneAnswer 0 set-work-kinds.ps set-work-kinds.r set-work-reads.Post
set_work_once κs a x y s t p q = p ∙ sym q

remove_work_once : OneAnswer 0 remove-work-kinds.ps remove-work-kinds.r remove-work-reads.Post
remove_work_once κs a x y s t p q = p ∙ sym q

read_work_once : OneAnswer 0 read-work-kinds.ps read-work-kinds.r read-work-reads.Post
read_work_once κs a x y s t p q = p ∙ sym q

enter_work_once : OneAnswer 0 enter-work-kinds.ps enter-work-kinds.r enter-work-reads.Post
enter_work_once κs a x y s t p q = p ∙ sym q

arrival_once : OneAnswer 0 arrival-kinds.ps arrival-kinds.r arrival-reads.Post
arrival_once κs a x y s t p q = p ∙ sym q
