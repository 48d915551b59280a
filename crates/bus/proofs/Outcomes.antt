-- Any two outcomes that a contract allows are equal, since each contract is an equation: the answer, and every byte that was lent.
-- Assumes nothing.
use mathlib.Core.Path.{sym, ◌∙◌}
use mathlib.Core.List.{List}
use Prim.Native.Nat.{ℕ}
use Rattle.laws.proofs.Outcomes.{OneAnswer, OneLeft}
use Rattle.bus.proofs.Bus.fresh.Kinds as fresh-kinds
use Rattle.bus.proofs.Bus.fresh.Reads as fresh-reads
use Rattle.bus.proofs.Bus.take.Kinds as take-kinds
use Rattle.bus.proofs.Bus.take.Reads as take-reads
use Rattle.bus.proofs.Bus.fit.Kinds as fit-kinds
use Rattle.bus.proofs.Bus.fit.Reads as fit-reads
use Rattle.bus.proofs.Bus.close.Kinds as close-kinds
use Rattle.bus.proofs.Bus.close.Reads as close-reads
use Rattle.bus.proofs.Bus.fill.Kinds as fill-kinds
use Rattle.bus.proofs.Bus.fill.Reads as fill-reads
use Rattle.bus.proofs.Bus.read.Kinds as read-kinds
use Rattle.bus.proofs.Bus.read.Reads as read-reads

fresh_once : OneAnswer 0 fresh-kinds.ps fresh-kinds.r fresh-reads.Post
fresh_once κs a x y s t p q = λ i. record { sessions = (p ∙ sym q) i }

take_once : OneAnswer 2 take-kinds.ps take-kinds.r take-reads.Post
take_once κs a x y s t p q = p.0 ∙ sym q.0

take_leaves_once : OneLeft 2 take-kinds.ps take-kinds.r take-reads.Post (List ℕ) (λ κs s. s.0.now)
take_leaves_once κs a x y s t p q = p.1 ∙ sym q.1

fit_once : OneAnswer 1 fit-kinds.ps fit-kinds.r fit-reads.Post
fit_once κs a x y s t p q = p ∙ sym q

close_leaves_once : OneLeft 1 close-kinds.ps close-kinds.r close-reads.Post (List ℕ) (λ κs s. s.0.now)
close_leaves_once κs a x y s t p q = p ∙ sym q

fill_leaves_once : OneLeft 1 fill-kinds.ps fill-kinds.r fill-reads.Post (List ℕ) (λ κs s. s.0.now)
fill_leaves_once κs a x y s t p q = p.0 ∙ sym q.0

read_once : OneAnswer 1 read-kinds.ps read-kinds.r read-reads.Post
read_once κs a x y s t p q = p ∙ sym q
