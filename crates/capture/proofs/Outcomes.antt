-- Any two outcomes that a contract allows are equal, since each contract is an equation: the answer, and every byte that was lent or handed out.
-- Assumes nothing.
use mathlib.Core.Path.{sym, ◌∙◌}
use mathlib.Core.List.{List}
use Prim.Native.Nat.{ℕ}
use Rattle.laws.proofs.Outcomes.{OneAnswer, OneLeft}
use Rattle.capture.proofs.write.Kinds as write-kinds
use Rattle.capture.proofs.write.Reads as write-reads
use Rattle.capture.proofs.since.Kinds as since-kinds
use Rattle.capture.proofs.since.Reads as since-reads
use Rattle.capture.proofs.started.Kinds as started-kinds
use Rattle.capture.proofs.started.Reads as started-reads

since_once : OneAnswer 0 since-kinds.ps since-kinds.r since-reads.Post
since_once κs a x y s t p q = p ∙ sym q

started_once : OneAnswer 0 started-kinds.ps started-kinds.r started-reads.Post
started_once κs a x y s t p q = p ∙ sym q

write_once : OneAnswer 3 write-kinds.ps write-kinds.r write-reads.Post
write_once κs a x y s t p q = p.0 ∙ sym q.0

write_leaves_once : OneLeft 3 write-kinds.ps write-kinds.r write-reads.Post (List ℕ) (λ κs s. s.1.1.1.1.0.now)
write_leaves_once κs a x y s t p q = p.1 ∙ sym q.1
