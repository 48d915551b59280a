-- Any two outcomes that a contract allows are equal, since each contract is an equation: the answer, and every byte that was lent or handed out.
-- Assumes nothing.
use mathlib.Core.Path.{sym, ◌∙◌}
use mathlib.Core.List.{List}
use Prim.Native.Nat.{ℕ}
use Rattle.laws.proofs.Outcomes.{OneAnswer, OneLeft}
use Rattle.commands.proofs.Kind.of.Kinds as kind-of-kinds
use Rattle.commands.proofs.Kind.of.Reads as kind-of-reads
use Rattle.commands.proofs.Command.of.Kinds as of-kinds
use Rattle.commands.proofs.Command.of.Reads as of-reads
use Rattle.commands.proofs.Command.put.Kinds as put-kinds
use Rattle.commands.proofs.Command.put.Reads as put_reads
use Rattle.commands.proofs.Command.time_after.Kinds as time-after-kinds
use Rattle.commands.proofs.Command.time_after.Reads as time-after-reads
use Rattle.commands.proofs.write.Kinds as write-kinds
use Rattle.commands.proofs.write.Reads as write-reads

kind_of_once : OneAnswer 1 kind-of-kinds.ps kind-of-kinds.r kind-of-reads.Post
kind_of_once κs a x y s t p q = p ∙ sym q

of_once : OneAnswer 1 of-kinds.ps of-kinds.r of-reads.Post
of_once κs a x y s t p q = p ∙ sym q

put_once : OneAnswer 2 put-kinds.ps put-kinds.r put_reads.Post
put_once κs a x y s t p q = p.0 ∙ sym q.0

put_leaves_once : OneLeft 2 put-kinds.ps put-kinds.r put_reads.Post (List ℕ) (λ κs s. s.1.1.1.0.now)
put_leaves_once κs a x y s t p q = p.1 ∙ sym q.1

time_after_once : OneAnswer 0 time-after-kinds.ps time-after-kinds.r time-after-reads.Post
time_after_once κs a x y s t p q = p ∙ sym q

write_once : OneAnswer 2 write-kinds.ps write-kinds.r write-reads.Post
write_once κs a x y s t p q = p.0 ∙ sym q.0

write_leaves_once : OneLeft 2 write-kinds.ps write-kinds.r write-reads.Post (List ℕ) (λ κs s. s.1.1.0.now)
write_leaves_once κs a x y s t p q = p.1 ∙ sym q.1
