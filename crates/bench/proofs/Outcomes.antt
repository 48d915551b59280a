-- Any two outcomes that the bench sender's contract allows are equal, since it is an equation: the answer, and every byte of the room.
-- Assumes nothing.
use mathlib.Core.Path.{sym, ◌∙◌}
use mathlib.Core.List.{List}
use Prim.Native.Nat.{ℕ}
use Rattle.laws.proofs.Outcomes.{OneAnswer, OneLeft}
use Rattle.bench.proofs.Bench.send.Kinds as send-kinds
use Rattle.bench.proofs.Bench.send.Reads as send-reads

send_once : OneAnswer 2 send-kinds.ps send-kinds.r send-reads.Post
send_once κs a x y s t p q = p.0 ∙ sym q.0

send_leaves_once : OneLeft 2 send-kinds.ps send-kinds.r send-reads.Post (List ℕ) (λ κs s. s.0.now)
send_leaves_once κs a x y s t p q = p.1 ∙ sym q.1
