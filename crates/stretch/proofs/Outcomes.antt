-- Any two outcomes that a contract allows are equal, since each says the answer and every lent byte by equations.
-- Assumes nothing.
use mathlib.Core.Path.{sym, ◌∙◌}
use mathlib.Core.List.{List}
use Prim.Native.Nat.{ℕ}
use Rattle.laws.proofs.Outcomes.{OneAnswer, OneLeft}
use Rattle.stretch.proofs.take.Kinds as take-kinds
use Rattle.stretch.proofs.take.Reads as take-reads

take_once : OneAnswer 2 take-kinds.ps take-kinds.r take-reads.Post
take_once κs a x y s t p q =
    let log = p.leaves ∙ sym q.leaves in
    let taken = p.taken ∙ sym q.taken in
    let at = p.place ∙ sym q.place in
    λ i. record { log = log i; taken = taken i; at = at i }

take_leaves_once : OneLeft 2 take-kinds.ps take-kinds.r take-reads.Post (List ℕ) (λ κs s. s.1.1.0.now)
take_leaves_once κs a x y s t p q = p.stored ∙ sym q.stored
