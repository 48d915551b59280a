-- Any two outcomes that a contract allows are equal, since each says the answer and every lent byte by equations.
-- Assumes nothing.
use mathlib.Core.Path.{sym, ◌∙◌}
use mathlib.Core.List.{List}
use Prim.Native.Nat.{ℕ}
use Rattle.laws.proofs.Outcomes.{OneAnswer, OneLeft}
use Rattle.serving.proofs.serve.Kinds as serve-kinds
use Rattle.serving.proofs.serve.Reads as serve-reads
use Rattle.serving.proofs.put_refusal.Kinds as put-refusal-kinds
use Rattle.serving.proofs.put_refusal.Reads as put-refusal-reads

serve_once : OneAnswer 3 serve-kinds.ps serve-kinds.r serve-reads.Post
serve_once κs a x y s t p q =
    let question = p.holds ∙ sym q.holds in
    let at = p.place ∙ sym q.place in
    λ i. record { question = question i; at = at i }

serve_leaves_once : OneLeft 3 serve-kinds.ps serve-kinds.r serve-reads.Post (List ℕ) (λ κs s. s.1.1.1.1.1.0.now)
serve_leaves_once κs a x y s t p q = p.stored ∙ sym q.stored

put_refusal_once : OneAnswer 1 put-refusal-kinds.ps put-refusal-kinds.r put-refusal-reads.Post
put_refusal_once κs a x y s t p q = p.0 ∙ sym q.0

put_refusal_leaves_once : OneLeft 1 put-refusal-kinds.ps put-refusal-kinds.r put-refusal-reads.Post (List ℕ) (λ κs s. s.0.now)
put_refusal_leaves_once κs a x y s t p q = p.1 ∙ sym q.1
