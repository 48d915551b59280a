-- Any two outcomes that a contract allows are equal, since each contract is two equations: the answer, and every byte that was lent.
-- Assumes nothing.
use mathlib.Core.Path.{sym, ◌∙◌}
use mathlib.Core.List.{List}
use Prim.Native.Nat.{ℕ}
use Rattle.laws.proofs.Outcomes.{OneAnswer, OneLeft}
use Rattle.text.proofs.put_decimal.Kinds as put-decimal-kinds
use Rattle.text.proofs.put_decimal.Reads as put-decimal-reads
use Rattle.text.proofs.put_signed.Kinds as put-signed-kinds
use Rattle.text.proofs.put_signed.Reads as put-signed-reads
use Rattle.text.proofs.put_s.Kinds as put-s-kinds
use Rattle.text.proofs.put_s.Reads as put-s-reads
use Rattle.text.proofs.put_r.Kinds as put-r-kinds
use Rattle.text.proofs.put_r.Reads as put-r-reads
use Rattle.text.proofs.put_q.Kinds as put-q-kinds
use Rattle.text.proofs.put_q.Reads as put-q-reads

put_decimal_once : OneAnswer 1 put-decimal-kinds.ps put-decimal-kinds.r put-decimal-reads.Post
put_decimal_once κs a x y s t p q = p.0 ∙ sym q.0

put_decimal_leaves_once : OneLeft 1 put-decimal-kinds.ps put-decimal-kinds.r put-decimal-reads.Post (List ℕ) (λ κs s. s.0.now)
put_decimal_leaves_once κs a x y s t p q = p.1 ∙ sym q.1

put_signed_once : OneAnswer 1 put-signed-kinds.ps put-signed-kinds.r put-signed-reads.Post
put_signed_once κs a x y s t p q = p.0 ∙ sym q.0

put_signed_leaves_once : OneLeft 1 put-signed-kinds.ps put-signed-kinds.r put-signed-reads.Post (List ℕ) (λ κs s. s.0.now)
put_signed_leaves_once κs a x y s t p q = p.1 ∙ sym q.1

put_s_once : OneAnswer 1 put-s-kinds.ps put-s-kinds.r put-s-reads.Post
put_s_once κs a x y s t p q = p.0 ∙ sym q.0

put_s_leaves_once : OneLeft 1 put-s-kinds.ps put-s-kinds.r put-s-reads.Post (List ℕ) (λ κs s. s.0.now)
put_s_leaves_once κs a x y s t p q = p.1 ∙ sym q.1

put_r_once : OneAnswer 1 put-r-kinds.ps put-r-kinds.r put-r-reads.Post
put_r_once κs a x y s t p q = p.0 ∙ sym q.0

put_r_leaves_once : OneLeft 1 put-r-kinds.ps put-r-kinds.r put-r-reads.Post (List ℕ) (λ κs s. s.0.now)
put_r_leaves_once κs a x y s t p q = p.1 ∙ sym q.1

put_q_once : OneAnswer 1 put-q-kinds.ps put-q-kinds.r put-q-reads.Post
put_q_once κs a x y s t p q = p.0 ∙ sym q.0

put_q_leaves_once : OneLeft 1 put-q-kinds.ps put-q-kinds.r put-q-reads.Post (List ℕ) (λ κs s. s.0.now)
put_q_leaves_once κs a x y s t p q = p.1 ∙ sym q.1
