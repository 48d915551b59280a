-- Any two outcomes that a contract allows are equal, since each contract is an equation: the answer, and every byte that was lent.
-- Assumes nothing.
use mathlib.Core.Path.{sym, ◌∙◌}
use mathlib.Core.List.{List}
use Prim.Native.Nat.{ℕ}
use Rattle.laws.proofs.Outcomes.{OneAnswer, OneLeft, OnePart}
use Rattle.items.proofs.Item.read.Kinds as read-kinds
use Rattle.items.proofs.Item.read.Reads as read-reads
use Rattle.items.proofs.Item.data_in.Kinds as data-in-kinds
use Rattle.items.proofs.Item.data_in.Reads as data-in-reads
use Rattle.items.proofs.Item.put.Kinds as put-kinds
use Rattle.items.proofs.Item.put.Reads as put_reads
use Rattle.items.proofs.Setting.read.Kinds as setting-kinds
use Rattle.items.proofs.Setting.read.Reads as setting-reads
use Rattle.items.proofs.signed16.Kinds as signed16-kinds
use Rattle.items.proofs.signed16.Reads as signed16-reads

read_once : OneAnswer 1 read-kinds.ps read-kinds.r read-reads.Post
read_once κs a x y s t p q = p ∙ sym q

data_in_once : OnePart 1 data-in-kinds.ps data-in-kinds.r data-in-reads.Post (λ κs x. x.now)
data_in_once κs a x y s t p q = p ∙ sym q

put_once : OneAnswer 2 put-kinds.ps put-kinds.r put_reads.Post
put_once κs a x y s t p q = p.0 ∙ sym q.0

put_leaves_once : OneLeft 2 put-kinds.ps put-kinds.r put_reads.Post (List ℕ) (λ κs s. s.1.1.0.now)
put_leaves_once κs a x y s t p q = p.1 ∙ sym q.1

setting_once : OneAnswer 1 setting-kinds.ps setting-kinds.r setting-reads.Post
setting_once κs a x y s t p q = p ∙ sym q

signed16_once : OneAnswer 0 signed16-kinds.ps signed16-kinds.r signed16-reads.Post
signed16_once κs a x y s t p q = p ∙ sym q
