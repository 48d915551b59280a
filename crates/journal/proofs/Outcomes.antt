-- Any two outcomes that a contract allows are equal, since each says the answer and every lent byte by equations.
-- Assumes nothing.
use mathlib.Core.Path.{sym, ◌∙◌}
use mathlib.Core.List.{List}
use Prim.Native.Nat.{ℕ}
use Rattle.laws.proofs.Outcomes.{OneAnswer, OneLeft}
use Rattle.journal.proofs.Log.fresh.Kinds as fresh-kinds
use Rattle.journal.proofs.Log.fresh.Reads as fresh-reads
use Rattle.journal.proofs.Log.item.Kinds as item-kinds
use Rattle.journal.proofs.Log.item.Reads as item-reads
use Rattle.journal.proofs.next_item.Kinds as next-item-kinds
use Rattle.journal.proofs.next_item.Reads as next-item-reads
use Rattle.journal.proofs.rule_in.Kinds as rule-in-kinds
use Rattle.journal.proofs.rule_in.Reads as rule-in-reads
use Rattle.journal.proofs.put_search.Kinds as put-search-kinds
use Rattle.journal.proofs.put_search.Reads as put-search-reads

fresh_once : OneAnswer 0 fresh-kinds.ps fresh-kinds.r fresh-reads.Post
fresh_once κs a x y s t p q = p ∙ sym q

item_once : OneAnswer 2 item-kinds.ps item-kinds.r item-reads.Post
item_once κs a x y s t p q =
    let log = p.leaves ∙ sym q.leaves in
    let at = p.place ∙ sym q.place in
    λ i. record { log = log i; at = at i }

item_leaves_once : OneLeft 2 item-kinds.ps item-kinds.r item-reads.Post (List ℕ) (λ κs s. s.1.1.1.0.now)
item_leaves_once κs a x y s t p q = p.stored ∙ sym q.stored

next_item_once : OneAnswer 0 next-item-kinds.ps next-item-kinds.r next-item-reads.Post
next_item_once κs a x y s t p q = p ∙ sym q

rule_in_once : OneAnswer 1 rule-in-kinds.ps rule-in-kinds.r rule-in-reads.Post
rule_in_once κs a x y s t p q = p ∙ sym q

put_search_once : OneAnswer 1 put-search-kinds.ps put-search-kinds.r put-search-reads.Post
put_search_once κs a x y s t p q = p.0 ∙ sym q.0

put_search_leaves_once : OneLeft 1 put-search-kinds.ps put-search-kinds.r put-search-reads.Post (List ℕ) (λ κs s. s.0.now)
put_search_leaves_once κs a x y s t p q = p.1 ∙ sym q.1
