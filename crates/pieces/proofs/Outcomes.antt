-- Any two outcomes that a contract allows are equal, since each says the answer and every lent byte by equations.
-- Assumes nothing.
use mathlib.Core.Path.{sym, ◌∙◌}
use mathlib.Core.List.{List}
use Prim.Native.Nat.{ℕ}
use Rattle.laws.proofs.Outcomes.{OneAnswer, OneLeft}
use Rattle.pieces.proofs.Waiting.nothing.Kinds as nothing-kinds
use Rattle.pieces.proofs.Waiting.nothing.Reads as nothing-reads
use Rattle.pieces.proofs.Waiting.feed.Kinds as feed-kinds
use Rattle.pieces.proofs.Waiting.feed.Reads as feed-reads
use Rattle.pieces.proofs.Waiting.finish.Kinds as finish-kinds
use Rattle.pieces.proofs.Waiting.finish.Reads as finish-reads
use Rattle.pieces.proofs.Once.{fed_once, left_once}

nothing_once : OneAnswer 0 nothing-kinds.ps nothing-kinds.r nothing-reads.Post
nothing_once κs a x y s t p q = p ∙ sym q

feed_once : OneAnswer 2 feed-kinds.ps feed-kinds.r feed-reads.Post
feed_once κs a x y s t p q = fed_once p q

feed_leaves_once : OneLeft 2 feed-kinds.ps feed-kinds.r feed-reads.Post (List ℕ) (λ κs s. s.1.1.1.0.now)
feed_leaves_once κs a x y s t p q = left_once p q

finish_once : OneAnswer 1 finish-kinds.ps finish-kinds.r finish-reads.Post
finish_once κs a x y s t p q = p.0 ∙ sym q.0

finish_leaves_once : OneLeft 1 finish-kinds.ps finish-kinds.r finish-reads.Post (List ℕ) (λ κs s. s.1.1.0.now)
finish_leaves_once κs a x y s t p q = p.1 ∙ sym q.1
