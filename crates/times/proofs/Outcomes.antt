-- Any two outcomes that a contract allows are equal, since each contract is an equation: the answer, every byte that was lent, and every time.
-- Assumes nothing.
use mathlib.Core.Path.{sym, ◌∙◌}
use mathlib.Core.List.{List}
use Prim.Native.Nat.{ℕ}
use Rattle.laws.proofs.Outcomes.{OneAnswer, OneLeft}
use Rattle.times.specs.declared.Times.{Times}
use Rattle.times.proofs.Times.fresh.Kinds as fresh-kinds
use Rattle.times.proofs.Times.fresh.Reads as fresh-reads
use Rattle.times.proofs.Times.of.Kinds as of-kinds
use Rattle.times.proofs.Times.of.Reads as of-reads
use Rattle.times.proofs.Times.with.Kinds as with-kinds
use Rattle.times.proofs.Times.with.Reads as with-reads
use Rattle.times.proofs.Station.frame.Kinds as frame-kinds
use Rattle.times.proofs.Station.frame.Reads as frame-reads
use Rattle.times.proofs.Times.take.Kinds as take-kinds
use Rattle.times.proofs.Times.take.Reads as take-reads
use Rattle.times.proofs.Times.meet.Kinds as meet-kinds
use Rattle.times.proofs.Times.meet.Reads as meet-reads
use Rattle.times.proofs.Times.put.Kinds as put-kinds
use Rattle.times.proofs.Times.put.Reads as put_reads

fresh_once : OneAnswer 0 fresh-kinds.ps fresh-kinds.r fresh-reads.Post
fresh_once κs a x y s t p q = p ∙ sym q

of_once : OneAnswer 1 of-kinds.ps of-kinds.r of-reads.Post
of_once κs a x y s t p q = p ∙ sym q

with_once : OneAnswer 0 with-kinds.ps with-kinds.r with-reads.Post
with_once κs a x y s t p q = p ∙ sym q

frame_once : OneAnswer 1 frame-kinds.ps frame-kinds.r frame-reads.Post
frame_once κs a x y s t p q = p ∙ sym q

take_once : OneAnswer 3 take-kinds.ps take-kinds.r take-reads.Post
take_once κs a x y s t p q = p.answers ∙ sym q.answers

take_leaves_once : OneLeft 3 take-kinds.ps take-kinds.r take-reads.Post (List ℕ) (λ κs s. s.1.0.now)
take_leaves_once κs a x y s t p q = p.sessions ∙ sym q.sessions

take_times_once : OneLeft 3 take-kinds.ps take-kinds.r take-reads.Post Times (λ κs s. s.0.now)
take_times_once κs a x y s t p q = p.times ∙ sym q.times

meet_once : OneAnswer 3 meet-kinds.ps meet-kinds.r meet-reads.Post
meet_once κs a x y s t p q = p.answers ∙ sym q.answers

meet_leaves_once : OneLeft 3 meet-kinds.ps meet-kinds.r meet-reads.Post (List ℕ) (λ κs s. s.1.0.now)
meet_leaves_once κs a x y s t p q = p.sessions ∙ sym q.sessions

meet_times_once : OneLeft 3 meet-kinds.ps meet-kinds.r meet-reads.Post Times (λ κs s. s.0.now)
meet_times_once κs a x y s t p q = p.times ∙ sym q.times

put_leaves_once : OneLeft 1 put-kinds.ps put-kinds.r put_reads.Post Times (λ κs s. s.0.now)
put_leaves_once κs a x y s t p q = p ∙ sym q
