-- Any two outcomes that a contract allows are equal, since each contract is an equation: the answer, the session and every byte that was lent or handed out.
-- Assumes nothing.
use mathlib.Core.Path.{sym, ◌∙◌}
use mathlib.Core.List.{List}
use Prim.Native.Nat.{ℕ}
use Rattle.laws.proofs.Outcomes.{OneAnswer, OneLeft, OnePart}
use Rattle.joining.proofs.Frame.sender.Kinds as sender-kinds
use Rattle.joining.proofs.Frame.sender.Reads as sender-reads
use Rattle.joining.proofs.Session.fresh.Kinds as fresh-kinds
use Rattle.joining.proofs.Session.fresh.Reads as fresh-reads
use Rattle.joining.proofs.Session.fit.Kinds as fit-kinds
use Rattle.joining.proofs.Session.fit.Reads as fit-reads
use Rattle.joining.proofs.Session.frame.Kinds as frame-kinds
use Rattle.joining.proofs.Session.frame.Reads as frame-reads
use Rattle.joining.proofs.Session.payload.Kinds as payload-kinds
use Rattle.joining.proofs.Session.payload.Reads as payload-reads
use Rattle.joining.proofs.frame_refusal.Kinds as frame-refusal-kinds
use Rattle.joining.proofs.frame_refusal.Reads as frame-refusal-reads
use Rattle.joining.proofs.numbers_fit.Kinds as numbers-fit-kinds
use Rattle.joining.proofs.numbers_fit.Reads as numbers-fit-reads
use Rattle.joining.proofs.packets.Kinds as packets-kinds
use Rattle.joining.proofs.packets.Reads as packets-reads
use Rattle.joining.proofs.announcement_refusal.Kinds as announcement-refusal-kinds
use Rattle.joining.proofs.announcement_refusal.Reads as announcement-refusal-reads
use Rattle.joining.proofs.store.Kinds as store-kinds
use Rattle.joining.proofs.store.Reads as store-reads
use Rattle.joining.proofs.answered.Kinds as answered-kinds
use Rattle.joining.proofs.answered.Reads as answered-reads

sender_once : OneAnswer 1 sender-kinds.ps sender-kinds.r sender-reads.Post
sender_once κs a x y s t p q = p ∙ sym q

fresh_once : OneAnswer 0 fresh-kinds.ps fresh-kinds.r fresh-reads.Post
fresh_once κs a x y s t p q = p ∙ sym q

fit_once : OneAnswer 0 fit-kinds.ps fit-kinds.r fit-reads.Post
fit_once κs a x y s t p q = p ∙ sym q

frame_once : OneAnswer 1 frame-kinds.ps frame-kinds.r frame-reads.Post
frame_once κs a x y s t p q = p ∙ sym q

payload_once : OnePart 1 payload-kinds.ps payload-kinds.r payload-reads.Post (λ κs x. x.now)
payload_once κs a x y s t p q = p ∙ sym q

frame_refusal_once : OneAnswer 1 frame-refusal-kinds.ps frame-refusal-kinds.r frame-refusal-reads.Post
frame_refusal_once κs a x y s t p q = p ∙ sym q

numbers_fit_once : OneAnswer 0 numbers-fit-kinds.ps numbers-fit-kinds.r numbers-fit-reads.Post
numbers_fit_once κs a x y s t p q = p ∙ sym q

packets_once : OneAnswer 0 packets-kinds.ps packets-kinds.r packets-reads.Post
packets_once κs a x y s t p q = p ∙ sym q

announcement_refusal_once : OneAnswer 1 announcement-refusal-kinds.ps announcement-refusal-kinds.r announcement-refusal-reads.Post
announcement_refusal_once κs a x y s t p q = p ∙ sym q

store_leaves_once : OneLeft 2 store-kinds.ps store-kinds.r store-reads.Post (List ℕ) (λ κs s. s.0.now)
store_leaves_once κs a x y s t p q = p ∙ sym q

answered_once : OneAnswer 1 answered-kinds.ps answered-kinds.r answered-reads.Post
answered_once κs a x y s t p q = p ∙ sym q
