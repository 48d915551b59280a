-- Any two outcomes that a contract allows are equal, since each contract is an equation: the answer, and every byte that was lent or handed out.
-- Assumes nothing.
use mathlib.Core.Path.{sym, ◌∙◌}
use mathlib.Core.List.{List}
use Prim.Native.Nat.{ℕ}
use Rattle.laws.proofs.Outcomes.{OneAnswer, OneLeft, OnePart}
use Rattle.dump.proofs.interface.Kinds as interface-kinds
use Rattle.dump.proofs.interface.Reads as interface-reads
use Rattle.dump.proofs.logged.Kinds as logged-kinds
use Rattle.dump.proofs.logged.Reads as logged-reads
use Rattle.dump.proofs.is_drop.Kinds as is-drop-kinds
use Rattle.dump.proofs.is_drop.Reads as is-drop-reads
use Rattle.dump.proofs.is_log.Kinds as is-log-kinds
use Rattle.dump.proofs.is_log.Reads as is-log-reads
use Rattle.dump.proofs.shown.Kinds as shown-kinds
use Rattle.dump.proofs.shown.Reads as shown-reads
use Rattle.dump.proofs.time.Kinds as time-kinds
use Rattle.dump.proofs.time.Reads as time-reads

is_drop_once : OneAnswer 1 is-drop-kinds.ps is-drop-kinds.r is-drop-reads.Post
is_drop_once κs a x y s t p q = p ∙ sym q

is_log_once : OneAnswer 1 is-log-kinds.ps is-log-kinds.r is-log-reads.Post
is_log_once κs a x y s t p q = p ∙ sym q

time_once : OneAnswer 1 time-kinds.ps time-kinds.r time-reads.Post
time_once κs a x y s t p q = p ∙ sym q

shown_once : OneAnswer 2 shown-kinds.ps shown-kinds.r shown-reads.Post
shown_once κs a x y s t p q = p.0 ∙ sym q.0

shown_leaves_once : OneLeft 2 shown-kinds.ps shown-kinds.r shown-reads.Post (List ℕ) (λ κs s. s.1.0.now)
shown_leaves_once κs a x y s t p q = p.1 ∙ sym q.1

interface_once : OnePart 1 interface-kinds.ps interface-kinds.r interface-reads.Post (λ κs x. x.now)
interface_once κs a x y s t p q = p ∙ sym q

logged_once : OnePart 1 logged-kinds.ps logged-kinds.r logged-reads.Post (λ κs x. x.now)
logged_once κs a x y s t p q = p ∙ sym q
