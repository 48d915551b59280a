-- `bus::close_in` meets its contract: the session is the part that is lent, and the bytes before and behind it stay; senders 254 and 255 have none.
-- Assumes nothing.
use mathlib.Core.Path.{sym, ◌∙◌, ap}
use mathlib.Core.List.{List, ◌++◌, append_assoc}
use Prim.Native.Nat.{ℕ, ◌+◌, ◌*◌}
use native.Mathlib.Omega.{arith}
use native.Mathlib.Nat.{add-sub_cancel_left}
use lib.ListN.{take, drop}
use borrow.Rule.Slice.PartMut.{Post-is}
use Rattle.joining.specs.declared.Session.{Session}
use Rattle.joining.specs.Joining.{closed}
use Rattle.bus.specs.Room.{session_in, session_bytes}
use Rattle.bus.proofs.Places.{first_92}
use Rattle.bus.proofs.Placed.{closing, none_there}
use borrow.Author.Rules.{rules}
use Rattle.bus.proofs.close_in.Goals as goal

pub returns-then-k-lt-SENDERS : goal.returns-then-k-lt-SENDERS
returns-then-k-lt-SENDERS c =
    let room = c.args.room.now in
    let at : ℕ = 92 * c.args.sender in
    let left = session_bytes (closed (session_in (drop at room))) in
    let same = ap (λ (n : ℕ). session_in (take n (drop at room))) (add-sub_cancel_left at 92) ∙ first_92 (drop at room) in
    closing room c.args.sender c.requires (search rules)
    (ap (λ (l : List ℕ). take at room ++ (c.close_at.new.place ++ l)) (Post-is at (at + 92) room (omega arith))
    ∙ ap (λ (l : List ℕ). take at room ++ (l ++ drop (at + 92) room)) (c.close_at.ensures ∙ ap (λ (x : Session). session_bytes (closed x)) same)
    ∙ sym (append_assoc (take at room) left (drop (at + 92) room)))

pub returns-else-k-lt-SENDERS : goal.returns-else-k-lt-SENDERS
returns-else-k-lt-SENDERS c = none_there c.args.room.now c.args.sender c.requires (search rules) _
