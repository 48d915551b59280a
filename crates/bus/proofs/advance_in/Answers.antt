-- `bus::advance_in` meets its contract: the session is the part that is lent, and the bytes before and behind it stay.
-- Assumes nothing.
use mathlib.Core.Path.{sym, ◌∙◌, ap}
use mathlib.Core.List.{List, ◌++◌, append_assoc}
use Prim.Native.Nat.{ℕ, ◌+◌}
use native.Mathlib.Omega.{arith}
use native.Mathlib.Nat.{add-sub_cancel_left}
use lib.ListN.{take, drop}
use borrow.Rule.Slice.PartMut.{Post-is}
use Rattle.joining.specs.declared.Session.{Session}
use Rattle.joining.specs.Joining.{take_frame}
use Rattle.bus.specs.Room.{session_in, session_bytes}
use Rattle.bus.proofs.Places.{first_92}
use Rattle.bus.proofs.advance_in.Goals as goal

pub returns : goal.returns
returns c =
    let a = c.args in
    let room = c.args.room.now in
    let d = a.«data».now in
    let left = session_bytes (take_frame (session_in (drop c.args.at room)) c.args.id d).session in
    let same = ap (λ (n : ℕ). session_in (take n (drop c.args.at room))) (add-sub_cancel_left c.args.at 92) ∙ first_92 (drop c.args.at room) in record {
      value = c.advance_at.ensures.value ∙ ap (λ (s : Session). (take_frame s c.args.id d).answer) same;
      room_after = ap (λ (l : List ℕ). take c.args.at room ++ (c.advance_at.new.place ++ l)) (Post-is c.args.at (c.args.at + 92) room (omega arith))
          ∙ ap (λ (l : List ℕ). take c.args.at room ++ (l ++ drop (c.args.at + 92) room)) (c.advance_at.ensures.place_after ∙ ap (λ (s : Session). session_bytes (take_frame s c.args.id d).session) same)
          ∙ sym (append_assoc (take c.args.at room) left (drop (c.args.at + 92) room));
    }
