-- `bus::fill_in` meets its contract: after k turns the bytes of the first k sessions are stored.
-- Assumes nothing.
use mathlib.Core.Path.{◌≡◌, refl, sym, ◌∙◌, ap, subst}
use mathlib.Core.List.{List}
use native.Mathlib.Omega.{arith}
use lib.ListN.{length, take}
use borrow.Author.Rules.{rules}
use lib.Seq.{sets, length-sets, take_all}
use Rattle.joining.specs.declared.Session.{Session}
use Rattle.bus.specs.Room.{room_of, sessions_in}
use Rattle.bus.proofs.Places.{Sized, stores_more, overwritten}
use Rattle.bus.proofs.Rooms.{sized_more, read_back}
use Rattle.bus.proofs.fill_in.Goals as goal

pub loop-k-init : goal.loop-k-init
unfolding room_of
loop-k-init c = (refl, refl, tt)

pub put_session-requires : goal.put_session-requires
put_session-requires c =
    let l = c.loop-k in
    (ap length c.loop-k.invariant.1 ∙ length-sets c.args.room.now 0 (room_of (take c.loop-k.k c.args.sessions)) ∙ c.requires, omega arith)

pub loop-k-preserved : goal.loop-k-preserved
loop-k-preserved c =
    let l = c.loop-k in
    let ss = c.args.sessions in
    let many : length ss ≡ 254 = search rules in
    let put = c.put_session.ensures in
    let t = stores_more c.args.room.now ss c.loop-k.k (omega (arith, many)) c.put_session.ensures.1 c.loop-k.invariant.0 c.loop-k.invariant.1 c.put_session.ensures.0 in
    (t.0, t.1, sized_more c.loop-k.k ss (omega (arith, many)) c.loop-k.invariant.2 c.put_session.ensures.1)

pub shape_of-room : goal.shape_of-room
shape_of-room c =
    let l = c.loop-k in
    ap length c.loop-k.invariant.1 ∙ length-sets c.args.room.now 0 (room_of (take c.loop-k.k c.args.sessions))

pub returns : goal.returns
returns c =
    let l = c.loop-k in
    let room = c.args.room.now in
    let ss = c.args.sessions in
    let many : length ss ≡ 254 = search rules in
    let all : take c.loop-k.k ss ≡ ss = take_all c.loop-k.k ss (omega (arith, many)) in
    let long : length (room_of ss) ≡ length room = ap (λ (z : List Session). length (room_of z)) (sym all) ∙ c.loop-k.invariant.0 ∙ omega (arith, c.requires) in
    let filled = c.loop-k.invariant.1 ∙ ap (λ (z : List Session). sets room 0 (room_of z)) all ∙ overwritten room (room_of ss) long in record { room_after = filled; room_after_2 = (ap sessions_in filled ∙ read_back ss (subst Sized all c.loop-k.invariant.2) many, ap length filled ∙ long ∙ c.requires) }
