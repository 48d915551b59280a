-- `bus::Bus::read` meets its contract: after k turns the first k sessions are read.
-- Assumes nothing.
use mathlib.Core.Path.{◌≡◌, refl, sym, ◌∙◌, ap}
use Prim.Native.Nat.{ℕ}
use native.Mathlib.Omega.{arith}
use lib.ListN.{length-set}
use lib.Seq.{take_all}
use Rattle.bus.specs.Room.{first_sessions_in}
use Rattle.bus.proofs.Places.{reads_more}
use Rattle.bus.proofs.Bus.read.Goals as goal

pub loop-k-init : goal.loop-k-init
unfolding first_sessions_in
loop-k-init c = (refl, refl)

pub loop-k-preserved : goal.loop-k-preserved
loop-k-preserved c = (
  length-set c.loop-k.session-items c.loop-k.k c.session_in.result ∙ c.loop-k.invariant.0,
  reads_more c.args.room.now c.loop-k.session-items c.loop-k.k (omega (arith, c.loop-k.invariant.0)) c.loop-k.invariant.1 c.session_in.ensures,
)

pub returns : goal.returns
returns c =
    let end : c.loop-k.k ≡ 254 = omega (arith, c.loop-k.invariant.0) in
    sym (take_all c.loop-k.k c.loop-k.session-items (omega (arith, c.loop-k.invariant.0))) ∙ c.loop-k.invariant.1 ∙ ap (λ (n : ℕ). first_sessions_in n c.args.room.now) end
