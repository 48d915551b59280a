-- `bus::session_at` meets its contract: 89 bytes take the place of 89, and the numbers stand behind them.
-- Assumes nothing.
use mathlib.Core.Path.{◌≡◌, sym, ◌∙◌, ap}
use mathlib.Core.List.{List}
use Prim.Native.Nat.{ℕ}
use native.Mathlib.Omega.{arith}
use native.Mathlib.Nat.{add-sub_cancel_left}
use lib.ListN.{length, take, drop, replicate, length-replicate, length-drop}
use lib.Seq.{sets, length-take-le}
use Rattle.bus.proofs.Places.{four_reads, overwritten}
use Rattle.bus.proofs.session_in.Goals as goal

pub returns : goal.returns
returns c =
    let room = c.args.room.now in
    let at = c.args.at in
    let new : List ℕ = take 89 (drop at room) in
    let long : length new ≡ 89 = length-take-le 89 (drop at room) (rw (length-drop, c.requires.0) (omega (arith, c.requires.1))) in
    four_reads room at
    (c.put_all.ensures
    ∙ ap (λ (n : ℕ). sets (replicate 89 255) 0 (take n (drop at room))) (add-sub_cancel_left at 89)
    ∙ overwritten (replicate 89 255) new (long ∙ sym (length-replicate {A = ℕ} 89 255)))
