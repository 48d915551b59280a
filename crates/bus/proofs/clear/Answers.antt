-- `bus::clear` meets its contract: the bytes before the numbers are 255.
-- Assumes nothing.
use mathlib.Core.Path.{◌≡◌, sym, ◌∙◌, ap}
use native.Mathlib.Omega.{arith}
use Prim.Native.Nat.{ℕ}
use lib.ListN.{length, drop, replicate}
use lib.Seq.{take_at, length-take-le}
use Rattle.bus.proofs.clear.Goals as goal

pub slice_bounds-fill-end-2 : goal.slice_bounds-fill-end-2
slice_bounds-fill-end-2 c = sym (length-take-le 89 c.args.place.now (omega (arith, c.requires)))

pub returns : goal.returns
returns c =
    let all = c.fill.ensures.after (λ y h. h) in
    let long : length c.fill.new.self ≡ 89 = c.fill.ensures.len ∙ length-take-le 89 c.args.place.now (omega (arith, c.requires)) in
    take_at c.fill.new.self (drop 89 c.args.place.now) 89 long ∙ all ∙ ap (λ (n : ℕ). replicate n 255) (length-take-le 89 c.args.place.now (omega (arith, c.requires)))
