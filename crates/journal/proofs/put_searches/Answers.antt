-- `journal::put_searches` meets its contract: after i turns the lines of the first i slots stand in a row.
-- Assumes nothing.
use mathlib.Core.Path.{◌≡◌, refl, sym, ap}
use Rattle.std.specs.Prelude.{None}
use Prim.Native.Nat.{ℕ, ◌^◌, ◌<◌}
use native.Mathlib.Omega.{arith}
use lib.ListN.{length, take}
use lib.Seq.{take_all}
use Rattle.text.proofs.Places.{put, then, said, both, none}
use Rattle.journal.specs.Inner.{steps_lines}
use Rattle.journal.proofs.Searches.{steps_more, steps_none}
use borrow.Author.Rules.{rules}
use Rattle.journal.proofs.put_searches.Goals as goal

pub loop-i-init : goal.loop-i-init
loop-i-init c = (refl, said (sym (steps_none c.args.item c.args.steps)) (none c.args.out.now c.args.at (search rules)))

pub overflow_cast-i : goal.overflow_cast-i
overflow_cast-i c = omega arith

pub loop-i-preserved : goal.loop-i-preserved
loop-i-preserved c =
    let h : length c.args.out.now < 2 ^ 64 = search rules in
    let all : length c.args.steps ≡ 32 = search rules in
    (search rules, said (steps_more c.args.item c.args.steps None c.loop-i.i (omega arith)) (then h c.loop-i.invariant.1 (put (c.put_search-next.ensures.value, c.put_search-next.ensures.out_after))))

pub shape_of-out : goal.shape_of-out
shape_of-out c = c.loop-i.invariant.0

pub returns : goal.returns
returns c =
    let all : length c.args.steps ≡ 32 = search rules in
    let whole : steps_lines c.args.item 0 (take c.loop-i.i c.args.steps) ≡ steps_lines c.args.item 0 c.args.steps =
    ap (steps_lines c.args.item 0) (take_all c.loop-i.i c.args.steps (omega arith)) in
    let p = both {l = c.args.out.now} (said whole c.loop-i.invariant.1) in record { value = p.0; out_after = p.1 }
