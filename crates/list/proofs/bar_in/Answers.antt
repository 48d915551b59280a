-- Each branch is a case of the definition; the last line is the one at the length less one.
-- Assumes nothing.
use mathlib.Core.Path.{sym, ap, ◌∙◌}
use Prim.Native.Nat.{◌-◌}
use lib.IntN.{pos}
use lib.ListN.{get_or}
use mir.Syntax.{w32}
use Rattle.laws.proofs.Words.{kept}
use Rattle.list.proofs.Bars.{bar_at_none, bar_at_some}
use Rattle.list.proofs.bar_in.Goals as goal

pub returns-then-len-eq0 : goal.returns-then-len-eq0
returns-then-len-eq0 c =
    let a = c.args in
    sym (bar_at_none c.args.names.now c.args.scores.now c.args.len c.args.full c.if-len-eq0.true)

pub returns : goal.returns
returns c =
    let a = c.args in
    let ns = c.args.names.now in
    let ss = c.args.scores.now in
    ap (λ s. record { full = c.args.full; name = get_or ns (c.args.len - 1) 0; score = s }) (kept w32 (get_or ss (c.args.len - 1) (pos 0)) c.result-2-1.given)
    ∙ sym (bar_at_some ns ss c.args.len c.args.full c.if-len-eq0.false)
