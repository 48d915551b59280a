-- `times::shut` meets its contract: the tests are those of the definition.
-- Assumes nothing.
use mathlib.Core.Path.{sym, ap, ◌∙◌}
use mathlib.Core.Bool.{not}
use Rattle.std.specs.Result.{is_err}
use Rattle.joining.proofs.Frames.{let_through}
use Rattle.joining.specs.Frame.{sender_of}
use Rattle.times.proofs.Lent.{unchanged}
use Rattle.times.proofs.shut.Goals as goal

pub returns-then-is_err : goal.returns-then-is_err
returns-then-is_err c =
    let e = let_through c.args.id c.args.«data».now ∙ ap not (sym (c.is_err.ensures.value ∙ ap is_err c.frame_refusal.ensures) ∙ c.if-is_err.true) in
    unchanged c.args.room.now (sender_of c.args.id) c.requires (rw e)

pub returns-then-fit : goal.returns-then-fit
returns-then-fit c =
    let e = let_through c.args.id c.args.«data».now ∙ ap not (sym (c.is_err.ensures.value ∙ ap is_err c.frame_refusal.ensures) ∙ c.if-is_err.false) in
    rw (e, sym c.fit.ensures ∙ c.if-fit.true) c.close.ensures

pub returns-else-fit : goal.returns-else-fit
returns-else-fit c =
    let e = let_through c.args.id c.args.«data».now ∙ ap not (sym (c.is_err.ensures.value ∙ ap is_err c.frame_refusal.ensures) ∙ c.if-is_err.false) in
    unchanged c.args.room.now (sender_of c.args.id) c.requires (rw (e, sym c.fit.ensures ∙ c.if-fit.false))
