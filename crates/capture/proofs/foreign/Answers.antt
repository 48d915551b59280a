-- `capture::foreign` meets its contract: a frame that is refused at once has a number that isn't 0.
-- Assumes nothing.
use mathlib.Core.Path.{◌≡◌, refl, ap, ◌∙◌}
use mathlib.Core.Bool.{Bool, true, false, not}
use Rattle.std.specs.Result.{is_err}
use Rattle.joining.specs.Frame.{frame_checked}
use Rattle.joining.proofs.Frames.{let_through}
use Rattle.capture.proofs.foreign.Goals as goal

twice : (b : Bool) → b ≡ not (not b)
twice true = refl
twice false = refl

pub returns-then-ours : goal.returns-then-ours
returns-then-ours c =
    rw (c.if-ours.true, let_through c.args.id c.args.bytes.now) (c.is_err.ensures.value ∙ ap is_err c.frame_refusal.ensures ∙ twice (is_err (frame_checked c.args.id c.args.bytes.now)))
