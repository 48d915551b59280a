-- `bus::finish_at` meets its contract: the payload is the first `size` of the 89 bytes, and they stay.
-- Assumes nothing.
use mathlib.Core.Path.{sym, ◌∙◌, ap}
use mathlib.Core.List.{List}
use Prim.Native.Nat.{ℕ}
use native.Mathlib.Omega.{arith}
use lib.Seq.{length-take-le, take-take}
use Rattle.report.specs.Payload.{read_payload}
use Rattle.joining.specs.Joining.{yields}
use Rattle.bus.proofs.finish_at.Goals as goal

pub slice_bounds-answered-end-2 : goal.slice_bounds-answered-end-2
slice_bounds-answered-end-2 c = sym (length-take-le c.args.size c.args.place.now (omega (arith, c.requires.place_len, c.requires.size_le_largest_payload)))

pub returns : goal.returns
returns c = record { value = c.answered-answer.ensures ∙ ap (λ (l : List ℕ). yields (read_payload l)) (sym (take-take c.args.size 89 c.args.place.now c.requires.size_le_largest_payload)); place_after = c.close_at.ensures }
