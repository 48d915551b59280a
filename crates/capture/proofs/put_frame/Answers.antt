-- `capture::put_frame` meets its contract: the item of the time, the identifier and the eight bytes is what is put for a frame that is asked for.
-- Assumes nothing.
use Rattle.std.proofs.Common.{◌≡◌, sym, arith, false, refl}
use Rattle.std.proofs.lemmas.Grind.{common_steps}
use Rattle.items.specs.Run.{run_bytes}
use Rattle.stamps.specs.declared.Since.{Since}
use Rattle.stamps.specs.declared.Since.TheVariants as since
use Rattle.capture.specs.declared.Sort.TheVariants as sort
use Rattle.capture.specs.Capture.{data_text, bytes_in, is_beyond, is_foreign, frame_for}
use Rattle.capture.proofs.Texts.{eight_stored}
use Rattle.capture.proofs.put_frame.Goals as goal

in_time : (t : Since) → (t ≡ since.Beyond → ⊥) → is_beyond t ≡ false
in_time since.Unknown h = refl
in_time (since.At ms) h = refl
in_time since.Beyond h = absurd (h refl)

pub returns-then-marked : goal.returns-then-marked
unfolding frame_for is_foreign run_bytes
returns-then-marked c =
    let eight : c.eight_bytes-bytes.result ≡ bytes_in (data_text c.args.word.now) = eight_stored (data_text c.args.word.now) c.requires (grind (arith, common_steps)) in
    let early = in_time c.args.time c.in_default.not-Beyond in
    let which : frame_for c.args.ours c.args.time c.args.word.now ≡ sort.Marked = grind (arith, common_steps, early, eight) in
    record { value = sym which; room_after = rw which (grind (arith, common_steps, eight)) }

pub returns-else-marked : goal.returns-else-marked
unfolding frame_for is_foreign run_bytes
returns-else-marked c =
    let eight : c.eight_bytes-bytes.result ≡ bytes_in (data_text c.args.word.now) = eight_stored (data_text c.args.word.now) c.requires (grind (arith, common_steps)) in
    let early = in_time c.args.time c.in_default.not-Beyond in
    let which : frame_for c.args.ours c.args.time c.args.word.now ≡ sort.Frame = grind (arith, common_steps, early, eight) in
    record { value = sym which; room_after = rw which (grind (arith, common_steps, eight)) }
