-- Any two outcomes that a contract allows are equal, since each says the answer by an equation.
-- Assumes nothing.
use mathlib.Core.Path.{sym, ◌∙◌}
use Rattle.laws.proofs.Outcomes.{OneAnswer}
use Rattle.coming.proofs.comes.Kinds as comes-kinds
use Rattle.coming.proofs.comes.Reads as comes-reads
use Rattle.coming.proofs.has_room.Kinds as has-room-kinds
use Rattle.coming.proofs.has_room.Reads as has-room-reads
use Rattle.coming.proofs.goes_on.Kinds as goes-on-kinds
use Rattle.coming.proofs.goes_on.Reads as goes-on-reads
use Rattle.coming.proofs.is_frame.Kinds as is-frame-kinds
use Rattle.coming.proofs.is_frame.Reads as is-frame-reads

comes_once : OneAnswer 1 comes-kinds.ps comes-kinds.r comes-reads.Post
comes_once κs a x y s t p q = p ∙ sym q

has_room_once : OneAnswer 0 has-room-kinds.ps has-room-kinds.r has-room-reads.Post
has_room_once κs a x y s t p q = p ∙ sym q

goes_on_once : OneAnswer 1 goes-on-kinds.ps goes-on-kinds.r goes-on-reads.Post
goes_on_once κs a x y s t p q = p ∙ sym q

is_frame_once : OneAnswer 0 is-frame-kinds.ps is-frame-kinds.r is-frame-reads.Post
is_frame_once κs a x y s t p q = p ∙ sym q
