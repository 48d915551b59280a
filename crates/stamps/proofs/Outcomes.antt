-- Any two outcomes that a contract allows are equal, since each contract is an equation.
-- Assumes nothing.
use mathlib.Core.Path.{sym, ◌∙◌}
use Rattle.laws.proofs.Outcomes.{OneAnswer}
use Rattle.stamps.proofs.Stamp.seconds.Kinds as seconds-kinds
use Rattle.stamps.proofs.Stamp.seconds.Reads as seconds-reads
use Rattle.stamps.proofs.Stamp.dated.Kinds as dated-kinds
use Rattle.stamps.proofs.Stamp.dated.Reads as dated-reads
use Rattle.stamps.proofs.Stamp.earliest.Kinds as earliest-kinds
use Rattle.stamps.proofs.Stamp.earliest.Reads as earliest-reads
use Rattle.stamps.proofs.Stamp.since.Kinds as since-kinds
use Rattle.stamps.proofs.Stamp.since.Reads as since-reads

seconds_once : OneAnswer 1 seconds-kinds.ps seconds-kinds.r seconds-reads.Post
seconds_once κs a x y s t p q = p ∙ sym q

dated_once : OneAnswer 2 dated-kinds.ps dated-kinds.r dated-reads.Post
dated_once κs a x y s t p q = p ∙ sym q

earliest_once : OneAnswer 0 earliest-kinds.ps earliest-kinds.r earliest-reads.Post
earliest_once κs a x y s t p q = p ∙ sym q

since_once : OneAnswer 0 since-kinds.ps since-kinds.r since-reads.Post
since_once κs a x y s t p q = p ∙ sym q
