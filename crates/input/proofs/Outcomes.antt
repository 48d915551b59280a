-- Any two outcomes that a contract allows are equal, since each contract is an equation: the answer, and every byte that was lent.
-- What `next` answers depends on what is read, which no contract settles: it is held to `Comes`.
-- Assumes nothing.
use Rattle.std.proofs.Common.{ℕ, List, sym, ◌∙◌}
use Rattle.laws.proofs.Outcomes.{OneAnswer, OneLeft}
use Rattle.input.proofs.Input.fresh.Kinds as fresh-kinds
use Rattle.input.proofs.Input.fresh.Reads as fresh-reads
use Rattle.input.proofs.Input.fits.Kinds as fits-kinds
use Rattle.input.proofs.Input.fits.Reads as fits-reads
use Rattle.input.proofs.Input.is_cut.Kinds as is-cut-kinds
use Rattle.input.proofs.Input.is_cut.Reads as is-cut-reads
use Rattle.input.proofs.Input.take.Kinds as take-kinds
use Rattle.input.proofs.Input.take.Reads as take-reads

fresh_once : OneAnswer 0 fresh-kinds.ps fresh-kinds.r fresh-reads.Post
fresh_once κs a x y s t p q = p ∙ sym q

fits_once : OneAnswer 0 fits-kinds.ps fits-kinds.r fits-reads.Post
fits_once κs a x y s t p q = p ∙ sym q

is_cut_once : OneAnswer 0 is-cut-kinds.ps is-cut-kinds.r is-cut-reads.Post
is_cut_once κs a x y s t p q = p ∙ sym q

take_once : OneAnswer 2 take-kinds.ps take-kinds.r take-reads.Post
take_once κs a x y s t p q = p.0 ∙ sym q.0

take_leaves_once : OneLeft 2 take-kinds.ps take-kinds.r take-reads.Post (List ℕ) (λ κs s. s.1.0.now)
take_leaves_once κs a x y s t p q = p.1 ∙ sym q.1
