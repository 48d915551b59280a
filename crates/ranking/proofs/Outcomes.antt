-- Any two outcomes that a contract allows are equal, since each contract is an equation.
-- Assumes nothing.
use mathlib.Core.Path.{sym, ◌∙◌}
use Rattle.laws.proofs.Outcomes.{OneAnswer}
use Rattle.ranking.proofs.Rule.of.Kinds as made-kinds
use Rattle.ranking.proofs.Rule.of.Reads as made_reads
use Rattle.ranking.proofs.Rule.none.Kinds as none-kinds
use Rattle.ranking.proofs.Rule.none.Reads as none_reads
use Rattle.ranking.proofs.Rule.is_none.Kinds as is-none-kinds
use Rattle.ranking.proofs.Rule.is_none.Reads as is-none-reads
use Rattle.ranking.proofs.Rule.fit.Kinds as fit-kinds
use Rattle.ranking.proofs.Rule.fit.Reads as fit-reads
use Rattle.ranking.proofs.Rule.score.Kinds as score-kinds
use Rattle.ranking.proofs.Rule.score.Reads as score-reads
use Rattle.ranking.proofs.Rule.above.Kinds as above-kinds
use Rattle.ranking.proofs.Rule.above.Reads as above-reads
use Rattle.ranking.proofs.Rule.passes.Kinds as passes-kinds
use Rattle.ranking.proofs.Rule.passes.Reads as passes-reads
use Rattle.ranking.proofs.Rule.has_place.Kinds as has-place-kinds
use Rattle.ranking.proofs.Rule.has_place.Reads as has-place-reads
use Rattle.ranking.proofs.Rule.best_score.Kinds as best-score-kinds
use Rattle.ranking.proofs.Rule.best_score.Reads as best-score-reads
use Rattle.ranking.proofs.Rule.before.Kinds as earlier-kinds
use Rattle.ranking.proofs.Rule.before.Reads as earlier-reads
use Rattle.ranking.proofs.Rule.first_cell.Kinds as first-cell-kinds
use Rattle.ranking.proofs.Rule.first_cell.Reads as first-cell-reads
use Rattle.ranking.proofs.Rule.next_cell.Kinds as next-cell-kinds
use Rattle.ranking.proofs.Rule.next_cell.Reads as next-cell-reads
use Rattle.ranking.proofs.Rule.reach.Kinds as reach-kinds
use Rattle.ranking.proofs.Rule.reach.Reads as reach-reads
use Rattle.ranking.proofs.Ranges.whole.Kinds as whole_Kinds
use Rattle.ranking.proofs.Ranges.whole.Reads as whole-reads
use Rattle.ranking.proofs.Rule.within.Kinds as within-kinds
use Rattle.ranking.proofs.Rule.within.Reads as within-reads
use Rattle.ranking.proofs.Rule.weights_fit.Kinds as weights-fit-kinds
use Rattle.ranking.proofs.Rule.weights_fit.Reads as weights-fit-reads
use Rattle.ranking.proofs.Rule.ranges_proper.Kinds as ranges-proper-kinds
use Rattle.ranking.proofs.Rule.ranges_proper.Reads as ranges-proper-reads
use Rattle.ranking.proofs.Rule.tied.Kinds as tied-kinds
use Rattle.ranking.proofs.Rule.tied.Reads as tied-reads
use Rattle.ranking.proofs.Rule.ties_known.Kinds as ties-known-kinds
use Rattle.ranking.proofs.Rule.ties_known.Reads as ties-known-reads
use Rattle.ranking.proofs.Rule.later_first.Kinds as later-first-kinds
use Rattle.ranking.proofs.Rule.later_first.Reads as later-first-reads
use Rattle.ranking.proofs.Rule.score_from.Kinds as score-from-kinds
use Rattle.ranking.proofs.Rule.score_from.Reads as score-from-reads
use Rattle.ranking.proofs.Weights.might_pass.Kinds as might-pass-kinds
use Rattle.ranking.proofs.Weights.might_pass.Reads as might-pass-reads
use Rattle.ranking.proofs.Rule.cell_counts.Kinds as cell-counts-kinds
use Rattle.ranking.proofs.Rule.cell_counts.Reads as cell-counts-reads
use Rattle.ranking.proofs.Rule.in_order.Kinds as in-order-kinds
use Rattle.ranking.proofs.Rule.in_order.Reads as in-order-reads
use Rattle.ranking.proofs.Rule.most_steps.Kinds as most-steps-kinds
use Rattle.ranking.proofs.Rule.most_steps.Reads as most-steps-reads
use Rattle.ranking.proofs.Rule.steps_to.Kinds as steps-to-kinds
use Rattle.ranking.proofs.Rule.steps_to.Reads as steps-to-reads
use Rattle.ranking.proofs.Grid.cell.Kinds as cell-kinds
use Rattle.ranking.proofs.Grid.cell.Reads as cell-reads

made_once : OneAnswer 0 made-kinds.ps made-kinds.r made_reads.Post
made_once κs a x y s t p q = p ∙ sym q

none_once : OneAnswer 0 none-kinds.ps none-kinds.r none_reads.Post
none_once κs a x y s t p q = p ∙ sym q

is_none_once : OneAnswer 0 is-none-kinds.ps is-none-kinds.r is-none-reads.Post
is_none_once κs a x y s t p q = p ∙ sym q

fit_once : OneAnswer 0 fit-kinds.ps fit-kinds.r fit-reads.Post
fit_once κs a x y s t p q = p ∙ sym q

score_once : OneAnswer 0 score-kinds.ps score-kinds.r score-reads.Post
score_once κs a x y s t p q = p ∙ sym q

above_once : OneAnswer 0 above-kinds.ps above-kinds.r above-reads.Post
above_once κs a x y s t p q = p ∙ sym q

passes_once : OneAnswer 0 passes-kinds.ps passes-kinds.r passes-reads.Post
passes_once κs a x y s t p q = p ∙ sym q

has_place_once : OneAnswer 0 has-place-kinds.ps has-place-kinds.r has-place-reads.Post
has_place_once κs a x y s t p q = p ∙ sym q

best_score_once : OneAnswer 0 best-score-kinds.ps best-score-kinds.r best-score-reads.Post
best_score_once κs a x y s t p q = p ∙ sym q

earlier_once : OneAnswer 0 earlier-kinds.ps earlier-kinds.r earlier-reads.Post
earlier_once κs a x y s t p q = p ∙ sym q

first_cell_once : OneAnswer 0 first-cell-kinds.ps first-cell-kinds.r first-cell-reads.Post
first_cell_once κs a x y s t p q = p ∙ sym q

next_cell_once : OneAnswer 0 next-cell-kinds.ps next-cell-kinds.r next-cell-reads.Post
next_cell_once κs a x y s t p q = p ∙ sym q

reach_once : OneAnswer 0 reach-kinds.ps reach-kinds.r reach-reads.Post
reach_once κs a x y s t p q = p ∙ sym q

whole_once : OneAnswer 0 whole_Kinds.ps whole_Kinds.r whole-reads.Post
whole_once κs a x y s t p q = p ∙ sym q

within_once : OneAnswer 0 within-kinds.ps within-kinds.r within-reads.Post
within_once κs a x y s t p q = p ∙ sym q

weights_fit_once : OneAnswer 0 weights-fit-kinds.ps weights-fit-kinds.r weights-fit-reads.Post
weights_fit_once κs a x y s t p q = p ∙ sym q

ranges_proper_once : OneAnswer 0 ranges-proper-kinds.ps ranges-proper-kinds.r ranges-proper-reads.Post
ranges_proper_once κs a x y s t p q = p ∙ sym q

tied_once : OneAnswer 0 tied-kinds.ps tied-kinds.r tied-reads.Post
tied_once κs a x y s t p q = p ∙ sym q

ties_known_once : OneAnswer 0 ties-known-kinds.ps ties-known-kinds.r ties-known-reads.Post
ties_known_once κs a x y s t p q = p ∙ sym q

later_first_once : OneAnswer 0 later-first-kinds.ps later-first-kinds.r later-first-reads.Post
later_first_once κs a x y s t p q = p ∙ sym q

score_from_once : OneAnswer 0 score-from-kinds.ps score-from-kinds.r score-from-reads.Post
score_from_once κs a x y s t p q = p.0 ∙ sym q.0

might_pass_once : OneAnswer 0 might-pass-kinds.ps might-pass-kinds.r might-pass-reads.Post
might_pass_once κs a x y s t p q = p ∙ sym q

cell_counts_once : OneAnswer 0 cell-counts-kinds.ps cell-counts-kinds.r cell-counts-reads.Post
cell_counts_once κs a x y s t p q = p ∙ sym q

in_order_once : OneAnswer 0 in-order-kinds.ps in-order-kinds.r in-order-reads.Post
in_order_once κs a x y s t p q = p ∙ sym q

most_steps_once : OneAnswer 0 most-steps-kinds.ps most-steps-kinds.r most-steps-reads.Post
most_steps_once κs a x y s t p q = p ∙ sym q

steps_to_once : OneAnswer 0 steps-to-kinds.ps steps-to-kinds.r steps-to-reads.Post
steps_to_once κs a x y s t p q = p ∙ sym q

cell_once : OneAnswer 0 cell-kinds.ps cell-kinds.r cell-reads.Post
cell_once κs a x y s t p q = p ∙ sym q
