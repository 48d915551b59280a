-- `journal::setting_rule` meets its contract: the rule of these weights, with that tie rule.
-- Assumes nothing.
use mathlib.Core.Path.{ap, ◌∙◌}
use Rattle.ranking.specs.Cells.{rule_of, tied_by}
use Rattle.journal.proofs.setting_rule.Goals as goal

pub returns : goal.returns
returns c = c.tied.ensures ∙ ap (tied_by c.args.s.ties) (c.of.ensures ∙ ap rule_of c.weights_of.ensures)
