-- `journal::rule_in` meets its contract: the rule of the question in the value.
-- Assumes nothing.
use mathlib.Core.Path.{ap, ◌∙◌}
use Rattle.journal.specs.Log.{setting_rule}
use Rattle.journal.proofs.rule_in.Goals as goal

pub returns : goal.returns
returns c = c.setting_rule.ensures ∙ ap setting_rule c.read.ensures
