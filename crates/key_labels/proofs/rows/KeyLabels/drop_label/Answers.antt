use Rattle.std.proofs.Common.{rules}
use Rattle.std.proofs.lemmas.Fn.{filter_same}
use Rattle.key_labels.specs.Labels.{is_other}
use Rattle.key_labels.proofs.rows.KeyLabels.drop_label.Goals as goal

pub returns-clause-labels : goal.returns-clause-labels
returns-clause-labels c = filter_same _ (is_other c.args.label) _ (λ x b f' k. search rules) _ _ c.retain.ensures.filtered
