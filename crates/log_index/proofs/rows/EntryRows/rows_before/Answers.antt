use Rattle.std.proofs.Common.{ap, ◌∙◌}
use Rattle.std.proofs.lemmas.Result.{IfOk-weaker}
use Rattle.log_index.specs.Rows.{KeptWrites, label_at}
use Rattle.log_index.proofs.EditLemmas.{known_label}
use Rattle.log_index.proofs.PlaceLemmas.{rows_seen}
use Rattle.log_index.proofs.rows.EntryRows.rows_before.Goals as goal

pub rows_before-requires-clause-label : goal.rows_before-requires-clause-label
rows_before-requires-clause-label c =
    let vs = c.self.inside.versions.versions in
    known_label c.self.inside.order.labels vs c.self.invariant c.args.place c.label_at-label.result (c.label_at-label.ensures ∙ ap (label_at c.args.place) c.as_slice.ensures)

pub returns : goal.returns
returns c =
    let seen = rows_seen c.self.inside.order.labels c.self.inside.versions c.args.place c.label_at-label.result c.args.self.now (ap (λ (k : KeptWrites). k.base) c.self.view_is) c.self.invariant.rising
    (c.label_at-label.ensures ∙ ap (label_at c.args.place) c.as_slice.ensures) (ap (λ (k : KeptWrites). k.writes) c.self.view_is) in
    IfOk-weaker c.rows_before.result _ _ (λ rows h. h ∙ seen) c.rows_before.ensures
