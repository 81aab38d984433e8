use Rattle.std.proofs.Common.{ap, ◌∙◌, sym}
use Rattle.lang_core.specs.Rows.{scan}
use Rattle.log_index.specs.Rows.{KeptWrites, label_at}
use Rattle.log_index.proofs.EditLemmas.{known_label}
use Rattle.log_index.proofs.PlaceLemmas.{rows_seen}
use Rattle.log_index.proofs.rows.EntryRows.scan_is.Goals as goal

pub scan_is-requires-clause-label : goal.scan_is-requires-clause-label
scan_is-requires-clause-label c =
    let vs = c.self.inside.versions.versions in
    known_label c.self.inside.order.labels vs c.self.invariant c.args.place c.label_at-label.result (c.label_at-label.ensures ∙ ap (label_at c.args.place) c.as_slice.ensures)

pub returns : goal.returns
returns c =
    let seen = rows_seen c.self.inside.order.labels c.self.inside.versions c.args.place c.label_at-label.result c.args.self.now (ap (λ (k : KeptWrites). k.base) c.self.view_is) c.self.invariant.rising
    (c.label_at-label.ensures ∙ ap (label_at c.args.place) c.as_slice.ensures) (ap (λ (k : KeptWrites). k.writes) c.self.view_is) in
    let same = ap (λ rows. scan rows c.args.table.now c.args.prefix.now) seen in
    (λ t. sym (c.scan_is.ensures.0 t ∙ same), λ e. c.scan_is.ensures.1 (sym (same ∙ e)))
