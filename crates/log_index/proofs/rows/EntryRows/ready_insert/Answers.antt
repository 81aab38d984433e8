use Rattle.std.proofs.Common.{sym, ap, ◌∙◌, length}
use Rattle.log_index.specs.Rows.{writes_of, label_at, call_before, call_at}
use Rattle.log_index.proofs.EditLemmas.{call_is}
use Rattle.log_index.proofs.ReadyLemmas.{ready_insert}
use Rattle.log_index.proofs.rows.EntryRows.ready_insert.Goals as goal

pub returns-clause-ok : goal.returns-clause-ok
returns-clause-ok c =
    let vs = c.self.inside.versions.versions in
    let place = c.args.place in
    ready_insert c.ready_write_at.result place c.args.writes.now (call_before c.label_at-next.result) c.self.inside.order.room c.self.inside.versions.room
    (record { base = c.ready_write_at.new.self.base; writes = writes_of c.ready_write_at.new.self.versions; places = c.ready_label.new.order.room; copies = c.ready_write_at.new.self.room })
    (ap call_before (c.label_at-next.ensures ∙ ap (label_at place) c.as_slice.ensures) ∙ call_is vs place ∙ ap (λ v. call_at place (length (writes_of v))) (sym c.ready_write_at.ensures.versions))
    c.in_ok-ready_label.ensures.ok c.ready_write_at.ensures.ok
