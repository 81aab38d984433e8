use Rattle.std.proofs.Common.{cond, ◌&&◌, sym, ap, ◌∙◌}
use Rattle.std.specs.List.{list_any}
use Rattle.key_labels.specs.Labels.{behind}
use Rattle.dependency_index.specs.Reads.{is_at}
use Rattle.dependency_index.specs.Rows.{labels_by}
use Rattle.dependency_index.proofs.prune.prune_noted.Goals as goal

pub prune_reads-requires-clause-prunable : goal.prune_reads-requires-clause-prunable
prune_reads-requires-clause-prunable c = λ kind t k h. c.requires.prunable kind t k (ap (list_any (is_at kind t k)) (sym c.as_slice.ensures) ∙ h)

pub returns-then-is_before-clause-each : goal.returns-then-is_before-clause-each
returns-then-is_before-clause-each c = λ kind t k.
    let each = rw c.as_slice.ensures at c.prune_reads.ensures.each in
    let row = labels_by c.args.rows.now kind t k in
    each kind t k
    ∙ ap (λ b. cond (b && list_any (is_at kind t k) c.args.own.now.reads) (behind c.args.order.now.labels c.args.end row) row) (sym c.if-is_before.true ∙ c.is_before.ensures)

pub returns-else-is_before-clause-each : goal.returns-else-is_before-clause-each
returns-else-is_before-clause-each c = λ kind t k.
    let row = labels_by c.args.rows.now kind t k in
    ap (λ b. cond (b && list_any (is_at kind t k) c.args.own.now.reads) (behind c.args.order.now.labels c.args.end row) row) (sym c.if-is_before.false ∙ c.is_before.ensures)
