use Rattle.std.proofs.Common.{List, map, sym, ap, ◌∙◌, subst}
use Rattle.key_labels.specs.Labels.{behind}
use Rattle.dependency_index.specs.Numbers.{Rises}
use Rattle.dependency_index.specs.Reads.{is_at, label_of, labels_with}
use Rattle.dependency_index.specs.declared.noted.Noted.{Noted}
use Rattle.dependency_index.proofs.PruneLemmas.{behind_rise, labels_behind}
use Rattle.dependency_index.proofs.index.forget.Goals as goal

pub prune_rows-requires-clause-known : goal.prune_rows-requires-clause-known
prune_rows-requires-clause-known c = rw c.deref.ensures.value c.requires.known

pub returns-clause-indexed : goal.returns-clause-indexed
returns-clause-indexed c =
    let order = c.args.order.now.labels in
    let ns = c.args.noted.now.items in
    let was = c.requires.indexed in
    let left = c.drop_before.ensures.items in
    let P : List Noted → Type 0 = λ l. Rises (map label_of l) in
    record {
      rising = subst P (sym left) (behind_rise order c.args.end ns was.rising);
      ordered = c.prune_rows.ensures.ordered;
      each = λ kind t k.
          c.prune_rows.ensures.each kind t k ∙ ap (behind order c.args.end) (was.each kind t k) ∙ labels_behind order c.args.end (is_at kind t k) ns
          ∙ sym (ap (labels_with (is_at kind t k)) left);
    }
