use Rattle.std.proofs.Common.{◌<◌, ℕ, List, cond, length, take, sym, ap, ◌∙◌, subst, arith}
use Rattle.std.specs.List.{list_any, Contains}
use Rattle.std.proofs.lemmas.List.{get_or-map, length-map, take_all}
use Rattle.key_labels.specs.Labels.{behind}
use Rattle.dependency_index.specs.Reads.{is_at, label_of, reads_before}
use Rattle.dependency_index.specs.Rows.{IsPrunable, labels_by}
use Rattle.dependency_index.proofs.LoopLemmas.{edit_more}
use Rattle.dependency_index.proofs.PruneLemmas.{all_pruned, behind_twice, noted_prunable, prunable_still}
use Rattle.dependency_index.proofs.prune.prune_rows.Goals as goal

pub prune_noted-requires-clause-ordered : goal.prune_noted-requires-clause-ordered
prune_noted-requires-clause-ordered c = c.loop-own.invariant.ordered

pub prune_noted-requires-clause-label : goal.prune_noted-requires-clause-label
prune_noted-requires-clause-label c =
    let ns = c.args.noted.now in
    let i = c.loop-own.own-index in
    let own = c.own-item.result in
    let lt : i < length ns = omega arith in
    let many = length-map ns label_of in
    let P : ℕ → Type 0 = λ x. Contains c.args.order.now.labels x in
    subst P (get_or-map label_of ns i own 0 lt ∙ ap label_of (sym c.own-item.is)) (c.requires.known i 0 (omega arith))

pub prune_noted-requires-clause-prunable : goal.prune_noted-requires-clause-prunable
prune_noted-requires-clause-prunable c = λ kind t k h.
    let ns = c.args.noted.now in
    let i = c.loop-own.own-index in
    let own = c.own-item.result in
    let lt : i < length ns = omega arith in
    let order = c.args.order.now.labels in
    let P : List ℕ → Type 0 = λ l. IsPrunable order c.args.end (label_of own) l in
    prunable_still order c.args.end (label_of own) (list_any (reads_before order c.args.end kind t k) (take i ns)) (labels_by c.args.rows.now kind t k) (labels_by c.loop-own.rows kind t k)
    (c.loop-own.invariant.each kind t k)
    (subst P (sym (c.requires.indexed.each kind t k)) (noted_prunable order c.args.end (is_at kind t k) ns i own c.requires.indexed.rising c.requires.known lt c.own-item.is h))

pub loop-own-preserved : goal.loop-own-preserved
loop-own-preserved c =
    let lt : c.loop-own.own-index < length c.args.noted.now = omega arith in
    let order = c.args.order.now.labels in
    record {
      ordered = c.prune_noted.ensures.ordered;
      each = edit_more (behind order c.args.end) (behind_twice order c.args.end) (reads_before order c.args.end) c.args.rows.now c.loop-own.rows c.prune_noted.new.rows
          c.args.noted.now c.loop-own.own-index c.own-item.result lt c.own-item.is c.loop-own.invariant.each c.prune_noted.ensures.each;
      spare = λ kind t k. let a = c.prune_noted.ensures.spare kind t k in let b = c.loop-own.invariant.spare kind t k in omega arith;
    }

pub returns-clause-each : goal.returns-clause-each
returns-clause-each c = λ kind t k.
    let ns = c.args.noted.now in
    let order = c.args.order.now.labels in
    let row = labels_by c.args.rows.now kind t k in
    let whole = take_all c.loop-own.own-index ns (omega arith) in
    all_pruned order c.args.end (is_at kind t k) ns row (labels_by c.loop-own.rows kind t k) (c.requires.indexed.each kind t k)
    (c.loop-own.invariant.each kind t k ∙ ap (λ l. cond (list_any (reads_before order c.args.end kind t k) l) (behind order c.args.end row) row) whole)
