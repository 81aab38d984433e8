use Rattle.std.proofs.Common.{List, subst}
use Rattle.std.proofs.lemmas.Result.{on_ok_weaker}
use Rattle.lang_core.specs.declared.writes.Write.{Write}
use Rattle.log_index.specs.Marks.{changes}
use Rattle.local_repair.specs.Held.{IsMarkedBehind}
use Rattle.local_repair.proofs.HeldLemmas.{marked_behind}
use Rattle.local_repair.proofs.remaking.mark_behind.Goals as goal

pub returns-clause-ok : goal.returns-clause-ok
returns-clause-ok c =
    let place = c.args.place in
    let was = c.writes_of-old.result.now in
    let now = c.args.made.now.trace.writes in
    let P : List Write → Type 0 = λ ws. IsMarkedBehind place ws now c.args.marks.now c.mark_changes.new.self in
    on_ok_weaker c.mark_changes.result
    (λ marks. subst P c.writes_of-old.ensures
    (record {
      old = c.as_slice-old.ensures.ordered;
      new = c.as_slice-new.ensures.ordered;
      marked = marked_behind place (changes was now) c.args.marks.now c.mark_changes.new.self c.mark_changes.ensures.reads marks;
    }))
    c.mark_changes.ensures.ok
