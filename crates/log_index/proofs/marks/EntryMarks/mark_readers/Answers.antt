use Rattle.std.proofs.Common.{◌||◌, ap, ◌∙◌}
use Rattle.std.proofs.lemmas.Result.{on_ok_weaker}
use Rattle.log_index.specs.Marks.{is_marked, lacking, sees_behind}
use Rattle.log_index.proofs.BehindLemmas.{lacking_all}
use Rattle.log_index.proofs.marks.EntryMarks.mark_readers.Goals as goal

pub returns-clause-ok : goal.returns-clause-ok
returns-clause-ok c =
    let m = c.args.self.now in
    on_ok_weaker c.mark_apart.result
    (λ h q. h q ∙ ap (λ ws. is_marked q m.marks || sees_behind c.args.place ws m.reads q)
    (ap (λ others. lacking others c.args.writes.now) c.new-none.ensures ∙ lacking_all c.args.writes.now))
    c.mark_apart.ensures.ok
