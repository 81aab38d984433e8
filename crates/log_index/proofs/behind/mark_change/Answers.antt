use Rattle.std.proofs.Common.{◌||◌, nat_lt, sym, ap, ◌∙◌}
use Rattle.std.proofs.lemmas.Result.{on_ok_weaker}
use Rattle.log_index.specs.Marks.{is_marked, reads_by, sees_behind}
use Rattle.log_index.proofs.BehindLemmas.{lacking_none, lacking_one, nothing_seen}
use Rattle.log_index.proofs.behind.mark_change.Goals as goal

pub returns-then-is_among-clause-ok : goal.returns-then-is_among-clause-ok
returns-then-is_among-clause-ok c = λ q.
    let marks = c.args.marks.now.items in
    let reads = reads_by c.args.index.now.reads c.args.places.now.labels in
    nothing_seen (is_marked q marks) (nat_lt c.args.place q)
    ∙ ap (λ ws. is_marked q marks || sees_behind c.args.place ws reads q) (sym (lacking_none c.args.others.now c.args.write.now (sym c.is_among.ensures ∙ c.if-is_among.true)))

pub returns-clause-ok : goal.returns-clause-ok
returns-clause-ok c =
    let marks = c.args.marks.now.items in
    let reads = reads_by c.args.index.now.reads c.args.places.now.labels in
    on_ok_weaker c.mark_write.result
    (λ h q. h q ∙ ap (λ ws. is_marked q marks || sees_behind c.args.place ws reads q) (sym (lacking_one c.args.others.now c.args.write.now (sym c.is_among.ensures ∙ c.if-is_among.false))))
    c.mark_write.ensures.ok
