use Rattle.std.proofs.Common.{◌&&◌, ◌||◌, [], nat_lt, get_or, ap, ◌∙◌}
use Rattle.std.proofs.lemmas.Result.{on_ok_weaker, on_err_weaker}
use Rattle.log_index.specs.Marks.{is_marked, lacking}
use Rattle.log_index.proofs.BehindLemmas.{marked_both, one_key, still_marked}
use Rattle.log_index.proofs.marks.EntryMarks.mark_changes.Goals as goal

pub returns-then-write_one_key-clause-ok : goal.returns-then-write_one_key-clause-ok
returns-then-write_one_key-clause-ok c = λ q.
    let m = c.args.self.now in
    let same = rw (c.as_slice.ensures.items, c.as_slice-2.ensures.items) at (c.write_one_key.ensures c.if-write_one_key.true) in
    c.in_ok-mark_apart.ensures.ok q
    ∙ ap (λ b. is_marked q m.marks || (nat_lt c.args.place q && b)) (one_key c.args.old.now c.args.new.now same (get_or m.reads q []))

pub returns-clause-ok : goal.returns-clause-ok
returns-clause-ok c =
    let old = c.args.old.now in
    let new = c.args.new.now in
    on_ok_weaker c.mark_apart-2.result
    (λ h q. marked_both c.args.self.now c.mark_apart.new.self c.mark_apart-2.new.self c.args.place (lacking new old) (lacking old new)
    c.mark_apart.ensures.reads c.in_ok-mark_apart.ensures.ok h q)
    c.mark_apart-2.ensures.ok

pub returns-clause-err : goal.returns-clause-err
returns-clause-err c =
    let m = c.args.self.now in
    on_err_weaker c.mark_apart-2.result
    (λ h q t. h q (still_marked m.marks c.mark_apart.new.self.marks m.reads c.args.place (lacking c.args.new.now c.args.old.now) c.in_ok-mark_apart.ensures.ok q t))
    c.mark_apart-2.ensures.err
