use Rattle.std.proofs.Common.{sym}
use Rattle.preview_core.proofs.DifferenceLemmas.{drop_alone, drop_before, put_alone, put_before, put_instead_ordered}
use Rattle.preview_core.proofs.difference.differ_first.Goals as goal

pub push_put-requires : goal.push_put-requires
push_put-requires c =
    put_alone c.args.writes.now c.args.old.now c.args.new.now c.requires c.in-Some-split_first.is'.now c.in-Some-split_first.news.now
    c.in-None.ensures.cases c.in-Some-split_first.ensures.cases.0

pub push_dropped-requires : goal.push_dropped-requires
push_dropped-requires c =
    drop_alone c.args.writes.now c.args.old.now c.args.new.now c.requires c.in-Some.was.now c.in-Some.olds.now
    c.in-Some.ensures.cases.0 c.in-None-split_first-2.ensures.cases

pub push_dropped-requires-in-Less : goal.push_dropped-requires-in-Less
push_dropped-requires-in-Less c =
    drop_before c.args.writes.now c.args.old.now c.args.new.now c.requires c.in-Some.was.now c.in-Some-split_first-2.is'.now c.in-Some.olds.now
    c.in-Some-split_first-2.news.now c.in-Some.ensures.cases.0 c.in-Some-split_first-2.ensures.cases.0 (sym c.in-Less.ensures)

pub push_other-requires : goal.push_other-requires
push_other-requires c =
    put_instead_ordered c.args.writes.now c.args.old.now c.args.new.now c.requires c.in-Some.was.now c.in-Some-split_first-2.is'.now c.in-Some.olds.now
    c.in-Some-split_first-2.news.now c.in-Some.ensures.cases.0 c.in-Some-split_first-2.ensures.cases.0 (sym c.in-Equal.ensures)

pub push_put-requires-in-Greater : goal.push_put-requires-in-Greater
push_put-requires-in-Greater c =
    put_before c.args.writes.now c.args.old.now c.args.new.now c.requires c.in-Some.was.now c.in-Some-split_first-2.is'.now c.in-Some.olds.now
    c.in-Some-split_first-2.news.now c.in-Some.ensures.cases.0 c.in-Some-split_first-2.ensures.cases.0 (sym c.in-Greater.ensures)
