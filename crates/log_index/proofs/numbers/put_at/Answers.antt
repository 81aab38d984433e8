use Rattle.std.proofs.Common.{drop, ap, ◌∙◌, arith}
use Rattle.dependency_index.proofs.HandedOn.{ok_is}
use Rattle.log_index.proofs.MarkLemmas.{put_behind_front}
use Rattle.log_index.proofs.numbers.put_at.Goals as goal

pub returns-clause-items : goal.returns-clause-items
returns-clause-items c =
    let place = c.requires.place in
    ap (drop c.args.gone) (ok_is c.insert.result _ _ _ (c.insert.ensures.succeeds (omega arith)) c.insert.ensures.items)
    ∙ put_behind_front c.args.gone c.args.at c.args.number c.args.numbers.now.items c.requires.within
