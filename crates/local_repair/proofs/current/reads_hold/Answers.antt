use Rattle.std.proofs.Common.{refl, subst}
use Rattle.std.proofs.lemmas.List.Elements.{All-more}
use Rattle.execution.specs.HandedOn.{Gives}
use Rattle.log_index.specs.Rows.{rows_before}
use Rattle.local_repair.proofs.current.reads_hold.Goals as goal

pub loop-read-preserved : goal.loop-read-preserved
loop-read-preserved c =
    All-more (Gives (rows_before c.args.place c.args.rows.now)) c.args.reads.now c.loop-read.read-index c.read-item.result c.loop-read-test.true c.loop-read.invariant
    (subst (Gives (rows_before c.args.place c.args.rows.now)) c.read-item.is (c.if-not-gives.ensures.0 refl))
