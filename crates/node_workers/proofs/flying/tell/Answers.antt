use Rattle.std.proofs.Common.{subst, sym}
use Rattle.node_workers.proofs.FlightLemmas.{answers_again, told_again, waits_again}
use Rattle.node_exchanges.specs.Calls.{FailsOnly}
use Rattle.node_workers.specs.Desks.{at_desk}
use Rattle.node_workers.proofs.flying.tell.Goals as goal

pub tell_once-requires-in-Ok : goal.tell_once-requires-in-Ok
tell_once-requires-in-Ok g c =
    let a = c.args in
    let before = a.pass.now in
    let mid = c.tell_once.new.pass in
    record {
      «open» = waits_again (at_desk a.desk.now) a.flight a.number a.came before.notes mid.notes before.receipts.items mid.receipts.items c.in-NoMemory.ensures.once c.requires.open;
      failure = subst FailsOnly (sym c.in-Ok.ensures) c.requires.failure;
      answers = answers_again (at_desk a.desk.now) a.flight a.number a.came before.notes mid.notes before.receipts.items mid.receipts.items c.in-NoMemory.ensures.once c.requires.open
          c.in-Ok.came c.in-Ok.ensures c.requires.answers;
    }

pub returns-in-Ok : goal.returns-in-Ok
returns-in-Ok g c =
    let a = c.args in
    let before = a.pass.now in
    let mid = c.tell_once.new.pass in
    let now = c.tell_once-in-Ok.new.pass in
    record {
      told = told_again (at_desk a.desk.now) a.flight a.number a.came before.notes mid.notes before.receipts.items mid.receipts.items c.in-NoMemory.ensures.once c.requires.open
          c.in-Ok.came now.notes now.receipts.items c.tell_once-in-Ok.result c.in-Ok.ensures c.tell_once-in-Ok.ensures.once;
    }
