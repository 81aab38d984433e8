use Rattle.std.proofs.Common.{◌≡◌}
use Rattle.node_workers.proofs.FlightLemmas.{Waits}
use Rattle.node_workers.specs.Calling.{CountsCalls}
use Rattle.node_workers.specs.Desks.{at_desk}
use Rattle.node_workers.specs.Flying.{FliesOn}
use Rattle.node_workers.specs.declared.flying.Went.TheVariants.{Call}
use Rattle.node_workers.proofs.flying.fly.Given as goal

abbrev pub invariant-loop : goal.invariant-loop
invariant-loop g l =
    record {
      waits : Waits (at_desk l.desk) l.flight l.set l.fn.pass.notes.begun l.pass.notes.begun;
      receipts : l.pass.receipts.items ≡ l.fn.pass.receipts.items;
      told : FliesOn (at_desk l.desk) l.fn.pass.notes l.pass.notes l.fn.pass.receipts.items l.pass.receipts.items (g.L.Link.exchanges l.fn.link) (g.L.Link.exchanges l.link) (Call l.fn.flight l.fn.set) (Call l.flight l.set);
      counts : CountsCalls (at_desk l.desk) l.fn.pass.notes l.pass.notes (g.L.Link.exchanges l.fn.link) (g.L.Link.exchanges l.link);
    }
