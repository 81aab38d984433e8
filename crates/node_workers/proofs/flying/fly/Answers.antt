use Rattle.std.proofs.Common.{refl}
use Rattle.node_workers.proofs.CallLemmas.{counts_none, counts_on}
use Rattle.node_workers.proofs.CommitLemmas.{flies_not, flies_until_call, flies_until_commit, flies_until_gone, flies_until_want}
use Rattle.node_workers.proofs.FlightLemmas.{call_goes_on, commit_ends, flown, gone_ends, memory_ends, open_still, waits_now}
use Rattle.node_workers.specs.Desks.{at_desk}
use Rattle.node_workers.specs.declared.flying.Went.TheVariants as went
use Rattle.node_workers.proofs.flying.fly.Goals as goal

pub loop-init : goal.loop-init
loop-init g c =
    let pass = c.args.pass.now in
    let link = g.L.Link.exchanges c.args.link.now in
    record {
      waits = c.requires.waits;
      receipts = refl;
      told = flies_not (at_desk c.args.desk.now) pass.notes pass.receipts.items link (went.Call c.args.flight c.args.set);
      counts = counts_none (at_desk c.args.desk.now) pass.notes pass.notes link link refl refl refl;
    }

pub send-requires : goal.send-requires
send-requires g c =
    let at = c.loop in
    record { waits = waits_now (at_desk c.args.desk.now) at.flight at.set c.args.pass.now.notes.begun at.pass.notes.begun at.invariant.waits }

pub returns-in-Committed : goal.returns-in-Committed
returns-in-Committed g c =
    let e = at_desk c.args.desk.now in
    let first = c.args.pass.now in
    let at = c.loop in
    let now = c.send.new.pass in
    let index = c.in-Committed.index in
    let made = c.in-Committed.ensures in
    let goes = flown e at.flight at.set first.notes.begun at.pass.notes.begun now.notes first.receipts.items at.pass.receipts.items now.receipts.items (went.Committed index)
    at.invariant.receipts at.invariant.waits made.went in
    let end = commit_ends e at.flight first.notes.begun now.notes first.receipts.items now.receipts.items index goes in
    record {
      ends = end.0;
      closed = end.1;
      told = flies_until_commit e c.args.flight at.flight c.args.set at.set first.notes at.pass.notes now.notes first.receipts.items at.pass.receipts.items now.receipts.items
          (g.L.Link.exchanges c.args.link.now) (g.L.Link.exchanges at.link) (g.L.Link.exchanges c.send.new.link) at.invariant.told index made.told;
      counts = counts_on e first.notes at.pass.notes now.notes (g.L.Link.exchanges c.args.link.now) (g.L.Link.exchanges at.link) (g.L.Link.exchanges c.send.new.link)
          at.invariant.counts made.counts;
    }

pub returns-in-Gone : goal.returns-in-Gone
returns-in-Gone g c =
    let e = at_desk c.args.desk.now in
    let first = c.args.pass.now in
    let at = c.loop in
    let now = c.send.new.pass in
    let made = c.in-Gone.ensures in
    let goes = flown e at.flight at.set first.notes.begun at.pass.notes.begun now.notes first.receipts.items at.pass.receipts.items now.receipts.items went.Gone
    at.invariant.receipts at.invariant.waits made.went in
    let end = gone_ends e at.flight first.notes.begun now.notes first.receipts.items now.receipts.items goes in
    record {
      ends = end.0;
      closed = end.1;
      told = flies_until_gone e c.args.flight at.flight c.args.set at.set first.notes at.pass.notes now.notes first.receipts.items at.pass.receipts.items now.receipts.items
          (g.L.Link.exchanges c.args.link.now) (g.L.Link.exchanges at.link) (g.L.Link.exchanges c.send.new.link) at.invariant.told made.told;
      counts = counts_on e first.notes at.pass.notes now.notes (g.L.Link.exchanges c.args.link.now) (g.L.Link.exchanges at.link) (g.L.Link.exchanges c.send.new.link)
          at.invariant.counts made.counts;
    }

pub give_up-requires : goal.give_up-requires
give_up-requires g c =
    let e = at_desk c.args.desk.now in
    let first = c.args.pass.now in
    let at = c.loop in
    let now = c.send.new.pass in
    let goes = flown e at.flight at.set first.notes.begun at.pass.notes.begun now.notes first.receipts.items at.pass.receipts.items now.receipts.items went.NoMemory
    at.invariant.receipts at.invariant.waits c.in-NoMemory.ensures.went in
    record { «open» = open_still e at.flight first.notes.begun now.notes first.receipts.items now.receipts.items goes }

pub returns-in-NoMemory : goal.returns-in-NoMemory
returns-in-NoMemory g c =
    let e = at_desk c.args.desk.now in
    let first = c.args.pass.now in
    let at = c.loop in
    let now = c.send.new.pass in
    let last = c.give_up.new.pass in
    let made = c.in-NoMemory.ensures in
    let up = c.give_up.ensures.up in
    let link = g.L.Link.exchanges c.send.new.link in
    let start = g.L.Link.exchanges c.args.link.now in
    let goes = flown e at.flight at.set first.notes.begun at.pass.notes.begun now.notes first.receipts.items at.pass.receipts.items now.receipts.items went.NoMemory
    at.invariant.receipts at.invariant.waits made.went in
    record {
      ends = memory_ends e at.flight first.notes.begun now.notes first.receipts.items now.receipts.items last.notes last.receipts.items goes c.give_up.ensures.receipts;
      closed = up.closed;
      told = flies_until_want e c.args.flight at.flight c.args.set at.set first.notes at.pass.notes now.notes first.receipts.items at.pass.receipts.items now.receipts.items start
          (g.L.Link.exchanges at.link) link at.invariant.told last.notes last.receipts.items made.told c.give_up.ensures.made;
      counts = counts_on e first.notes now.notes last.notes start link link
          (counts_on e first.notes at.pass.notes now.notes start (g.L.Link.exchanges at.link) link at.invariant.counts made.counts)
          (counts_none e now.notes last.notes link link up.lost up.refused refl);
    }

pub loop-preserved : goal.loop-preserved
loop-preserved g c =
    let e = at_desk c.args.desk.now in
    let first = c.args.pass.now in
    let at = c.loop in
    let now = c.send.new.pass in
    let next = c.in-Call.next in
    let set = c.in-Call.then in
    let made = c.in-Call.ensures in
    let goes = flown e at.flight at.set first.notes.begun at.pass.notes.begun now.notes first.receipts.items at.pass.receipts.items now.receipts.items (went.Call next set)
    at.invariant.receipts at.invariant.waits made.went in
    let on = call_goes_on e at.flight first.notes.begun now.notes first.receipts.items now.receipts.items next set goes in
    record {
      waits = on.0;
      receipts = on.1;
      told = flies_until_call e c.args.flight at.flight c.args.set at.set first.notes at.pass.notes now.notes first.receipts.items at.pass.receipts.items now.receipts.items
          (g.L.Link.exchanges c.args.link.now) (g.L.Link.exchanges at.link) (g.L.Link.exchanges c.send.new.link) at.invariant.told next set made.told;
      counts = counts_on e first.notes at.pass.notes now.notes (g.L.Link.exchanges c.args.link.now) (g.L.Link.exchanges at.link) (g.L.Link.exchanges c.send.new.link)
          at.invariant.counts made.counts;
    }
