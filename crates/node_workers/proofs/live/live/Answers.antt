use Rattle.std.proofs.Common.{refl}
use Rattle.node_workers.proofs.CallLemmas.{counts_none, counts_on}
use Rattle.node_workers.proofs.CommitLemmas.{ends_at_once, ends_flown}
use Rattle.node_workers.proofs.ArrivalLemmas.{arrival_ends}
use Rattle.node_workers.proofs.FlightLemmas.{waits_on}
use Rattle.node_workers.specs.Desks.{at_desk}
use Rattle.node_workers.proofs.live.live.Goals as goal

pub fly-requires : goal.fly-requires
fly-requires g c =
    let a = c.args in
    record {
      waits = waits_on (at_desk a.desk.now) a.origin a.request a.inputs c.arrive.new.pass.notes.begun c.in-Call.flight c.in-Call.set c.in-Call.ensures.begins.0;
    }

pub returns-in-Ended-clause-told : goal.returns-in-Ended-clause-told
returns-in-Ended-clause-told g c =
    let a = c.args in
    let now = c.arrive.new.pass in
    ends_at_once (at_desk a.desk.now) a.origin a.request a.inputs a.pass.now.notes a.pass.now.receipts.items now.notes now.receipts.items (g.L.Link.exchanges a.link.now)
    c.in-Ended.ending c.in-Ended.ensures.arrival

pub returns-in-Call-clause-told : goal.returns-in-Call-clause-told
returns-in-Call-clause-told g c =
    let a = c.args in
    let mid = c.arrive.new.pass in
    let now = c.fly.new.pass in
    ends_flown (at_desk a.desk.now) a.origin a.request a.inputs a.pass.now.notes a.pass.now.receipts.items mid.notes now.notes mid.receipts.items now.receipts.items
    (g.L.Link.exchanges a.link.now) (g.L.Link.exchanges c.fly.new.link) c.in-Call.flight c.in-Call.set c.fly.result c.in-Call.ensures.arrival c.fly.ensures.told

pub returns-in-Ended-clause-counts : goal.returns-in-Ended-clause-counts
returns-in-Ended-clause-counts g c =
    let link = g.L.Link.exchanges c.args.link.now in
    counts_none (at_desk c.args.desk.now) c.args.pass.now.notes c.arrive.new.pass.notes link link c.arrive.ensures.lost c.arrive.ensures.refused refl

pub returns-in-Call-clause-ends : goal.returns-in-Call-clause-ends
returns-in-Call-clause-ends g c =
    let a = c.args in
    let mid = c.arrive.new.pass in
    let now = c.fly.new.pass in
    arrival_ends (at_desk a.desk.now) a.origin a.request a.inputs mid.notes.begun c.in-Call.flight c.in-Call.set now.notes a.pass.now.receipts.items mid.receipts.items
    now.receipts.items c.fly.result c.in-Call.ensures.begins.0 c.in-Call.ensures.begins.1 c.fly.ensures.ends

pub returns-in-Call-clause-counts : goal.returns-in-Call-clause-counts
returns-in-Call-clause-counts g c =
    let e = at_desk c.args.desk.now in
    let before = c.args.pass.now.notes in
    let mid = c.arrive.new.pass.notes in
    let link = g.L.Link.exchanges c.args.link.now in
    counts_on e before mid c.fly.new.pass.notes link link (g.L.Link.exchanges c.fly.new.link)
    (counts_none e before mid link link c.arrive.ensures.lost c.arrive.ensures.refused refl) c.fly.ensures.counts
