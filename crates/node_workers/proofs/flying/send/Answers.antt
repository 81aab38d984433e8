use Rattle.std.proofs.Common.{◌≡◌, subst, sym}
use Rattle.node_workers.proofs.CallLemmas.{counts_one, counts_untold}
use Rattle.node_workers.proofs.CommitLemmas.{one_told, one_untold}
use Rattle.node_workers.proofs.FlightLemmas.{answers_of, call_of, caller_of, goes_told, most_told, still_open}
use Rattle.node_exchanges.proofs.AnswerLemmas.{call_answers}
use Rattle.node_exchanges.specs.Calls.{CallsIt, CallsMade, SendsAtMost, lost_in, refused_in}
use Rattle.node_exchanges.specs.Endpoints.{Endpoint, at_place}
use Rattle.node_workers.specs.Desks.{at_desk}
use Rattle.node_workers.proofs.flying.send.Goals as goal

pub call-requires : goal.call-requires
call-requires g c =
    let begun = c.args.pass.now.notes.begun in
    record {
      from = subst (λ (e : Endpoint). c.args.set.now.caller ≡ e.me) (sym c.place.ensures)
          (caller_of (at_desk c.args.desk.now) c.args.flight c.args.set.now begun begun c.requires.waits);
    }

pub tell-requires : goal.tell-requires
tell-requires g c =
    let begun = c.args.pass.now.notes.begun in
    let e = at_place c.place.result in
    record {
      «open» = call_of (at_desk c.args.desk.now) c.args.flight c.args.set.now begun begun c.requires.waits;
      failure = c.in-Ok.ensures.failure;
      answers = answers_of (at_desk c.args.desk.now) c.args.flight c.args.set.now begun begun c.in-Ok.came c.requires.waits
          (call_answers e c.args.set.now (g.L.Link.exchanges c.args.link.now) (g.L.Link.exchanges c.call.new.link) c.in-Ok.came c.in-Ok.ensures.came);
    }

pub returns-in-Ok-clause-went : goal.returns-in-Ok-clause-went
returns-in-Ok-clause-went g c =
    let a = c.args in
    let e = at_desk a.desk.now in
    let before = a.pass.now in
    let now = c.tell.new.pass in
    goes_told e a.flight a.set.now.number before.notes now.notes before.receipts.items now.receipts.items c.in-Ok.came c.tell.result c.tell.ensures.told
    (call_of e a.flight a.set.now before.notes.begun before.notes.begun c.requires.waits)

pub returns-in-Ok-clause-told : goal.returns-in-Ok-clause-told
returns-in-Ok-clause-told g c =
    let a = c.args in
    let before = a.pass.now in
    let now = c.tell.new.pass in
    let had = g.L.Link.exchanges a.link.now in
    let have = g.L.Link.exchanges c.call.new.link in
    let came = subst (λ (e : Endpoint). CallsIt e a.set.now c.in-Ok.came had have) c.place.ensures c.in-Ok.ensures.came in
    one_told (at_desk a.desk.now) a.flight a.set.now before.notes now.notes before.receipts.items now.receipts.items had have c.in-Ok.came c.tell.result came
    c.tell.ensures.told

pub returns-in-Err-clause-told : goal.returns-in-Err-clause-told
returns-in-Err-clause-told g c =
    let a = c.args in
    let pass = a.pass.now in
    let had = g.L.Link.exchanges a.link.now in
    let have = g.L.Link.exchanges c.call.new.link in
    one_untold (at_desk a.desk.now) a.flight a.set.now pass.notes pass.receipts.items had have
    (subst (λ (e : Endpoint). SendsAtMost e a.set.now had have) c.place.ensures c.in-Err.ensures.sends)

pub returns-in-Ok-clause-counts : goal.returns-in-Ok-clause-counts
returns-in-Ok-clause-counts g c =
    let came = c.in-Ok.came in
    let made = c.in-Ok.ensures in
    let before = c.args.pass.now in
    let now = c.tell.new.pass in
    let had = g.L.Link.exchanges c.args.link.now in
    let have = g.L.Link.exchanges c.call.new.link in
    let calls = subst (λ (e : Endpoint). CallsMade e (lost_in came) (refused_in came) had have) c.place.ensures made.calls in
    let counts = most_told (at_desk c.args.desk.now) c.args.flight c.args.set.now.number before.notes now.notes before.receipts.items now.receipts.items came c.tell.result
    c.tell.ensures.told in
    counts_one (at_desk c.args.desk.now) c.args.pass.now.notes c.tell.new.pass.notes (lost_in came) (refused_in came) had have calls
    made.rose made.counted counts.lost_at_most counts.refused_at_most

pub returns-in-Err-clause-went : goal.returns-in-Err-clause-went
returns-in-Err-clause-went g c =
    let pass = c.args.pass.now in
    still_open (at_desk c.args.desk.now) c.args.flight c.args.set.now pass.notes pass.receipts.items c.requires.waits

pub returns-in-Err-clause-counts : goal.returns-in-Err-clause-counts
returns-in-Err-clause-counts g c =
    let had = g.L.Link.exchanges c.args.link.now in
    let have = g.L.Link.exchanges c.call.new.link in
    counts_untold (at_desk c.args.desk.now) c.args.pass.now.notes had have (subst (λ (e : Endpoint). CallsMade e 0 0 had have) c.place.ensures c.in-Err.ensures.calls)
    c.in-Err.ensures.counted
