use Rattle.std.proofs.Common.{◌∙◌, refl, sym}
use Rattle.node_workers.proofs.FlightLemmas.{made_of, may_tell, once_told}
use Rattle.node_workers.proofs.WantLemmas.{wants_memory}
use Rattle.node_workers.specs.Desks.{at_desk}
use Rattle.node_workers.specs.Flying.{IsToldOnce, end_of_call}
use Rattle.node_workers.proofs.flying.tell_once.Goals as goal

pub ask-requires : goal.ask-requires
ask-requires g c =
    let a = c.args in
    let told = c.end_of_call-told in
    record { may = λ s. may_tell s a.pass.now.notes.begun a.flight a.number a.came told.result told.ensures c.requires.open c.requires.failure }

pub returns : goal.returns
returns g c =
    let a = c.args in
    let e = at_desk a.desk.now in
    let before = a.pass.now in
    let now = c.ask.new.pass in
    let told = c.end_of_call-told in
    let once : IsToldOnce e a.flight a.number a.came before.notes now.notes before.receipts.items now.receipts.items c.went_of.result =
    record {
      answer = c.ask.result;
      made = made_of e.me before.notes now.notes before.receipts.items now.receipts.items told.result (end_of_call a.flight a.number a.came) c.ask.result told.ensures c.ask.ensures.made;
      nothing = c.ask.ensures.err;
      goes = c.went_of.ensures;
      wanting = λ wants. wants_memory e a.flight a.number before.notes now.notes before.receipts.items now.receipts.items a.came c.ask.result before.notes.begun refl
          c.requires.open c.requires.answers
          (made_of e.me before.notes now.notes before.receipts.items now.receipts.items told.result (end_of_call a.flight a.number a.came) c.ask.result told.ensures c.ask.ensures.made)
          (sym wants ∙ c.went_of.ensures);
    } in
    record { once = once; told = once_told e a.flight a.number before.notes now.notes before.receipts.items now.receipts.items a.came c.went_of.result once }
