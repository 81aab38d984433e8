use Rattle.local_repair.proofs.remaking.settle.Goals as goal

pub returns-clause-ok : goal.returns-clause-ok
returns-clause-ok g c = λ setting rows rerun.
    let e = c.in_ok-numbers.ensures in
    record {
      rerun = rerun;
      settled = record { count = e.count; consumes = e.slots; others = e.others; fresh = e.fresh; once = e.once; higher = e.last };
      how = e.how;
      tells = c.is_new_answer-answered.ensures;
    }
