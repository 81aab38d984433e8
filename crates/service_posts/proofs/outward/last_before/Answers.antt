use Rattle.std.proofs.Common.{◌≡◌, ◌∙◌, ◌+◌, ◌-◌, ◌<◌, take, length, sym, ap, arith}
use Rattle.service_posts.specs.Walks.{calls_by, is_to, last_to}
use Rattle.service_posts.proofs.OutwardLemmas.{last_passes, last_stops}
use Rattle.service_posts.proofs.outward.last_before.Goals as goal

pub returns-then-is_some : goal.returns-then-is_some
returns-then-is_some g c =
    let bound = c.loop-end.invariant.within in
    let w : c.loop-end.end - 1 < length c.args.entries.now = omega arith in
    let up : c.loop-end.end ≡ (c.loop-end.end - 1) + 1 = omega arith in
    sym (c.loop-end.invariant.passed
    ∙ ap (λ n. last_to c.args.registers.now.list c.args.dest.now (calls_by g.T.Calling.slots (take n c.args.entries.now))) up
    ∙ last_stops (is_to c.args.registers.now.list c.args.dest.now) g.T.Calling.slots c.args.entries.now (c.loop-end.end - 1) c.index-entries-end.result w c.index-entries-end.is c.last_of-last.result
    c.last_of-last.ensures (sym c.is_some.ensures ∙ c.if-is_some.true))

pub loop-end-preserved : goal.loop-end-preserved
loop-end-preserved g c =
    let bound = c.loop-end.invariant.within in
    let w : c.loop-end.end - 1 < length c.args.entries.now = omega arith in
    let up : c.loop-end.end ≡ (c.loop-end.end - 1) + 1 = omega arith in
    record {
      within = omega arith;
      passed = c.loop-end.invariant.passed
          ∙ ap (λ n. last_to c.args.registers.now.list c.args.dest.now (calls_by g.T.Calling.slots (take n c.args.entries.now))) up
          ∙ last_passes (is_to c.args.registers.now.list c.args.dest.now) g.T.Calling.slots c.args.entries.now (c.loop-end.end - 1) c.index-entries-end.result w c.index-entries-end.is c.last_of-last.result
          c.last_of-last.ensures (sym c.is_some.ensures ∙ c.if-is_some.false);
    }

pub returns : goal.returns
returns g c =
    let none : c.loop-end.end ≡ 0 = omega arith in
    sym (c.loop-end.invariant.passed ∙ ap (λ n. last_to c.args.registers.now.list c.args.dest.now (calls_by g.T.Calling.slots (take n c.args.entries.now))) none)
