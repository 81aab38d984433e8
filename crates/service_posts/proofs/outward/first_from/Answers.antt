use Rattle.std.proofs.Common.{◌∙◌, ◌<◌, ◌≤◌, length, sym, ap, arith}
use Rattle.std.proofs.lemmas.List.{drop_all}
use Rattle.service_posts.specs.Walks.{calls_in, first_to, is_to}
use Rattle.service_posts.proofs.OutwardLemmas.{first_passes, first_stops}
use Rattle.service_posts.proofs.outward.first_from.Goals as goal

pub returns-then-is_some : goal.returns-then-is_some
returns-then-is_some c =
    let w : c.loop-at.at < length c.args.entries.now = omega arith in
    sym (c.loop-at.invariant.passed
    ∙ first_stops (is_to c.args.registers.now.list c.args.dest.now) c.args.entries.now c.loop-at.at c.index-entries-at.result w c.index-entries-at.is c.first_of-first.result
    c.first_of-first.ensures (sym c.is_some.ensures ∙ c.if-is_some.true))

pub loop-at-preserved : goal.loop-at-preserved
loop-at-preserved c =
    let w : c.loop-at.at < length c.args.entries.now = omega arith in
    record {
      within = omega arith;
      passed = c.loop-at.invariant.passed
          ∙ first_passes (is_to c.args.registers.now.list c.args.dest.now) c.args.entries.now c.loop-at.at c.index-entries-at.result w c.index-entries-at.is c.first_of-first.result
          c.first_of-first.ensures (sym c.is_some.ensures ∙ c.if-is_some.false);
    }

pub returns : goal.returns
returns c =
    let w : length c.args.entries.now ≤ c.loop-at.at = omega arith in
    sym (c.loop-at.invariant.passed ∙ ap (λ l. first_to c.args.registers.now.list c.args.dest.now (calls_in l)) (drop_all c.loop-at.at c.args.entries.now w))
