use Rattle.std.proofs.Common.{◌∙◌, ◌<◌, ◌≤◌, sym, length, arith}
use Rattle.flights.specs.Moves.{calls_in}
use Rattle.flights.proofs.MoveLemmas.{found_other, no_more, all_same, more_same, item_at}
use Rattle.flights.proofs.moves.first_other.Goals as goal

pub returns-in-None : goal.returns-in-None
returns-in-None c = sym (no_more c.loop-slot.slot c.args.olds.now (calls_in c.args.ran.now) c.loop-slot.invariant (sym c.in-None.ensures))

pub returns-then-not-same_call : goal.returns-then-not-same_call
returns-then-not-same_call c =
    let w : c.loop-slot.slot < length c.args.olds.now = omega arith in
    sym (found_other c.loop-slot.slot c.args.olds.now (calls_in c.args.ran.now) c.index-olds-slot.result c.in-Some.new.now c.loop-slot.invariant
    (item_at c.loop-slot.slot c.args.olds.now c.index-olds-slot.result w c.index-olds-slot.is)
    (sym c.in-Some.ensures) (sym c.same_call.ensures ∙ c.if-not-same_call.true))

pub loop-slot-preserved : goal.loop-slot-preserved
loop-slot-preserved c =
    let w : c.loop-slot.slot < length c.args.olds.now = omega arith in
    more_same c.loop-slot.slot c.args.olds.now (calls_in c.args.ran.now) c.index-olds-slot.result c.in-Some.new.now c.loop-slot.invariant
    (item_at c.loop-slot.slot c.args.olds.now c.index-olds-slot.result w c.index-olds-slot.is)
    (sym c.in-Some.ensures) (sym c.same_call.ensures ∙ c.if-not-same_call.false)

pub returns : goal.returns
returns c =
    let w : length c.args.olds.now ≤ c.loop-slot.slot = omega arith in
    sym (all_same c.loop-slot.slot c.args.olds.now (calls_in c.args.ran.now) w c.loop-slot.invariant)
