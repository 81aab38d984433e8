use Rattle.std.proofs.Common.{◌≡◌, arith, ap}
use Rattle.call_registers.specs.Replies.{KeptReplies}
use Rattle.call_registers.proofs.replies.Replies.add.Goals as goal

pub push_in-requires-clause-rising : goal.push_in-requires-clause-rising
push_in-requires-clause-rising c = rw c.make_add.ensures.list c.self.invariant.rising

pub push_in-requires-clause-above : goal.push_in-requires-clause-above
push_in-requires-clause-above c =
    let seen : c.self.inside.list.items ≡ c.args.self.now.list = ap (λ (k : KeptReplies). k.list) c.self.view_is in
    rw (c.make_add.ensures.list, seen) c.requires

pub push_in-requires-clause-queued : goal.push_in-requires-clause-queued
push_in-requires-clause-queued c = rw (c.make_add.ensures.list, c.make_add.ensures.due) c.self.invariant.queued

pub invariant_of-self-2 : goal.invariant_of-self-2
invariant_of-self-2 c = record {
  rising = c.push_in.ensures.rising;
  queued = c.push_in.ensures.queued;
  room = omega (arith, c.push_in.ensures.len, c.push_in.ensures.capacity, c.push_in.ensures.places, c.take_add.ensures.len, c.make_add.ensures.fits);
}
