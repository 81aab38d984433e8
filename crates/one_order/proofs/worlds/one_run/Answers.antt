use Rattle.std.proofs.Common.{◌≡◌, cond, Some, None, length, subst, ap, ◌∙◌}
use Rattle.dump_audit.specs.Histories.{histories_of}
use Rattle.one_world.specs.OneWorld.{before_all}
use Rattle.one_world.specs.Turns.{turn_roots}
use Rattle.one_order.proofs.RunLaws.{fails_so, ran_so}
use Rattle.one_order.proofs.worlds.one_run.Goals as goal

pub returns-then-branch : goal.returns-then-branch
returns-then-branch c =
    let b = c.in_ok-turn_roots.field-0 in
    let ran = subst (λ o. cond b (Some c.turn_roots.new.world) None ≡ turn_roots (length (histories_of c.args.dump.now.services)) (histories_of c.args.dump.now.services) o c.deref_mut.result.now)
    c.as_slice-2.ensures c.in_ok-turn_roots.ensures in
    let first = subst (λ s. c.in_ok-world.world.items ≡ before_all (histories_of s)) c.as_slice.ensures c.in_ok-world.ensures in
    record {
      exact = λ trees roots. ap Some (c.in_ok-told.ensures ∙ c.deref.ensures.value) ∙ ran_so (histories_of c.args.dump.now.services) c.requires.legal c.args.order.now c.turn_roots.new.world c.in_ok-world.world.items c.deref_mut.result.now
          c.in_ok-world.world.len b c.if-branch.true ran c.deref_mut.ensures.value first c.in_ok-world.world.ok.0 c.turn_roots.auto.world trees roots;
    }

pub returns : goal.returns
returns c =
    let b = c.in_ok-turn_roots.field-0 in
    let ran = subst (λ o. cond b (Some c.turn_roots.new.world) None ≡ turn_roots (length (histories_of c.args.dump.now.services)) (histories_of c.args.dump.now.services) o c.deref_mut.result.now)
    c.as_slice-2.ensures c.in_ok-turn_roots.ensures in
    let first = subst (λ s. c.in_ok-world.world.items ≡ before_all (histories_of s)) c.as_slice.ensures c.in_ok-world.ensures in
    record {
      exact = λ trees roots. fails_so (histories_of c.args.dump.now.services) c.requires.legal c.args.order.now c.turn_roots.new.world c.in_ok-world.world.items c.deref_mut.result.now
          b c.if-branch.false ran c.deref_mut.ensures.value first trees roots;
    }
