use Rattle.std.proofs.Common.{◌≡◌, ◌∙◌, ◌-◌, ℕ, suc, ap, inl, sym, arith}
use Rattle.std.specs.Option.{option_map}
use Rattle.order_finder.specs.declared.candidate.At.{At}
use Rattle.dump_audit.specs.Histories.{histories_of}
use Rattle.one_order.specs.Roots.{way_up}
use Rattle.one_order.specs.Shown.{place_of}
use Rattle.one_order.proofs.RootLaws.{climb_ends, climb_goes_on}
use Rattle.one_order.proofs.roots.root_of.Goals as goal

pub returns-in-None : goal.returns-in-None
returns-in-None c =
    c.with_slots.ensures
    ∙ sym (climb_ends (histories_of c.args.world.now) (place_of c.args.at.now) (place_of c.loop-more.root) c.loop-more.more c.loop-more.slots.items (inl (sym c.in-None.ensures)) c.loop-more.invariant)

pub loop-more-preserved : goal.loop-more-preserved
loop-more-preserved c =
    let some = c.loop-more-test.true in
    let one : c.loop-more.more ≡ suc (c.loop-more.more - 1) = omega (arith, some) in
    let caller = sym c.caller_of.ensures ∙ ap (option_map (λ (x : At × ℕ). (place_of x.0, x.1))) c.in-Some.is in
    climb_goes_on (histories_of c.args.world.now) (place_of c.loop-more.root) (place_of c.in-Some.caller) c.loop-more.more (c.loop-more.more - 1) c.in-Some.slot c.loop-more.slots.items
    c.push.new.self.items (way_up (histories_of c.args.world.now) (place_of c.args.at.now)) one caller c.in_ok-push-in-Some.ensures.items c.loop-more.invariant
