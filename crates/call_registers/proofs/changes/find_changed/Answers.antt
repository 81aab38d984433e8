use Rattle.std.proofs.Common.{◌∙◌, ap, Some}
use Rattle.call_registers.specs.declared.register.Register.{Register}
use Rattle.call_registers.proofs.OverlayLemmas.{none_all, some_all}
use Rattle.call_registers.proofs.changes.find_changed.Goals as goal

pub returns-in-None : goal.returns-in-None
returns-in-None c = none_all c.args.number c.args.changed.now c.args.standing.now.list c.in-None.ensures

pub returns-in-Some : goal.returns-in-Some
returns-in-Some c =
    ap (λ (r : Register). Some r) c.latest.ensures
    ∙ some_all c.args.number c.args.changed.now c.args.standing.now.list c.in-Some.register.now c.in-Some.ensures
