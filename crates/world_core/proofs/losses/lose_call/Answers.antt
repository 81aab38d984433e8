use Rattle.std.proofs.Common.{refl}
use Rattle.call_registers.specs.declared.register.Why.TheVariants.{Lost}
use Rattle.world_events.specs.Events.{call_failed_served, call_lost}
use Rattle.world_core.proofs.ActLemmas.{losing_acts}
use Rattle.world_core.proofs.PartLemmas.{lacks_acts}
use Rattle.world_core.proofs.losses.lose_call.Goals as goal

pub returns : goal.returns
returns c name all found =
    let packets = c.args.packets.now.list in
    losing_acts all packets name c.args.service.now found c.args.environment.now c.lose.new.self (λ x note. call_failed_served packets c.args.flight c.args.number (Lost note) x)
    c.note-note.result c.call_failed.new.service c.in_ok-served.served c.note-note.ensures.before c.note-note.ensures.after c.lose.ensures c.in_ok-served.ensures

pub returns-in_err-served : goal.returns-in_err-served
returns-in_err-served c name = lacks_acts (λ w. call_lost w name c.args.flight c.args.number) _ c.args.packets.now.list _ _ c.from_residual.result _ _ c.from_residual.ensures.1 c.in_err-served.ensures refl
