use Rattle.std.proofs.Common.{sym}
use Rattle.service_events.specs.Doing.{take_memory}
use Rattle.service_events.specs.Messages.{take_event}
use Rattle.service_parts.specs.Parts.{kept}
use Rattle.service_deliveries.proofs.RefusalLemmas.{refusal_does}
use Rattle.service_deliveries.proofs.TakeLemmas.{refused_is}
use Rattle.service_deliveries.proofs.taking.landed.Goals as goal

pub returns-in-Err-clause-does : goal.returns-in-Err-clause-does
returns-in-Err-clause-does c =
    let s = kept c.args.parts.now in
    refusal_does take_memory (take_event s c.args.set.now c.args.inputs) s c.in-Err.why
    (refused_is s c.args.set.now c.args.inputs c.requires.landed c.in-Err.why (sym c.in-Err.ensures))
