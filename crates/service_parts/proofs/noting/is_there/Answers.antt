use Rattle.std.proofs.Common.{◌∙◌, Bor}
use Rattle.call_registers.specs.Overlays.{numbered, overlaid}
use Rattle.call_registers.specs.Registers.{register}
use Rattle.call_registers.specs.declared.register.Register.{Register}
use Rattle.service_parts.proofs.DraftLemmas.{there_mapped}
use Rattle.service_parts.proofs.noting.is_there.Goals as goal

pub returns : goal.returns
returns c =
    c.is_some.ensures
    ∙ there_mapped (numbered c.args.number) (λ (r : Bor Register). r.now) (register c.args.number (overlaid c.args.changes.now c.args.standing.now.list)) c.find.result c.find.ensures
