use Rattle.std.proofs.Common.{◌≡◌, ◌∙◌, sym, ap, None, Some, option_map}
use Rattle.std.specs.Option.{option_copied}
use Rattle.call_registers.specs.Registers.{register}
use Rattle.service_events.specs.Fits.{sent_by}
use Rattle.world_audit.specs.Conditions.{callee_of}
use Rattle.world_audit.proofs.partners.callee_of.Goals as goal

pub returns-in-None : goal.returns-in-None
returns-in-None c =
    let kept = c.args.service.now.registers in
    let at : register c.args.number kept ≡ None = ap (register c.args.number) (sym c.registers.ensures) ∙ sym c.get.ensures ∙ ap option_copied c.in-None.is in
    ap (callee_of c.args.services.now) (ap (option_map sent_by) (sym at) ∙ c.requires.sent.registers c.args.number)

pub returns-in-Some : goal.returns-in-Some
returns-in-Some c =
    let kept = c.args.service.now.registers in
    let at : register c.args.number kept ≡ Some c.in-Some.register.now = ap (register c.args.number) (sym c.registers.ensures) ∙ sym c.get.ensures ∙ ap option_copied c.in-Some.is in
    c.service_of.ensures ∙ ap (callee_of c.args.services.now) (ap (option_map sent_by) (sym at) ∙ c.requires.sent.registers c.args.number)
