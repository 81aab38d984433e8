use Rattle.std.proofs.Common.{ap, ◌∙◌}
use Rattle.lang_core.specs.declared.setting.Setting.{Setting}
use Rattle.world_core.proofs.ServeLemmas.{begin_serves}
use Rattle.world_core.proofs.requests.arrive.Goals as goal

pub returns-in-Ok : goal.returns-in-Ok
returns-in-Ok c packets =
    begin_serves packets c.args.service.now c.arrive.new.self c.args.request c.args.inputs c.in_ok-from.from c.in-Ok.arrived c.went_on-told.result.0 c.went_on-told.result.1
    (record {
      is = c.in-Ok.ensures.does;
      from_it = c.in_ok-from.ensures ∙ ap (λ (t : Setting). t.me) c.setting.ensures;
      tells = c.went_on-told.ensures.told;
      sends = c.went_on-told.ensures.sent;
    })
