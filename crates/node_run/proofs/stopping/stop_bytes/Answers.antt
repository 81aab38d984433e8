use Rattle.std.proofs.Common.{◌≡◌, IfOk, ap, subst, ◌∙◌}
use Rattle.http_front.specs.Writing.{response_bytes}
use Rattle.http_front.specs.declared.message.WireResponse.{WireResponse}
use Rattle.wire_bytes.specs.Console.{console_reply}
use Rattle.node_run.specs.Stopping.{stop_json}
use Rattle.node_run.proofs.stopping.stop_bytes.Goals as goal

pub returns : goal.returns
returns c =
    let same : c.in_ok-response.response ≡ console_reply stop_json = c.in_ok-response.ensures ∙ ap console_reply c.in_ok-json.ensures in
    subst (λ (response : WireResponse). IfOk c.response_bytes.result (λ bytes. bytes ≡ response_bytes response)) same c.response_bytes.ensures
