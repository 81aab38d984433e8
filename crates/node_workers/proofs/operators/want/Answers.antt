use Rattle.std.proofs.Common.{◌≡◌, ℕ, ◌∙◌, List, IfOk, ap, subst, sym}
use Rattle.std.specs.Option.{option_copied}
use Rattle.http_front.specs.declared.message.WireResponse.{WireResponse}
use Rattle.wire_bytes.specs.Console.{console_refusal}
use Rattle.node_workers.proofs.OperatorLemmas.{want_so}
use Rattle.node_workers.proofs.operators.want.Goals as goal

pub returns-in-None : goal.returns-in-None
returns-in-None g c =
    want_so c.args.pass.now.notes c.console_refusal.result (sym c.gave.ensures ∙ ap option_copied c.in-None.is)
    (subst (λ (word : List ℕ). IfOk c.console_refusal.result (λ (response : WireResponse). response ≡ console_refusal word 0)) c.text.ensures c.console_refusal.ensures)
