use Rattle.service_events.specs.Doing.{answer_memory}
use Rattle.service_events.specs.Messages.{take_token_event}
use Rattle.service_parts.specs.Parts.{kept}
use Rattle.service_deliveries.proofs.HearLemmas.{token_refused_is, token_taken_is}
use Rattle.service_deliveries.proofs.RefusalLemmas.{refusal_does}
use Rattle.service_deliveries.proofs.hearing.confirm_token.Goals as goal

pub returns-in-Err-clause-does : goal.returns-in-Err-clause-does
returns-in-Err-clause-does c =
    let s = kept c.args.parts.now in
    refusal_does answer_memory (take_token_event s c.args.token.now) s c.in-Err.why (token_refused_is s c.args.token.now c.in-Err.why c.in-Err.ensures)

pub returns-in_ok-note_token-in-Ok-clause-does : goal.returns-in_ok-note_token-in-Ok-clause-does
returns-in_ok-note_token-in-Ok-clause-does c =
    token_taken_is (kept c.args.parts.now) (kept c.note_token.new.parts) c.args.token.now c.in-Ok.rule c.in_ok-heard-in-Ok.heard c.in-Ok.ensures c.in_ok-note_token-in-Ok.ensures.ok c.in_ok-heard-in-Ok.ensures
