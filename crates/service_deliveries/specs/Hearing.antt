-- Why a token isn't taken, or which rule allows it, and what is made of it.
use Rattle.std.specs.Prelude.{ℕ, List, [], ◌∷◌, ◌++◌, Option, Some, None, Result, Ok, Err, if◌then◌else◌}
use Rattle.lang_base.specs.Texts.{same_text}
use Rattle.repair_messages.specs.declared.messages.TokenMessage.{TokenMessage}
use Rattle.authorise_rules.specs.declared.asked.Decision.{Decision}
use Rattle.authorise_rules.specs.declared.asked.Decision.TheVariants.{Allow, Deny}
use Rattle.journal_rows.specs.declared.row.Row.{Row}
use Rattle.call_registers.specs.Registers.{is_news}
use Rattle.call_registers.specs.declared.register.Register.{Register}
use Rattle.service_events.specs.State.{Kept}
use Rattle.service_events.specs.Messages.{confirmed_row, hear_decision, noted_row, is_past_call}
use Rattle.service_events.specs.declared.refusals.AnswerRefused.{AnswerRefused}
use Rattle.service_events.specs.declared.refusals.AnswerRefused.TheVariants.{Unknown, Denied, TooOld}

-- the rule that allows it, or the one that denies it
abbrev pub allowance : Decision → Result (Option ℕ) AnswerRefused
allowance (Allow rule) = Ok (Some rule)
allowance (Deny rule) = Err (Denied rule)

-- not where its call is one of a folded entry
abbrev pub unless_past_call : Kept → TokenMessage → Result (Option ℕ) AnswerRefused → Result (Option ℕ) AnswerRefused
unless_past_call s t allowed = if is_past_call t.number s then Err (TooOld t.number) else allowed

-- by which rule it is taken, and by none where it tells nothing new
abbrev pub admitted : Kept → TokenMessage → Register → Result (Option ℕ) AnswerRefused
admitted s t r =
    if same_text r.dest t.callee
    then (if is_news r t.answer_version then unless_past_call s t (allowance (hear_decision s t r)) else Ok None)
    else Err (Unknown t.number)

-- the same, where there may be a call of its number
abbrev pub admission : Kept → TokenMessage → Option Register → Result (Option ℕ) AnswerRefused
admission s t None = Err (Unknown t.number)
admission s t (Some r) = admitted s t r

-- one that a rule allowed is noted
abbrev pub noted_rows : TokenMessage → Option ℕ → List Row
noted_rows t None = []
noted_rows t (Some rule) = noted_row rule t ∷ []

-- and each is confirmed
abbrev pub token_rows : TokenMessage → Option ℕ → List Row
token_rows t rule = noted_rows t rule ++ confirmed_row t ∷ []
