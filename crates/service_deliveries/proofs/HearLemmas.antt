-- A token, taken or refused.
use Rattle.std.proofs.Common.{◌≡◌, ◌∙◌, ap, refl, ℕ, Bool, true, false, not, if◌then◌else◌, cond, Option, Some, None, Result, Ok, Err}
use Rattle.lang_base.specs.Texts.{same_text}
use Rattle.repair_messages.specs.declared.messages.TokenMessage.{TokenMessage}
use Rattle.authorise_rules.specs.declared.asked.Decision.{Decision}
use Rattle.authorise_rules.specs.declared.asked.Decision.TheVariants.{Allow, Deny}
use Rattle.call_registers.specs.Registers.{register, is_news}
use Rattle.call_registers.specs.declared.register.Register.{Register}
use Rattle.service_events.specs.State.{Kept, After, after}
use Rattle.service_events.specs.Calls.{noted}
use Rattle.service_events.specs.Questions.{is_denied, rule_of}
use Rattle.service_events.specs.Messages.{heard, hear_decision, token_taken_where, take_token_event, is_past_call}
use Rattle.service_events.specs.declared.answers.Heard.{Heard}
use Rattle.service_events.specs.declared.refusals.AnswerRefused.{AnswerRefused}
use Rattle.service_events.specs.declared.refusals.AnswerRefused.TheVariants.{Unknown, Denied, TooOld}
use Rattle.service_deliveries.specs.Hearing.{admission, allowance, token_rows, unless_past_call}

-- what the event leaves, by the rule by which the token is taken or why it isn't
abbrev pub left : Kept → TokenMessage → Result (Option ℕ) AnswerRefused → After (Result Heard AnswerRefused)
left s a (Err why) = after s (Err why)
left s a (Ok rule) = after (noted (token_rows a rule) s) (Ok (heard a rule))

allowed : (s : Kept) (a : TokenMessage) (d : Decision)
    → left s a (allowance d) ≡ (if is_denied d then after s (Err (Denied (rule_of d))) else after (noted (token_rows a (Some (rule_of d))) s) (Ok (heard a (Some (rule_of d)))))
allowed s a (Allow rule) = refl
allowed s a (Deny rule) = refl

past : (s : Kept) (a : TokenMessage) (d : Decision) (b : Bool)
    → left s a (cond b (Err (TooOld a.number)) (allowance d))
    ≡ cond b (after s (Err (TooOld a.number))) (if is_denied d then after s (Err (Denied (rule_of d))) else after (noted (token_rows a (Some (rule_of d))) s) (Ok (heard a (Some (rule_of d)))))
past s a d true = refl
past s a d false = allowed s a d

ordered : (s : Kept) (a : TokenMessage) (d : Decision) (known new : Bool)
    → left s a (cond known (cond new (unless_past_call s a (allowance d)) (Ok None)) (Err (Unknown a.number)))
    ≡ (if not known then after s (Err (Unknown a.number)) else (if new then cond (is_past_call a.number s) (after s (Err (TooOld a.number))) (if is_denied d then after s (Err (Denied (rule_of d))) else after (noted (token_rows a (Some (rule_of d))) s) (Ok (heard a (Some (rule_of d))))) else after (noted (token_rows a None) s) (Ok (heard a None))))
ordered s a d false new = refl
ordered s a d true true = past s a d (is_past_call a.number s)
ordered s a d true false = refl

where_is : (s : Kept) (a : TokenMessage) (o : Option Register) → left s a (admission s a o) ≡ token_taken_where s a o
where_is s a None = refl
where_is s a (Some r) = ordered s a (hear_decision s a r) (same_text r.dest a.callee) (is_news r a.answer_version)

event_is : (s : Kept) (a : TokenMessage) (admitted : Result (Option ℕ) AnswerRefused) → admitted ≡ admission s a (register a.number s.registers) → left s a admitted ≡ take_token_event s a
event_is s a admitted is = ap (left s a) is ∙ where_is s a (register a.number s.registers)

-- it is refused, and nothing changes
pub token_refused_is : (s : Kept) (a : TokenMessage) (why : AnswerRefused) → Err why ≡ admission s a (register a.number s.registers) → after s (Err why) ≡ take_token_event s a
token_refused_is s a why is = event_is s a (Err why) is

-- it is noted, and confirmed
pub token_taken_is : (s s' : Kept) (a : TokenMessage) (rule : Option ℕ) (h : Heard) → Ok rule ≡ admission s a (register a.number s.registers) → s' ≡ noted (token_rows a rule) s → h ≡ heard a rule
    → after s' (Ok h) ≡ take_token_event s a
token_taken_is s s' a rule h is left_is answer_is =
    ap (λ k. after k (Ok h)) left_is ∙ ap (λ k. after (noted (token_rows a rule) s) (Ok k)) answer_is ∙ event_is s a (Ok rule) is
