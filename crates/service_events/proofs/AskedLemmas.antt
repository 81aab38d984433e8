-- What holds at each end of an event's first test, or of what is denied and of what is allowed, holds of what comes of it.
use Rattle.std.proofs.Common.{◌≡◌, ℕ, List, true, Result, Err, ◌&&◌, false, cond, Option, Some, None, refl}
use Rattle.std.proofs.lemmas.Bool.{cond_both, and_parts}
use Rattle.lang_core.specs.declared.ids.Origin.TheVariants.{Call}
use Rattle.lang_core.specs.declared.inputs.Inputs.{Inputs}
use Rattle.lang_core.specs.declared.request.Request.{Request}
use Rattle.request_log.specs.Entries.{find_call}
use Rattle.repair_messages.specs.declared.messages.SetMessage.{SetMessage}
use Rattle.repair_messages.specs.declared.messages.TokenMessage.{TokenMessage}
use Rattle.repair_messages.specs.declared.posts.Post.{Post}
use Rattle.journal_rows.specs.Words.{last_taken}
use Rattle.call_registers.specs.declared.register.Register.{Register}
use Rattle.service_events.specs.Arriving.{arrive_event, arrives_or_known, unless_gone}
use Rattle.service_events.specs.Messages.{take_decision, take_denied, take_allowed, take_new, take_admitted, take_event, is_too_much, origin_of, hear_decision, hear_denied, hear_allowed, hear_new, had, replies_to, posted, posted_event, take_unless_past, is_past_call}
use Rattle.service_events.specs.Questions.{is_denied}
use Rattle.service_events.specs.State.{Kept, After, after, is_in_flight, folded}
use Rattle.service_events.specs.declared.answers.Arrived.{Arrived}
use Rattle.service_events.specs.declared.answers.Heard.{Heard}
use Rattle.service_events.specs.declared.answers.Posted.{Posted}
use Rattle.service_events.specs.declared.answers.PostReply.{PostReply}
use Rattle.service_events.specs.declared.answers.Taken.{Taken}
use Rattle.service_events.specs.declared.refusals.AnswerRefused.{AnswerRefused}
use Rattle.service_events.specs.declared.refusals.ArriveRefused.{ArriveRefused}
use Rattle.service_events.specs.declared.refusals.PostRefused.{PostRefused}
use Rattle.service_events.specs.declared.refusals.TakeRefused.{TakeRefused}
use Rattle.request_log.specs.declared.entry.Entry.{Entry}

-- of a version of a call, whose entry may be folded
pub take_either : (s : Kept) (set : SetMessage) (i : Inputs) (P : After (Result Taken TakeRefused) → Type 0) → ((e : Entry) → P (after s (Err (TakeRefused.TooOld e.id)))) → P (take_denied s set)
    → (find_call (origin_of set) (folded s) ≡ None → P (take_allowed s set i)) → P (take_new s set i)
take_either s set i P past denied allowed = by (find_call (origin_of set) (folded s)) refl
  where
    by : (o : Option Entry) → find_call (origin_of set) (folded s) ≡ o → P (take_unless_past s set i o)
    by None is = cond_both (is_denied (take_decision s set)) (take_denied s set) (take_allowed s set i) P (λ _. denied) (λ _. allowed is)
    by (Some e) is = past e

-- of a token, whose call may be one of a folded entry
pub hear_either : (s : Kept) (a : TokenMessage) (r : Register) (P : After (Result Heard AnswerRefused) → Type 0) → P (after s (Err (AnswerRefused.TooOld a.number))) → P (hear_denied s a r)
    → (is_past_call a.number s ≡ false → P (hear_allowed s a r)) → P (hear_new s a r)
hear_either s a r P past denied allowed =
    cond_both (is_past_call a.number s) (after s (Err (AnswerRefused.TooOld a.number))) (cond (is_denied (hear_decision s a r)) (hear_denied s a r) (hear_allowed s a r)) P
    (λ _. past)
    (λ recent. cond_both (is_denied (hear_decision s a r)) (hear_denied s a r) (hear_allowed s a r) P (λ _. denied) (λ _. allowed recent))

-- of a call that arrives, whether it is in flight or not
pub arrives_either : (s : Kept) (caller : List ℕ) (number : ℕ) (q : Request) (i : Inputs) (P : After (Result Arrived ArriveRefused) → Type 0)
    → P (after s (Err (ArriveRefused.NotYet number)))
    → P (unless_gone s (last_taken caller number s.journal) (arrives_or_known s caller number q i (find_call (Call caller number) s.entries)))
    → P (arrive_event s (Call caller number) q i)
arrives_either s caller number q i P flies lands =
    cond_both (is_in_flight (Call caller number) s) (after s (Err (ArriveRefused.NotYet number)))
    (unless_gone s (last_taken caller number s.journal) (arrives_or_known s caller number q i (find_call (Call caller number) s.entries))) P
    (λ _. flies) (λ _. lands)

-- of a version that comes by a message, whether its call is in flight or not
pub takes_either : (s : Kept) (set : SetMessage) (i : Inputs) (P : After (Result Taken TakeRefused) → Type 0)
    → P (after s (Err (TakeRefused.NotYet set.number))) → P (take_admitted s set i (is_too_much s set)) → P (take_event s set i)
takes_either s set i P flies lands =
    cond_both (is_in_flight (origin_of set) s) (after s (Err (TakeRefused.NotYet set.number))) (take_admitted s set i (is_too_much s set)) P (λ _. flies) (λ _. lands)

-- of what comes back, whether it is of a post that the service had or not
pub posted_either : (s : Kept) (post : Post) (reply : PostReply) (P : After (Result Posted PostRefused) → Type 0)
    → P (after s (Err PostRefused.Foreign)) → (had s post ≡ true → replies_to post reply ≡ true → P (posted s post reply)) → P (posted_event s post reply)
posted_either s post reply P foreign own =
    cond_both (had s post && replies_to post reply) (posted s post reply) (after s (Err PostRefused.Foreign)) P
    (λ both. let parts = and_parts (had s post) (replies_to post reply) both in own parts.0 parts.1) (λ _. foreign)
