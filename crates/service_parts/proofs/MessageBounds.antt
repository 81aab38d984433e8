-- Messages leave no more entries and flights than a service may have.
use Rattle.std.proofs.Common.{◌≡◌, ℕ, ◌<◌, Bool, true, false, ◌&&◌, not, [], ◌∷◌, Option, Some, None, Result, Ok, Err, is_some, if◌then◌else◌, refl, arith, length-set, insert}
use Rattle.std.specs.List.{position_or_len}
use Rattle.std.proofs.lemmas.Bool.{cond_both}
use Rattle.lang_base.specs.Texts.{same_text}
use Rattle.lang_core.specs.declared.inputs.Inputs.{Inputs}
use Rattle.lang_core.specs.declared.request.Request.{Request}
use Rattle.request_log.specs.Entries.{has_id, find_call, with_entry}
use Rattle.request_log.specs.declared.entry.Entry.{Entry}
use Rattle.repair_messages.specs.declared.messages.AnswerMessage.{AnswerMessage}
use Rattle.repair_messages.specs.declared.messages.SetMessage.{SetMessage}
use Rattle.repair_messages.specs.declared.messages.TokenMessage.{TokenMessage}
use Rattle.repair_messages.specs.declared.posts.Post.{Post}
use Rattle.repair_messages.specs.declared.posts.Post.TheVariants.{Set, Token, Fetch}
use Rattle.journal_rows.specs.Words.{noted_at}
use Rattle.journal_rows.specs.declared.caller.NotedRow.{NotedRow}
use Rattle.call_registers.specs.Registers.{is_news, is_newer, register}
use Rattle.call_registers.specs.declared.register.Hold.{Hold}
use Rattle.call_registers.specs.declared.register.Register.{Register}
use Rattle.service_events.specs.State.{Kept, after, in_all, or_else, where_needed, is_crowded, is_heavy}
use Rattle.service_events.specs.Calls.{noted}
use Rattle.service_events.specs.Messages.{take_new, origin_of, is_known, makes_entry, is_too_much, acked_again, created_entry, created_place, at_version, taken_by, taken, take_admitted, hear_new, confirmed_row, heard, token_taken_where, fetched_row, fetched, is_now, hold_of, held_back, held_where, posted}
use Rattle.service_events.specs.declared.answers.PostReply.{PostReply}
use Rattle.service_events.specs.declared.answers.Taken.{Taken}
use Rattle.service_events.specs.declared.refusals.TakeRefused.{TakeRefused}
use Rattle.service_events.specs.declared.answers.PostReply.TheVariants.{Acked, Confirmed, Given, Refused, Lost}
use Rattle.service_events.specs.declared.answers.Posted.TheVariants.{Saw, Knew, Held, Left}
use Rattle.service_events.specs.declared.refusals.AnswerRefused.TheVariants.{Unknown}
use Rattle.service_events.proofs.AskedLemmas.{take_either, hear_either}
use Rattle.service_events.proofs.SearchLemmas.{length_insert}
use Rattle.service_parts.proofs.BoundLaws.{IsBounded, uncrowded}
use Rattle.std.proofs.lemmas.List.{length-drop}

-- ---- a version of a call

alone : (o : Option ℕ) → o ≡ None → or_else o None ≡ None
alone None h = refl
alone (Some n) h = h

placed : (s : Kept) → is_crowded s ≡ None → in_all s < 100000
placed s h = uncrowded s None (alone (is_crowded s) h)

second_none : (first : Option ℕ) (second : Option ℕ) → or_else first second ≡ None → second ≡ None
second_none None second h = h
second_none (Some n) second h = cc

new_bounded : (s : Kept) (set : SetMessage) (i : Inputs) (e : Option Entry) (d : Option Request)
    → where_needed (is_some d && not (is_some e)) (is_crowded s) ≡ None → IsBounded s → IsBounded (taken_by s set i e d)
new_bounded s set i (Some e) d place h =
    (let size = length-set s.entries (position_or_len (has_id e.id) s.entries) (at_version set e) in
    let left = length-drop s.horizon s.entries in let now = length-drop s.horizon (with_entry (at_version set e) s.entries) in omega (arith, h, size, left, now))
new_bounded s set i None (Some q) place h =
    let below = placed s place in
    let size = length_insert s.entries (created_place s set) (created_entry s set q i) in
    let left = length-drop s.horizon s.entries in
    let now = length-drop s.horizon (insert s.entries (created_place s set) (created_entry s set q i)) in
    omega (arith, below, size, left, now)
new_bounded s set i None None place h = h

known_or_new : (s : Kept) (set : SetMessage) (i : Inputs) (known : Bool) → or_else (is_heavy s) (where_needed (not known && makes_entry s set) (is_crowded s)) ≡ None
    → IsBounded s → IsBounded (if known then after {A = Result Taken TakeRefused} (acked_again s set) (Ok (taken set None)) else take_new s set i).service
known_or_new s set i true place h = h
known_or_new s set i false place h =
    take_either s set i (λ a. IsBounded a.service) (λ e. h) h
    (λ _. new_bounded s set i (find_call (origin_of set) s.entries) set.desired
    (second_none (is_heavy s) (where_needed (makes_entry s set) (is_crowded s)) place) h)

pub take_admitted_bounded : (s : Kept) (set : SetMessage) (i : Inputs) (full : Option ℕ) → is_too_much s set ≡ full → IsBounded s → IsBounded (take_admitted s set i full).service
take_admitted_bounded s set i (Some n) is h = h
take_admitted_bounded s set i None is h = known_or_new s set i (is_known s set) is h

-- ---- a token, and what comes back of a post

heard_bounded : (s : Kept) (a : TokenMessage) (r : Register) (known new : Bool) → IsBounded s
    → IsBounded (if not known then after s (Err (Unknown a.number))
    else (if new
    then hear_new s a r
    else after (noted (confirmed_row a ∷ []) s) (Ok (heard a None)))).service
heard_bounded s a r false new h = h
heard_bounded s a r true true h = hear_either s a r (λ a. IsBounded a.service) h h (λ _. h)
heard_bounded s a r true false h = h

pub token_taken_where_bounded : (s : Kept) (a : TokenMessage) (o : Option Register) → IsBounded s → IsBounded (token_taken_where s a o).service
token_taken_where_bounded s a None h = h
token_taken_where_bounded s a (Some r) h = heard_bounded s a r (same_text r.dest a.callee) (is_news r a.answer_version) h

held_back_bounded : (s : Kept) (post : Post) (hold : Hold) → IsBounded s → IsBounded (held_back s post hold)
held_back_bounded s (Set set) hold h = h
held_back_bounded s (Token t) hold h = h
held_back_bounded s (Fetch f) hold h = h

held_bounded : (s : Kept) (post : Post) (hold : Option Hold) → IsBounded s → IsBounded (held_where s post hold).service
held_bounded s post None h = h
held_bounded s post (Some hold) h =
    cond_both (is_now s post) (after (held_back s post hold) (Ok Held)) (after s (Ok Left)) (λ a. IsBounded a.service)
    (λ _. held_back_bounded s post hold h) (λ _. h)

fetched_bounded : (s : Kept) (a : AnswerMessage) (o : Option Register) (n : Option NotedRow) → IsBounded s → IsBounded (fetched s a o n).service
fetched_bounded s a None n h = h
fetched_bounded s a (Some r) None h = h
fetched_bounded s a (Some r) (Some n) h =
    cond_both (is_newer r.answer a.answer_version) (after (noted (fetched_row a n ∷ []) s) (Ok Saw)) (after s (Ok Knew)) (λ x. IsBounded x.service) (λ _. h) (λ _. h)

pub reply_bounded : (s : Kept) (post : Post) (answer : PostReply) → IsBounded s → IsBounded (posted s post answer).service
reply_bounded s post (Acked ack) h = h
reply_bounded s post (Confirmed c) h = h
reply_bounded s post (Given a) h = fetched_bounded s a (register a.number s.registers) (noted_at a.number a.answer_version s.journal) h
reply_bounded s post (Refused word number) h = held_bounded s post (hold_of word number) h
reply_bounded s post (Lost note) h = h
