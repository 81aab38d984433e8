-- What is refused changes no service.
use Rattle.std.proofs.Common.{◌≡◌, ℕ, Bool, true, false, cond, not, List, [], ◌∷◌, Option, Some, None, Result, Ok, Err, inl, inr, is_err, nat_eq, refl, sym, ap, ◌∙◌}
use Rattle.std.proofs.lemmas.Bool.{cases_Bool, cond_both}
use Rattle.lang_base.specs.Texts.{same_text}
use Rattle.lang_core.specs.declared.ids.Origin.{Origin}
use Rattle.lang_core.specs.declared.ids.Origin.TheVariants.{Outside, Call as CallOrigin}
use Rattle.lang_core.specs.declared.inputs.Inputs.{Inputs}
use Rattle.lang_core.specs.declared.request.Request.{Request}
use Rattle.request_log.specs.Entries.{find_call}
use Rattle.request_log.specs.Records.{Record, record_of}
use Rattle.request_log.specs.declared.entry.Entry.{Entry}
use Rattle.repair_messages.specs.declared.messages.AnswerMessage.{AnswerMessage}
use Rattle.repair_messages.specs.declared.messages.SetMessage.{SetMessage}
use Rattle.repair_messages.specs.declared.messages.TokenMessage.{TokenMessage}
use Rattle.repair_messages.specs.declared.posts.Post.{Post}
use Rattle.repair_messages.specs.declared.posts.Post.TheVariants.{Set as SetPost, Token as TokenPost, Fetch as FetchPost}
use Rattle.repair_messages.specs.declared.posts.PostName.{PostName}
use Rattle.journal_rows.specs.Words.{last_taken, noted_at, ordered}
use Rattle.journal_rows.specs.declared.caller.NotedRow.{NotedRow}
use Rattle.journal_rows.specs.declared.callee.TookRow.{TookRow}
use Rattle.journal_rows.specs.declared.orders.Command.{Command}
use Rattle.journal_rows.specs.declared.orders.OrderedRow.{OrderedRow}
use Rattle.call_registers.specs.Registers.{register, is_news, is_newer}
use Rattle.call_registers.specs.declared.register.Hold.{Hold}
use Rattle.call_registers.specs.declared.register.Register.{Register}
use Rattle.call_registers.specs.declared.register.Why.{Why}
use Rattle.call_registers.specs.declared.register.Why.TheVariants.{Lost, Refused as WasRefused}
use Rattle.flights.specs.declared.flight.Flight.{Flight}
use Rattle.service_events.specs.Arriving.{accepted, admitted, known_by, arrives_or_known, by_version, unless_gone, arrive_event, is_for, live_answer_rows, answered_flight, call_answered_event, told, failed_flight, call_failed_event}
use Rattle.service_events.specs.Calls.{noted}
use Rattle.service_events.specs.Event.{event}
use Rattle.service_events.specs.Flying.{awaited, goes_on}
use Rattle.service_events.specs.Messages.{hear_new, take_new, is_known, is_too_much, acked_again, taken, take_admitted, take_event, confirmed_row, heard, token_taken_where, take_token_event, give_event, fetched_row, fetched, is_now, hold_of, held_back, held_where, posted}
use Rattle.service_events.specs.Orders.{order_by, order_where, refused as why_refused}
use Rattle.service_events.specs.Posts.{next_post}
use Rattle.service_events.specs.State.{Kept, After, after, or_else, is_crowded, is_heavy, flight_of}
use Rattle.service_events.specs.declared.answers.Arrived.{Arrived}
use Rattle.service_events.specs.declared.answers.Heard.{Heard}
use Rattle.service_events.specs.declared.answers.PostReply.{PostReply}
use Rattle.service_events.specs.declared.answers.PostReply.TheVariants.{Acked as WasAcked, Confirmed as WasConfirmedBack, Given, Refused, Lost as PostIsLost}
use Rattle.service_events.specs.declared.answers.Posted.{Posted}
use Rattle.service_events.specs.declared.answers.Posted.TheVariants.{Saw, Knew, Held, Left}
use Rattle.service_events.specs.declared.answers.Taken.{Taken}
use Rattle.service_events.specs.declared.event.Done.{Done}
use Rattle.service_events.specs.declared.event.Done.TheVariants as done
use Rattle.service_events.specs.declared.event.Event.{Event as ServiceEvent}
use Rattle.service_events.specs.declared.event.Event.TheVariants as service_event
use Rattle.service_events.specs.declared.refusals.AnswerRefused.{AnswerRefused}
use Rattle.service_events.specs.declared.refusals.ArriveRefused.{ArriveRefused}
use Rattle.service_events.specs.declared.refusals.CallRefused.{CallRefused}
use Rattle.service_events.specs.declared.refusals.GiveRefused.{GiveRefused}
use Rattle.service_events.specs.declared.refusals.OrderRefused.{OrderRefused}
use Rattle.service_events.specs.declared.refusals.PostRefused.{PostRefused}
use Rattle.service_events.specs.declared.refusals.TakeRefused.{TakeRefused}
use Rattle.service_events.proofs.AskedLemmas.{take_either, hear_either, arrives_either, takes_either, posted_either}
use Rattle.world_agreement.specs.Partners.{has_name, service_of}
use Rattle.world_agreement.proofs.ListLemmas.{some_is}
use Rattle.world_events.specs.Worlds.{World, with_service, packet_of, next_inputs, once_drawn, once_lost, loss_note}
use Rattle.world_events.specs.Events.{Turn, Served, refused, turned, if_there, turn_at, at_service, outcome, arrive_served, call_arrive_served, call_answered_served, call_failed_served, sender, taken_rule, take_served, answer_rule, given_version, take_token_served, give_served, posted_served, next_post_written, next_post_served, repair_step_served, abandon_served, order_served, call_delivered, reply_delivered, post_delivered, delivered, lost, if_flying, turn, answer_to, after_event}
use Rattle.world_events.specs.Refusals.{is_refusal, was_refused}
use Rattle.world_events.specs.declared.event.Event.{Event}
use Rattle.world_events.specs.declared.event.Event.TheVariants.{Begin, Deliver, Lose, Post as Posts, Step, Abandon, Order, Clock, Seed}
use Rattle.world_events.specs.declared.event.WorldStepRefused.TheVariants.{NoService}
use Rattle.world_events.specs.declared.packet.Live.{Live}
use Rattle.world_events.specs.declared.packet.Live.TheVariants.{Answer as LiveAnswer, Refused as LiveRefused}
use Rattle.world_events.specs.declared.packet.Packet.{Packet}
use Rattle.world_events.specs.declared.packet.Packet.TheVariants.{Call, CallReply, Post as PostPacket, PostReply as PostReplyPacket}
use Rattle.world_laws.proofs.PutLemmas.{put, with_is_put}

-- ---- at a service

-- where it is refused, the service is as it was
abbrev StaysIfRefused : {A E : Type 0} → Kept → After (Result A E) → Type 0
StaysIfRefused s a = is_err a.answer ≡ true → a.service ≡ s

-- the answer of an event is a refusal
abbrev is_refused : Done → Bool
is_refused (done.Arrive result) = is_err result
is_refused (done.CallAnswered result) = is_err result
is_refused (done.CallFailed result) = is_err result
is_refused (done.Take result) = is_err result
is_refused (done.TakeToken result) = is_err result
is_refused (done.Give result) = is_err result
is_refused (done.WritePost result) = is_err result
is_refused (done.Posted result) = is_err result
is_refused (done.Step result) = is_err result
is_refused (done.Order result) = is_err result
is_refused answer = false

module _ (s : Kept) where
  known_stays : (c : List ℕ) (n : ℕ) (e : Entry) (m : Option Record) → StaysIfRefused s (known_by s c n e m)
  known_stays c n e None bad = refl
  known_stays c n e (Some m) bad = refl

  admitted_stays : (o : Origin) (q : Request) (i : Inputs) (full : Option ℕ) → StaysIfRefused s (admitted s o q i full)
  admitted_stays o q i (Some n) bad = refl
  admitted_stays o q i None bad = cc

  or_known_stays : (c : List ℕ) (n : ℕ) (q : Request) (i : Inputs) (o : Option Entry) → StaysIfRefused s (arrives_or_known s c n q i o)
  or_known_stays c n q i None = admitted_stays (CallOrigin c n) q i (or_else (is_crowded s) (is_heavy s))
  or_known_stays c n q i (Some e) = known_stays c n e (record_of e)

  by_version_stays : (v : ℕ) (d : Option Request) (known : After (Result Arrived ArriveRefused)) → StaysIfRefused s known → StaysIfRefused s (by_version s v d known)
  by_version_stays v None known h = λ bad. refl
  by_version_stays v (Some q) known h = h

  gone_stays : (last : Option TookRow) (known : After (Result Arrived ArriveRefused)) → StaysIfRefused s known → StaysIfRefused s (unless_gone s last known)
  gone_stays None known h = h
  gone_stays (Some t) known h = by_version_stays t.version t.desired known h

  answered_stays : (id : ℕ) (a : AnswerMessage) (o : Option Flight) → StaysIfRefused s (answered_flight s id a o)
  answered_stays id a None = λ bad. refl
  answered_stays id a (Some f) =
      cond_both (is_for s a f) (accepted (goes_on (noted (live_answer_rows s a) s) f)) (after s (Err (CallRefused.NoFlight id))) (StaysIfRefused s) (λ _ bad. cc) (λ _ bad. refl)

  failed_stays : (id n : ℕ) (why : Why) (o : Option Flight) → StaysIfRefused s (failed_flight s id n why o)
  failed_stays id n why None = λ bad. refl
  failed_stays id n why (Some f) =
      cond_both (nat_eq (awaited f) n) (accepted (goes_on (told n why s) f)) (after s (Err (CallRefused.NoFlight id))) (StaysIfRefused s) (λ _ bad. cc) (λ _ bad. refl)

  take_admitted_stays : (set : SetMessage) (i : Inputs) (full : Option ℕ) → StaysIfRefused s (take_admitted s set i full)
  take_admitted_stays set i (Some n) = λ bad. refl
  take_admitted_stays set i None =
      cond_both (is_known s set) (after (acked_again s set) (Ok (taken set None))) (take_new s set i) (StaysIfRefused s)
      (λ _ bad. cc) (λ _. take_either s set i (StaysIfRefused s) (λ e bad. refl) (λ bad. refl) (λ _ bad. cc))

  heard_stays : (a : TokenMessage) (o : Option Register) → StaysIfRefused s (token_taken_where s a o)
  heard_stays a None = λ bad. refl
  heard_stays a (Some r) = by (same_text r.dest a.callee) (is_news r a.answer_version)
    where
      by : (goes new : Bool)
          → StaysIfRefused {A = Heard} {E = AnswerRefused} s (cond (not goes) (after s (Err (AnswerRefused.Unknown a.number)))
          (cond new (hear_new s a r) (after (noted (confirmed_row a ∷ []) s) (Ok (heard a None)))))
      by false new = λ bad. refl
      by true true = hear_either s a r (StaysIfRefused s) (λ bad. refl) (λ bad. refl) (λ _ bad. cc)
      by true false = λ bad. cc

  held_stays : (post : Post) (o : Option Hold) → StaysIfRefused s (held_where s post o)
  held_stays post None = λ bad. refl
  held_stays post (Some hold) =
      cond_both (is_now s post) (after {A = Result Posted PostRefused} (held_back s post hold) (Ok Held)) (after s (Ok Left)) (StaysIfRefused s) (λ _ bad. cc) (λ _ bad. refl)

  fetched_stays : (a : AnswerMessage) (o : Option Register) (n : Option NotedRow) → StaysIfRefused s (fetched s a o n)
  fetched_stays a None n = λ bad. refl
  fetched_stays a (Some r) None = λ bad. refl
  fetched_stays a (Some r) (Some n) =
      cond_both (is_newer r.answer a.answer_version) (after {A = Result Posted PostRefused} (noted (fetched_row a n ∷ []) s) (Ok Saw)) (after s (Ok Knew)) (StaysIfRefused s)
      (λ _ bad. cc) (λ _ bad. refl)

  replied_stays : (post : Post) (reply : PostReply) → StaysIfRefused s (posted s post reply)
  replied_stays post (WasAcked ack) = λ bad. cc
  replied_stays post (WasConfirmedBack c) = λ bad. cc
  replied_stays post (Given a) = fetched_stays a (register a.number s.registers) (noted_at a.number a.answer_version s.journal)
  replied_stays post (Refused word n) = held_stays post (hold_of word n)
  replied_stays post (PostIsLost note) = λ bad. refl

  order_by_stays : (command : Command) (token who : List ℕ) (i : Inputs) (o : Option OrderRefused) → StaysIfRefused s (order_by s command token who i o)
  order_by_stays command token who i (Some why) = λ bad. refl
  order_by_stays command token who i None = λ bad. cc

  order_where_stays : (command : Command) (token who : List ℕ) (i : Inputs) (o : Option OrderedRow) → StaysIfRefused s (order_where s command token who i o)
  order_where_stays command token who i (Some o) = λ bad. refl
  order_where_stays command token who i None = order_by_stays command token who i (why_refused s command who)

  -- an event that is refused leaves the service as it was
  event_stays : (e : ServiceEvent) → is_refused (event s e).answer ≡ true → (event s e).service ≡ s
  event_stays (service_event.Arrive Outside q i) = admitted_stays Outside q i (or_else (is_crowded s) (is_heavy s))
  event_stays (service_event.Arrive (CallOrigin c n) q i) =
      let entry = find_call (CallOrigin c n) s.entries in
      arrives_either s c n q i (StaysIfRefused s) (λ bad. refl) (gone_stays (last_taken c n s.journal) (arrives_or_known s c n q i entry) (or_known_stays c n q i entry))
  event_stays (service_event.CallAnswered id a) = answered_stays id a (flight_of id s)
  event_stays (service_event.CallFailed id n why) = failed_stays id n why (flight_of id s)
  event_stays (service_event.Abandon id) = λ bad. cc
  event_stays (service_event.Take set i) = takes_either s set i (StaysIfRefused s) (λ bad. refl) (take_admitted_stays set i (is_too_much s set))
  event_stays (service_event.TakeToken t) = heard_stays t (register t.number s.registers)
  event_stays (service_event.Give f) = λ bad. refl
  event_stays (service_event.NextPost dest) = λ bad. refl
  event_stays (service_event.WritePost name) = λ bad. refl
  event_stays (service_event.Posted post reply) = posted_either s post reply (StaysIfRefused s) (λ bad. refl) (λ _ _. replied_stays post reply)
  event_stays service_event.Step = λ bad. cc
  event_stays (service_event.Order command token who i) = order_where_stays command token who i (ordered token s.journal)

-- ---- what is told of it

outcome_err : {E : Type 0} (r : Result Arrived E) → is_err (outcome r) ≡ is_err r
outcome_err (Ok a) = refl
outcome_err (Err why) = refl

rule_err : (r : Result Taken TakeRefused) → is_err (taken_rule r) ≡ is_err r
rule_err (Ok t) = refl
rule_err (Err why) = refl

heard_err : (r : Result Heard AnswerRefused) → is_err (answer_rule r) ≡ is_err r
heard_err (Ok t) = refl
heard_err (Err why) = refl

given_err : (r : Result AnswerMessage GiveRefused) → is_err (given_version r) ≡ is_err r
given_err (Ok a) = refl
given_err (Err why) = refl

-- ---- in a world

-- a service in its own place
put_same : (name : List ℕ) (s : Kept) (xs : List Kept) → service_of name xs ≡ Some s → put name s xs ≡ xs
put_same name s [] here = cc
put_same name s (x ∷ xs) here = elim (cases_Bool (has_name name x)) [
  | inl is ↦ (let first : Some x ≡ Some s = rw is at here in rw is (ap (λ y. y ∷ xs) (sym (some_is x s first))))
  | inr other ↦ (let later : service_of name xs ≡ Some s = rw other at here in rw other (ap (λ ys. x ∷ ys) (put_same name s xs later)))
]

module _ (w : World) where
  -- what is refused leaves the services as they were
  abbrev Stays : Turn → Type 0
  Stays t = was_refused t.answer ≡ true → t.world.services ≡ w.services

  stays_at : (name : List ℕ) (then : World) → then.services ≡ w.services → (act : Kept → Served) → ((s : Kept) → is_refusal (act s).what ≡ true → (act s).service ≡ s)
      → Stays (turn_at name w then act)
  stays_at name then services act stays = by (service_of name w.services) refl
    where
      by : (o : Option Kept) → service_of name w.services ≡ o → Stays (if_there o (refused w NoService) (λ s. turned name then (act s)))
      by None found bad = refl
      by (Some s) found bad =
          ap (λ xs. with_service name (act s).service xs) services ∙ with_is_put name (act s).service w.services ∙ ap (λ t. put name t w.services) (stays s bad) ∙ put_same name s w.services found

  begun_stays : (q : Request) (i : Inputs) (s : Kept) → is_refusal (arrive_served w.packets q s i).what ≡ true → (arrive_served w.packets q s i).service ≡ s
  begun_stays q i s bad = event_stays s (service_event.Arrive Outside q i) (sym (outcome_err (arrive_event s Outside q i).answer) ∙ bad)

  call_stays : (number flight : ℕ) (call : SetMessage) (o : Option Request) → Stays (call_delivered w number flight call o)
  call_stays number flight call None = λ bad. refl
  call_stays number flight call (Some q) =
      stays_at call.dest (once_drawn w) refl (λ s. call_arrive_served flight call q s (next_inputs w))
      (λ s bad. event_stays s (service_event.Arrive (CallOrigin call.caller call.number) q (next_inputs w)) (sym (outcome_err (arrive_event s (CallOrigin call.caller call.number) q (next_inputs w)).answer) ∙ bad))

  failed_at : (name : List ℕ) (then : World) → then.services ≡ w.services → (flight n : ℕ) (why : Why) → Stays (turn_at name w then (call_failed_served w.packets flight n why))
  failed_at name then services flight n why =
      stays_at name then services (call_failed_served w.packets flight n why) (λ s bad. event_stays s (service_event.CallFailed flight n why) (sym (outcome_err (call_failed_event s flight n why).answer) ∙ bad))

  reply_stays : (to : List ℕ) (flight : ℕ) (number : ℕ) (reply : Live) → Stays (reply_delivered w to flight number reply)
  reply_stays to flight number (LiveAnswer a) =
      stays_at to w refl (call_answered_served w.packets flight a) (λ s bad. event_stays s (service_event.CallAnswered flight a) (sym (outcome_err (call_answered_event s flight a).answer) ∙ bad))
  reply_stays to flight number (LiveRefused word n) = failed_at to w refl flight number (WasRefused word n)

  post_stays : (post : Post) → Stays (post_delivered w post)
  post_stays (SetPost set) =
      stays_at set.dest (once_drawn w) refl (λ s. take_served set s (next_inputs w)) (λ s bad. event_stays s (service_event.Take set (next_inputs w)) (sym (rule_err (take_event s set (next_inputs w)).answer) ∙ bad))
  post_stays (TokenPost t) = stays_at t.caller w refl (take_token_served t) (λ s bad. event_stays s (service_event.TakeToken t) (sym (heard_err (take_token_event s t).answer) ∙ bad))
  post_stays (FetchPost f) = stays_at f.callee w refl (give_served f) (λ s bad. event_stays s (service_event.Give f) (sym (given_err (give_event s f).answer) ∙ bad))

  back_at : (name : List ℕ) (then : World) → then.services ≡ w.services → (post : Post) (reply : PostReply) → Stays (turn_at name w then (posted_served post reply))
  back_at name then services post reply = stays_at name then services (posted_served post reply) (λ s bad. event_stays s (service_event.Posted post reply) bad)

  delivered_stays : (number : ℕ) (p : Option Packet) → Stays (delivered w number p)
  delivered_stays number None = λ bad. refl
  delivered_stays number (Some (Call from flight call)) = call_stays number flight call call.desired
  delivered_stays number (Some (CallReply to flight call_number reply)) = reply_stays to flight call_number reply
  delivered_stays number (Some (PostPacket post)) = post_stays post
  delivered_stays number (Some (PostReplyPacket post reply)) = back_at (sender post) w refl post reply

  lost_stays : (number : ℕ) (p : Option Packet) → Stays (lost w number p)
  lost_stays number None = λ bad. refl
  lost_stays number (Some (Call from flight call)) = failed_at from (once_lost w) refl flight call.number (Lost (loss_note w))
  lost_stays number (Some (CallReply to flight call_number reply)) = failed_at to (once_lost w) refl flight call_number (Lost (loss_note w))
  lost_stays number (Some (PostPacket post)) = back_at (sender post) (once_lost w) refl post (PostIsLost (loss_note w))
  lost_stays number (Some (PostReplyPacket post reply)) = back_at (sender post) (once_lost w) refl post (PostIsLost (loss_note w))

  next_stays : (s : Kept) (o : Option PostName) → is_refusal (next_post_written s o).what ≡ true → (next_post_written s o).service ≡ s
  next_stays s None bad = refl
  next_stays s (Some name) bad = refl

  posts_stays : (from to : List ℕ) (o : Option Kept) → Stays (if_there o (refused w NoService) (λ _. at_service from w (next_post_served to)))
  posts_stays from to None = λ bad. refl
  posts_stays from to (Some s) = stays_at from w refl (next_post_served to) (λ s bad. next_stays s (next_post to s) bad)

  abandoned_stays : (name : List ℕ) (flight : ℕ) (o : Option Kept)
      → Stays (if_there o (refused w NoService) (λ s. if_flying w flight (flight_of flight s) (turned name w (abandon_served flight s))))
  abandoned_stays name flight None = λ bad. refl
  abandoned_stays name flight (Some s) = by (flight_of flight s)
    where
      by : (f : Option Flight) → Stays (if_flying w flight f (turned name w (abandon_served flight s)))
      by None bad = refl
      by (Some f) bad = cc

  -- an event that is refused, or at which something is refused, changes no service
  pub refused_stays : (e : Event) → was_refused (answer_to w e) ≡ true → (after_event w e).services ≡ w.services
  unfolding turn
  refused_stays (Begin name q) = stays_at name (once_drawn w) refl (λ s. arrive_served w.packets q s (next_inputs w)) (begun_stays q (next_inputs w))
  refused_stays (Deliver number) = delivered_stays number (packet_of number w)
  refused_stays (Lose number) = lost_stays number (packet_of number w)
  refused_stays (Posts from to) = posts_stays from to (service_of to w.services)
  refused_stays (Step name) = stays_at name w refl repair_step_served (λ s bad. cc)
  refused_stays (Abandon name flight) = abandoned_stays name flight (service_of name w.services)
  refused_stays (Order name command token who) =
      stays_at name (once_drawn w) refl (λ s. order_served command token who s (next_inputs w)) (λ s bad. event_stays s (service_event.Order command token who (next_inputs w)) bad)
  refused_stays (Clock moment) = λ bad. refl
  refused_stays (Seed n) = λ bad. refl
