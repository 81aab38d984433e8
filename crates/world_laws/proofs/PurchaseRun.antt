-- A purchase and its cancellation, event by event, in a world of a shop and a bank: what each event leaves, and the packets between.
use Rattle.std.proofs.Common.{◌≡◌, ℕ, Bool, true, false, List, [], ◌∷◌, ◌++◌, Option, Some, None, Ok, All, ◌<◌, ◌^◌, ◌≢◌, length, codes, refl, sym, ap, subst, ◌∙◌, arith}
use Rattle.std.proofs.lemmas.List.Elements.{All-nil}
use Rattle.std.specs.Coded.{coded_bool}
use Rattle.lang_base.specs.Equal.{equal}
use Rattle.lang_base.proofs.EqualLemmas.{equal-true, equal-same}
use Rattle.lang_tree.specs.declared.method.Method.TheVariants.{Post as PostTo}
use Rattle.lang_tree.specs.declared.program.Route.{Route}
use Rattle.lang_core.specs.declared.inputs.Inputs.{Inputs}
use Rattle.lang_core.specs.declared.request.Request.{Request}
use Rattle.lang_core.specs.declared.setting.Setting.{Setting}
use Rattle.lang_core.specs.contracts.trace.CallMade as call_made
use Rattle.lang_core.specs.declared.trace.CallMade.{CallMade}
use Rattle.lang_core.specs.declared.trace.Trace.{Trace}
use Rattle.lang_core.specs.declared.ids.Origin.TheVariants.{Outside, Call as FromCall}
use Rattle.recorded_inputs.specs.Drawing.{drawn, word_after}
use Rattle.handler_run.specs.Handlers.{run_of}
use Rattle.handler_run.specs.declared.state.Ran.TheVariants.{Done, Wants}
use Rattle.local_repair.specs.declared.stepped.Stepped.TheVariants.{Ran as RanAgain}
use Rattle.repair_messages.specs.declared.messages.AnswerMessage.{AnswerMessage}
use Rattle.repair_messages.specs.declared.messages.SetMessage.{SetMessage}
use Rattle.repair_messages.specs.declared.posts.Post.TheVariants.{Set as SetPost}
use Rattle.repair_messages.specs.declared.posts.PostName.TheVariants.{Call as OfCall}
use Rattle.authorise_rules.specs.declared.asked.Decision.TheVariants.{Allow, Deny}
use Rattle.journal_rows.specs.declared.orders.About.TheVariants.{Request as AboutRequest}
use Rattle.journal_rows.specs.declared.orders.Command.TheVariants.{Cancel}
use Rattle.flights.specs.Moves.{next_move}
use Rattle.flights.specs.declared.flight.Flight.{Flight}
use Rattle.flights.specs.declared.flight.Move.TheVariants.{Commit}
use Rattle.service_events.specs.Allowed.{IsAllowed}
use Rattle.service_events.specs.Calls.{noted}
use Rattle.service_events.specs.Flying.{goes_on, moved}
use Rattle.service_events.specs.Arriving.{new_flight}
use Rattle.service_events.specs.Messages.{saw_ack_row}
use Rattle.service_events.specs.State.{Kept, after, me}
use Rattle.service_events.specs.Fits.{Fits}
use Rattle.service_events.proofs.StartLaw.{fits_start}
use Rattle.service_events.specs.declared.answers.Arrived.TheVariants.{Done as Committed, Call as Sends}
use Rattle.service_events.specs.Steps.{new_trace}
use Rattle.service_events.specs.declared.answers.Posted.TheVariants.{Acked as WasAcked}
use Rattle.service_events.specs.declared.answers.PostReply.TheVariants.{Acked}
use Rattle.service_events.proofs.PurchaseExample.{shop_name, bank_name, ok, start, call, flight, named, answer, answered as answered_shop, bought, cancelled, remade, trace, paid_trace, paid, unwanted, unpaid}
use Rattle.world_agreement.proofs.PurchaseTogether.{names_differ, at_shop, at_bank, no_name}
use Rattle.world_agreement.specs.Partners.{HasPartner}
use Rattle.world_agreement.proofs.ListLemmas.{all_two, one_pair}
use Rattle.world_events.specs.Worlds.{World, fresh_world}
use Rattle.world_events.specs.Sound.{AreFew, IsSound}
use Rattle.world_events.specs.Events.{Turn, turn, after_events}
use Rattle.world_events.specs.declared.event.Event.{Event}
use Rattle.world_events.specs.declared.event.Event.TheVariants.{Begin, Deliver, Post as Posts, Step, Order, Seed}
use Rattle.world_events.specs.declared.happened.Outcome.TheVariants as came
use Rattle.world_events.specs.declared.happened.What.{What}
use Rattle.world_events.specs.declared.happened.What.TheVariants.{Arrive, CallAnswered, Take, Posted as WhatPosted, NextPost, RepairStep, Order as WhatOrder, Set}
use Rattle.world_events.specs.declared.packet.Live.TheVariants.{Answer as LiveAnswer}
use Rattle.world_events.specs.declared.packet.Packet.{Packet}
use Rattle.world_events.specs.declared.packet.Packet.TheVariants.{Call, CallReply, Post as PostPacket, PostReply as PostReplyPacket}
use Rattle.world_laws.proofs.AllowedRuns.{AreAllowed}
use Rattle.world_laws.proofs.WorldLaws.{turn_sound, fresh_sound}

pub false_by : (b : Bool) → (b ≡ true → true ≡ false) → b ≡ false
false_by true same = same refl
false_by false same = refl

-- the records of live requests aren't those of dead ones
pub told_apart : equal coded_bool true false ≡ false
told_apart = false_by (equal coded_bool true false) (equal-true coded_bool true false)

abbrev pub buy : Request
buy = record { method = PostTo; path = codes "/buy"; body = []; who = codes "ann"; chain = [] }

abbrev pub pay : Request
pay = record { method = PostTo; path = codes "/pay"; body = []; who = shop_name; chain = shop_name ∷ [] }

abbrev pub i : Inputs
i = drawn 0 1

module _ (program : List Route) (token : List ℕ) where
  abbrev pub setting : Setting
  setting = record { me = bank_name; peers = []; program = program; weight = 1000000; alone = no_name }

  abbrev pub shop_setting : Setting
  shop_setting = at_shop setting buy pay i [] token shop_name

  abbrev pub bank_setting : Setting
  bank_setting = at_bank setting buy pay i [] token shop_name

  abbrev pub shop_start : Kept
  shop_start = start shop_setting buy pay i [] [] token shop_name

  abbrev pub bank_start : Kept
  bank_start = start bank_setting buy pay i [] [] token shop_name

  abbrev pub shop_named : Kept
  shop_named = named shop_setting buy pay i [] [] token shop_name

  abbrev pub shop_answered : Kept
  shop_answered = answered_shop shop_setting buy pay i [] [] token shop_name

  abbrev pub waiting : Flight
  waiting = flight shop_setting buy pay i [] [] token shop_name (call shop_setting buy pay i [] [] token shop_name ∷ []) (1 ∷ [])

  abbrev pub bought_trace : Trace
  bought_trace = trace shop_setting buy pay i [] [] token shop_name

  abbrev pub the_call : CallMade
  the_call = call shop_setting buy pay i [] [] token shop_name

  abbrev pub bank_paid : Kept
  bank_paid = paid bank_setting buy pay i [] [] token shop_name

  abbrev pub shop_bought : Kept
  shop_bought = bought shop_setting buy pay i [] [] token shop_name

  abbrev pub shop_cancelled : Kept
  shop_cancelled = cancelled shop_setting buy pay i [] [] token shop_name

  abbrev pub shop_remade : Kept
  shop_remade = remade shop_setting buy pay i [] [] token shop_name

  abbrev pub bank_unwanted : Kept
  bank_unwanted = unwanted bank_setting buy pay i [] [] token shop_name

  abbrev pub shop_acked : Kept
  shop_acked = noted (saw_ack_row (record { caller = shop_name; dest = bank_name; number = 1; version = 2 }) ∷ []) shop_remade

  abbrev pub bank_unpaid : Kept
  bank_unpaid = unpaid bank_setting buy pay i [] [] token shop_name

  -- ---- packets

  abbrev pub first_call : SetMessage
  first_call = record { caller = shop_name; dest = bank_name; number = 1; version = 1; desired = Some pay; before = None; after = None; who = shop_name }

  abbrev pub deletion : SetMessage
  deletion = record { caller = shop_name; dest = bank_name; number = 1; version = 2; desired = None; before = None; after = None; who = shop_name }

  abbrev pub asked : List Packet
  asked = Call shop_name 1 first_call ∷ []

  abbrev pub paid_answer : AnswerMessage
  paid_answer = answer shop_setting buy pay i [] [] token shop_name

  abbrev pub answered : List Packet
  answered = asked ++ CallReply shop_name 1 1 (LiveAnswer paid_answer) ∷ []

  abbrev pub deleted : List Packet
  deleted = answered ++ PostPacket (SetPost deletion) ∷ []

  abbrev pub acknowledged : List Packet
  acknowledged = deleted ++ PostReplyPacket (SetPost deletion) (Acked (record { caller = shop_name; dest = bank_name; number = 1; version = 2 })) ∷ []

  -- ---- worlds

  abbrev pub world : Kept → Kept → List Packet → ℕ → World
  world s b packets x = record { services = s ∷ (b ∷ []); packets = packets; moment = 0; x = x; losses = 0 }

  -- at first, with a call that is named, with one that is paid, bought, cancelled, remade, deleted, acknowledged, and at the end
  abbrev pub fresh : World
  fresh = fresh_world (shop_start ∷ (bank_start ∷ []))

  abbrev pub naming : ℕ → World
  naming x = world shop_named bank_start asked x

  abbrev pub paying : World
  paying = world shop_named bank_paid answered (word_after 8 1)

  abbrev pub purchased : World
  purchased = world shop_bought bank_paid answered (word_after 8 1)

  abbrev pub cancelling : World
  cancelling = world shop_cancelled bank_paid answered (word_after 16 1)

  abbrev pub remaking : World
  remaking = world shop_remade bank_paid answered (word_after 16 1)

  abbrev pub deleting : World
  deleting = world shop_remade bank_paid deleted (word_after 16 1)

  abbrev pub taking : World
  taking = world shop_remade bank_unwanted acknowledged (word_after 24 1)

  abbrev pub hearing : World
  hearing = world shop_acked bank_unwanted acknowledged (word_after 24 1)

  abbrev pub undone : World
  undone = world shop_acked bank_unpaid acknowledged (word_after 24 1)

  -- the service of this name did this, and this packet was written
  abbrev pub does : World → List ℕ → What → Option ℕ → Turn
  does w name what packet = record { world = w; answer = Ok (record { service = Some name; what = what; packet = packet }) }

  -- the events: the first word is set again between the two requests, so that both are given the same words
  abbrev pub purchase : List Event
  purchase = Begin shop_name buy ∷ (Seed 1 ∷ (Deliver 1 ∷ (Deliver 2 ∷ [])))

  abbrev pub undoing : List Event
  undoing =
      Order shop_name (Cancel 1) token shop_name ∷ (Step shop_name ∷ (Posts shop_name bank_name ∷ (Deliver 3 ∷ (Deliver 4 ∷ (Step bank_name ∷ [])))))

  -- ---- the worlds are sound

  few : (s b : Kept) (packets : List Packet) (x : ℕ) → length s.journal < 2 ^ 64 → length b.journal < 2 ^ 64 → AreFew (world s b packets x)
  few s b packets x of_s of_b = all_two (λ (s : Kept). length s.journal < 2 ^ 64) s b of_s of_b

  sound_then : (w : World) (e : Event) (t : Turn) → turn w e ≡ t → AreFew t.world → IsSound w → IsSound t.world
  sound_then w e t is few h = subst (λ (t : Turn). IsSound t.world) is (turn_sound w h e (subst (λ (t : Turn). AreFew t.world) (sym is) few))

  begins_sound : IsSound fresh
  begins_sound =
      fresh_sound (shop_start ∷ (bank_start ∷ []))
      (one_pair (λ s t. me s ≢ me t) shop_start bank_start (names_differ shop_name bank_name refl))
      (all_two Fits shop_start bank_start (fits_start shop_setting shop_start.began) (fits_start bank_setting bank_start.began))
      (all_two (λ s. All (HasPartner (shop_start ∷ (bank_start ∷ [])) s) s.journal) shop_start bank_start (All-nil _) (All-nil _))
      (all_two (λ (s : Kept). s.flights ≡ []) shop_start bank_start refl refl)

  seeds : turn (naming (word_after 8 1)) (Seed 1) ≡ record { world = naming 1; answer = Ok (record { service = None; what = Set; packet = None }) }
  unfolding turn
  seeds = refl

  module _ (asks : run_of shop_setting buy i [] [] ≡ Wants 0 [] (call shop_setting buy pay i [] [] token shop_name))
      (buys : run_of shop_setting buy i (ok ∷ []) [] ≡ Done (trace shop_setting buy pay i [] [] token shop_name))
      (pays : run_of bank_setting pay i [] [] ≡ Done (paid_trace bank_setting buy pay i [] [] token shop_name)) where
    shop_asks : goes_on shop_start (new_flight shop_start Outside buy i) ≡ after shop_named (Sends 1 first_call)
    unfolding goes_on
    shop_asks = ap (λ ran. moved shop_start (new_flight shop_start Outside buy i) ran (next_move (new_flight shop_start Outside buy i) ran)) asks

    bank_pays : goes_on bank_start (new_flight bank_start (FromCall shop_name 1) pay i) ≡ after bank_paid (Committed 2 1 (Some paid_answer))
    unfolding goes_on
    bank_pays = ap (λ ran. moved bank_start (new_flight bank_start (FromCall shop_name 1) pay i) ran (next_move (new_flight bank_start (FromCall shop_name 1) pay i) ran)) pays

    -- the second run makes the same call
    shop_ends : next_move waiting (Done bought_trace) ≡ Commit
    shop_ends = rw (equal-same call_made.the_row.coded the_call the_call refl) refl

    shop_buys : goes_on shop_answered waiting ≡ after shop_bought (Committed 4 1 None)
    unfolding goes_on
    shop_buys =
        ap (λ ran. moved shop_answered waiting ran (next_move waiting ran)) buys
        ∙ ap (moved shop_answered waiting (Done bought_trace)) shop_ends

    begins : turn fresh (Begin shop_name buy) ≡ does (naming (word_after 8 1)) shop_name (Arrive (Ok (came.Call 1))) (Some 1)
    unfolding turn
    begins = rw shop_asks refl

    pays_now : turn (naming 1) (Deliver 1) ≡ does paying bank_name (Arrive (Ok (came.Done 2 1))) (Some 2)
    unfolding turn
    pays_now = rw bank_pays refl

    buys_now : turn paying (Deliver 2) ≡ does purchased shop_name (CallAnswered (Ok (came.Done 4 1))) None
    unfolding turn
    buys_now = rw shop_buys refl

    -- the purchase, where the programs do this
    pub purchases : after_events fresh purchase ≡ purchased
    purchases =
        ap (λ (t : Turn). after_events t.world (Seed 1 ∷ (Deliver 1 ∷ (Deliver 2 ∷ [])))) begins
        ∙ ap (λ (t : Turn). after_events t.world (Deliver 1 ∷ (Deliver 2 ∷ []))) seeds
        ∙ ap (λ (t : Turn). after_events t.world (Deliver 2 ∷ [])) pays_now
        ∙ ap (λ (t : Turn). t.world) buys_now

    pub purchased_sound : IsSound purchased
    purchased_sound =
        sound_then paying (Deliver 2) _ buys_now (few shop_bought bank_paid answered (word_after 8 1) (omega arith) (omega arith))
        (sound_then (naming 1) (Deliver 1) _ pays_now (few shop_named bank_paid answered (word_after 8 1) (omega arith) (omega arith))
        (sound_then (naming (word_after 8 1)) (Seed 1) _ seeds (few shop_named bank_start asked 1 (omega arith) (omega arith))
        (sound_then fresh (Begin shop_name buy) _ begins (few shop_named bank_start asked (word_after 8 1) (omega arith) (omega arith)) begins_sound)))

  -- what was cancelled is dead, and its call is deleted
  cancels : turn purchased (Order shop_name (Cancel 1) token shop_name)
      ≡ does cancelling shop_name (WhatOrder (Ok (record { about = AboutRequest 1; rule = 1 }))) None
  unfolding turn
  cancels = refl

  steps : turn cancelling (Step shop_name) ≡ does remaking shop_name (RepairStep (RanAgain 1 true)) None
  unfolding turn equal new_trace
  steps = rw told_apart refl

  posts : turn remaking (Posts shop_name bank_name) ≡ does deleting shop_name (NextPost (Some (OfCall 1))) (Some 3)
  unfolding turn
  posts = refl

  takes : turn deleting (Deliver 3) ≡ does taking bank_name (Take (Ok (Some 1))) (Some 4)
  unfolding turn
  takes = refl

  acks : turn taking (Deliver 4) ≡ does hearing shop_name (WhatPosted (Ok WasAcked)) None
  unfolding turn
  acks = refl

  unpays : turn hearing (Step bank_name) ≡ does undone bank_name (RepairStep (RanAgain 1 true)) None
  unfolding turn equal new_trace
  unpays = rw told_apart refl

  -- what the purchase leaves is undone, whatever the programs are
  pub undoes : after_events purchased undoing ≡ undone
  undoes =
      ap (λ (t : Turn). after_events t.world (Step shop_name ∷ (Posts shop_name bank_name ∷ (Deliver 3 ∷ (Deliver 4 ∷ (Step bank_name ∷ [])))))) cancels
      ∙ ap (λ (t : Turn). after_events t.world (Posts shop_name bank_name ∷ (Deliver 3 ∷ (Deliver 4 ∷ (Step bank_name ∷ []))))) steps
      ∙ ap (λ (t : Turn). after_events t.world (Deliver 3 ∷ (Deliver 4 ∷ (Step bank_name ∷ [])))) posts
      ∙ ap (λ (t : Turn). after_events t.world (Deliver 4 ∷ (Step bank_name ∷ []))) takes
      ∙ ap (λ (t : Turn). after_events t.world (Step bank_name ∷ [])) acks
      ∙ ap (λ (t : Turn). t.world) unpays

  pub undone_sound : IsSound purchased → IsSound undone
  undone_sound h =
      sound_then hearing (Step bank_name) _ unpays (few shop_acked bank_unpaid acknowledged (word_after 24 1) (omega arith) (omega arith))
      (sound_then taking (Deliver 4) _ acks (few shop_acked bank_unwanted acknowledged (word_after 24 1) (omega arith) (omega arith))
      (sound_then deleting (Deliver 3) _ takes (few shop_remade bank_unwanted acknowledged (word_after 24 1) (omega arith) (omega arith))
      (sound_then remaking (Posts shop_name bank_name) _ posts (few shop_remade bank_paid deleted (word_after 16 1) (omega arith) (omega arith))
      (sound_then cancelling (Step shop_name) _ steps (few shop_remade bank_paid answered (word_after 16 1) (omega arith) (omega arith))
      (sound_then purchased (Order shop_name (Cancel 1) token shop_name) _ cancels (few shop_cancelled bank_paid answered (word_after 16 1) (omega arith) (omega arith)) h)))))

  -- ---- the repairs in both journals were allowed, the order by the shop's rule and the deletion by the bank's

  shop_allowed : IsAllowed shop_acked
  shop_allowed = (tt, (tt, (refl, (tt, (tt, (refl, (tt, (tt, (tt, tt)))))))))

  bank_allowed : IsAllowed bank_unpaid
  bank_allowed = (tt, (refl, (tt, (refl, (tt, (tt, tt))))))

  pub undone_allowed : AreAllowed undone.services
  undone_allowed = all_two IsAllowed shop_acked bank_unpaid shop_allowed bank_allowed

  -- and without rules the same order wasn't
  not_without_rules : IsAllowed (record shop_acked { began = record { text = []; rules = [] } }) → ⊥
  not_without_rules h = no_rule h.1.1.1.1.1.0
    where
      no_rule : Deny 0 ≡ Allow 1 → ⊥
      no_rule is = cc
