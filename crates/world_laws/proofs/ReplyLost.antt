-- The same purchase where the bank's reply is lost: the shop answers at once that nothing came, and a post, a token, a fetch and a step make
-- good.
use Rattle.std.proofs.Common.{◌≡◌, ℕ, Bool, true, false, ◌&&◌, List, [], ◌∷◌, ◌++◌, Option, Some, None, Ok, refl, ap, ◌∙◌, arith, if◌then◌else◌, map, nat_eq}
use Rattle.std.specs.Coded.{coded_bool, coded_list, coded_option}
use Rattle.std.specs.List.{list_all}
use Rattle.lang_base.specs.Equal.{equal}
use Rattle.lang_base.proofs.EqualLemmas.{equal-true, equal-same}
use Rattle.lang_tree.specs.declared.program.Route.{Route}
use Rattle.lang_core.specs.contracts.request.Request as request
use Rattle.lang_core.specs.contracts.request.Response as response
use Rattle.lang_core.specs.contracts.trace.CallMade as call_made
use Rattle.lang_core.specs.declared.cells.Cell.{Cell}
use Rattle.lang_core.specs.declared.request.Request.{Request}
use Rattle.lang_core.specs.declared.request.Response.{Response}
use Rattle.lang_core.specs.declared.trace.CallMade.{CallMade}
use Rattle.lang_core.specs.declared.trace.Trace.{Trace}
use Rattle.recorded_inputs.specs.Drawing.{word_after}
use Rattle.handler_run.specs.HandedOn.{block_code}
use Rattle.handler_run.specs.Handlers.{handler_of, run_of}
use Rattle.handler_run.specs.declared.state.Ran.TheVariants.{Done, Wants}
use Rattle.request_log.specs.Entries.{is_alive}
use Rattle.request_log.specs.declared.entry.Entry.{Entry}
use Rattle.request_log.specs.declared.entry.Made.{Made}
use Rattle.local_repair.specs.Current.{Consumed}
use Rattle.local_repair.specs.Steps.{tentative, answer_at, is_new_answer, remade}
use Rattle.local_repair.specs.Tests.{gives, has_current, has_its_handler, is_current}
use Rattle.local_repair.specs.declared.stepped.Stepped.{Stepped}
use Rattle.local_repair.specs.declared.stepped.Stepped.TheVariants.{Idle, Ran as RanAgain}
use Rattle.repair_messages.specs.declared.messages.Ack.{Ack}
use Rattle.repair_messages.specs.declared.messages.Confirm.{Confirm}
use Rattle.repair_messages.specs.declared.messages.Fetch.{Fetch}
use Rattle.repair_messages.specs.declared.messages.TokenMessage.{TokenMessage}
use Rattle.repair_messages.specs.declared.posts.Post.TheVariants.{Set as SetPost, Token as TokenPost, Fetch as FetchPost}
use Rattle.repair_messages.specs.declared.posts.PostName.TheVariants.{Call as OfCall, Reply as OfReply, Fetch as OfFetch}
use Rattle.journal_rows.specs.declared.caller.NotedRow.{NotedRow}
use Rattle.call_registers.specs.declared.register.Why.TheVariants.{Lost}
use Rattle.flights.specs.Moves.{next_move}
use Rattle.flights.specs.declared.flight.Flight.{Flight}
use Rattle.flights.specs.declared.flight.Move.TheVariants.{Commit}
use Rattle.service_events.specs.Arriving.{told}
use Rattle.service_events.specs.Calls.{noted}
use Rattle.service_events.specs.Flying.{goes_on, moved, committed, committed_entry}
use Rattle.service_events.specs.Messages.{acked_again, saw_ack_row, noted_row, confirmed_row, fetched_row, posted_event}
use Rattle.service_events.specs.State.{After, Kept, after, answers, base, unfolded}
use Rattle.service_events.specs.Steps.{ended_or, rerun, new_numbers, new_trace, stepped, stale_in, step_by, step_event}
use Rattle.service_events.specs.declared.answers.Posted.TheVariants.{Acked as WasAcked, Confirmed as WasConfirmed, Saw}
use Rattle.service_events.specs.declared.answers.PostReply.TheVariants.{Acked, Confirmed, Given}
use Rattle.service_events.proofs.PurchaseExample.{shop_name, bank_name, ok}
use Rattle.world_events.specs.Worlds.{World, loss_note}
use Rattle.world_events.specs.Events.{Turn, turn, turned}
use Rattle.world_events.specs.declared.event.Event.TheVariants.{Deliver, Lose, Post as Posts, Step}
use Rattle.world_events.specs.declared.happened.Outcome.TheVariants as came
use Rattle.world_events.specs.declared.happened.What.{What}
use Rattle.world_events.specs.declared.happened.What.TheVariants.{CallFailed, Take, TakeToken, Give, Posted as WhatPosted, NextPost, RepairStep}
use Rattle.world_events.specs.declared.packet.Packet.{Packet}
use Rattle.world_events.specs.declared.packet.Packet.TheVariants.{Post as PostPacket, PostReply as PostReplyPacket}
use Rattle.world_laws.proofs.PurchaseRun.{buy, pay, i, false_by, shop_setting, shop_named, bank_paid, waiting, the_call, bought_trace, first_call, paid_answer, answered, paying, does}

-- ---- what a step finds

all_hold : {a b c d e f : Bool} → a ≡ true → b ≡ true → c ≡ true → d ≡ true → e ≡ true → f ≡ true → (a && b && c && d && e && f) ≡ true
all_hold ha hb hc hd he hf = rw ha (rw hb (rw hc (rw hd (rw he hf))))

fifth_fails : (a b c d e f : Bool) → e ≡ false → (a && b && c && d && e && f) ≡ false
fifth_fails false b c d e f h = refl
fifth_fails true false c d e f h = refl
fifth_fails true true false d e f h = refl
fifth_fails true true true false e f h = refl
fifth_fails true true true true e f h = ap (λ (x : Bool). x && f) h

-- an entry that consumed other answers than its calls have now is stale
answers_apart : {m : Made} (consumed : Consumed) (rows : List Cell) (e : Entry)
    → e.made ≡ Some m → equal (coded_list response.the_row.coded) m.trace.answers (map consumed e.slots) ≡ false → is_current consumed rows e ≡ false
answers_apart {m = m} consumed rows e made apart =
    ap (has_current consumed rows e) made
    ∙ fifth_fails (equal coded_bool m.alive (is_alive e)) (nat_eq m.version e.version) (equal request.the_row.coded m.request e.request)
    (list_all (gives rows) m.trace.reads) (equal (coded_list response.the_row.coded) m.trace.answers (map consumed e.slots)) (has_its_handler e) apart

-- a service whose one entry that isn't folded is current has nothing to run again
rests : {e : Entry} {m : Made} (s : Kept) → unfolded s ≡ e ∷ [] → e.made ≡ Some m
    → equal coded_bool m.alive (is_alive e) ≡ true → nat_eq m.version e.version ≡ true → equal request.the_row.coded m.request e.request ≡ true
    → list_all (gives (base s)) m.trace.reads ≡ true → equal (coded_list response.the_row.coded) m.trace.answers (map (answers s) e.slots) ≡ true
    → has_its_handler e ≡ true → step_event s ≡ after s Idle
rests {e = e} {m = m} s only made alive version asked reads heard handler =
    ap (λ es. step_by s (stale_in (answers s) (base s) es)) only
    ∙ ap (λ (b : Bool). step_by s (if b then None else Some (record { entry = e; rows = base s }))) current
  where
    current : is_current (answers s) (base s) e ≡ true
    current = ap (has_current (answers s) (base s) e) made ∙ all_hold alive version asked reads heard handler

-- an entry whose record was made under its own program
own_handler : (program : List Route) (q : Request) → equal (coded_option block_code) (handler_of program q) (handler_of program q) ≡ true
own_handler program q = equal-same (coded_option block_code) (handler_of program q) (handler_of program q) refl

-- what a step's turn makes of what the service did
abbrev stepped_turn : List ℕ → World → After Stepped → Turn
stepped_turn name w x = turned name w (record { service = x.service; what = RepairStep x.answer; packet = None })

module _ (program : List Route) (token : List ℕ) where
  abbrev named : Kept
  named = shop_named program token

  abbrev paid : Kept
  paid = bank_paid program token

  abbrev flight : Flight
  flight = waiting program token

  abbrev the_pay : CallMade
  the_pay = the_call program token

  -- ---- the services

  -- the shop is told that the exchange failed, and ends its request with the answer that stands for one that never came
  abbrev told_so : Kept
  told_so = told 1 (Lost (loss_note (paying program token))) named

  abbrev pub tried_trace : Trace
  tried_trace = record { reads = []; calls = the_pay ∷ []; answers = tentative ∷ []; writes = []; response = tentative }

  abbrev pub tried : Kept
  tried = (committed told_so flight tried_trace).service

  abbrev ack : Ack
  ack = record { caller = shop_name; dest = bank_name; number = 1; version = 1 }

  abbrev acked : Kept
  acked = noted (saw_ack_row ack ∷ []) tried

  -- the bank announces its answer, by the first rule the shop notes that, and holds the answer once it fetched it
  abbrev announced : TokenMessage
  announced =
      record { caller = shop_name; callee = bank_name; id = 1; number = 1; answer_version = 1; who = (paid_answer program token).who }

  abbrev heard : Kept
  heard = noted (noted_row 1 announced ∷ (confirmed_row announced ∷ [])) acked

  abbrev fetch : Fetch
  fetch = record { caller = shop_name; callee = bank_name; number = 1; answer_version = 1 }

  abbrev noted_token : NotedRow
  noted_token = record { number = 1; answer_version = 1; who = announced.who; rule = 1 }

  abbrev saw : Kept
  saw = noted (fetched_row (paid_answer program token) noted_token ∷ []) heard

  abbrev made : Made
  made = record { alive = true; version = 0; request = buy; trace = bought_trace program token }

  abbrev tried_entry : Entry
  tried_entry = committed_entry told_so flight tried_trace

  abbrev mended : Kept
  mended = (stepped saw tried_entry made).service

  -- the bank knows the call, acknowledges it again, and owes its answer
  abbrev owing : Kept
  owing = acked_again paid (first_call program token)

  abbrev confirm : Confirm
  confirm = record { caller = shop_name; callee = bank_name; number = 1; answer_version = 1 }

  abbrev settled : Kept
  settled = (posted_event owing (TokenPost announced) (Confirmed confirm)).service

  -- ---- packets and worlds

  abbrev created : List Packet
  created = answered program token ++ PostPacket (SetPost (first_call program token)) ∷ []

  abbrev known : List Packet
  known = created ++ PostReplyPacket (SetPost (first_call program token)) (Acked ack) ∷ []

  abbrev told_again : List Packet
  told_again = known ++ PostPacket (TokenPost announced) ∷ []

  abbrev confirmed : List Packet
  confirmed = told_again ++ PostReplyPacket (TokenPost announced) (Confirmed confirm) ∷ []

  abbrev asked_for : List Packet
  asked_for = confirmed ++ PostPacket (FetchPost fetch) ∷ []

  abbrev given_back : List Packet
  given_back = asked_for ++ PostReplyPacket (FetchPost fetch) (Given (paid_answer program token)) ∷ []

  abbrev pub world : Kept → Kept → List Packet → ℕ → World
  world s b packets x = record { services = s ∷ (b ∷ []); packets = packets; moment = 0; x = x; losses = 1 }

  abbrev pub happens : World → List ℕ → What → Option ℕ → Turn
  happens w name what packet = does program token w name what packet

  abbrev pub before_step : World
  before_step = world saw settled given_back (word_after 16 1)

  abbrev pub after_step : World
  after_step = world mended settled given_back (word_after 16 1)

  same_call : equal call_made.the_row.coded the_pay the_pay ≡ true
  same_call = equal-same call_made.the_row.coded the_pay the_pay refl

  module _ (tries : run_of (shop_setting program token) buy i (tentative ∷ []) [] ≡ Done tried_trace) where
    tried_ends : next_move flight (Done tried_trace) ≡ Commit
    tried_ends = rw same_call refl

    shop_tries : goes_on told_so flight ≡ committed told_so flight tried_trace
    unfolding goes_on
    shop_tries = ap (λ ran. moved told_so flight ran (next_move flight ran)) tries ∙ ap (moved told_so flight (Done tried_trace)) tried_ends

    pub loses : turn (paying program token) (Lose 2)
        ≡ happens (world tried paid (answered program token) (word_after 8 1)) shop_name (CallFailed (Ok (came.Done 2 1))) None
    unfolding turn
    loses = rw shop_tries refl

  posts_call : turn (world tried paid (answered program token) (word_after 8 1)) (Posts shop_name bank_name)
      ≡ happens (world tried paid created (word_after 8 1)) shop_name (NextPost (Some (OfCall 1))) (Some 3)
  unfolding turn
  posts_call = refl

  knows : turn (world tried paid created (word_after 8 1)) (Deliver 3) ≡ happens (world tried owing known (word_after 16 1)) bank_name (Take (Ok None)) (Some 4)
  unfolding turn
  knows = refl

  acks : turn (world tried owing known (word_after 16 1)) (Deliver 4) ≡ happens (world acked owing known (word_after 16 1)) shop_name (WhatPosted (Ok WasAcked)) None
  unfolding turn
  acks = refl

  posts_answer : turn (world acked owing known (word_after 16 1)) (Posts bank_name shop_name)
      ≡ happens (world acked owing told_again (word_after 16 1)) bank_name (NextPost (Some (OfReply 1))) (Some 5)
  unfolding turn
  posts_answer = refl

  hears : turn (world acked owing told_again (word_after 16 1)) (Deliver 5)
      ≡ happens (world heard owing confirmed (word_after 16 1)) shop_name (TakeToken (Ok (Some 1))) (Some 6)
  unfolding turn
  hears = refl

  confirms : turn (world heard owing confirmed (word_after 16 1)) (Deliver 6)
      ≡ happens (world heard settled confirmed (word_after 16 1)) bank_name (WhatPosted (Ok WasConfirmed)) None
  unfolding turn
  confirms = refl

  posts_fetch : turn (world heard settled confirmed (word_after 16 1)) (Posts shop_name bank_name)
      ≡ happens (world heard settled asked_for (word_after 16 1)) shop_name (NextPost (Some (OfFetch 1))) (Some 7)
  unfolding turn
  posts_fetch = refl

  gives_again : turn (world heard settled asked_for (word_after 16 1)) (Deliver 7)
      ≡ happens (world heard settled given_back (word_after 16 1)) bank_name (Give (Ok 1)) (Some 8)
  unfolding turn
  gives_again = refl

  sees : turn (world heard settled given_back (word_after 16 1)) (Deliver 8)
      ≡ happens before_step shop_name (WhatPosted (Ok Saw)) None
  unfolding turn
  sees = refl

  -- ---- the step

  alive_still : equal coded_bool true true ≡ true
  alive_still = equal-same coded_bool true true refl

  same_request : equal request.the_row.coded buy buy ≡ true
  same_request = equal-same request.the_row.coded buy buy refl

  abbrev status_of : List Response → ℕ
  status_of [] = 0
  status_of (r ∷ rs) = r.status

  other_answer : equal response.the_row.coded tentative ok ≡ false
  other_answer = false_by (equal response.the_row.coded tentative ok)
      (λ h. let same : 504 ≡ 200 = ap (λ (r : Response). r.status) (equal-true response.the_row.coded tentative ok h) in absurd (omega (arith, same)))

  other_answers : equal (coded_list response.the_row.coded) (tentative ∷ []) (ok ∷ []) ≡ false
  other_answers = false_by (equal (coded_list response.the_row.coded) (tentative ∷ []) (ok ∷ []))
      (λ h. let same : 504 ≡ 200 = ap status_of (equal-true (coded_list response.the_row.coded) (tentative ∷ []) (ok ∷ []) h) in absurd (omega (arith, same)))

  is_stale : is_current (answers saw) [] tried_entry ≡ false
  is_stale = answers_apart (answers saw) [] tried_entry refl other_answers

  first_stale : stale_in (answers saw) (base saw) (unfolded saw) ≡ Some (record { entry = tried_entry; rows = [] })
  first_stale = ap (λ (b : Bool). if b then None else Some (record { entry = tried_entry; rows = [] })) is_stale

  new_answer : is_new_answer tried_entry.made made ≡ true
  new_answer = rw other_answer refl

  -- the shop runs again with the answer
  module _ (asks : run_of (shop_setting program token) buy i [] [] ≡ Wants 0 [] the_pay)
      (buys : run_of (shop_setting program token) buy i (ok ∷ []) [] ≡ Done (bought_trace program token)) where
    given : answer_at (answers saw) (tried_trace.calls) (1 ∷ []) 0 the_pay ≡ ok
    given = rw same_call refl

    runs_again : new_trace saw [] tried_entry ≡ bought_trace program token
    unfolding new_trace
    runs_again =
        ap (λ ran. ended_or ran (λ slot call. rerun 16 saw [] tried_entry (answer_at (answers saw) (tried_trace.calls) (1 ∷ []) slot call ∷ []))) asks
        ∙ ap (λ r. rerun 16 saw [] tried_entry (r ∷ [])) given
        ∙ ap (λ ran. ended_or ran (λ slot call. rerun 15 saw [] tried_entry (ok ∷ (answer_at (answers saw) (tried_trace.calls) (1 ∷ []) slot call ∷ [])))) buys

    step_is : step_event saw ≡ stepped saw tried_entry made
    step_is =
        ap (step_by saw) first_stale
        ∙ ap (λ t. stepped saw tried_entry (record { alive = true; version = 0; request = buy; trace = t })) runs_again

    pub mends : turn before_step (Step shop_name)
        ≡ happens after_step shop_name (RepairStep (RanAgain 1 true)) None
    unfolding turn
    mends =
        ap (stepped_turn shop_name before_step) step_is
        ∙ ap (λ (b : Bool). happens after_step shop_name (RepairStep (RanAgain 1 b)) None) new_answer

  -- and nothing is left to do
  nothing_more : turn after_step (Posts shop_name bank_name)
      ≡ happens after_step shop_name (NextPost None) None
  unfolding turn
  nothing_more = rw (same_call, other_answer) refl

  nothing_there : turn after_step (Posts bank_name shop_name)
      ≡ happens after_step bank_name (NextPost None) None
  unfolding turn
  nothing_there = refl

  same_answers : equal (coded_list response.the_row.coded) (ok ∷ []) (ok ∷ []) ≡ true
  same_answers = equal-same (coded_list response.the_row.coded) (ok ∷ []) (ok ∷ []) refl

  abbrev mended_entry : Entry
  mended_entry = remade tried_entry made (new_numbers saw tried_entry made)

  hears_ok : map (answers mended) mended_entry.slots ≡ ok ∷ []
  hears_ok = rw (same_call, other_answer) refl

  shop_rests : turn after_step (Step shop_name)
      ≡ happens after_step shop_name (RepairStep Idle) None
  unfolding turn
  shop_rests =
      ap (stepped_turn shop_name after_step)
      (rests {e = mended_entry} {m = made} mended refl refl alive_still refl same_request refl
      (ap (equal (coded_list response.the_row.coded) (ok ∷ [])) hears_ok ∙ same_answers) (own_handler program buy))

  same_pay : equal request.the_row.coded pay pay ≡ true
  same_pay = equal-same request.the_row.coded pay pay refl

  no_answers : equal (coded_list response.the_row.coded) [] [] ≡ true
  no_answers = equal-same (coded_list response.the_row.coded) [] [] refl

  bank_rests : turn after_step (Step bank_name)
      ≡ happens after_step bank_name (RepairStep Idle) None
  unfolding turn
  bank_rests = ap (stepped_turn bank_name after_step) (rests settled refl refl alive_still refl same_pay refl no_answers (own_handler program pay))
