-- Each event of a world keeps it sound.
use Rattle.std.proofs.Common.{◌≡◌, ℕ, zero, suc, slice_get, ◌^◌, ◌<◌, ◌++◌, List, [], ◌∷◌, Option, Some, None, IfSome, IsSomeAnd, All, Contains, Result, Ok, Err, find, length, nat_eq, option_map, option_to_list, refl, sym, ◌∙◌, subst}
use Rattle.std.proofs.lemmas.Bool.{and_parts}
use Rattle.std.proofs.lemmas.List.Elements.{All-nil, All-cons, All-head, All-tail, All-contains, All-weaker}
use Rattle.lang_base.specs.Texts.{same_text}
use Rattle.lang_core.specs.declared.ids.Origin.{Origin}
use Rattle.lang_core.specs.declared.ids.Origin.TheVariants.{Outside, Call as CallOrigin}
use Rattle.lang_core.specs.declared.inputs.Inputs.{Inputs}
use Rattle.lang_core.specs.declared.request.Request.{Request}
use Rattle.repair_messages.specs.declared.messages.Ack.{Ack}
use Rattle.repair_messages.specs.declared.messages.AnswerMessage.{AnswerMessage}
use Rattle.repair_messages.specs.declared.messages.Confirm.{Confirm}
use Rattle.repair_messages.specs.declared.messages.Fetch.{Fetch}
use Rattle.repair_messages.specs.declared.messages.SetMessage.{SetMessage}
use Rattle.repair_messages.specs.declared.messages.TokenMessage.{TokenMessage}
use Rattle.repair_messages.specs.declared.posts.Post.{Post}
use Rattle.repair_messages.specs.declared.posts.Post.TheVariants.{Set as SetPost, Token as TokenPost, Fetch as FetchPost}
use Rattle.repair_messages.specs.declared.posts.PostName.{PostName}
use Rattle.journal_rows.specs.Words.{given_at}
use Rattle.journal_rows.specs.declared.callee.AnsweredRow.{AnsweredRow}
use Rattle.journal_rows.specs.declared.row.Row.{Row}
use Rattle.journal_rows.specs.declared.row.Row.TheVariants.{Answered}
use Rattle.call_registers.specs.declared.register.Why.{Why}
use Rattle.call_registers.specs.declared.register.Why.TheVariants.{Lost, Refused as WasRefused}
use Rattle.flights.specs.declared.flight.Flight.{Flight}
use Rattle.service_events.specs.State.{Kept, After, me, flight_of}
use Rattle.service_events.specs.Arriving.{arrive_event, call_answered_event, call_failed_event}
use Rattle.service_events.specs.Event.{event}
use Rattle.service_events.specs.Fits.{Fits}
use Rattle.service_events.specs.Messages.{take_event, take_token_event, given_where}
use Rattle.service_events.specs.Posts.{next_post, write_post}
use Rattle.service_events.specs.declared.answers.Arrived.{Arrived}
use Rattle.service_events.specs.declared.answers.Arrived.TheVariants.{Done, Call as Sends, Known}
use Rattle.service_events.specs.declared.answers.Heard.{Heard}
use Rattle.service_events.specs.declared.answers.PostReply.TheVariants.{Lost as PostIsLost}
use Rattle.service_events.specs.declared.answers.Taken.{Taken}
use Rattle.service_events.specs.declared.event.Event.{Event as ServiceEvent}
use Rattle.service_events.specs.declared.event.Event.TheVariants as service_event
use Rattle.service_events.specs.declared.refusals.AnswerRefused.{AnswerRefused}
use Rattle.service_events.specs.declared.refusals.AnswerRefused.TheVariants as answer
use Rattle.service_events.specs.declared.refusals.ArriveRefused.{ArriveRefused}
use Rattle.service_events.specs.declared.refusals.ArriveRefused.TheVariants as arrive
use Rattle.service_events.specs.declared.refusals.TakeRefused.{TakeRefused}
use Rattle.service_events.specs.declared.refusals.TakeRefused.TheVariants as take
use Rattle.service_events.proofs.CallLaws.{IsFew}
use Rattle.service_events.proofs.EventLaws.{event_fits}
use Rattle.service_events.proofs.SearchLemmas.{text_is, found_all}
use Rattle.world_agreement.specs.Partners.{has_name, service_of, NamesDiffer, IsJoined, JournalOf, HasSent, HasAcked, HasAnswered, HasGiven, HasConfirmed}
use Rattle.world_agreement.proofs.ListLemmas.{found_in, found_passes}
use Rattle.world_agreement.proofs.NameLemmas.{name_is}
use Rattle.world_events.specs.Worlds.{World, fresh_world, with_service, packet_of, next_inputs, once_drawn, once_lost, loss_note}
use Rattle.world_events.specs.Events.{Turn, Served, refused, turned, if_there, turn_at, at_service, outcome, sent_or, unsaid, is_call_of, reply_to, reply_among, arrive_served, live_refusal, call_arrive_served, call_answered_served, call_failed_served, sender, set_reply, take_served, answer_reply, take_token_served, give_reply, give_served, posted_served, next_post_written, next_post_served, repair_step_served, abandon_served, order_served, call_delivered, reply_delivered, post_delivered, delivered, call_lost, post_lost, lost, next_post_turn, if_flying, abandon_turn, turn, after_event, after_events}
use Rattle.world_events.specs.Sound.{WasSent, WasAnswered, WasNoted, CallStands, ReplyStands, PostStands, PostReplyStands, PacketStands, OriginStands, FlightStands, FlightsStand, AreSound, IsSound, AreFew, AllFew}
use Rattle.world_events.specs.declared.event.Event.{Event}
use Rattle.world_events.specs.declared.event.Event.TheVariants.{Begin, Deliver, Lose, Post as Posts, Step, Abandon, Order, Clock, Seed}
use Rattle.world_events.specs.declared.event.WorldStepRefused.TheVariants.{NoService}
use Rattle.world_events.specs.declared.happened.Outcome.{Outcome}
use Rattle.world_events.specs.declared.happened.What.{What}
use Rattle.world_events.specs.declared.happened.What.TheVariants as what
use Rattle.world_events.specs.declared.packet.Live.{Live}
use Rattle.world_events.specs.declared.packet.Live.TheVariants.{Answer, Refused}
use Rattle.world_events.specs.declared.packet.Packet.{Packet}
use Rattle.world_events.specs.declared.packet.Packet.TheVariants.{Call, CallReply, Post as PostPacket, PostReply as PostReplyPacket}
use Rattle.world_laws.proofs.LiveTurns.{answer_is, SaysOr, Moves, arrive_moves, call_answered_moves, call_failed_moves}
use Rattle.world_laws.proofs.LivedLaws.{IsGiven, IsSent}
use Rattle.world_laws.proofs.PutLemmas.{put, with_is_put, same_name, grew_put, found_put}
use Rattle.world_laws.proofs.RepairTurns.{TurnsWhere, WasGiven, event_turns, take_takes, take_token_hears, StandsHere, written_here, SaysAcked, SaysHeard}
use Rattle.world_laws.proofs.StillLemmas.{gave_from, packet_still}
use Rattle.world_laws.proofs.TurnLaws.{Turns, no_turn, sound_put}

-- ---- what a service owes that acts

pub record Owes (services : List Kept) (name : List ℕ) (s : Kept) (d : Served) : Type 0 where
  pub turns : Turns services s d.service
  pub fits : IsFew d.service → Fits d.service
  pub packet : IfSome d.packet (PacketStands (put name d.service services))

pub written_all : (P : Packet → Type 0) (o : Option Packet) → IfSome o P → All P (option_to_list o)
written_all P None h = All-nil P
written_all P (Some p) h = All-cons P p [] h (All-nil P)

module _ (services : List Kept) (packets : List Packet) (h : AreSound services packets) (name : List ℕ) (s : Kept) (here : service_of name services ≡ Some s) where
  sound_served : (d : Served) → Owes services name s d → All (λ (x : Kept). length x.journal < 2 ^ 64) (with_service name d.service services)
      → AreSound (with_service name d.service services) (packets ++ option_to_list d.packet)
  sound_served d owes few =
      let same = with_is_put name d.service services in
      let now = found_put name s d.service owes.turns.grows services here in
      let Few : List Kept → Type 0 = λ xs. All (λ (x : Kept). length x.journal < 2 ^ 64) xs in
      let mine : IsFew d.service = found_all (λ (x : Kept). length x.journal < 2 ^ 64) (has_name name) (put name d.service services) d.service (subst Few same few) now in
      let S : List Kept → Type 0 = λ xs. AreSound xs (packets ++ option_to_list d.packet) in
      subst S (sym same)
      (sound_put services packets h name s d.service here owes.turns (owes.fits mine) (option_to_list d.packet)
      (written_all (PacketStands (put name d.service services)) d.packet owes.packet))

  fits : Fits s
  fits = found_all Fits (has_name name) services s h.fits here

  flights : FlightsStand services s
  flights = found_all (FlightsStand services) (has_name name) services s h.flights here

  is : me s ≡ name
  is = name_is name services s here

  -- what stands in its journal afterwards
  now : (t : Kept) → Turns services s t → (other : List ℕ) → other ≡ me t → (P : List Row → Type 0) → P t.journal → JournalOf (put name t services) other P
  now t turns other same P p =
      let it : name ≡ other = sym (same ∙ same_name s t turns.grows ∙ is) in
      let J : List ℕ → Type 0 = λ n. JournalOf (put name t services) n P in
      subst J it (subst (λ o. IsSomeAnd o (λ x. P x.journal)) (sym (found_put name s t turns.grows services here)) p)

  -- ---- live requests

  sent_stands : (t : Kept) → Turns services s t → (call : SetMessage) → IsSent t call → CallStands (put name t services) (me t) call
  sent_stands t turns call p = record {
    caller = p.caller;
    first = p.first;
    asks = p.asks;
    sent = now t turns call.caller p.caller (HasSent call.dest call.number call.version call.desired) p.sent;
  }

  given_stands : (t : Kept) → Turns services s t → (o : Origin) (a : AnswerMessage) → IsGiven o t a → WasAnswered (put name t services) a
  given_stands t turns o a p = now t turns a.callee p.callee (HasAnswered a.caller a.number a.answer_version a.version a.response) p.given

  live_owes : {E : Type 0} (o : Origin) (a : After (Result Arrived E)) (tells : Result Outcome E → What) (back : AnswerMessage → Option Packet) (refusal : E → Option Packet)
      → Moves services s o a → (IsFew a.service → Fits a.service)
      → ((m : AnswerMessage) → IsGiven o a.service m → IfSome (back m) (PacketStands (put name a.service services)))
      → ((why : E) → IfSome (refusal why) (PacketStands (put name a.service services)))
      → Owes services name s (record { service = a.service; what = tells (outcome a.answer); packet = sent_or (me a.service) back refusal a.answer })
  live_owes {E} o a tells back refusal m fits backs refuses = record { turns = m.turns; fits = fits; packet = said a.answer m.says }
    where
      said : (r : Result Arrived E) → SaysOr o a.service r → IfSome (sent_or (me a.service) back refusal r) (PacketStands (put name a.service services))
      said (Err why) says = refuses why
      said (Ok (Done index id None)) says = tt
      said (Ok (Done index id (Some x))) says = backs x says
      said (Ok (Sends flight call)) says = sent_stands a.service m.turns call says
      said (Ok (Known x)) says = backs x says

  -- an answer goes to the flight that sent its call
  reply_stands : (t : Kept) (turns : Turns services s t) (o : Origin) (a : AnswerMessage) → IsGiven o t a → (p : Option Packet) → find (is_call_of a.caller a.number) packets ≡ p
      → IfSome (reply_to a p) (PacketStands (put name t services))
  reply_stands t turns o a given None found = tt
  reply_stands t turns o a given (Some (Call from flight call)) found =
      let old = All-contains (PacketStands services) packets (Call from flight call) h.standing (found_in (is_call_of a.caller a.number) packets (Call from flight call) found) in
      let stands = packet_still services (put name t services) (grew_put name s t turns.grows services here) (Call from flight call) old in
      let passes = found_passes (is_call_of a.caller a.number) packets (Call from flight call) found in
      let caller = text_is call.caller a.caller (and_parts (nat_eq call.number a.number) (same_text call.caller a.caller) passes).1 in
      (sym caller ∙ stands.caller, given_stands t turns o a given)
  reply_stands t turns o a given (Some (CallReply to flight call_number reply)) found = tt
  reply_stands t turns o a given (Some (PostPacket post)) found = tt
  reply_stands t turns o a given (Some (PostReplyPacket post reply)) found = tt

  pub arrive_served_owes : (q : Request) (i : Inputs) → Owes services name s (arrive_served packets q s i)
  arrive_served_owes q i =
      let m = arrive_moves services s fits flights Outside q i tt in
      live_owes Outside (arrive_event s Outside q i) what.Arrive (reply_among packets) unsaid m (event_fits s (service_event.Arrive Outside q i) fits)
      (λ a given. reply_stands (arrive_event s Outside q i).service m.turns Outside a given (find (is_call_of a.caller a.number) packets) refl) (λ why. tt)

  refusal_stands : (call : SetMessage) (flight : ℕ) (t : Kept) (why : ArriveRefused) → PacketStands (put name t services) (CallReply call.caller flight call.number (live_refusal why))
  refusal_stands call flight t arrive.NoMemory = tt
  refusal_stands call flight t (arrive.Full n) = tt
  refusal_stands call flight t (arrive.NotYet n) = tt
  refusal_stands call flight t (arrive.Gone v) = tt

  pub call_arrive_served_owes : (from : List ℕ) (flight : ℕ) (call : SetMessage) (q : Request) (i : Inputs) → CallStands services from call → call.dest ≡ name → call.desired ≡ Some q
      → Owes services name s (call_arrive_served flight call q s i)
  call_arrive_served_owes from flight call q i stands dest desired =
      let origin : Origin = CallOrigin call.caller call.number in
      let Sent : List ℕ → ℕ → Option Request → Type 0 = λ d v r. JournalOf services call.caller (HasSent d call.number v r) in
      let sent_to : List ℕ → Type 0 = λ d. Sent d call.version call.desired in
      let sent_as : ℕ → Type 0 = λ v. Sent (me s) v call.desired in
      let sent_with : Option Request → Type 0 = λ r. Sent (me s) 1 r in
      let called_for : OriginStands services (me s) origin q =
      subst sent_with desired (subst sent_as stands.first (subst sent_to (dest ∙ sym is) stands.sent)) in
      let m = arrive_moves services s fits flights origin q i called_for in
      let t = (arrive_event s origin q i).service in
      live_owes origin (arrive_event s origin q i) what.Arrive (λ a. Some (CallReply call.caller flight call.number (Answer a)))
      (λ why. Some (CallReply call.caller flight call.number (live_refusal why))) m (event_fits s (service_event.Arrive origin q i) fits)
      (λ a given. (caller_is a given.from, given_stands t m.turns origin a given)) (λ why. refusal_stands call flight t why)
    where
      caller_is : (a : AnswerMessage) → CallOrigin call.caller call.number ≡ CallOrigin a.caller a.number → a.caller ≡ call.caller
      caller_is a e = cc

  pub call_answered_served_owes : (flight : ℕ) (a : AnswerMessage) → a.caller ≡ name → WasAnswered services a → Owes services name s (call_answered_served packets flight a s)
  call_answered_served_owes flight a caller was =
      let m = call_answered_moves services s fits flights flight a (caller ∙ sym is) was in
      live_owes m.0 (call_answered_event s flight a) what.CallAnswered (reply_among packets) unsaid m.1 (event_fits s (service_event.CallAnswered flight a) fits)
      (λ x given. reply_stands (call_answered_event s flight a).service m.1.turns m.0 x given (find (is_call_of x.caller x.number) packets) refl) (λ why. tt)

  pub call_failed_served_owes : (flight n : ℕ) (why : Why) → Owes services name s (call_failed_served packets flight n why s)
  call_failed_served_owes flight n why =
      let m = call_failed_moves services s fits flights flight n why in
      live_owes m.0 (call_failed_event s flight n why) what.CallFailed (reply_among packets) unsaid m.1 (event_fits s (service_event.CallFailed flight n why) fits)
      (λ x given. reply_stands (call_failed_event s flight n why).service m.1.turns m.0 x given (find (is_call_of x.caller x.number) packets) refl) (λ why. tt)

  -- ---- repair

  post_later : (t : Kept) → Turns services s t → (post : Post) → PostStands services post → PostStands (put name t services) post
  post_later t turns post stands = packet_still services (put name t services) (grew_put name s t turns.grows services here) (PostPacket post) stands

  take_served_owes : (call : SetMessage) (i : Inputs) → WasSent services call → call.dest ≡ name → Owes services name s (take_served call s i)
  take_served_owes call i was dest =
      let a = take_event s call i in
      let m = take_takes services s fits flights call was (dest ∙ sym is) i in
      record { turns = m.turns; fits = event_fits s (service_event.Take call i) fits; packet = (post_later a.service m.turns (SetPost call) was, said a.service m.turns a.answer m.says) }
    where
      said : (t : Kept) → Turns services s t → (r : Result Taken TakeRefused) → SaysAcked services s fits flights call t r → PostReplyStands (put name t services) (SetPost call) (set_reply r)
      said t turns (Ok taken) says =
          let P : Ack → Type 0 = λ ack. JournalOf (put name t services) ack.dest (HasAcked ack.caller ack.number ack.version) in
          subst P (sym says.0) (now t turns call.dest (dest ∙ sym is ∙ sym (same_name s t turns.grows)) (HasAcked call.caller call.number call.version) says.1)
      said t turns (Err take.NoMemory) says = tt
      said t turns (Err (take.Full n)) says = tt
      said t turns (Err (take.NotYet n)) says = tt
      said t turns (Err (take.Denied n)) says = tt
      said t turns (Err (take.TooOld n)) says = tt

  take_token_served_owes : (a : TokenMessage) → a.caller ≡ name → WasGiven services a → Owes services name s (take_token_served a s)
  take_token_served_owes a caller was =
      let x = take_token_event s a in
      let m = take_token_hears services s fits flights a (caller ∙ sym is) was in
      record { turns = m.turns; fits = event_fits s (service_event.TakeToken a) fits; packet = (post_later x.service m.turns (TokenPost a) was, said x.service m.turns x.answer m.says) }
    where
      said : (t : Kept) → Turns services s t → (r : Result Heard AnswerRefused) → SaysHeard services s fits flights a t r → PostReplyStands (put name t services) (TokenPost a) (answer_reply r)
      said t turns (Ok heard) says =
          let P : Confirm → Type 0 = λ c. JournalOf (put name t services) c.caller (HasConfirmed c.number c.answer_version) in
          subst P (sym says.0) (now t turns a.caller (caller ∙ sym is ∙ sym (same_name s t turns.grows)) (HasConfirmed a.number a.answer_version) says.1)
      said t turns (Err answer.NoMemory) says = tt
      said t turns (Err (answer.Unknown n)) says = tt
      said t turns (Err (answer.Denied n)) says = tt
      said t turns (Err (answer.TooOld n)) says = tt

  give_served_owes : (f : Fetch) → PostStands services (FetchPost f) → Owes services name s (give_served f s)
  give_served_owes f was =
      let still = no_turn services s flights in
      record { turns = still; fits = λ _. fits; packet = (post_later s still (FetchPost f) was, said (given_at f.caller f.number f.answer_version s.journal) (gave_from f.caller f.number f.answer_version s.journal)) }
    where
      said : (o : Option AnsweredRow) → IfSome o (λ a. (a.origin ≡ CallOrigin f.caller f.number) × Contains s.journal (Answered a))
          → PostReplyStands (put name s services) (FetchPost f) (give_reply (given_where s f o))
      said None from = tt
      said (Some a) from =
          now s (no_turn services s flights) (me s) refl (HasAnswered f.caller f.number a.answer_version a.version a.response)
          (answer_is a f.caller f.number a.answer_version a.version a.response from.0 refl refl refl s.journal from.1)

  next_post_written_owes : (o : Option PostName) → Owes services name s (next_post_written s o)
  next_post_written_owes None = record { turns = no_turn services s flights; fits = λ _. fits; packet = tt }
  next_post_written_owes (Some p) = record { turns = no_turn services s flights; fits = λ _. fits; packet = said (write_post s p) (written_here services s fits flights p) }
    where
      here_stands : (post : Post) → StandsHere services s fits flights post → PostStands (put name s services) post
      here_stands (SetPost call) says =
          now s (no_turn services s flights) call.caller says.0 (HasSent call.dest call.number call.version call.desired) says.1
      here_stands (TokenPost t) says =
          now s (no_turn services s flights) t.callee says.0 (HasGiven t.caller t.number t.answer_version) says.1
      here_stands (FetchPost f) says =
          now s (no_turn services s flights) f.caller says.0 (WasNoted f.number f.answer_version) says.1

      said : (o : Option Post) → IfSome o (StandsHere services s fits flights) → IfSome (option_map (λ post. PostPacket post) o) (PacketStands (put name s services))
      said None says = tt
      said (Some post) says = here_stands post says

  -- ---- an event for which nothing is written

  pub unwritten_owes : (e : ServiceEvent) → TurnsWhere services s e → (told : What) → Owes services name s (record { service = (event s e).service; what = told; packet = None })
  unwritten_owes e stands told = record { turns = event_turns services s fits flights e stands; fits = event_fits s e fits; packet = tt }

-- ---- a world

module _ (w : World) (h : IsSound w) where
  -- a turn of a service, where each that is there owes
  abbrev Keeps : Turn → Type 0
  Keeps t = AreFew t.world → IsSound t.world

  sound_at : (name : List ℕ) (then : World) → then.services ≡ w.services → then.packets ≡ w.packets → (act : Kept → Served)
      → ((s : Kept) → service_of name w.services ≡ Some s → Owes w.services name s (act s)) → Keeps (turn_at name w then act)
  sound_at name then services packets act owes = by_service (service_of name w.services) refl
    where
      by_service : (o : Option Kept) → service_of name w.services ≡ o → Keeps (if_there o (refused w NoService) (λ s. turned name then (act s)))
      by_service None found few = h
      by_service (Some s) found few =
          let d = act s in
          let Few : List Kept → Type 0 = λ xs. All (λ (x : Kept). length x.journal < 2 ^ 64) (with_service name d.service xs) in
          let S1 : List Kept → Type 0 = λ xs. AreSound (with_service name d.service xs) (then.packets ++ option_to_list d.packet) in
          let S2 : List Packet → Type 0 = λ ps. AreSound (with_service name d.service w.services) (ps ++ option_to_list d.packet) in
          subst S1 (sym services) (subst S2 (sym packets) (sound_served w.services w.packets h name s found d (owes s found) (subst Few services few)))

  call_sound : (number : ℕ) (from : List ℕ) (flight : ℕ) (call : SetMessage) → CallStands w.services from call → (o : Option Request) → call.desired ≡ o
      → Keeps (call_delivered w number flight call o)
  call_sound number from flight call stands None e = λ few. h
  call_sound number from flight call stands (Some q) e =
      sound_at call.dest (once_drawn w) refl refl (λ s. call_arrive_served flight call q s (next_inputs w))
      (λ s found. call_arrive_served_owes w.services w.packets h call.dest s found from flight call q (next_inputs w) stands refl e)

  reply_sound : (to : List ℕ) (flight : ℕ) (number : ℕ) (reply : Live) → ReplyStands w.services to reply → Keeps (reply_delivered w to flight number reply)
  reply_sound to flight number (Answer a) stands =
      sound_at to w refl refl (call_answered_served w.packets flight a) (λ s found. call_answered_served_owes w.services w.packets h to s found flight a stands.0 stands.1)
  reply_sound to flight number (Refused word n) stands =
      sound_at to w refl refl (call_failed_served w.packets flight number (WasRefused word n))
      (λ s found. call_failed_served_owes w.services w.packets h to s found flight number (WasRefused word n))

  post_sound : (post : Post) → PostStands w.services post → Keeps (post_delivered w post)
  post_sound (SetPost call) stands =
      sound_at call.dest (once_drawn w) refl refl (λ s. take_served call s (next_inputs w))
      (λ s found. take_served_owes w.services w.packets h call.dest s found call (next_inputs w) stands refl)
  post_sound (TokenPost t) stands = sound_at t.caller w refl refl (take_token_served t) (λ s found. take_token_served_owes w.services w.packets h t.caller s found t refl stands)
  post_sound (FetchPost f) stands = sound_at f.callee w refl refl (give_served f) (λ s found. give_served_owes w.services w.packets h f.callee s found f stands)

  delivered_sound : (number : ℕ) (p : Option Packet) → IfSome p (PacketStands w.services) → Keeps (delivered w number p)
  delivered_sound number None stands = λ few. h
  delivered_sound number (Some (Call from flight call)) stands = call_sound number from flight call stands call.desired refl
  delivered_sound number (Some (CallReply to flight call_number reply)) stands = reply_sound to flight call_number reply stands
  delivered_sound number (Some (PostPacket post)) stands = post_sound post stands
  delivered_sound number (Some (PostReplyPacket post reply)) stands =
      sound_at (sender post) w refl refl (posted_served post reply)
      (λ s found. unwritten_owes w.services w.packets h (sender post) s found (service_event.Posted post reply) stands.1 (posted_served post reply s).what)

  call_lost_sound : (name : List ℕ) (flight : ℕ) (number : ℕ) → Keeps (call_lost w name flight number)
  call_lost_sound name flight number =
      sound_at name (once_lost w) refl refl (call_failed_served w.packets flight number (Lost (loss_note w)))
      (λ s found. call_failed_served_owes w.services w.packets h name s found flight number (Lost (loss_note w)))

  post_lost_sound : (post : Post) → Keeps (post_lost w post)
  post_lost_sound post =
      sound_at (sender post) (once_lost w) refl refl (posted_served post (PostIsLost (loss_note w)))
      (λ s found. unwritten_owes w.services w.packets h (sender post) s found (service_event.Posted post (PostIsLost (loss_note w))) tt (posted_served post (PostIsLost (loss_note w)) s).what)

  lost_sound : (number : ℕ) (p : Option Packet) → Keeps (lost w number p)
  lost_sound number None = λ few. h
  lost_sound number (Some (Call from flight call)) = call_lost_sound from flight call.number
  lost_sound number (Some (CallReply to flight call_number reply)) = call_lost_sound to flight call_number
  lost_sound number (Some (PostPacket post)) = post_lost_sound post
  lost_sound number (Some (PostReplyPacket post reply)) = post_lost_sound post

  got : (ps : List Packet) (place : ℕ) → All (PacketStands w.services) ps → IfSome (slice_get ps place) (PacketStands w.services)
  got [] place all = tt
  got (p ∷ ps) zero all = All-head (PacketStands w.services) p ps all
  got (p ∷ ps) (suc place) all = got ps place (All-tail (PacketStands w.services) p ps all)

  pub found_packet : (number : ℕ) → IfSome (packet_of number w) (PacketStands w.services)
  found_packet zero = tt
  found_packet (suc place) = got w.packets place h.standing

  posted_sound : (from to : List ℕ) → Keeps (next_post_turn w from to)
  posted_sound from to = by_service (service_of to w.services)
    where
      by_service : (o : Option Kept) → Keeps (if_there o (refused w NoService) (λ _. at_service from w (next_post_served to)))
      by_service None few = h
      by_service (Some x) few =
          sound_at from w refl refl (next_post_served to) (λ s found. next_post_written_owes w.services w.packets h from s found (next_post to s)) few

  abandoned_sound : (name : List ℕ) (flight : ℕ) → Keeps (abandon_turn w name flight)
  abandoned_sound name flight = by_service (service_of name w.services) refl
    where
      by_flight : (s : Kept) → service_of name w.services ≡ Some s → (o : Option Flight) → Keeps (if_flying w flight o (turned name w (abandon_served flight s)))
      by_flight s found None few = h
      by_flight s found (Some f) few =
          sound_served w.services w.packets h name s found (abandon_served flight s)
          (unwritten_owes w.services w.packets h name s found (service_event.Abandon flight) tt (abandon_served flight s).what) few

      by_service : (o : Option Kept) → service_of name w.services ≡ o
          → Keeps (if_there o (refused w NoService) (λ s. if_flying w flight (flight_of flight s) (turned name w (abandon_served flight s))))
      by_service None found few = h
      by_service (Some s) found few = by_flight s found (flight_of flight s) few

  pub turn_sound : (e : Event) → AreFew (turn w e).world → IsSound (turn w e).world
  unfolding turn
  turn_sound (Begin name q) =
      sound_at name (once_drawn w) refl refl (λ s. arrive_served w.packets q s (next_inputs w)) (λ s found. arrive_served_owes w.services w.packets h name s found q (next_inputs w))
  turn_sound (Deliver number) = delivered_sound number (packet_of number w) (found_packet number)
  turn_sound (Lose number) = lost_sound number (packet_of number w)
  turn_sound (Posts from to) = posted_sound from to
  turn_sound (Step name) = sound_at name w refl refl repair_step_served (λ s found. unwritten_owes w.services w.packets h name s found service_event.Step tt (repair_step_served s).what)
  turn_sound (Abandon name flight) = abandoned_sound name flight
  turn_sound (Order name command token who) =
      sound_at name (once_drawn w) refl refl (λ s. order_served command token who s (next_inputs w))
      (λ s found. unwritten_owes w.services w.packets h name s found (service_event.Order command token who (next_inputs w)) tt (order_served command token who s (next_inputs w)).what)
  turn_sound (Clock moment) = λ few. h
  turn_sound (Seed n) = λ few. h

-- ---- several events

-- a run of events keeps a world sound
pub events_sound : (events : List Event) (w : World) → IsSound w → AllFew w events → IsSound (after_events w events)
events_sound [] w h few = h
events_sound (e ∷ events) w h few = events_sound events (after_event w e) (turn_sound w h e few.0) few.1

-- services that fit their journals and are joined, of which none has a flight, are sound in a world in which nothing was written
pub fresh_sound : (services : List Kept) → NamesDiffer services → All Fits services → IsJoined services → All (λ (s : Kept). s.flights ≡ []) services → IsSound (fresh_world services)
fresh_sound services differ fits joined flights = record {
  differ = differ;
  fits = fits;
  joined = joined;
  flights = All-weaker (λ (s : Kept). s.flights ≡ []) (FlightsStand services)
      (λ s none. subst (All (FlightStands services s)) (sym none) (All-nil (FlightStands services s))) services flights;
  standing = All-nil (PacketStands services);
}
