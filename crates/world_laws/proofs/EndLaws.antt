-- A world stays closed; so each packet has a receiver, and an event is refused exactly where it names what isn't there.
use Rattle.std.proofs.Common.{◌≡◌, ℕ, zero, suc, slice_get, ◌++◌, Bool, true, false, cond, List, [], ◌∷◌, Option, Some, None, IsSome, IfSome, IsOk, All, Result, Ok, Err, find, is_some, length, map, option_and_then, option_map, option_to_list, refl, inl, inr, sym, ap, ◌∙◌, subst, arith, ◌<◌, get_or, nat_lt}
use Rattle.std.proofs.lemmas.Bool.{cases_Bool, cond_both, cond-false, cond-true}
use Rattle.std.proofs.lemmas.List.{length-map}
use Rattle.std.proofs.lemmas.List.Elements.{All-nil, All-cons, All-append, All-contains, All-head, All-tail, All-weaker}
use Rattle.std.proofs.lemmas.Option.{same_Some}
use Rattle.lang_base.specs.Texts.{same_text}
use Rattle.lang_core.specs.declared.ids.Origin.TheVariants.{Outside, Call as CallOrigin}
use Rattle.lang_core.specs.declared.inputs.Inputs.{Inputs}
use Rattle.lang_core.specs.declared.request.Request.{Request}
use Rattle.request_log.specs.Entries.{find_call}
use Rattle.request_log.specs.declared.entry.Entry.{Entry}
use Rattle.repair_messages.specs.declared.messages.AnswerMessage.{AnswerMessage}
use Rattle.repair_messages.specs.declared.messages.Fetch.{Fetch}
use Rattle.repair_messages.specs.declared.messages.SetMessage.{SetMessage}
use Rattle.repair_messages.specs.declared.messages.TokenMessage.{TokenMessage}
use Rattle.repair_messages.specs.declared.posts.Post.{Post}
use Rattle.repair_messages.specs.declared.posts.Post.TheVariants.{Set as SetPost, Token as TokenPost, Fetch as FetchPost}
use Rattle.repair_messages.specs.declared.posts.PostName.{PostName}
use Rattle.repair_messages.specs.declared.posts.PostName.TheVariants.{Call as OfCall, Reply as OfReply, Fetch as OfFetch}
use Rattle.journal_rows.specs.declared.orders.Command.{Command}
use Rattle.call_registers.specs.Registers.{register}
use Rattle.call_registers.specs.Replies.{reply}
use Rattle.call_registers.specs.declared.register.Register.{Register}
use Rattle.call_registers.specs.declared.register.Why.{Why}
use Rattle.call_registers.specs.declared.register.Why.TheVariants.{Lost, Refused as WasRefused}
use Rattle.call_registers.specs.declared.reply.Reply.{Reply}
use Rattle.flights.specs.declared.flight.Flight.{Flight}
use Rattle.service_events.specs.Arriving.{arrive_event, call_answered_event, call_failed_event}
use Rattle.service_events.specs.Messages.{acked_again, is_known, is_too_much, origin_of, take_admitted, take_event, take_new, taken, taken_by}
use Rattle.service_events.specs.Posts.{fetch_message, fetch_post, next_post, set_message, token_message, token_post, write_post}
use Rattle.service_events.specs.State.{Kept, After, after, me, or_else, is_in_flight, flight_of, base, unfolded}
use Rattle.service_events.specs.Steps.{Stale, stale_in, step_by}
use Rattle.service_events.specs.State.{answers}
use Rattle.service_events.specs.declared.answers.Arrived.{Arrived}
use Rattle.service_events.specs.declared.answers.Arrived.TheVariants.{Done, Call as Sends, Known}
use Rattle.service_events.specs.declared.answers.PostReply.{PostReply}
use Rattle.service_events.specs.declared.answers.PostReply.TheVariants.{Lost as PostIsLost}
use Rattle.service_events.specs.declared.event.Event.TheVariants as service_event
use Rattle.service_events.specs.declared.refusals.TakeRefused.{TakeRefused}
use Rattle.service_events.proofs.AskedLemmas.{take_either}
use Rattle.service_events.proofs.EventLaws.{event_goes}
use Rattle.service_events.proofs.OrderSettings.{order_setting}
use Rattle.service_events.proofs.SearchLemmas.{found_all}
use Rattle.world_agreement.specs.Partners.{has_name, service_of, NamesDiffer}
use Rattle.world_agreement.proofs.ListLemmas.{found_in}
use Rattle.world_agreement.proofs.NameLemmas.{name_is}
use Rattle.world_events.specs.Ends.{post_receiver, receiver, beginner, IsThere, HasEnds, AreClosed, IsClosed, PostsTo, PostsWell}
use Rattle.world_events.specs.Events.{Served, refused, turned, if_there, turn_at, at_service, outcome, sent_or, unsaid, is_call_of, reply_to, reply_among, arrive_served, live_refusal, call_arrive_served, call_answered_served, call_failed_served, sender, take_served, take_token_served, give_served, posted_served, next_post_written, next_post_served, repair_step_served, abandon_served, order_served, call_delivered, reply_delivered, post_delivered, delivered, call_lost, lost, if_flying, turn, answer_to, after_event}
use Rattle.world_events.specs.Reach.{ArePeered, AnswersBy, missing, where_none}
use Rattle.world_events.specs.Worlds.{World, loss_note, next_inputs, once_drawn, once_lost, packet_of, with_service}
use Rattle.world_events.specs.declared.event.Event.{Event}
use Rattle.world_events.specs.declared.event.Event.TheVariants.{Begin, Deliver, Lose, Post as Posts, Step, Abandon, Order, Clock, Seed}
use Rattle.world_events.specs.declared.event.WorldStepRefused.TheVariants.{NoService, NoPacket, NoFlight}
use Rattle.world_events.specs.declared.happened.Outcome.{Outcome}
use Rattle.world_events.specs.declared.happened.What.{What}
use Rattle.world_events.specs.declared.happened.What.TheVariants as what
use Rattle.world_events.specs.declared.packet.Live.{Live}
use Rattle.world_events.specs.declared.packet.Live.TheVariants.{Answer as LiveAnswer, Refused as LiveRefused}
use Rattle.world_events.specs.declared.packet.Packet.{Packet}
use Rattle.world_events.specs.declared.packet.Packet.TheVariants.{Call, CallReply, Post as PostPacket, PostReply as PostReplyPacket}
use Rattle.world_laws.proofs.PutLemmas.{put, with_is_put, all_put}
use Rattle.world_laws.proofs.SendLaws.{IsLiveCall, IfSends, Lives, arrive_lives, call_answered_lives, call_failed_lives}

-- ---- names

first_is : (x y : List ℕ) (xs ys : List (List ℕ)) → (x ∷ xs) ≡ (y ∷ ys) → x ≡ y
first_is x y xs ys e = cc

rest_is : (x y : List ℕ) (xs ys : List (List ℕ)) → (x ∷ xs) ≡ (y ∷ ys) → xs ≡ ys
rest_is x y xs ys e = cc

there_head : (b : Bool) (x y : Kept) (o p : Option Kept) → (IsSome p → IsSome o) → IsSome (cond b (Some y) p) → IsSome (cond b (Some x) o)
there_head true x y o p later there = refl
there_head false x y o p later there = later there

-- a service that is there is there among services of the same names
there_by_names : (xs ys : List Kept) → map me xs ≡ map me ys → (name : List ℕ) → IsThere ys name → IsThere xs name
there_by_names [] [] e name there = there
there_by_names [] (y ∷ ys) e name there = cc
there_by_names (x ∷ xs) [] e name there = cc
there_by_names (x ∷ xs) (y ∷ ys) e name there =
    let later = there_by_names xs ys (rest_is (me x) (me y) (map me xs) (map me ys) e) name in
    let test : has_name name x ≡ has_name name y = ap (λ m. same_text m name) (first_is (me x) (me y) (map me xs) (map me ys) e) in
    subst (λ b. IsSome (cond b (Some x) (service_of name xs))) (sym test) (there_head (has_name name y) x y (service_of name xs) (service_of name ys) later there)

name_at : (xs ys : List Kept) → map me xs ≡ map me ys → (i : ℕ) (d : Kept) → i < length xs → me (get_or xs i d) ≡ me (get_or ys i d)
name_at [] ys e i d l = absurd (omega (arith, l))
name_at (x ∷ xs) [] e i d l = cc
name_at (x ∷ xs) (y ∷ ys) e zero d l = first_is (me x) (me y) (map me xs) (map me ys) e
name_at (x ∷ xs) (y ∷ ys) e (suc i) d l = name_at xs ys (rest_is (me x) (me y) (map me xs) (map me ys) e) i d (omega (arith, l))

-- services of the same names differ in them as those do
differ_by_names : (xs ys : List Kept) → map me xs ≡ map me ys → NamesDiffer ys → NamesDiffer xs
differ_by_names xs ys e differ i j d l w same =
    let long : length xs ≡ length ys = sym (length-map xs me) ∙ ap length e ∙ length-map ys me in
    differ i j d l (omega (arith, w, long)) (sym (name_at xs ys e i d (omega (arith, l, w))) ∙ same ∙ name_at xs ys e j d w)

module _ (name : List ℕ) (s t : Kept) (setting : t.setting ≡ s.setting) where
  names_put : (xs : List Kept) → service_of name xs ≡ Some s → map me (put name t xs) ≡ map me xs
  names_put [] here = refl
  names_put (z ∷ zs) here = elim (cases_Bool (has_name name z)) [
    | inl is ↦ (let it : z ≡ s = same_Some z s (sym (cond-true (has_name name z) (Some z) (service_of name zs) is) ∙ here) in
        rw is (ap (λ n. n ∷ map me zs) (ap (λ x. x.me) setting ∙ ap me (sym it))))
    | inr other ↦ rw other (ap (λ ns. me z ∷ ns) (names_put zs (sym (cond-false (has_name name z) (Some z) (service_of name zs) other) ∙ here)))
  ]

  there_put : (xs : List Kept) → service_of name xs ≡ Some s → (n : List ℕ) → IsThere xs n → IsThere (put name t xs) n
  there_put xs here n there = there_by_names (put name t xs) xs (names_put xs here) n there

  peered_put : (xs : List Kept) → service_of name xs ≡ Some s → ArePeered xs → ArePeered (put name t xs)
  peered_put xs here peered =
      let new = put name t xs in
      let P : Kept → Type 0 = λ x. All (IsThere new) x.setting.peers in
      let all = All-weaker (λ (x : Kept). All (IsThere xs) x.setting.peers) P
      (λ x there. All-weaker (IsThere xs) (IsThere new) (there_put xs here) x.setting.peers there) xs peered in
      all_put P name t xs (subst (λ x. All (IsThere new) x.peers) (sym setting) (found_all P (has_name name) xs s all here)) all

  ends_put : (xs : List Kept) → service_of name xs ≡ Some s → (p : Packet) → HasEnds xs p → HasEnds (put name t xs) p
  ends_put xs here p e = record {
    gets = there_put xs here (receiver p) e.gets;
    began = there_put xs here (beginner p) e.began;
    call = e.call;
  }

-- ---- settings of services that take or step

taken_setting : (s : Kept) (set : SetMessage) (i : Inputs) (e : Option Entry) (q : Option Request) → (taken_by s set i e q).setting ≡ s.setting
taken_setting s set i (Some e) q = refl
taken_setting s set i None (Some q) = refl
taken_setting s set i None None = refl

admitted_setting : (s : Kept) (set : SetMessage) (i : Inputs) (much : Option ℕ) → (take_admitted s set i much).service.setting ≡ s.setting
admitted_setting s set i (Some n) = refl
admitted_setting s set i None =
    cond_both (is_known s set) (after (acked_again s set) (Ok (taken set None)))
    (take_new s set i) (λ a. a.service.setting ≡ s.setting) (λ _. refl)
    (λ _. take_either s set i (λ a. a.service.setting ≡ s.setting) (λ e. refl) refl (λ _. taken_setting s set i (find_call (origin_of set) s.entries) set.desired))

take_setting : (s : Kept) (set : SetMessage) (i : Inputs) → (take_event s set i).service.setting ≡ s.setting
take_setting s set i =
    cond_both (is_in_flight (origin_of set) s) (after s (Err (TakeRefused.NotYet set.number))) (take_admitted s set i (is_too_much s set))
    (λ a. a.service.setting ≡ s.setting) (λ _. refl) (λ _. admitted_setting s set i (is_too_much s set))

step_setting : (s : Kept) (o : Option Stale) → (step_by s o).service.setting ≡ s.setting
step_setting s None = refl
step_setting s (Some x) = refl

-- ---- what a service posts

-- it is the sender of what it posts
posts_own : (s : Kept) (name : PostName) → IfSome (write_post s name) (λ post. sender post ≡ me s)
posts_own s (OfCall number) = by (register number s.registers)
  where
    by : (o : Option Register) → IfSome (option_map (λ r. SetPost (set_message s r)) o) (λ post. sender post ≡ me s)
    by None = tt
    by (Some r) = refl
posts_own s (OfReply id) = by (reply id s.replies)
  where
    by_version : (p : Reply) (b : Bool) → IfSome (cond b (Some (TokenPost (token_message s p))) None) (λ post. sender post ≡ me s)
    by_version p true = refl
    by_version p false = tt

    by : (o : Option Reply) → IfSome (token_post s o) (λ post. sender post ≡ me s)
    by None = tt
    by (Some p) = by_version p (nat_lt 0 p.answer_version)
posts_own s (OfFetch number) = by (register number s.registers)
  where
    by_version : (r : Register) (b : Bool) → IfSome (cond b (Some (FetchPost (fetch_message s r))) None) (λ post. sender post ≡ me s)
    by_version r true = refl
    by_version r false = tt

    by : (o : Option Register) → IfSome (fetch_post s o) (λ post. sender post ≡ me s)
    by None = tt
    by (Some r) = by_version r (nat_lt 0 r.noted)

-- ---- what a service does in a closed world

-- it keeps its setting, and both ends of what it writes are there
record Writes (services : List Kept) (s : Kept) (d : Served) : Type 0 where
  pub setting : d.service.setting ≡ s.setting
  pub packet : IfSome d.packet (HasEnds services)

module _ (services : List Kept) (packets : List Packet) (h : AreClosed services packets) (name : List ℕ) (s : Kept) (here : service_of name services ≡ Some s) where
  itself : IsThere services name
  itself = ap is_some here

  own : IsThere services (me s)
  own = subst (IsThere services) (sym (name_is name services s here)) itself

  call_ends : (t : Kept) → t.setting ≡ s.setting → (flight : ℕ) (set : SetMessage) → IsLiveCall s set → HasEnds services (Call (me t) flight set)
  call_ends t setting flight set c =
      let mine : me t ≡ me s = ap (λ x. x.me) setting in
      let peers = found_all (λ (x : Kept). All (IsThere services) x.setting.peers) (has_name name) services s h.peered here in
      record {
        gets = All-contains (IsThere services) s.setting.peers set.dest peers c.peer;
        began = subst (IsThere services) (sym mine) own;
        call = (c.caller ∙ sym mine, c.asks);
      }

  -- an answer goes to the flight that sent its call
  reply_ends : (a : AnswerMessage) (o : Option Packet) → find (is_call_of a.caller a.number) packets ≡ o → IfSome (reply_to a o) (HasEnds services)
  reply_ends a None found = tt
  reply_ends a (Some (Call from flight set)) found =
      let e = All-contains (HasEnds services) packets (Call from flight set) h.ends (found_in (is_call_of a.caller a.number) packets (Call from flight set) found) in
      record { gets = e.began; began = e.began; call = tt }
  reply_ends a (Some (CallReply to flight call_number reply)) found = tt
  reply_ends a (Some (PostPacket post)) found = tt
  reply_ends a (Some (PostReplyPacket post reply)) found = tt

  live_writes : {E : Type 0} (a : After (Result Arrived E)) (tells : Result Outcome E → What) (back : AnswerMessage → Option Packet) (refusal : E → Option Packet) → Lives s a
      → ((m : AnswerMessage) → IfSome (back m) (HasEnds services)) → ((why : E) → IfSome (refusal why) (HasEnds services))
      → Writes services s (record { service = a.service; what = tells (outcome a.answer); packet = sent_or (me a.service) back refusal a.answer })
  live_writes {E} a tells back refusal l backs refuses = record { setting = l.setting; packet = said a.answer l.sends }
    where
      said : (r : Result Arrived E) → IfSends s r → IfSome (sent_or (me a.service) back refusal r) (HasEnds services)
      said (Err why) sends = refuses why
      said (Ok (Done index id None)) sends = tt
      said (Ok (Done index id (Some x))) sends = backs x
      said (Ok (Sends flight set)) sends = call_ends a.service l.setting flight set sends
      said (Ok (Known x)) sends = backs x

  begun_writes : (q : Request) (i : Inputs) → Writes services s (arrive_served packets q s i)
  begun_writes q i =
      live_writes (arrive_event s Outside q i) what.Arrive (reply_among packets) unsaid (arrive_lives s Outside q i)
      (λ a. reply_ends a (find (is_call_of a.caller a.number) packets) refl) (λ why. tt)

  called_writes : (from : List ℕ) (flight : ℕ) (set : SetMessage) (q : Request) (i : Inputs) → HasEnds services (Call from flight set) → Writes services s (call_arrive_served flight set q s i)
  called_writes from flight set q i e =
      let caller : IsThere services set.caller = subst (IsThere services) (sym e.call.0) e.began in
      let ends : (reply : Live) → HasEnds services (CallReply set.caller flight set.number reply) = λ reply. record { gets = caller; began = caller; call = tt } in
      live_writes (arrive_event s (CallOrigin set.caller set.number) q i) what.Arrive (λ a. Some (CallReply set.caller flight set.number (LiveAnswer a)))
      (λ why. Some (CallReply set.caller flight set.number (live_refusal why))) (arrive_lives s (CallOrigin set.caller set.number) q i)
      (λ a. ends (LiveAnswer a)) (λ why. ends (live_refusal why))

  answered_writes : (flight : ℕ) (a : AnswerMessage) → Writes services s (call_answered_served packets flight a s)
  answered_writes flight a =
      live_writes (call_answered_event s flight a) what.CallAnswered (reply_among packets) unsaid (call_answered_lives s flight a)
      (λ x. reply_ends x (find (is_call_of x.caller x.number) packets) refl) (λ why. tt)

  failed_writes : (flight n : ℕ) (why : Why) → Writes services s (call_failed_served packets flight n why s)
  failed_writes flight n why =
      live_writes (call_failed_event s flight n why) what.CallFailed (reply_among packets) unsaid (call_failed_lives s flight n why)
      (λ x. reply_ends x (find (is_call_of x.caller x.number) packets) refl) (λ why. tt)

  takes_writes : (set : SetMessage) (i : Inputs) → IsThere services set.caller → Writes services s (take_served set s i)
  takes_writes set i there = record { setting = take_setting s set i; packet = record { gets = there; began = there; call = tt } }

  hears_writes : (t : TokenMessage) → IsThere services t.callee → Writes services s (take_token_served t s)
  hears_writes t there = record { setting = (event_goes s (service_event.TakeToken t) tt).grows.setting; packet = record { gets = there; began = there; call = tt } }

  gives_writes : (f : Fetch) → IsThere services f.caller → Writes services s (give_served f s)
  gives_writes f there = record { setting = refl; packet = record { gets = there; began = there; call = tt } }

  back_writes : (post : Post) (reply : PostReply) → Writes services s (posted_served post reply s)
  back_writes post reply = record { setting = (event_goes s (service_event.Posted post reply) tt).grows.setting; packet = tt }

  post_ends : (to : List ℕ) → IsThere services to → (o : Option Post) → IfSome o (λ post. post_receiver post ≡ to) → IfSome o (λ post. sender post ≡ me s)
      → IfSome (option_map (λ post. PostPacket post) o) (HasEnds services)
  post_ends to there None goes is = tt
  post_ends to there (Some post) goes is =
      record { gets = subst (IsThere services) (sym goes) there; began = subst (IsThere services) (sym is) own; call = tt }

  posts_writes : (to : List ℕ) → IsThere services to → (o : Option PostName) → IfSome o (λ n. IfSome (write_post s n) (λ post. post_receiver post ≡ to)) → Writes services s (next_post_written s o)
  posts_writes to there None goes = record { setting = refl; packet = tt }
  posts_writes to there (Some n) goes = record { setting = refl; packet = post_ends to there (write_post s n) goes (posts_own s n) }

  steps_writes : Writes services s (repair_step_served s)
  steps_writes = record { setting = step_setting s (stale_in (answers s) (base s) (unfolded s)); packet = tt }

  gives_up_writes : (flight : ℕ) → Writes services s (abandon_served flight s)
  gives_up_writes flight = record { setting = (event_goes s (service_event.Abandon flight) tt).grows.setting; packet = tt }

  orders_writes : (command : Command) (token who : List ℕ) (i : Inputs) → Writes services s (order_served command token who s i)
  orders_writes command token who i = record { setting = order_setting s command token who i; packet = tt }

  -- the world stays closed
  closed_served : (d : Served) → Writes services s d → AreClosed (with_service name d.service services) (packets ++ option_to_list d.packet)
  closed_served d writes =
      let t = d.service in
      let new = put name t services in
      let keeps = ends_put name s t writes.setting services here in
      let old = All-weaker (HasEnds services) (HasEnds new) keeps packets h.ends in
      let A : List Kept → Type 0 = λ xs. AreClosed xs (packets ++ option_to_list d.packet) in
      subst A (sym (with_is_put name t services))
      (record {
        differ = differ_by_names new services (names_put name s t writes.setting services here) h.differ;
        peered = peered_put name s t writes.setting services here h.peered;
        ends = All-append (HasEnds new) packets (option_to_list d.packet) old (written new d.packet writes.packet keeps);
      })
    where
      written : (xs : List Kept) (o : Option Packet) → IfSome o (HasEnds services) → ((p : Packet) → HasEnds services p → HasEnds xs p) → All (HasEnds xs) (option_to_list o)
      written xs None e keeps = All-nil (HasEnds xs)
      written xs (Some p) e keeps = All-cons (HasEnds xs) p [] (keeps p e) (All-nil (HasEnds xs))

-- ---- events

module _ (w : World) (h : IsClosed w) where
  closed_at : (name : List ℕ) (then : World) → then.services ≡ w.services → then.packets ≡ w.packets → (act : Kept → Served)
      → ((s : Kept) (here : service_of name w.services ≡ Some s) → Writes w.services s (act s)) → IsClosed (turn_at name w then act).world
  closed_at name then services packets act writes = by (service_of name w.services) refl
    where
      by : (o : Option Kept) → service_of name w.services ≡ o → IsClosed (if_there o (refused w NoService) (λ s. turned name then (act s))).world
      by None found = h
      by (Some s) found =
          let closed = closed_served w.services w.packets h name s found (act s) (writes s found) in
          let C : List Kept → List Packet → Type 0 = λ xs ps. AreClosed (with_service name (act s).service xs) (ps ++ option_to_list (act s).packet) in
          subst (λ xs. C xs then.packets) (sym services) (subst (C w.services) (sym packets) closed)

  got : (ps : List Packet) (place : ℕ) → All (HasEnds w.services) ps → IfSome (slice_get ps place) (HasEnds w.services)
  got [] place all = tt
  got (p ∷ ps) zero all = All-head (HasEnds w.services) p ps all
  got (p ∷ ps) (suc place) all = got ps place (All-tail (HasEnds w.services) p ps all)

  pub found_ends : (number : ℕ) → IfSome (packet_of number w) (HasEnds w.services)
  found_ends zero = tt
  found_ends (suc place) = got w.packets place h.ends

  call_closed : (number : ℕ) (from : List ℕ) (flight : ℕ) (set : SetMessage) (o : Option Request) → HasEnds w.services (Call from flight set)
      → IsClosed (call_delivered w number flight set o).world
  call_closed number from flight set None e = h
  call_closed number from flight set (Some q) e =
      closed_at set.dest (once_drawn w) refl refl (λ s. call_arrive_served flight set q s (next_inputs w))
      (λ s here. called_writes w.services w.packets h set.dest s here from flight set q (next_inputs w) e)

  reply_closed : (to : List ℕ) (flight : ℕ) (number : ℕ) (reply : Live) → IsClosed (reply_delivered w to flight number reply).world
  reply_closed to flight number (LiveAnswer a) =
      closed_at to w refl refl (call_answered_served w.packets flight a) (λ s here. answered_writes w.services w.packets h to s here flight a)
  reply_closed to flight number (LiveRefused word n) =
      closed_at to w refl refl (call_failed_served w.packets flight number (WasRefused word n))
      (λ s here. failed_writes w.services w.packets h to s here flight number (WasRefused word n))

  post_closed : (post : Post) → HasEnds w.services (PostPacket post) → IsClosed (post_delivered w post).world
  post_closed (SetPost set) e =
      closed_at set.dest (once_drawn w) refl refl (λ s. take_served set s (next_inputs w))
      (λ s here. takes_writes w.services w.packets h set.dest s here set (next_inputs w) e.began)
  post_closed (TokenPost t) e = closed_at t.caller w refl refl (take_token_served t) (λ s here. hears_writes w.services w.packets h t.caller s here t e.began)
  post_closed (FetchPost f) e = closed_at f.callee w refl refl (give_served f) (λ s here. gives_writes w.services w.packets h f.callee s here f e.began)

  back_closed : (name : List ℕ) (then : World) → then.services ≡ w.services → then.packets ≡ w.packets → (post : Post) (reply : PostReply)
      → IsClosed (turn_at name w then (posted_served post reply)).world
  back_closed name then services packets post reply =
      closed_at name then services packets (posted_served post reply) (λ s here. back_writes w.services w.packets h name s here post reply)

  delivered_closed : (number : ℕ) (p : Option Packet) → IfSome p (HasEnds w.services) → IsClosed (delivered w number p).world
  delivered_closed number None e = h
  delivered_closed number (Some (Call from flight set)) e = call_closed number from flight set set.desired e
  delivered_closed number (Some (CallReply to flight call_number reply)) e = reply_closed to flight call_number reply
  delivered_closed number (Some (PostPacket post)) e = post_closed post e
  delivered_closed number (Some (PostReplyPacket post reply)) e = back_closed (sender post) w refl refl post reply

  call_lost_closed : (name : List ℕ) (flight : ℕ) (number : ℕ) → IsClosed (call_lost w name flight number).world
  call_lost_closed name flight number =
      closed_at name (once_lost w) refl refl (call_failed_served w.packets flight number (Lost (loss_note w)))
      (λ s here. failed_writes w.services w.packets h name s here flight number (Lost (loss_note w)))

  lost_closed : (number : ℕ) (p : Option Packet) → IsClosed (lost w number p).world
  lost_closed number None = h
  lost_closed number (Some (Call from flight set)) = call_lost_closed from flight set.number
  lost_closed number (Some (CallReply to flight call_number reply)) = call_lost_closed to flight call_number
  lost_closed number (Some (PostPacket post)) = back_closed (sender post) (once_lost w) refl refl post (PostIsLost (loss_note w))
  lost_closed number (Some (PostReplyPacket post reply)) = back_closed (sender post) (once_lost w) refl refl post (PostIsLost (loss_note w))

  posted_closed : (from to : List ℕ) (o : Option Kept) → service_of to w.services ≡ o → IfSome o (λ _. IfSome (service_of from w.services) (PostsTo to))
      → IsClosed (if_there o (refused w NoService) (λ _. at_service from w (next_post_served to))).world
  posted_closed from to None found goes = h
  posted_closed from to (Some x) found goes =
      closed_at from w refl refl (next_post_served to)
      (λ s here. posts_writes w.services w.packets h from s here to (ap is_some found) (next_post to s)
      (let G : Option Kept → Type 0 = λ o. IfSome o (PostsTo to) in subst G here goes))

  abandoned_closed : (name : List ℕ) (flight : ℕ) (o : Option Kept) → service_of name w.services ≡ o
      → IsClosed (if_there o (refused w NoService) (λ s. if_flying w flight (flight_of flight s) (turned name w (abandon_served flight s)))).world
  abandoned_closed name flight None found = h
  abandoned_closed name flight (Some s) found = by (flight_of flight s)
    where
      by : (f : Option Flight) → IsClosed (if_flying w flight f (turned name w (abandon_served flight s))).world
      by None = h
      by (Some f) = closed_served w.services w.packets h name s found (abandon_served flight s) (gives_up_writes w.services w.packets h name s found flight)

  -- a closed world stays closed at each event
  pub turn_closed : (e : Event) → PostsWell w e → IsClosed (after_event w e)
  unfolding turn
  turn_closed (Begin name q) well =
      closed_at name (once_drawn w) refl refl (λ s. arrive_served w.packets q s (next_inputs w)) (λ s here. begun_writes w.services w.packets h name s here q (next_inputs w))
  turn_closed (Deliver number) well = delivered_closed number (packet_of number w) (found_ends number)
  turn_closed (Lose number) well = lost_closed number (packet_of number w)
  turn_closed (Posts from to) well = posted_closed from to (service_of to w.services) refl well
  turn_closed (Step name) well = closed_at name w refl refl repair_step_served (λ s here. steps_writes w.services w.packets h name s here)
  turn_closed (Abandon name flight) well = abandoned_closed name flight (service_of name w.services) refl
  turn_closed (Order name command token who) well =
      closed_at name (once_drawn w) refl refl (λ s. order_served command token who s (next_inputs w))
      (λ s here. orders_writes w.services w.packets h name s here command token who (next_inputs w))
  turn_closed (Clock moment) well = h
  turn_closed (Seed n) well = h

  -- ---- what an event answers

  at_ok : (name : List ℕ) (then : World) (act : Kept → Served) → IsThere w.services name → IsOk (turn_at name w then act).answer
  at_ok name then act there = by (service_of name w.services) there
    where
      by : (o : Option Kept) → IsSome o → IsOk (if_there o (refused w NoService) (λ s. turned name then (act s))).answer
      by None there = cc
      by (Some s) there = refl

  at_by : (name : List ℕ) (then : World) (act : Kept → Served) → AnswersBy (where_none NoService (service_of name w.services)) (turn_at name w then act).answer
  at_by name then act = by (service_of name w.services)
    where
      by : (o : Option Kept) → AnswersBy (where_none NoService o) (if_there o (refused w NoService) (λ s. turned name then (act s))).answer
      by None = refl
      by (Some s) = refl

  call_ok : (number flight : ℕ) (set : SetMessage) (o : Option Request) → IsThere w.services set.dest → IsSome o → IsOk (call_delivered w number flight set o).answer
  call_ok number flight set None there asks = cc
  call_ok number flight set (Some q) there asks = at_ok set.dest (once_drawn w) (λ s. call_arrive_served flight set q s (next_inputs w)) there

  reply_ok : (to : List ℕ) (flight : ℕ) (number : ℕ) (reply : Live) → IsThere w.services to → IsOk (reply_delivered w to flight number reply).answer
  reply_ok to flight number (LiveAnswer a) there = at_ok to w (call_answered_served w.packets flight a) there
  reply_ok to flight number (LiveRefused word n) there = at_ok to w (call_failed_served w.packets flight number (WasRefused word n)) there

  post_ok : (post : Post) → IsThere w.services (post_receiver post) → IsOk (post_delivered w post).answer
  post_ok (SetPost set) there = at_ok set.dest (once_drawn w) (λ s. take_served set s (next_inputs w)) there
  post_ok (TokenPost t) there = at_ok t.caller w (take_token_served t) there
  post_ok (FetchPost f) there = at_ok f.callee w (give_served f) there

  delivered_by : (number : ℕ) (p : Option Packet) → IfSome p (HasEnds w.services) → AnswersBy (where_none (NoPacket number) p) (delivered w number p).answer
  delivered_by number None e = refl
  delivered_by number (Some (Call from flight set)) e = call_ok number flight set set.desired e.gets e.call.1
  delivered_by number (Some (CallReply to flight call_number reply)) e = reply_ok to flight call_number reply e.gets
  delivered_by number (Some (PostPacket post)) e = post_ok post e.gets
  delivered_by number (Some (PostReplyPacket post reply)) e = at_ok (sender post) w (posted_served post reply) e.gets

  lost_by : (number : ℕ) (p : Option Packet) → IfSome p (HasEnds w.services) → AnswersBy (where_none (NoPacket number) p) (lost w number p).answer
  lost_by number None e = refl
  lost_by number (Some (Call from flight set)) e = at_ok from (once_lost w) (call_failed_served w.packets flight set.number (Lost (loss_note w))) e.began
  lost_by number (Some (CallReply to flight call_number reply)) e = at_ok to (once_lost w) (call_failed_served w.packets flight call_number (Lost (loss_note w))) e.began
  lost_by number (Some (PostPacket post)) e = at_ok (sender post) (once_lost w) (posted_served post (PostIsLost (loss_note w))) e.began
  lost_by number (Some (PostReplyPacket post reply)) e = at_ok (sender post) (once_lost w) (posted_served post (PostIsLost (loss_note w))) e.began

  posted_by : (from to : List ℕ) (o : Option Kept)
      → AnswersBy (or_else (where_none NoService o) (where_none NoService (service_of from w.services))) (if_there o (refused w NoService) (λ _. at_service from w (next_post_served to))).answer
  posted_by from to None = refl
  posted_by from to (Some s) = at_by from w (next_post_served to)

  abandoned_by : (name : List ℕ) (flight : ℕ) (o : Option Kept)
      → AnswersBy (or_else (where_none NoService o) (where_none (NoFlight flight) (option_and_then (flight_of flight) o)))
      (if_there o (refused w NoService) (λ s. if_flying w flight (flight_of flight s) (turned name w (abandon_served flight s)))).answer
  abandoned_by name flight None = refl
  abandoned_by name flight (Some s) = by (flight_of flight s)
    where
      by : (f : Option Flight) → AnswersBy (where_none (NoFlight flight) f) (if_flying w flight f (turned name w (abandon_served flight s))).answer
      by None = refl
      by (Some f) = refl

  -- an event answers this refusal where it names what isn't there, and else something happens
  pub answers_by : (e : Event) → AnswersBy (missing w e) (answer_to w e)
  unfolding turn
  answers_by (Begin name q) = at_by name (once_drawn w) (λ s. arrive_served w.packets q s (next_inputs w))
  answers_by (Deliver number) = delivered_by number (packet_of number w) (found_ends number)
  answers_by (Lose number) = lost_by number (packet_of number w) (found_ends number)
  answers_by (Posts from to) = posted_by from to (service_of to w.services)
  answers_by (Step name) = at_by name w repair_step_served
  answers_by (Abandon name flight) = abandoned_by name flight (service_of name w.services)
  answers_by (Order name command token who) = at_by name (once_drawn w) (λ s. order_served command token who s (next_inputs w))
  answers_by (Clock moment) = refl
  answers_by (Seed n) = refl
