-- What a service does, as the turn that it is in its world.
use Rattle.std.proofs.Common.{◌≡◌, ℕ, ◌++◌, List, [], ◌∷◌, Option, Some, None, IsSome, Result, Ok, Err, inl, inr, refl, sym, ap, ◌∙◌, subst, append-nil, option_to_list, subst}
use Rattle.std.proofs.lemmas.Bool.{cases_Bool, cond-false, cond-true}
use Rattle.std.proofs.lemmas.Option.{same_Some}
use Rattle.lang_base.specs.contracts.fault.FaultNote as fault_note
use Rattle.lang_base.specs.declared.fault.FaultNote.{FaultNote}
use Rattle.lang_core.specs.declared.inputs.Inputs.{Inputs}
use Rattle.lang_core.specs.declared.request.Request.{Request}
use Rattle.repair_messages.specs.declared.messages.Fetch.{Fetch}
use Rattle.repair_messages.specs.declared.messages.SetMessage.{SetMessage}
use Rattle.repair_messages.specs.declared.messages.TokenMessage.{TokenMessage}
use Rattle.repair_messages.specs.declared.posts.Post.{Post}
use Rattle.repair_messages.specs.declared.posts.Post.TheVariants.{Set as SetPost, Token as TokenPost, Fetch as FetchPost}
use Rattle.recorded_inputs.specs.Drawing.{drawn, word_after}
use Rattle.call_registers.specs.Changes.{raised}
use Rattle.flights.specs.declared.flight.Flight.{Flight}
use Rattle.service_events.specs.State.{Kept, flight_of}
use Rattle.world_agreement.specs.Partners.{has_name, service_of}
use Rattle.world_events.specs.Events as events
use Rattle.world_events.specs.Ends.{post_receiver}
use Rattle.world_events.specs.Events.{Turn, abandon_served, abandon_turn, at_service, call_delivered, drawing_at, if_flying, if_there, losing_at, post_delivered, refused, take_token_served, give_served, take_served, turn_at, turned}
use Rattle.world_events.specs.Turns.{turned_to}
use Rattle.world_events.specs.Worlds.{World, loss_note, next_inputs, once_drawn, once_lost, with_service}
use Rattle.world_events.specs.declared.event.WorldStepRefused.{WorldStepRefused}
use Rattle.world_events.specs.declared.event.WorldStepRefused.TheVariants.{NoService, NoPacket, NoFlight}
use Rattle.world_events.specs.declared.packet.Packet.{Packet}
use Rattle.world_laws.proofs.PutLemmas.{put, with_is_put}
use Rattle.world_core.specs.Acting.{Acts, served, told}
use Rattle.world_core.specs.Environments.{Environment, world_of}
use Rattle.world_core.specs.declared.served.Served.{Served}

-- ---- a service that stays as it was

put_same : (name : List ℕ) (s : Kept) (xs : List Kept) → service_of name xs ≡ Some s → put name s xs ≡ xs
put_same name s [] here = refl
put_same name s (z ∷ zs) here = elim (cases_Bool (has_name name z)) [
  | inl is ↦ (let it : z ≡ s = same_Some z s (sym (cond-true (has_name name z) (Some z) (service_of name zs) is) ∙ here) in
      rw is (ap (λ x. x ∷ zs) (sym it)))
  | inr other ↦ rw other (ap (λ xs. z ∷ xs) (put_same name s zs (sym (cond-false (has_name name z) (Some z) (service_of name zs) other) ∙ here)))
]

with_same : (name : List ℕ) (s : Kept) (xs : List Kept) → service_of name xs ≡ Some s → with_service name s xs ≡ xs
with_same name s xs here = with_is_put name s xs ∙ put_same name s xs here

-- a note of a failure says no more than its two counts
same_note : (a b : FaultNote) → a.before ≡ b.before → a.after ≡ b.after → a ≡ b
same_note a b before after = fault_note.the_row.coded.inj a b cc

-- ---- a turn

module _ (services : List Kept) (packets : List Packet) (name : List ℕ) (s : Kept) (found : service_of name services ≡ Some s) where
  -- a refusal changes nothing
  pub refused_acts : (e : Environment) (why : WorldStepRefused) (t : Turn) → refused (world_of services packets e) why ≡ t
      → turned_to (world_of (with_service name s services) (packets ++ []) e) (Err why) ≡ t
  refused_acts e why t is =
      ap (λ xs. turned_to (world_of xs (packets ++ []) e) (Err why)) (with_same name s services found)
      ∙ ap (λ ps. turned_to (world_of services ps e) (Err why)) (append-nil packets) ∙ is

  -- the service that is there does this, in a world that is so by then
  turn_acts : (e e' : Environment) (then : World) (act : Kept → events.Served) (s' : Kept) (m : Served) → then ≡ world_of services packets e' → served s' m ≡ act s
      → turned_to (world_of (with_service name s' services) (packets ++ option_to_list m.packet) e') (told name packets (Ok m)) ≡ turn_at name (world_of services packets e) then act
  turn_acts e e' then act s' m there is =
      let w = world_of services packets e in
      ap (turned name (world_of services packets e')) is
      ∙ ap (λ x. turned name x (act s)) (sym there)
      ∙ sym (ap (λ o. if_there o (refused w NoService) (λ x. turned name then (act x))) found)

  pub service_acts : (e : Environment) (act : Kept → events.Served) (s' : Kept) (m : Served) → served s' m ≡ act s
      → turned_to (world_of (with_service name s' services) (packets ++ option_to_list m.packet) e) (told name packets (Ok m)) ≡ at_service name (world_of services packets e) act
  service_acts e act s' m is = turn_acts e e (world_of services packets e) act s' m refl is

  -- it was given what was drawn
  pub drawing_acts : (e e' : Environment) (act : Kept → Inputs → events.Served) (i : Inputs) (word : ℕ) (s' : Kept) (m : Served)
      → i ≡ drawn e.moment e.x → word ≡ word_after 8 e.x → e' ≡ record e { x = word } → served s' m ≡ act s i
      → turned_to (world_of (with_service name s' services) (packets ++ option_to_list m.packet) e') (told name packets (Ok m)) ≡ drawing_at name (world_of services packets e) act
  drawing_acts e e' act i word s' m given last later is =
      let w = world_of services packets e in
      let at : ℕ → World = λ x. world_of services packets (record e { x = x }) in
      turn_acts e e' (once_drawn w) (λ x. act x (next_inputs w)) s' m (sym (ap (world_of services packets) later ∙ ap at last)) (is ∙ ap (act s) given)

  -- it was told of an exchange that failed
  pub losing_acts : (e e' : Environment) (act : Kept → FaultNote → events.Served) (note : FaultNote) (s' : Kept) (m : Served)
      → note.before ≡ e.losses → note.after ≡ raised e.losses → e' ≡ record e { losses = note.after } → served s' m ≡ act s note
      → turned_to (world_of (with_service name s' services) (packets ++ option_to_list m.packet) e') (told name packets (Ok m)) ≡ losing_at name (world_of services packets e) act
  losing_acts e e' act note s' m before after later is =
      let w = world_of services packets e in
      let at : ℕ → World = λ n. world_of services packets (record e { losses = n }) in
      let same : note ≡ loss_note w = same_note note (loss_note w) before after in
      turn_acts e e' (once_lost w) (λ x. act x (loss_note w)) s' m (sym (ap (world_of services packets) later ∙ ap at after)) (is ∙ ap (act s) same)

-- ---- flights that are given up

module _ (services : List Kept) (packets : List Packet) (name : List ℕ) (s : Kept) (found : service_of name services ≡ Some s) (e : Environment) (s' : Kept) (flight : ℕ) where
  abbrev here : World
  here = world_of services packets e

  flying : (o : Option Flight) → IsSome o → (t : Turn) → if_flying here flight o t ≡ t
  flying None some t = cc
  flying (Some f) some t = refl

  pub abandon_acts : (m : Served) → served s' m ≡ abandon_served flight s → IsSome (flight_of flight s)
      → turned_to (world_of (with_service name s' services) (packets ++ option_to_list m.packet) e) (told name packets (Ok m)) ≡ abandon_turn here name flight
  abandon_acts m is there =
      ap (turned name here) is
      ∙ sym (flying (flight_of flight s) there (turned name here (abandon_served flight s)))
      ∙ sym (ap (λ o. if_there o (refused here NoService) (λ x. if_flying here flight (flight_of flight x) (turned name here (abandon_served flight x)))) found)

  pub no_flight_acts : s' ≡ s → flight_of flight s ≡ None
      → turned_to (world_of (with_service name s' services) (packets ++ []) e) (Err (NoFlight flight)) ≡ abandon_turn here name flight
  no_flight_acts same none =
      ap (λ x. turned_to (world_of (with_service name x services) (packets ++ []) e) (Err (NoFlight flight))) same
      ∙ refused_acts services packets name s found e (NoFlight flight) (abandon_turn here name flight)
      (sym (ap (λ o. if_there o (refused here NoService) (λ x. if_flying here flight (flight_of flight x) (turned name here (abandon_served flight x)))) found
      ∙ ap (λ o. if_flying here flight o (turned name here (abandon_served flight s))) none))

-- ---- packets that come to their receivers

module _ (services : List Kept) (packets : List Packet) (name : List ℕ) (s : Kept) (found : service_of name services ≡ Some s) where
  -- a call that asks nothing is no packet
  pub no_call_acts : (e : Environment) (number flight : ℕ) (set : SetMessage) (o : Option Request) → o ≡ None
      → turned_to (world_of (with_service name s services) (packets ++ []) e) (Err (NoPacket number)) ≡ call_delivered (world_of services packets e) number flight set o
  no_call_acts e number flight set o none =
      refused_acts services packets name s found e (NoPacket number) (call_delivered (world_of services packets e) number flight set o)
      (sym (ap (call_delivered (world_of services packets e) number flight set) none))

-- ---- messages that were posted

module _ (services : List Kept) (packets : List Packet) (s : Kept) (e : Environment) where
  pub delivers_set : (e' : Environment) (set : SetMessage) (post : Post) → post ≡ SetPost set → service_of (post_receiver post) services ≡ Some s
      → (i : Inputs) (word : ℕ) (s' : Kept) (m : Served) → i ≡ drawn e.moment e.x → word ≡ word_after 8 e.x → e' ≡ record e { x = word } → served s' m ≡ take_served set s i
      → turned_to (world_of (with_service (post_receiver post) s' services) (packets ++ option_to_list m.packet) e') (told (post_receiver post) packets (Ok m)) ≡ post_delivered (world_of services packets e) post
  delivers_set e' set post is found i word s' m given last later did =
      let D : Post → Type 0 = λ p. service_of (post_receiver p) services ≡ Some s
      → turned_to (world_of (with_service (post_receiver p) s' services) (packets ++ option_to_list m.packet) e') (told (post_receiver p) packets (Ok m)) ≡ post_delivered (world_of services packets e) p in
      subst D (sym is) (λ there. drawing_acts services packets set.dest s there e e' (take_served set) i word s' m given last later did) found

  pub delivers_token : (t : TokenMessage) (post : Post) → post ≡ TokenPost t → service_of (post_receiver post) services ≡ Some s
      → (s' : Kept) (m : Served) → served s' m ≡ take_token_served t s
      → turned_to (world_of (with_service (post_receiver post) s' services) (packets ++ option_to_list m.packet) e) (told (post_receiver post) packets (Ok m)) ≡ post_delivered (world_of services packets e) post
  delivers_token t post is found s' m did =
      let D : Post → Type 0 = λ p. service_of (post_receiver p) services ≡ Some s
      → turned_to (world_of (with_service (post_receiver p) s' services) (packets ++ option_to_list m.packet) e) (told (post_receiver p) packets (Ok m)) ≡ post_delivered (world_of services packets e) p in
      subst D (sym is) (λ there. service_acts services packets t.caller s there e (take_token_served t) s' m did) found

  pub delivers_fetch : (f : Fetch) (post : Post) → post ≡ FetchPost f → service_of (post_receiver post) services ≡ Some s
      → (s' : Kept) (m : Served) → served s' m ≡ give_served f s
      → turned_to (world_of (with_service (post_receiver post) s' services) (packets ++ option_to_list m.packet) e) (told (post_receiver post) packets (Ok m)) ≡ post_delivered (world_of services packets e) post
  delivers_fetch f post is found s' m did =
      let D : Post → Type 0 = λ p. service_of (post_receiver p) services ≡ Some s
      → turned_to (world_of (with_service (post_receiver p) s' services) (packets ++ option_to_list m.packet) e) (told (post_receiver p) packets (Ok m)) ≡ post_delivered (world_of services packets e) p in
      subst D (sym is) (λ there. service_acts services packets f.callee s there e (give_served f) s' m did) found

-- ---- packets

-- what is done of a packet, by which packet it is
pub by_packet : (turn : World → Packet → Turn) (end : Packet → List ℕ) (packets : List Packet) (s : Kept) (e : Environment) (result : Result Served WorldStepRefused) (s' : Kept) (e' : Environment) (p q : Packet)
    → q ≡ p → Acts (λ w. turn w p) (end p) packets s e result s' e' → Acts (λ w. turn w q) (end q) packets s e result s' e'
by_packet turn end packets s e result s' e' p q is acts =
    (let A : Packet → Type 0 = λ x. Acts (λ w. turn w x) (end x) packets s e result s' e' in subst A (sym is) acts)
