-- Where its sender is done with a post, fewer are outstanding for that service than before: what a service keeps of others is
-- as it was while a post of its own is delivered.
use Rattle.std.proofs.Common.{◌≡◌, ◌≢◌, ℕ, suc, ◌+◌, ◌<◌, ◌&&◌, ◌||◌, Bool, true, false, cond, List, [], ◌∷◌, ◌++◌, Option, Some, None, Ok, Err, IfSome, length, option_map, one-add, set, inl, inr, refl, sym, ap, ◌∙◌, subst, arith}
use Rattle.std.specs.List.{position_or_len}
use Rattle.std.specs.Option.{option_map_or}
use Rattle.std.proofs.lemmas.Bool.{cases_Bool, cond_both, cond-true, cond-false, false_from_ne_true}
use Rattle.std.proofs.lemmas.Option.{same_Some}
use Rattle.lang_base.specs.Texts.{same_text}
use Rattle.repair_messages.specs.declared.messages.AnswerMessage.{AnswerMessage}
use Rattle.repair_messages.specs.declared.posts.Post.{Post}
use Rattle.repair_messages.specs.declared.posts.Post.TheVariants.{Set, Token, Fetch}
use Rattle.repair_messages.specs.declared.posts.PostName.{PostName}
use Rattle.journal_rows.specs.Words.{noted_at}
use Rattle.journal_rows.specs.declared.caller.NotedRow.{NotedRow}
use Rattle.call_registers.specs.Registers.{is_newer, register}
use Rattle.call_registers.specs.declared.register.Hold.{Hold}
use Rattle.call_registers.specs.declared.register.Register.{Register}
use Rattle.service_events.specs.Calls.{noted}
use Rattle.service_events.specs.Fits.{Fits}
use Rattle.service_events.specs.Messages.{fetched, fetched_row, give_event, had, held_back, held_where, hold_of, is_now, posted, posted_event, replies_to, take_event, take_token_event}
use Rattle.service_events.specs.Posts.{next_post, write_post}
use Rattle.service_events.specs.State.{Kept, after, me}
use Rattle.service_events.specs.declared.answers.PostReply.{PostReply}
use Rattle.service_events.specs.declared.answers.PostReply.TheVariants.{Acked as WasAcked, Confirmed as WasConfirmedBack, Given, Refused, Lost}
use Rattle.service_events.specs.declared.answers.Posted.TheVariants.{Saw, Knew, Held, Left}
use Rattle.service_events.specs.declared.refusals.PostRefused.TheVariants.{Foreign}
use Rattle.service_events.proofs.SearchLemmas.{text_is, get_mid}
use Rattle.world_agreement.specs.Partners.{has_name, service_of, NamesDiffer}
use Rattle.world_agreement.proofs.ListLemmas.{found_in}
use Rattle.world_agreement.proofs.NameLemmas.{differ_first, differ_later, name_is}
use Rattle.world_events.specs.Events.{Turn, after_event, after_events, at_service, delivered, if_there, next_post_served, next_post_turn, next_post_written, post_delivered, posted_served, refused, set_reply, answer_reply, give_reply, give_served, take_served, take_token_served, turn, turned}
use Rattle.world_events.specs.Worlds.{World, next_inputs, next_packet, once_drawn, packet_in, packet_of, with_service}
use Rattle.world_events.specs.declared.event.Event.{Event}
use Rattle.world_events.specs.declared.event.Event.TheVariants.{Deliver, Post as Posts}
use Rattle.world_events.specs.declared.event.WorldStepRefused.TheVariants.{NoService}
use Rattle.world_events.specs.declared.happened.What.{What}
use Rattle.world_events.specs.declared.happened.What.TheVariants.{NextPost, Posted as WasPosted}
use Rattle.world_events.specs.declared.packet.Packet.{Packet}
use Rattle.world_events.specs.declared.packet.Packet.TheVariants.{Post as PostPacket, PostReply as PostReplyPacket}
use Rattle.world_core.specs.HandedOn.{written_at}
use Rattle.world_settle.specs.Doing.{AllDiffer}
use Rattle.world_settle.specs.Settles.{IsDelivered, IsExchange, any_came, came, is_done, outstanding_at, outstanding_for}
use Rattle.world_settle.proofs.PostLemmas.{Sends, next_sends}

-- ---- services by their names

-- the services, with this one in place of the first of this name
abbrev pub put : List ℕ → Kept → List Kept → List Kept
put name t [] = []
put name t (x ∷ xs) = cond (has_name name x) (t ∷ xs) (x ∷ put name t xs)

pub with_is_put : (name : List ℕ) (t : Kept) (xs : List Kept) → with_service name t xs ≡ put name t xs
with_is_put name t [] = refl
with_is_put name t (x ∷ xs) = elim (cases_Bool (has_name name x)) [
  | inl is ↦ rw is refl
  | inr other ↦ rw other (ap (λ k. set (x ∷ xs) k t) (one-add (position_or_len (has_name name) xs)) ∙ ap (λ ys. x ∷ ys) (with_is_put name t xs))
]

-- the service that stands there, put there
put_same : (name : List ℕ) (s : Kept) (xs : List Kept) → service_of name xs ≡ Some s → put name s xs ≡ xs
put_same name s [] e = cc
put_same name s (x ∷ xs) e = elim (cases_Bool (has_name name x)) [
  | inl is ↦ (let it : x ≡ s = same_Some x s (sym (cond-true (has_name name x) (Some x) (service_of name xs) is) ∙ e) in
      cond-true (has_name name x) (s ∷ xs) (x ∷ put name s xs) is ∙ ap (λ y. y ∷ xs) (sym it))
  | inr other ↦ cond-false (has_name name x) (s ∷ xs) (x ∷ put name s xs) other
      ∙ ap (λ ys. x ∷ ys) (put_same name s xs (sym (cond-false (has_name name x) (Some x) (service_of name xs) other) ∙ e))
]

-- one of the same name is found there
pub put_found : (name : List ℕ) (s t : Kept) → me t ≡ me s → (xs : List Kept) → service_of name xs ≡ Some s → service_of name (put name t xs) ≡ Some t
put_found name s t same [] e = cc
put_found name s t same (x ∷ xs) e = elim (cases_Bool (has_name name x)) [
  | inl is ↦ (let it : x ≡ s = same_Some x s (sym (cond-true (has_name name x) (Some x) (service_of name xs) is) ∙ e) in
      let mine : has_name name t ≡ true = ap (λ m. has_text m) (same ∙ ap me (sym it)) ∙ is in
      ap (service_of name) (cond-true (has_name name x) (t ∷ xs) (x ∷ put name t xs) is) ∙ cond-true (has_name name t) (Some t) (service_of name xs) mine)
  | inr other ↦ ap (service_of name) (cond-false (has_name name x) (t ∷ xs) (x ∷ put name t xs) other)
      ∙ cond-false (has_name name x) (Some x) (service_of name (put name t xs)) other
      ∙ put_found name s t same xs (sym (cond-false (has_name name x) (Some x) (service_of name xs) other) ∙ e)
]
  where
    has_text : List ℕ → Bool
    has_text m = same_text m name

-- where names differ then, another one is found as before
another_found : (name to : List ℕ) (s d : Kept) → name ≢ to → me s ≡ name → (xs : List Kept) → service_of name xs ≡ Some s → NamesDiffer (put to d xs)
    → service_of name (put to d xs) ≡ Some s
another_found name to s d apart mine [] e differ = cc
another_found name to s d apart mine (x ∷ xs) e differ = elim (cases_Bool (has_name to x)) [
  | inl is ↦ (let not_mine : has_name name x ≡ false = false_from_ne_true (has_name name x) (λ h. apart (sym (text_is (me x) name h) ∙ text_is (me x) to is)) in
      let behind : service_of name xs ≡ Some s = sym (cond-false (has_name name x) (Some x) (service_of name xs) not_mine) ∙ e in
      let same : put to d (x ∷ xs) ≡ d ∷ xs = cond-true (has_name to x) (d ∷ xs) (x ∷ put to d xs) is in
      let other : has_name name d ≡ false =
      false_from_ne_true (has_name name d)
      (λ h. differ_first d xs (subst NamesDiffer same differ) s (found_in (has_name name) xs s behind) (text_is (me d) name h ∙ sym mine)) in
      ap (service_of name) same ∙ cond-false (has_name name d) (Some d) (service_of name xs) other ∙ behind)
  | inr other ↦ (let same : put to d (x ∷ xs) ≡ x ∷ put to d xs = cond-false (has_name to x) (d ∷ xs) (x ∷ put to d xs) other in
      ap (service_of name) same ∙ behind_first x xs e (λ found. another_found name to s d apart mine xs found (differ_later x (put to d xs) (subst NamesDiffer same differ))))
]
  where
    behind_first : (x : Kept) (xs : List Kept) → service_of name (x ∷ xs) ≡ Some s → (service_of name xs ≡ Some s → service_of name (put to d xs) ≡ Some s)
        → service_of name (x ∷ put to d xs) ≡ Some s
    behind_first x xs e rest = elim (cases_Bool (has_name name x)) [
      | inl is ↦ cond-true (has_name name x) (Some x) (service_of name (put to d xs)) is ∙ sym (cond-true (has_name name x) (Some x) (service_of name xs) is) ∙ e
      | inr not ↦ cond-false (has_name name x) (Some x) (service_of name (put to d xs)) not
          ∙ rest (sym (cond-false (has_name name x) (Some x) (service_of name xs) not) ∙ e)
    ]

-- ---- packets

-- the packet that is written behind others has the next number
packet_last : (packets : List Packet) (p : Packet) → packet_in (length packets + 1) (packets ++ p ∷ []) ≡ Some p
packet_last packets p =
    (let e : length packets + 1 ≡ suc (length packets) = omega arith in ap (λ n. packet_in n (packets ++ p ∷ [])) e ∙ get_mid packets p [])

-- ---- turns

deliver_turn : (w : World) (number : ℕ) (o : Option Packet) → packet_of number w ≡ o → turn w (Deliver number) ≡ delivered w number o
unfolding turn
deliver_turn w number o is = ap (delivered w number) is

post_turn : (w : World) (from to : List ℕ) → turn w (Posts from to) ≡ next_post_turn w from to
unfolding turn
post_turn w from to = refl

-- ---- the sender

-- what comes back of a post leaves the name
module _ (s : Kept) where
  held_named : (post : Post) (hold : Hold) → me (held_back s post hold) ≡ me s
  held_named (Set set) hold = refl
  held_named (Token t) hold = refl
  held_named (Fetch f) hold = refl

  held_where_named : (post : Post) (o : Option Hold) → me (held_where s post o).service ≡ me s
  held_where_named post None = refl
  held_where_named post (Some hold) =
      cond_both (is_now s post) (after (held_back s post hold) (Ok Held)) (after s (Ok Left)) (λ x. me x.service ≡ me s) (λ _. held_named post hold) (λ _. refl)

  fetched_named : (a : AnswerMessage) (o : Option Register) (n : Option NotedRow) → me (fetched s a o n).service ≡ me s
  fetched_named a None n = refl
  fetched_named a (Some r) None = refl
  fetched_named a (Some r) (Some n) =
      cond_both (is_newer r.answer a.answer_version) (after (noted (fetched_row a n ∷ []) s) (Ok Saw)) (after s (Ok Knew)) (λ x. me x.service ≡ me s) (λ _. refl) (λ _. refl)

  replied_named : (post : Post) (reply : PostReply) → me (posted s post reply).service ≡ me s
  replied_named post (WasAcked ack) = refl
  replied_named post (WasConfirmedBack c) = refl
  replied_named post (Given a) = fetched_named a (register a.number s.registers) (noted_at a.number a.answer_version s.journal)
  replied_named post (Refused word number) = held_where_named post (hold_of word number)
  replied_named post (Lost note) = refl

  posted_named : (post : Post) (reply : PostReply) → me (posted_event s post reply).service ≡ me s
  posted_named post reply =
      cond_both (had s post && replies_to post reply) (posted s post reply) (after s (Err Foreign)) (λ x. me x.service ≡ me s) (λ _. replied_named post reply) (λ _. refl)

-- ---- an exchange

nothing_done : (w : World) (events : List Event) → events ≡ [] → any_came is_done w events ≡ false
nothing_done w events e = ap (any_came is_done w) e

not_both : {P : Type 0} (b : Bool) → b ≡ false → b ≡ true → P
not_both true e f = cc
not_both false e f = cc

module _ (w : World) (from to : List ℕ) (apart : from ≢ to) (s : Kept) (fits : Fits s) (here : service_of from w.services ≡ Some s) where
  abbrev before : ℕ
  before = outstanding_for from to w

  counted_now : before ≡ outstanding_at to s
  counted_now = ap (λ o. option_map_or (outstanding_at to) o 0) here

  mine : me s ≡ from
  mine = name_is from w.services s here

  -- what is left of so many deliveries, where an event came to this
  abbrev Lowers : ℕ → Turn → Type 0
  Lowers times t =
      (events : List Event) → IsDelivered times t.world (written_at t.answer) events → NamesDiffer (t.world).services → AllDiffer t.world events
      → (came is_done t.answer || any_came is_done t.world events) ≡ true → outstanding_for from to (after_events t.world events) < before

  -- where nothing was written, nothing is done
  lowers_none : (times : ℕ) (t : Turn) → written_at t.answer ≡ None → came is_done t.answer ≡ false → Lowers (suc times) t
  lowers_none times t none not_done events are differ all done =
      let D : Option ℕ → Type 0 = λ o. IsDelivered (suc times) t.world o events in
      let empty : events ≡ [] = subst D none are in
      not_both (came is_done t.answer || any_came is_done t.world events) (ap (λ b. b || any_came is_done t.world events) not_done ∙ nothing_done t.world events empty) done

  module _ (post : Post) (sends : Sends s fits to post) where
    -- what comes back is delivered to the sender
    returned : (v : World) (reply : PostReply) → service_of from v.services ≡ Some s → (done : is_done (WasPosted (posted_event s post reply).answer) ≡ true)
        → outstanding_for from to (turned from v (posted_served post reply s)).world < before
    returned v reply there done =
        let t = (posted_event s post reply).service in
        let found : service_of from (with_service from t v.services) ≡ Some t =
        ap (service_of from) (with_is_put from t v.services) ∙ put_found from s t (posted_named s post reply) v.services there in
        let now : outstanding_for from to (turned from v (posted_served post reply s)).world ≡ outstanding_at to t = ap (λ o. option_map_or (outstanding_at to) o 0) found in
        let less = sends.fewer reply done in
        let was = counted_now in
        omega (arith, now, less, was)

    -- the world in which the message came, and what is written of it
    abbrev later : World → Kept → PostReply → World
    later v d reply = record v { services = with_service to d v.services; packets = v.packets ++ PostReplyPacket post reply ∷ [] }

    back_lowers : (v : World) (d : Kept) (what : What) (reply : PostReply) → v.services ≡ with_service from s w.services → is_done what ≡ false
        → Lowers 1 (turned to v (record { service = d; what = what; packet = Some (PostReplyPacket post reply) }))
    back_lowers v d what reply services not_done [] are differ all done = absurd are
    back_lowers v d what reply services not_done (e ∷ events) are differ all done =
        let after_it = later v d reply in
        let none : events ≡ [] = are.1 in
        let same : v.services ≡ w.services = services ∙ with_is_put from s w.services ∙ put_same from s w.services here in
        let there : service_of from after_it.services ≡ Some s =
        ap (service_of from) (with_is_put to d v.services)
        ∙ another_found from to s d apart mine v.services (ap (service_of from) same ∙ here) (subst NamesDiffer (with_is_put to d v.services) differ) in
        let is : turn after_it e ≡ turned from after_it (posted_served post reply s) = ap (turn after_it) are.0 ∙ back_turn after_it refl there in
        let came_done : came is_done (turn after_it e).answer ≡ true = or_left (came is_done (turn after_it e).answer) (any_came is_done (after_event after_it e) events) (nothing_done (after_event after_it e) events none) (or_right (is_done what) (came is_done (turn after_it e).answer || any_came is_done (after_event after_it e) events) not_done done) in
        let posted_done : is_done (WasPosted (posted_event s post reply).answer) ≡ true = subst (λ (t : Turn). came is_done t.answer ≡ true) is came_done in
        let L : Turn → Type 0 = λ t. outstanding_for from to t.world < before in
        let E : List Event → Type 0 = λ es. outstanding_for from to (after_events (after_event after_it e) es) < before in
        subst E (sym none) (subst L (sym is) (returned after_it reply there posted_done))
      where
        or_left : (a b : Bool) → b ≡ false → (a || b) ≡ true → a ≡ true
        or_left true b e f = refl
        or_left false b e f = not_both b e f

        or_right : (a b : Bool) → a ≡ false → (a || b) ≡ true → b ≡ true
        or_right true b e f = cc
        or_right false b e f = f

        back_turn : (after_it : World) → after_it ≡ later v d reply → service_of from after_it.services ≡ Some s
            → turn after_it (Deliver (next_packet v)) ≡ turned from after_it (posted_served post reply s)
        back_turn after_it is there =
            deliver_turn after_it (next_packet v) (Some (PostReplyPacket post reply)) (ap (packet_of (next_packet v)) is ∙ packet_last v.packets (PostReplyPacket post reply))
            ∙ ap (λ name. at_service name after_it (posted_served post reply)) (sends.from ∙ mine)
            ∙ ap (λ o. if_there o (refused after_it NoService) (λ x. turned from after_it (posted_served post reply x))) there

  -- the message is delivered to the other service
  post_lowers : (post : Post) → Sends s fits to post → (v : World) → v.services ≡ with_service from s w.services → Lowers 1 (post_delivered v post)
  post_lowers (Set set) sends v services = by_there (service_of set.dest v.services)
    where
      by_there : (o : Option Kept) → Lowers 1 (if_there o (refused v NoService) (λ x. turned set.dest (once_drawn v) (take_served set x (next_inputs v))))
      by_there None = lowers_none 0 (refused v NoService) refl refl
      by_there (Some x) =
          let d = take_served set x (next_inputs v) in
          subst (λ name. Lowers 1 (turned name (once_drawn v) d)) (sym sends.goes)
          (back_lowers (Set set) sends (once_drawn v) d.service d.what (set_reply (take_event x set (next_inputs v)).answer) services refl)
  post_lowers (Token t) sends v services = by_there (service_of t.caller v.services)
    where
      by_there : (o : Option Kept) → Lowers 1 (if_there o (refused v NoService) (λ x. turned t.caller v (take_token_served t x)))
      by_there None = lowers_none 0 (refused v NoService) refl refl
      by_there (Some x) =
          let d = take_token_served t x in
          subst (λ name. Lowers 1 (turned name v d)) (sym sends.goes)
          (back_lowers (Token t) sends v d.service d.what (answer_reply (take_token_event x t).answer) services refl)
  post_lowers (Fetch f) sends v services = by_there (service_of f.callee v.services)
    where
      by_there : (o : Option Kept) → Lowers 1 (if_there o (refused v NoService) (λ x. turned f.callee v (give_served f x)))
      by_there None = lowers_none 0 (refused v NoService) refl refl
      by_there (Some x) =
          let d = give_served f x in
          subst (λ name. Lowers 1 (turned name v d)) (sym sends.goes)
          (back_lowers (Fetch f) sends v d.service d.what (give_reply (give_event x f).answer) services refl)

  -- a post is written
  abbrev behind : Post → World
  behind post = record w { services = with_service from s w.services; packets = w.packets ++ PostPacket post ∷ [] }

  written_lowers : (name : PostName) (post : Post) → Sends s fits to post
      → Lowers 2 (turned from w (record { service = s; what = NextPost (Some name); packet = Some (PostPacket post) }))
  written_lowers name post sends [] are differ all done = absurd are
  written_lowers name post sends (e ∷ events) are differ all done =
      let is : turn (behind post) e ≡ post_delivered (behind post) post = ap (turn (behind post)) are.0 ∙ message_turn in
      subst (Lowers 1) (sym is) (post_lowers post sends (behind post) refl) events are.1 all.0 all.1 done
    where
      message_turn : turn (behind post) (Deliver (next_packet w)) ≡ post_delivered (behind post) post
      message_turn = deliver_turn (behind post) (next_packet w) (Some (PostPacket post)) (packet_last w.packets (PostPacket post))

  post_turn_lowers : Lowers 2 (next_post_turn w from to)
  post_turn_lowers = by_to (service_of to w.services)
    where
      by_post : (name : PostName) (o : Option Post) → IfSome o (Sends s fits to)
          → Lowers 2 (turned from w (record { service = s; what = NextPost (Some name); packet = option_map (λ post. PostPacket post) o }))
      by_post name None sends = lowers_none 1 (turned from w (record { service = s; what = NextPost (Some name); packet = None })) refl refl
      by_post name (Some post) sends = written_lowers name post sends

      by_name : (o : Option PostName) → next_post to s ≡ o → Lowers 2 (turned from w (next_post_written s o))
      by_name None is = lowers_none 1 (turned from w (next_post_written s None)) refl refl
      by_name (Some name) is = by_post name (write_post s name) (next_sends s fits to name is)

      by_to : (o : Option Kept) → Lowers 2 (if_there o (refused w NoService) (λ _. at_service from w (next_post_served to)))
      by_to None = lowers_none 1 (refused w NoService) refl refl
      by_to (Some d) =
          subst (λ o. Lowers 2 (if_there o (refused w NoService) (λ x. turned from w (next_post_served to x)))) (sym here) (by_name (next_post to s) refl)

  pub exchange_lowers : (events : List Event) → IsExchange from to w events → AllDiffer w events → any_came is_done w events ≡ true
      → outstanding_for from to (after_events w events) < outstanding_for from to w
  exchange_lowers [] are all done = absurd are
  exchange_lowers (e ∷ events) are all done =
      let is : turn w e ≡ next_post_turn w from to = ap (turn w) are.0 ∙ post_turn w from to in
      subst (Lowers 2) (sym is) post_turn_lowers events are.1 all.0 all.1 done

-- a service that isn't there does nothing
pub exchange_nothing : (w : World) (from to : List ℕ) (events : List Event) → service_of from w.services ≡ None → IsExchange from to w events → any_came is_done w events ≡ false
exchange_nothing w from to [] gone are = absurd are
exchange_nothing w from to (e ∷ events) gone are = by_turn (turn w e) (ap (turn w) are.0 ∙ post_turn w from to) are.1
  where
    Nothing : Turn → Type 0
    Nothing t = IsDelivered 2 t.world (written_at t.answer) events → (came is_done t.answer || any_came is_done t.world events) ≡ false

    by_to : (o : Option Kept) → Nothing (if_there o (refused w NoService) (λ _. at_service from w (next_post_served to)))
    by_to None = λ none. nothing_done w events none
    by_to (Some d) = subst (λ o. Nothing (if_there o (refused w NoService) (λ x. turned from w (next_post_served to x)))) (sym gone) (λ none. nothing_done w events none)

    by_turn : (t : Turn) → t ≡ next_post_turn w from to → Nothing t
    by_turn t is = subst Nothing (sym is) (by_to (service_of to w.services))
