-- What is done of a live request is what is served at its event.
use Rattle.std.proofs.Common.{◌≡◌, ℕ, false, ◌||◌, List, [], ◌∷◌, Option, Some, None, Result, Ok, sym, ap, ◌∙◌, subst}
use Rattle.std.specs.Cmp.Lexicographic.{nat_list_eq_equiv}
use Rattle.lang_core.specs.declared.ids.Origin.{Origin}
use Rattle.lang_core.specs.declared.ids.Origin.TheVariants.{Outside, Call as CallOrigin}
use Rattle.lang_core.specs.declared.inputs.Inputs.{Inputs}
use Rattle.lang_core.specs.declared.request.Request.{Request}
use Rattle.repair_messages.specs.declared.messages.AnswerMessage.{AnswerMessage}
use Rattle.repair_messages.specs.declared.messages.SetMessage.{SetMessage}
use Rattle.call_registers.specs.declared.register.Why.{Why}
use Rattle.service_events.specs.Arriving.{arrive_event, call_answered_event, call_failed_event}
use Rattle.service_events.specs.State.{Kept, After, after, me, flight_of}
use Rattle.service_events.specs.declared.answers.Arrived.{Arrived}
use Rattle.world_laws.proofs.AskLaws.{arrive_lightens, call_answered_lightens, call_failed_lightens}
use Rattle.world_events.specs.Events.{Served, arrive_served, call_answered_served, call_arrive_served, call_failed_served, live_refusal, outcome, outcome_of, reply_among, sent, sent_or, unsaid}
use Rattle.world_events.specs.declared.happened.Outcome.{Outcome}
use Rattle.world_events.specs.declared.happened.What.{What}
use Rattle.world_events.specs.declared.happened.What.TheVariants.{Arrive, CallAnswered, CallFailed}
use Rattle.world_events.specs.declared.packet.Packet.{Packet}
use Rattle.world_events.specs.declared.packet.Packet.TheVariants.{CallReply}
use Rattle.world_core.specs.Backs.{answer_by, back_for}
use Rattle.world_core.specs.declared.backs.Back.{Back}
use Rattle.world_core.proofs.BackLaws.{IfBack, begun_back, answered_is_back, failed_is_back, sent_among, sent_for}

abbrev serves : Kept → What → Option Packet → Served
serves s what packet = record { service = s; what = what; packet = packet }

-- what an event of a live request comes to, by what it leaves and answers
abbrev lives : {E : Type 0} → (Result Outcome E → What) → (AnswerMessage → Option Packet) → (E → Option Packet) → After (Result Arrived E) → Served
lives tells back refusal event = serves event.service (tells (outcome event.answer)) (sent_or (me event.service) back refusal event.answer)

-- a live request goes on, this is told of it, and this is sent
pub record Goes {E : Type 0} (s s' : Kept) (from : List ℕ) (own : AnswerMessage → Option Packet) (arrived : Arrived) (told : Outcome) (packet : Option Packet)
    (event : After (Result Arrived E)) : Type 0 where
  pub is : after s' (Ok arrived) ≡ event
  pub from_it : from ≡ me s
  pub tells : told ≡ outcome_of arrived
  pub sends : packet ≡ sent from own arrived

goes_serve : {E : Type 0} (tells : Result Outcome E → What) (back own : AnswerMessage → Option Packet) (refusal : E → Option Packet) (s s' : Kept) (from : List ℕ) (arrived : Arrived)
    (told : Outcome) (packet : Option Packet) (event : After (Result Arrived E)) → Goes s s' from own arrived told packet event → me event.service ≡ me s
    → sent from own arrived ≡ sent from back arrived → serves s' (tells (Ok told)) packet ≡ lives tells back refusal event
goes_serve tells back own refusal s s' from arrived told packet event g name same =
    let mine : me s' ≡ me s = ap (λ e. me e.service) g.is ∙ name in
    let whole : packet ≡ sent (me s') back arrived = g.sends ∙ same ∙ ap (λ n. sent n back arrived) (g.from_it ∙ sym mine) in
    ap (λ t. serves s' (tells (Ok t)) packet) g.tells ∙ ap (serves s' (tells (Ok (outcome_of arrived)))) whole ∙ ap (lives tells back refusal) g.is

arrival_name : (s : Kept) (o : Origin) (q : Request) (i : Inputs) → me (arrive_event s o q i).service ≡ me s
arrival_name s o q i = (arrive_lightens (me s ∷ []) s q i o (ap (λ b. b || false) (nat_list_eq_equiv.refl (me s)))).0

-- ---- a request from outside

pub begin_serves : (packets : List Packet) (s s' : Kept) (q : Request) (i : Inputs) (from : List ℕ) (arrived : Arrived) (told : Outcome) (packet : Option Packet)
    → Goes s s' from (answer_by None) arrived told packet (arrive_event s Outside q i) → serves s' (Arrive (Ok told)) packet ≡ arrive_served packets q s i
begin_serves packets s s' q i from arrived told packet g =
    let event = arrive_event s Outside q i in
    let B : Result Arrived _ → Type 0 = λ r. IfBack Outside r in
    let back = subst B (sym (ap (λ e. e.answer) g.is)) (begun_back s q i) in
    goes_serve Arrive (reply_among packets) (answer_by None) unsaid s s' from arrived told packet event g (arrival_name s Outside q i)
    (sent_among packets from Outside arrived back)

-- ---- a live call

same_arrival : (s : Kept) (set : SetMessage) (q asked : Request) (i : Inputs) (caller : List ℕ) → caller ≡ set.caller → asked ≡ q
    → arrive_event s (CallOrigin caller set.number) asked i ≡ arrive_event s (CallOrigin set.caller set.number) q i
same_arrival s set q asked i caller is_caller is_asked =
    ap (λ n. arrive_event s (CallOrigin n set.number) asked i) is_caller ∙ ap (λ r. arrive_event s (CallOrigin set.caller set.number) r i) is_asked

pub call_serves : (s s' : Kept) (flight : ℕ) (set : SetMessage) (q asked : Request) (i : Inputs) (from caller : List ℕ) (back : Back) (arrived : Arrived) (told : Outcome) (packet : Option Packet)
    → caller ≡ set.caller → asked ≡ q → back ≡ record { to = set.caller; flight = flight; number = set.number }
    → Goes s s' from (answer_by (Some back)) arrived told packet (arrive_event s (CallOrigin caller set.number) asked i)
    → serves s' (Arrive (Ok told)) packet ≡ call_arrive_served flight set q s i
call_serves s s' flight set q asked i from caller back arrived told packet is_caller is_asked is_back g =
    let own : Back → AnswerMessage → Option Packet = λ b. answer_by (Some b) in
    let mine : Back = record { to = set.caller; flight = flight; number = set.number } in
    let event = arrive_event s (CallOrigin set.caller set.number) q i in
    let now : Goes s s' from (own back) arrived told packet event = record {
      is = g.is ∙ same_arrival s set q asked i caller is_caller is_asked;
      from_it = g.from_it;
      tells = g.tells;
      sends = g.sends;
    } in
    goes_serve Arrive (own mine) (own back) (λ why. Some (CallReply set.caller flight set.number (live_refusal why))) s s' from arrived told packet event now
    (arrival_name s (CallOrigin set.caller set.number) q i) (ap (λ b. sent from (own b) arrived) is_back)

-- ---- what comes back of a call

pub answered_serves : (packets : List Packet) (s s' : Kept) (flight : ℕ) (a : AnswerMessage) (from : List ℕ) (back : Option Back) (arrived : Arrived) (told : Outcome) (packet : Option Packet)
    → back ≡ back_for packets (flight_of flight s) → Goes s s' from (answer_by back) arrived told packet (call_answered_event s flight a)
    → serves s' (CallAnswered (Ok told)) packet ≡ call_answered_served packets flight a s
answered_serves packets s s' flight a from back arrived told packet is g =
    let event = call_answered_event s flight a in
    goes_serve CallAnswered (reply_among packets) (answer_by back) unsaid s s' from arrived told packet event g (call_answered_lightens [] s flight a).0
    (ap (λ b. sent from (answer_by b) arrived) is
    ∙ sent_for packets from (flight_of flight s) arrived event.answer (sym (ap (λ e. e.answer) g.is)) (answered_is_back s flight a))

pub failed_serves : (packets : List Packet) (s s' : Kept) (flight number : ℕ) (why : Why) (from : List ℕ) (back : Option Back) (arrived : Arrived) (told : Outcome) (packet : Option Packet)
    → back ≡ back_for packets (flight_of flight s) → Goes s s' from (answer_by back) arrived told packet (call_failed_event s flight number why)
    → serves s' (CallFailed (Ok told)) packet ≡ call_failed_served packets flight number why s
failed_serves packets s s' flight number why from back arrived told packet is g =
    let event = call_failed_event s flight number why in
    goes_serve CallFailed (reply_among packets) (answer_by back) unsaid s s' from arrived told packet event g (call_failed_lightens [] s flight number why).0
    (ap (λ b. sent from (answer_by b) arrived) is
    ∙ sent_for packets from (flight_of flight s) arrived event.answer (sym (ap (λ e. e.answer) g.is)) (failed_is_back s flight number why))
