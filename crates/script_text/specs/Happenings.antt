-- What is printed of what happens.
use Rattle.std.specs.Prelude.{ℕ, List, [], ◌++◌, Bool, true, false, Option, Some, None, option_and_then, Result, Ok, Err, codes, decimal, slice_get, if◌then◌else◌}
use Rattle.service_events.specs.HandedOn.{Stepped}
use Rattle.service_events.specs.HandedOn.{Idle, Ran}
use Rattle.repair_messages.specs.Kinds.{kind_word, spelling}
use Rattle.repair_messages.specs.Refusals.{has_number, word_text}
use Rattle.repair_messages.specs.declared.posts.Post.{Post}
use Rattle.repair_messages.specs.declared.posts.Post.TheVariants.{Set, Token, Fetch}
use Rattle.repair_messages.specs.declared.posts.PostName.{PostName}
use Rattle.repair_messages.specs.declared.refusals.Refusal.{Refusal}
use Rattle.journal_rows.specs.declared.row.Row.{Row}
use Rattle.journal_rows.specs.declared.row.Row.TheVariants as row
use Rattle.request_names.specs.Ids.{id_text}
use Rattle.report_text.specs.Abouts.{about_text}
use Rattle.report_text.specs.Reports.{response_text}
use Rattle.service_events.specs.Refusals.{answer_refusal, arrive_refusal, call_refusal, give_refusal, order_refusal, post_refusal, take_refusal}
use Rattle.service_events.specs.State.{Kept}
use Rattle.service_events.specs.declared.answers.Ordered.{Ordered}
use Rattle.service_events.specs.declared.answers.Posted.{Posted}
use Rattle.service_events.specs.declared.answers.Posted.TheVariants as posted
use Rattle.service_events.specs.declared.refusals.AnswerRefused.{AnswerRefused}
use Rattle.service_events.specs.declared.refusals.ArriveRefused.{ArriveRefused}
use Rattle.service_events.specs.declared.refusals.CallRefused.{CallRefused}
use Rattle.service_events.specs.declared.refusals.CallRefused.TheVariants as call
use Rattle.service_events.specs.declared.refusals.GiveRefused.{GiveRefused}
use Rattle.service_events.specs.declared.refusals.OrderRefused.{OrderRefused}
use Rattle.service_events.specs.declared.refusals.PostRefused.{PostRefused}
use Rattle.service_events.specs.declared.refusals.TakeRefused.{TakeRefused}
use Rattle.world_events.specs.HandedOn.{service_of}
use Rattle.world_events.specs.Worlds.{World, packet_in}
use Rattle.world_events.specs.declared.event.Event.{Event}
use Rattle.world_events.specs.declared.happened.Happened.{Happened}
use Rattle.world_events.specs.declared.happened.Outcome.{Outcome}
use Rattle.world_events.specs.declared.happened.Outcome.TheVariants as outcome
use Rattle.world_events.specs.declared.happened.What.{What}
use Rattle.world_events.specs.declared.happened.What.TheVariants as what
use Rattle.world_events.specs.declared.packet.Packet.{Packet}
use Rattle.world_events.specs.declared.packet.Packet.TheVariants as packet
use Rattle.script_text.specs.Details.{detail_of, flight_told, packet_told, receiver_told, token_told}
use Rattle.script_text.specs.declared.detail.Detail.{Detail}

-- ---- the end of a line

-- ` -> pK`, where a packet was written
abbrev pub arrow : Option ℕ → List ℕ
arrow None = []
arrow (Some k) = codes " -> p" ++ decimal k

abbrev pub ending : Option ℕ → List ℕ
ending packet = arrow packet ++ codes "\n"

-- ---- refusals

-- a word, and a number where it has one
abbrev pub Told : Type 0
Told = List ℕ × Option ℕ

abbrev pub carried : Refusal → Option ℕ
carried why = if has_number why.word then Some why.number else None

abbrev pub refusal_told : Refusal → Told
refusal_told why = (word_text why.word, carried why)

-- ` NUMBER`, where there is one
abbrev pub number_behind : Option ℕ → List ℕ
number_behind None = []
number_behind (Some n) = codes " " ++ decimal n

-- `S refused WORD NUMBER`
abbrev pub refused_line : List ℕ → Told → Option ℕ → List ℕ
refused_line service why packet = service ++ (codes " refused " ++ (why.0 ++ (number_behind why.1 ++ ending packet)))

-- ---- live requests

-- the response of the answer that stands in a row
abbrev pub answered_text : Option Row → List ℕ
answered_text (Some (row.Answered r)) = response_text r.response
answered_text other = []

-- `S/N = STATUS BODY` of a commit, `S fN` of a flight, `S known S/N aA` of a call that is known
abbrev pub outcome_line : List ℕ → List Row → Outcome → Option ℕ → List ℕ
outcome_line service rows (outcome.Done index id) packet =
    id_text service id ++ (codes " = " ++ (answered_text (slice_get rows index) ++ ending packet))
outcome_line service rows (outcome.Call flight) packet = service ++ (codes " f" ++ (decimal flight ++ ending packet))
outcome_line service rows (outcome.Known id version) packet =
    service ++ (codes " known " ++ (id_text service id ++ (codes " a" ++ (decimal version ++ ending packet))))

abbrev pub arrived_line : List ℕ → List Row → Result Outcome ArriveRefused → Option ℕ → List ℕ
arrived_line service rows (Ok o) packet = outcome_line service rows o packet
arrived_line service rows (Err why) packet = refused_line service (refusal_told (arrive_refusal why)) packet

-- `S stray` of an answer or a failure that finds no such flight
abbrev pub stray_line : List ℕ → CallRefused → Option ℕ → List ℕ
stray_line service call.NoMemory packet = refused_line service (refusal_told (call_refusal call.NoMemory)) packet
stray_line service (call.NoFlight flight) packet = service ++ (codes " stray" ++ ending packet)

abbrev pub flown_line : List ℕ → List Row → Result Outcome CallRefused → Option ℕ → List ℕ
flown_line service rows (Ok o) packet = outcome_line service rows o packet
flown_line service rows (Err why) packet = stray_line service why packet

-- ---- posts

-- the kind of a version of a call; `token`, `fetch`
abbrev pub post_word : Post → List ℕ
post_word (Set set) = kind_word (spelling set)
post_word (Token t) = codes "token"
post_word (Fetch f) = codes "fetch"

-- CALL: the caller and its number for the call
abbrev pub call_text : Post → List ℕ
call_text (Set set) = id_text set.caller set.number
call_text (Token t) = id_text t.caller t.number
call_text (Fetch f) = id_text f.caller f.number

-- ` vV` of a version of a call, ` aA` of the answer that a token or a fetch is about
abbrev pub version_behind : Post → List ℕ
version_behind (Set set) = codes " v" ++ decimal set.version
version_behind (Token t) = codes " a" ++ decimal t.answer_version
version_behind (Fetch f) = codes " a" ++ decimal f.answer_version

abbrev pub version_text : Post → List ℕ
version_text p = call_text p ++ version_behind p

-- `S -> pK KIND CALL vV`, `S -> pK token CALL aA`, `S -> pK fetch CALL aA`
abbrev pub written_line : List ℕ → Option ℕ → Post → List ℕ
written_line service packet p =
    service ++ (arrow packet ++ (codes " " ++ (post_word p ++ (codes " " ++ (version_text p ++ codes "\n")))))

-- `S took CALL vV rule R` or `S noted CALL aA rule R`; where it was known, `S knew CALL vV` or `S knew CALL aA`
abbrev pub ruled_line : List ℕ → List ℕ → Option ℕ → Post → Option ℕ → List ℕ
ruled_line service verb (Some rule) p packet =
    service ++ (codes " " ++ (verb ++ (codes " " ++ (version_text p ++ (codes " rule " ++ (decimal rule ++ ending packet))))))
ruled_line service verb None p packet = service ++ (codes " knew " ++ (version_text p ++ ending packet))

-- ` acked CALL vV`, ` confirmed CALL aA`, ` saw CALL aA`, ` knew CALL aA`, ` held CALL`, ` left CALL`
abbrev pub settled_text : Posted → Post → List ℕ
settled_text posted.Acked p = codes " acked " ++ version_text p
settled_text posted.Confirmed p = codes " confirmed " ++ version_text p
settled_text posted.Saw p = codes " saw " ++ version_text p
settled_text posted.Knew p = codes " knew " ++ version_text p
settled_text posted.Held p = codes " held " ++ call_text p
settled_text posted.Left p = codes " left " ++ call_text p

abbrev pub settled_line : List ℕ → Posted → Option ℕ → Post → List ℕ
settled_line service to packet p = service ++ (settled_text to p ++ ending packet)

-- what is printed of a post, where there is one
abbrev pub of_post : Option Post → (Post → List ℕ) → List ℕ
of_post None line = []
of_post (Some p) line = line p

-- of a version of a call that comes, of a token that comes, of an answer that is given, and of what comes back of a post
abbrev pub taken_line : List ℕ → Option Post → Result (Option ℕ) TakeRefused → Option ℕ → List ℕ
taken_line service p (Ok rule) packet = of_post p (λ p. ruled_line service (codes "took") rule p packet)
taken_line service p (Err why) packet = refused_line service (refusal_told (take_refusal why)) packet

abbrev pub token_taken_line : List ℕ → Option Post → Result (Option ℕ) AnswerRefused → Option ℕ → List ℕ
token_taken_line service p (Ok rule) packet = of_post p (λ p. ruled_line service (codes "noted") rule p packet)
token_taken_line service p (Err why) packet = refused_line service (refusal_told (answer_refusal why)) packet

-- `S gave CALL aA`
abbrev pub gave_line : List ℕ → Post → Option ℕ → List ℕ
gave_line service p packet = service ++ (codes " gave " ++ (version_text p ++ ending packet))

abbrev pub given_line : List ℕ → Option Post → Result ℕ GiveRefused → Option ℕ → List ℕ
given_line service p (Ok answer_version) packet = of_post p (λ p. gave_line service p packet)
given_line service p (Err why) packet = refused_line service (refusal_told (give_refusal why)) packet

abbrev pub posted_line : List ℕ → Option Post → Result Posted PostRefused → Option ℕ → List ℕ
posted_line service p (Ok to) packet = of_post p (settled_line service to packet)
posted_line service p (Err why) packet = refused_line service (refusal_told (post_refusal why)) packet

-- `S none D`
abbrev pub none_line : List ℕ → Option (List ℕ) → List ℕ
none_line service None = []
none_line service (Some to) = service ++ (codes " none " ++ (to ++ codes "\n"))

-- of a post that is written, or that none is outstanding
abbrev pub next_line : List ℕ → Option (List ℕ) → Option Post → Option PostName → Option ℕ → List ℕ
next_line service to p (Some name) packet = of_post p (written_line service packet)
next_line service to p None packet = none_line service to

-- ---- the other happenings

-- `S ran S/N`, `S idle`
abbrev pub step_line : List ℕ → Stepped → List ℕ
step_line service Idle = service ++ codes " idle\n"
step_line service (Ran id answered) = service ++ (codes " ran " ++ (id_text service id ++ codes "\n"))

-- `S ordered TOKEN ABOUT rule R`
abbrev pub ordered_line : List ℕ → Option (List ℕ) → Result Ordered OrderRefused → Option ℕ → List ℕ
ordered_line service None (Ok o) packet = []
ordered_line service (Some token) (Ok o) packet =
    service ++ (codes " ordered " ++ (token ++ (codes " " ++ (about_text service o.about ++ (codes " rule " ++ (decimal o.rule ++ codes "\n"))))))
ordered_line service token (Err why) packet = refused_line service (refusal_told (order_refusal why)) packet

-- `S abandoned fN`
abbrev pub abandoned_line : List ℕ → Option ℕ → Bool → List ℕ
abandoned_line service None true = []
abandoned_line service (Some flight) true = service ++ (codes " abandoned f" ++ (decimal flight ++ codes "\n"))
abandoned_line service flight false = []

-- ---- whatever happens

-- the post of a packet, which a packet of its reply names too
abbrev pub post_of : Packet → Option Post
post_of (packet.Call from flight set) = None
post_of (packet.CallReply to flight set reply) = None
post_of (packet.Post p) = Some p
post_of (packet.PostReply p reply) = Some p

-- the post of the packet of this number, if there is one
abbrev pub post_in : List Packet → Option ℕ → Option Post
post_in packets number = option_and_then post_of (option_and_then (λ k. packet_in k packets) number)

-- what happened at a service, by all packets and its journal after it
abbrev pub what_line : List ℕ → List Packet → List Row → Detail → What → Option ℕ → List ℕ
what_line service packets rows detail (what.Arrive r) packet = arrived_line service rows r packet
what_line service packets rows detail (what.CallAnswered r) packet = flown_line service rows r packet
what_line service packets rows detail (what.CallFailed r) packet = flown_line service rows r packet
what_line service packets rows detail (what.Take r) packet = taken_line service (post_in packets (packet_told detail)) r packet
what_line service packets rows detail (what.TakeToken r) packet = token_taken_line service (post_in packets (packet_told detail)) r packet
what_line service packets rows detail (what.Give r) packet = given_line service (post_in packets (packet_told detail)) r packet
what_line service packets rows detail (what.Posted r) packet = posted_line service (post_in packets (packet_told detail)) r packet
what_line service packets rows detail (what.NextPost name) packet = next_line service (receiver_told detail) (post_in packets packet) name packet
what_line service packets rows detail (what.RepairStep stepped) packet = step_line service stepped
what_line service packets rows detail (what.Abandon was_there) packet = abandoned_line service (flight_told detail) was_there
what_line service packets rows detail (what.Order r) packet = ordered_line service (token_told detail) r packet
what_line service packets rows detail what.Set packet = []

-- at which service it was, if at one
abbrev pub line_at : Option (List ℕ) → (List ℕ → List ℕ) → List ℕ
line_at None line = []
line_at (Some service) line = line service

-- the line that is printed of what happened, by all packets and the journal of its service after it
abbrev pub happened_line : List Packet → List Row → Detail → Happened → List ℕ
happened_line packets rows detail h = line_at h.service (λ service. what_line service packets rows detail h.what h.packet)

-- the journal of the service of this name
abbrev pub journal_in : Option Kept → List Row
journal_in None = []
journal_in (Some s) = s.journal

abbrev pub journal_of : Option (List ℕ) → World → List Row
journal_of None w = []
journal_of (Some service) w = journal_in (service_of service w.services)

-- the line that is printed of what happened at an event, by the world after it
abbrev pub printed : World → Event → Happened → List ℕ
printed w e h = happened_line w.packets (journal_of h.service w) (detail_of e) h
