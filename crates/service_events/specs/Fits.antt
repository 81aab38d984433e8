-- How what a service keeps follows from its journal.
use Rattle.std.specs.Prelude.{ℕ, ◌≡◌, ◌+◌, ◌<◌, ◌≤◌, Bool, true, false, ◌&&◌, not, List, [], ◌∷◌, ◌++◌, Option, Some, None, IsSome, IfSome, IsSomeAnd, MatchOption, All, AllPairs, if◌then◌else◌, map, max, length, find, nat_eq, option_map, is_some, ◌↔◌}
use Rattle.std.specs.List.{last_or, list_any}
use Rattle.std.specs.Option.{option_map_or}
use Rattle.lang_core.specs.declared.ids.Origin.{Origin}
use Rattle.lang_core.specs.declared.ids.Origin.TheVariants.{Outside, Call}
use Rattle.lang_core.specs.declared.inputs.Inputs.{Inputs}
use Rattle.lang_core.specs.declared.request.Request.{Request}
use Rattle.lang_core.specs.declared.trace.CallMade.{CallMade}
use Rattle.lang_tree.specs.declared.program.Route.{Route}
use Rattle.lang_programs.specs.Numbered.{Numbered}
use Rattle.request_log.specs.Entries.{has_id, find_call, is_alive, IsDistinct}
use Rattle.request_log.specs.Records.{Record, record_of, recorded_calls}
use Rattle.request_log.specs.declared.entry.Entry.{Entry}
use Rattle.request_log.specs.declared.entry.Made.{Made}
use Rattle.local_repair.specs.Current.{AllRuns}
use Rattle.local_repair.specs.Histories.{ReplayAsKept}
use Rattle.authorise_rules.specs.Given.{GivenRules}
use Rattle.journal_rows.specs.Programs.{is_number, is_replaced, newest_now, program_at, program_count, program_now, rules_now}
use Rattle.journal_rows.specs.Words.{last_sent, named, seen_acked, last_seen, seen_version, claimed, last_noted, noted_version, noted_at, confirmed_version, taken_version, taken_version_of, last_taken_of, is_version_of, wants, asked, asked_count, last_answered, given_version, request_now, is_struck, last_mark, settles, ordered, folded_by, last_folded, last_row}
use Rattle.journal_rows.specs.declared.callee.AnsweredRow.{AnsweredRow}
use Rattle.journal_rows.specs.declared.callee.AskedRow.{AskedRow}
use Rattle.journal_rows.specs.declared.caller.AckHow.{AckHow}
use Rattle.journal_rows.specs.declared.caller.AckHow.TheVariants.{WithAnswer, ToPost}
use Rattle.journal_rows.specs.declared.callee.TookHow.TheVariants.{Live, Message}
use Rattle.journal_rows.specs.declared.caller.NotedRow.{NotedRow}
use Rattle.journal_rows.specs.declared.caller.SawAnswerRow.{SawAnswerRow}
use Rattle.journal_rows.specs.declared.caller.SawHow.{SawHow}
use Rattle.journal_rows.specs.declared.caller.SawHow.TheVariants.{Live as SeenLive, Fetch as Fetched}
use Rattle.journal_rows.specs.declared.caller.SentRow.{SentRow}
use Rattle.journal_rows.specs.declared.callee.TookHow.{TookHow}
use Rattle.journal_rows.specs.declared.orders.About.{About}
use Rattle.journal_rows.specs.declared.orders.About.TheVariants.{Request as AboutRequest, Program as AboutProgram}
use Rattle.journal_rows.specs.declared.orders.Command.{Command}
use Rattle.journal_rows.specs.declared.orders.Command.TheVariants.{Cancel, Restore, Replace, Fold, Deploy, Correct}
use Rattle.journal_rows.specs.declared.orders.OrderedRow.{OrderedRow}
use Rattle.journal_rows.specs.declared.row.Row.{Row}
use Rattle.journal_rows.specs.declared.row.Row.TheVariants.{Asked, Took, Acked, Answered, WasConfirmed, Sent, SawAck, Noted, SawAnswer, Confirmed, Ordered}
use Rattle.call_registers.specs.Registers.{register, owes_fetch, IsNumbered}
use Rattle.call_registers.specs.Replies.{IsRising}
use Rattle.call_registers.specs.declared.register.Answer.{Answer}
use Rattle.call_registers.specs.declared.register.Register.{Register}
use Rattle.call_registers.specs.declared.reply.Reply.{Reply}
use Rattle.flights.specs.declared.flight.Flight.{Flight}
use Rattle.service_events.specs.State.{Kept, answers, base, folded, same_call_origin, unfolded}
use Rattle.service_events.specs.Calls.{seen_answer}
use Rattle.service_events.specs.Orders.{request_put}

-- each row may stand after those before it
abbrev pub EachAfter : (List Row → Row → Type 0) → List Row → List Row → Type 0
EachAfter Follows before [] = Unit {0}
EachAfter Follows before (row ∷ rows) = Follows before row × EachAfter Follows (before ++ row ∷ []) rows

-- ---- a. What was sent

-- a first row of a number has a new number, version 1 and a request; a later one goes to the same service, has the next version, and stands after one with a request
abbrev pub SendsOn : List Row → Row → Type 0
SendsOn before (Sent s) =
    MatchOption (last_sent s.number before)
    ((s.number ≡ named before + 1) × (s.version ≡ 1) × IsSome s.desired)
    (λ last. (s.dest ≡ last.dest) × (s.version ≡ last.version + 1) × IsSome last.desired)
SendsOn before row = Unit {0}

-- what a register says of its number's last row
abbrev pub sent_by : Register → SentRow
sent_by r = record { number = r.number; dest = r.dest; version = r.version; desired = r.desired }

pub record FitsSent (journal : List Row) (kept : List Register) : Type 0 where
  pub rows : EachAfter SendsOn [] journal
  pub registers : (number : ℕ) → option_map sent_by (register number kept) ≡ last_sent number journal
  pub count : length kept ≡ named journal
  pub numbered : IsNumbered kept

-- ---- b. What was seen of own calls

-- a token announced the answer before, for the same user, and the same rule allowed it
abbrev pub WasAnnounced : List Row → SawAnswerRow → Type 0
WasAnnounced before a = IsSomeAnd (noted_at a.number a.answer_version before) (λ (n : NotedRow). (n.who ≡ a.who) × (n.rule ≡ a.rule))

-- an answer that isn't live was announced
abbrev pub ComesBy : SawHow → List Row → SawAnswerRow → Type 0
ComesBy SeenLive before a = Unit {0}
ComesBy Fetched before a = WasAnnounced before a

-- what is announced is above all that was announced or seen of the call before
pub record IsNewTo (before : List Row) (n : NotedRow) : Type 0 where
  pub announced : noted_version (last_noted n.number before) < n.answer_version
  pub seen : seen_version (last_seen n.number before) < n.answer_version

-- what is seen is of a call that was sent, and answer versions rise
abbrev pub SeesOn : List Row → Row → Type 0
SeesOn before (SawAck a) = IsSome (last_sent a.number before)
SeesOn before (Noted n) = IsSome (last_sent n.number before) × IsNewTo before n
SeesOn before (SawAnswer a) =
    IsSome (last_sent a.number before) × IfSome (last_seen a.number before) (λ last. last.answer_version < a.answer_version)
    × ComesBy a.how before a
SeesOn before (Confirmed c) = IsSome (last_sent c.number before)
SeesOn before row = Unit {0}

abbrev pub is_with_answer : AckHow → Bool
is_with_answer (WithAnswer answer_version) = true
is_with_answer ToPost = false

-- what a register says of answers that were announced is what the last token said, or as at first; at which index it stands is told with
-- ages
abbrev pub HasNoted : Option NotedRow → Register → Type 0
HasNoted None r = (r.noted ≡ 0) × (r.noted_rule ≡ 0) × (r.noted_since ≡ 0)
HasNoted (Some n) r = (r.noted ≡ n.answer_version) × (r.noted_who ≡ n.who) × (r.noted_rule ≡ n.rule)

-- a register has this greatest version that was acknowledged, this last answer and this last token
pub record HasSeen (greatest : ℕ) (last : Option Answer) (token : Option NotedRow) (r : Register) : Type 0 where
  pub acked : r.acked ≡ greatest
  pub answer : r.answer ≡ last
  pub noted : HasNoted token r

-- the row says that a live answer to the call of this number was seen
abbrev pub tells_of_answer : ℕ → Row → Bool
tells_of_answer number (SawAck a) = nat_eq a.number number && is_with_answer a.how
tells_of_answer number row = false

-- the greatest answer version that was announced or seen, or 0
abbrev pub known_version : ℕ → List Row → ℕ
known_version number journal = max (seen_version (last_seen number journal)) (noted_version (last_noted number journal))

pub record FitsSeen (journal : List Row) (kept : List Register) : Type 0 where
  pub rows : EachAfter SeesOn [] journal
  pub registers : (number : ℕ)
      → IfSome (register number kept) (HasSeen (seen_acked number journal) (option_map seen_answer (last_seen number journal)) (last_noted number journal))
  pub answered : (number : ℕ) → list_any (tells_of_answer number) journal ≡ true → IsSome (last_seen number journal)
  pub heard : (number : ℕ) → claimed number journal ≤ seen_version (last_seen number journal)
  pub told : (number : ℕ) → confirmed_version number journal ≤ known_version number journal

-- ---- c. What was taken of other services' calls

-- a live one is the first of its call
abbrev pub IsFirst : TookHow → ℕ → Option Request → Type 0
IsFirst Live version desired = (version ≡ 1) × IsSome desired
IsFirst Message version desired = Unit {0}

-- versions rise; what is acknowledged was taken; an answer is to the version taken by then
abbrev pub TakesOn : List Row → Row → Type 0
TakesOn before (Took t) = (taken_version t.caller t.number before < t.version) × IsFirst t.how t.version t.desired
TakesOn before (Acked a) = a.version ≤ taken_version a.caller a.number before
TakesOn before (Answered a) = a.version ≡ taken_version_of a.origin before
TakesOn before row = Unit {0}

-- ---- d. The entries

-- an order that changes or folds an entry stands after the entry was made, and a replacement is of one from outside
abbrev pub IsOrderOn : Command → Option AskedRow → Type 0
IsOrderOn (Cancel id) made = IsSome made
IsOrderOn (Restore id) made = IsSome made
IsOrderOn (Replace id method path body) made = IsSomeAnd made (λ a. a.origin ≡ Outside)
IsOrderOn (Fold id) made = IsSome made
IsOrderOn command made = Unit {0}

abbrev pub IsOrderAbout : About → Command → List Row → Type 0
IsOrderAbout (AboutRequest id) command before = IsOrderOn command (asked id before)
IsOrderAbout about command before = Unit {0}

-- the request that an order about this finds: what that entry asks by then
abbrev pub request_found : About → List Row → Option Request
request_found (AboutRequest id) before = option_map (λ (a : AskedRow). request_now id a.origin a.request before) (asked id before)
request_found about before = None

-- the request that an order with this command finds; a fold looks for none
abbrev pub found_by : Command → About → List Row → Option Request
found_by (Fold id) about before = None
found_by command about before = request_found about before

-- an order's row has the request that the order found, and that it put there
abbrev pub TellsRequests : OrderedRow → List Row → Type 0
TellsRequests o before = (o.original ≡ found_by o.command o.about before) × (o.repaired ≡ request_put o.command o.original)

abbrev pub AsksOn : List Row → Row → Type 0
AsksOn before (Asked a) = a.id ≡ asked_count before + 1
AsksOn before (Ordered o) = IsOrderAbout o.about o.command before × TellsRequests o before
AsksOn before row = Unit {0}

-- how an entry was made, and what of the row says so
abbrev pub made_as : Entry → Origin × Inputs
made_as e = (e.origin, e.inputs)

abbrev pub asked_as : AskedRow → Origin × Inputs
asked_as a = (a.origin, a.inputs)

-- an entry is as the journal's rows about it say
pub record IsAsNow (journal : List Row) (e : Entry) : Type 0 where
  pub version : e.version ≡ taken_version_of e.origin journal
  pub wanted : e.wanted ≡ wants e.origin journal
  pub request : IfSome (asked e.id journal) (λ a. e.request ≡ request_now e.id e.origin a.request journal)
  pub struck : e.struck ≡ is_struck e.id journal

-- the row takes that call, with a request
abbrev pub takes_request : List ℕ → ℕ → Row → Bool
takes_request caller number (Took t) = is_version_of caller number t && is_some t.desired
takes_request caller number row = false

pub record FitsAsked (journal : List Row) (log : List Entry) : Type 0 where
  pub rows : EachAfter AsksOn [] journal
  pub count : length log ≡ asked_count journal
  pub distinct : IsDistinct log
  pub entries : (id : ℕ) → option_map made_as (find (has_id id) log) ≡ option_map asked_as (asked id journal)
  pub calls : (caller : List ℕ) (number : ℕ) → IsSome (find_call (Call caller number) log) ↔ (list_any (takes_request caller number) journal ≡ true)
  pub now : All (IsAsNow journal) log

-- ---- f. The answers

-- the row before a live answer to a call took that call live
abbrev pub IsTakenLive : Origin → Option Row → Type 0
IsTakenLive Outside last = Unit {0}
IsTakenLive (Call caller number) None = ⊥
IsTakenLive (Call caller number) (Some (Took t)) = (t.caller ≡ caller) × (t.number ≡ number) × (t.how ≡ Live)
IsTakenLive (Call caller number) (Some row) = ⊥

-- an entry's answers have the versions 1, 2, 3 and so on and its origin, and a live one is the first
abbrev pub AnswersOn : List Row → Row → Type 0
AnswersOn before (Answered a) =
    IsSomeAnd (asked a.id before) (λ made. made.origin ≡ a.origin)
    × (a.answer_version ≡ given_version (last_answered a.id before) + 1)
    × (a.live ≡ true → (a.answer_version ≡ 1) × IsTakenLive a.origin (last_row before))
AnswersOn before row = Unit {0}

-- what a record says of its entry's last answer, and what the row says
abbrev pub answer_recorded : ℕ → Record → Answer
answer_recorded answer_version r = record { answer_version = answer_version; version = r.version; response = r.response }

abbrev pub answer_made : Entry → Option Answer
answer_made e = option_map (answer_recorded e.answer_version) (record_of e)

abbrev pub answer_given : AnsweredRow → Answer
answer_given a = record { answer_version = a.answer_version; version = a.version; response = a.response }

-- an entry has a record exactly where it answered, and no answer version without one
pub record HasAnswered (journal : List Row) (e : Entry) : Type 0 where
  pub answer : answer_made e ≡ option_map answer_given (last_answered e.id journal)
  pub first : record_of e ≡ None → e.answer_version ≡ 0

pub record FitsAnswered (journal : List Row) (log : List Entry) : Type 0 where
  pub rows : EachAfter AnswersOn [] journal
  pub entries : All (HasAnswered journal) log

-- ---- g. The replies

-- an entry's reply is as the entry and the journal say
pub record IsReply (journal : List Row) (from : List ℕ) (call : ℕ) (e : Entry) (p : Reply) : Type 0 where
  pub caller : p.caller ≡ from
  pub number : p.number ≡ call
  pub version : p.version ≡ e.version
  pub wanted : p.wanted ≡ e.wanted
  pub answer_version : p.answer_version ≡ e.answer_version
  pub due : p.due ≡ (e.wanted && not (settles e.answer_version (last_mark e.id from call journal)))

abbrev pub HasReply : List Row → List Reply → Entry → Origin → Type 0
HasReply journal replies e Outside = find (λ (p : Reply). nat_eq p.id e.id) replies ≡ None
HasReply journal replies e (Call caller number) =
    IsSomeAnd (find (λ (p : Reply). nat_eq p.id e.id) replies) (IsReply journal caller number e)

-- the answer that a confirmation speaks of was given by then, by the entry of that call
pub record WasGiven (before : List Row) (caller : List ℕ) (number answer_version : ℕ) : Type 0 where
  pub id : ℕ
  pub origin : IsSomeAnd (asked id before) (λ made. made.origin ≡ Call caller number)
  pub given : answer_version ≤ given_version (last_answered id before)

abbrev pub ConfirmsOn : List Row → Row → Type 0
ConfirmsOn before (WasConfirmed c) = WasGiven before c.caller c.number c.answer_version
ConfirmsOn before row = Unit {0}

pub record FitsReplies (journal : List Row) (log : List Entry) (replies : List Reply) : Type 0 where
  pub rows : EachAfter ConfirmsOn [] journal
  pub entries : All (λ e. HasReply journal replies e e.origin) log
  pub others : All (λ (p : Reply). IsSome (find (has_id p.id) log)) replies
  pub rising : IsRising replies

-- ---- h. Where calls stand

-- the numbers of an entry's or a flight's calls, and these calls
pub record NumberedCalls : Type 0 where
  pub numbers : List ℕ
  pub calls : List CallMade

abbrev pub calls_of_entry : Entry → NumberedCalls
calls_of_entry e = record { numbers = e.slots; calls = recorded_calls (record_of e) }

abbrev pub calls_of_flight : Flight → NumberedCalls
calls_of_flight f = record { numbers = f.numbers; calls = f.calls }

abbrev pub places : Kept → List NumberedCalls
places s = map calls_of_entry s.entries ++ map calls_of_flight s.flights

abbrev pub call_to : List ℕ → Option Request → Option CallMade
call_to dest None = None
call_to dest (Some q) = Some (record { dest = dest; request = q })

abbrev pub call_in : Option Register → Option CallMade
call_in None = None
call_in (Some r) = call_to r.dest r.desired

-- the call that is wanted under a number, if one is
abbrev pub wanted_call : List Register → ℕ → Option CallMade
wanted_call registers number = call_in (register number registers)

abbrev pub count : ℕ → List ℕ → ℕ
count n [] = 0
count n (m ∷ ms) = (if nat_eq m n then 1 else 0) + count n ms

-- how often a number stands in these places
abbrev pub times_held : ℕ → List NumberedCalls → ℕ
times_held n [] = 0
times_held n (p ∷ ps) = count n p.numbers + times_held n ps

-- each call of a place is the one that is wanted under its number
abbrev pub WantsItsCalls : List Register → NumberedCalls → Type 0
WantsItsCalls registers p = map (wanted_call registers) p.numbers ≡ map Some p.calls

-- each number whose call is wanted stands once, and no other stands anywhere
pub record FitsPlaces (registers : List Register) (ps : List NumberedCalls) : Type 0 where
  pub calls : All (WantsItsCalls registers) ps
  pub once : (number : ℕ) → times_held number ps ≡ option_map_or (λ c. 1) (wanted_call registers number) 0

-- ---- i. The flights

abbrev pub AreOther : Flight → Flight → Type 0
AreOther f g = (f.id < g.id) × (same_call_origin f.origin g.origin ≡ false)

-- flights stand in the order of their numbers, which are from 1 on, of no two is the origin one call, and none of these was taken
pub record FitsFlights (journal : List Row) (flights : List Flight) : Type 0 where
  pub numbered : All (λ (f : Flight). 1 ≤ f.id) flights
  pub others : AllPairs AreOther flights
  pub untaken : All (λ (f : Flight). last_taken_of f.origin journal ≡ None) flights

-- ---- j. The orders

-- no token is given twice
abbrev pub OrdersOn : List Row → Row → Type 0
OrdersOn before (Ordered o) = ordered o.token before ≡ None
OrdersOn before row = Unit {0}

-- ---- k. The horizon

-- what is kept of a folded entry is of it as it is, and nothing of what it read and wrote
pub record IsBare (e : Entry) (m : Made) : Type 0 where
  pub alive : m.alive ≡ is_alive e
  pub version : m.version ≡ e.version
  pub request : m.request ≡ e.request
  pub reads : m.trace.reads ≡ []
  pub writes : m.trace.writes ≡ []

-- a call is acknowledged at its version, and owes no fetch
pub record IsDoneWith (r : Register) : Type 0 where
  pub acked : r.version ≤ r.acked
  pub fetched : owes_fetch r ≡ false

-- a folded entry: its calls are done with, and consume the answers that are kept of it
pub record IsPast (s : Kept) (e : Entry) : Type 0 where
  pub bare : IsSomeAnd e.made (IsBare e)
  pub calls : All (λ number. IsSomeAnd (register number s.registers) IsDoneWith) e.slots
  pub consumed : IsSomeAnd (record_of e) (λ (r : Record). r.answers ≡ map (answers s) e.slots)

-- the last folded entry is the one that the last fold names, and none is folded where there was no fold. From no rows on, the folded entries
-- replay, each under its program, to what is kept of them, and leave the rows before the others
pub record FitsHorizon (s : Kept) : Type 0 where
  pub within : s.horizon ≤ length s.entries
  pub last : option_map (λ (e : Entry). e.id) (last_or None (folded s)) ≡ last_folded s.journal
  pub each : All (IsPast s) (folded s)
  pub replayed : ReplayAsKept s.setting (folded s) (base s)

-- ---- l. The programs and the rules

-- an order that brings a program is about the number after all that there are, and a correction is of one that there is
abbrev pub IsProgramOrder : Command → About → List Row → Type 0
IsProgramOrder (Deploy p) about before = about ≡ AboutProgram (program_count before + 1)
IsProgramOrder (Correct k p) about before = (about ≡ AboutProgram (program_count before + 1)) × (is_number k before ≡ true)
IsProgramOrder command about before = Unit {0}

-- an entry is asked for under a program that there is, and in whose place no other one stands
abbrev pub ProgramsOn : List Row → Row → Type 0
ProgramsOn before (Asked a) = (is_number a.program before ≡ true) × (is_replaced a.program before ≡ false)
ProgramsOn before (Ordered o) = IsProgramOrder o.command o.about before
ProgramsOn before row = Unit {0}

-- it is the program of its number, where this one is the first
abbrev pub IsThere : List Route → List Row → Numbered → Type 0
IsThere first journal n = program_at first n.number journal ≡ Some n.program

-- and no other one stands in its place
pub record IsInUse (first : List Route) (journal : List Row) (n : Numbered) : Type 0 where
  pub there : IsThere first journal n
  pub stands : is_replaced n.number journal ≡ false

-- the number of an entry's program is that with which it was asked for, changed in order by each correction
abbrev pub HasNumber : List Row → Entry → Type 0
HasNumber journal e = IsSomeAnd (asked e.id journal) (λ (a : AskedRow). e.under.now.number ≡ program_now a.program journal)

-- the program of an entry that isn't folded, and the one that its record was made under
pub record IsUnder (first : List Route) (journal : List Row) (e : Entry) : Type 0 where
  pub number : HasNumber journal e
  pub now : IsInUse first journal e.under.now
  pub ran : IsThere first journal e.under.ran

-- the program of a folded entry is the one that it had when a fold was ordered
pub record WasUnder (first : List Route) (journal : List Row) (e : Entry) : Type 0 where
  pub before : List Row
  pub order : OrderedRow
  pub rest : List Row
  pub is : journal ≡ before ++ Ordered order ∷ rest
  pub folds : IsSome (folded_by None order.command)
  pub number : HasNumber before e
  pub there : IsThere first journal e.under.now
  pub ran : e.under.ran ≡ e.under.now

-- the rules and the newest program, and the programs of folded entries, of the others and of flights, where this program was the first and
-- these rules were given first
pub record ProgramsFollow (first : List Route) (began stand : GivenRules) (last : Numbered) (journal : List Row) (gone others : List Entry)
    (aloft : List Flight) : Type 0 where
  pub rows : EachAfter ProgramsOn [] journal
  pub rules : stand ≡ rules_now began journal
  pub newest : last ≡ newest_now first journal
  pub current : IsInUse first journal last
  pub past : All (WasUnder first journal) gone
  pub entries : All (IsUnder first journal) others
  pub flights : All (λ (f : Flight). IsInUse first journal f.program) aloft

abbrev pub FitsPrograms : Kept → Type 0
FitsPrograms s = ProgramsFollow s.setting.program s.began s.rules s.newest s.journal (folded s) (unfolded s) s.flights

-- ---- all of it; e. the records of entries that aren't folded are what runs gave

pub record Fits (s : Kept) : Type 0 where
  pub sent : FitsSent s.journal s.registers
  pub seen : FitsSeen s.journal s.registers
  pub taken : EachAfter TakesOn [] s.journal
  pub asked : FitsAsked s.journal s.entries
  pub runs : AllRuns s.setting (unfolded s)
  pub answered : FitsAnswered s.journal s.entries
  pub replies : FitsReplies s.journal s.entries s.replies
  pub places : FitsPlaces s.registers (places s)
  pub flights : FitsFlights s.journal s.flights
  pub orders : EachAfter OrdersOn [] s.journal
  pub horizon : FitsHorizon s
  pub programs : FitsPrograms s
