-- What a journal says of a call, an entry, an order. Each word is a fold over the rows.
use Rattle.std.specs.Prelude.{ℕ, ◌+◌, Bool, true, false, ◌&&◌, if◌then◌else◌, List, Option, Some, None, is_some, fold, max, nat_eq}
use Rattle.std.specs.Option.{option_map_or}
use Rattle.lang_base.specs.Texts.{same_text}
use Rattle.lang_core.specs.Origins.{is_call}
use Rattle.lang_core.specs.declared.ids.Origin.{Origin}
use Rattle.lang_core.specs.declared.ids.Origin.TheVariants.{Outside, Call}
use Rattle.lang_core.specs.declared.request.Request.{Request}
use Rattle.journal_rows.specs.declared.callee.AnsweredRow.{AnsweredRow}
use Rattle.journal_rows.specs.declared.callee.AskedRow.{AskedRow}
use Rattle.journal_rows.specs.declared.callee.TookRow.{TookRow}
use Rattle.journal_rows.specs.declared.caller.AckHow.{AckHow}
use Rattle.journal_rows.specs.declared.caller.AckHow.TheVariants.{WithAnswer, ToPost}
use Rattle.journal_rows.specs.declared.caller.NotedRow.{NotedRow}
use Rattle.journal_rows.specs.declared.caller.SawAnswerRow.{SawAnswerRow}
use Rattle.journal_rows.specs.declared.caller.SentRow.{SentRow}
use Rattle.journal_rows.specs.declared.orders.About.{About}
use Rattle.journal_rows.specs.declared.orders.About.TheVariants.{Request as OfRequest}
use Rattle.journal_rows.specs.declared.orders.Command.{Command}
use Rattle.journal_rows.specs.declared.orders.Command.TheVariants.{Cancel, Restore, Replace, Fold}
use Rattle.journal_rows.specs.declared.orders.OrderedRow.{OrderedRow}
use Rattle.journal_rows.specs.declared.row.Row.{Row}
use Rattle.journal_rows.specs.declared.row.Row.TheVariants.{Asked, Took, Acked, Answered, WasConfirmed, Sent, SawAck, Noted, SawAnswer, Confirmed, Ordered}
use Rattle.journal_rows.specs.declared.words.Mark.{Mark}
use Rattle.journal_rows.specs.declared.words.Mark.TheVariants.{Unsettled, AnsweredLive, ConfirmedAt}

-- ---- of an own call, by its number

abbrev pub sent_step : ℕ → Option SentRow → Row → Option SentRow
sent_step number last (Sent s) = if nat_eq s.number number then Some s else last
sent_step number last row = last

-- the last version that was named
abbrev pub last_sent : ℕ → List Row → Option SentRow
last_sent number journal = fold (sent_step number) None journal

abbrev pub named_step : ℕ → Row → ℕ
named_step most (Sent s) = max most s.number
named_step most row = most

-- the greatest number that was named, or 0
abbrev pub named : List Row → ℕ
named journal = fold named_step 0 journal

abbrev pub ack_step : ℕ → ℕ → Row → ℕ
ack_step number most (SawAck a) = if nat_eq a.number number then max most a.version else most
ack_step number most row = most

-- the greatest version that was seen to be acknowledged, or 0
abbrev pub seen_acked : ℕ → List Row → ℕ
seen_acked number journal = fold (ack_step number) 0 journal

abbrev pub seen_step : ℕ → Option SawAnswerRow → Row → Option SawAnswerRow
seen_step number last (SawAnswer a) = if nat_eq a.number number then Some a else last
seen_step number last row = last

-- the last answer that was seen
abbrev pub last_seen : ℕ → List Row → Option SawAnswerRow
last_seen number journal = fold (seen_step number) None journal

abbrev pub seen_version : Option SawAnswerRow → ℕ
seen_version last = option_map_or (λ (a : SawAnswerRow). a.answer_version) last 0

abbrev pub with_ack : ℕ → AckHow → ℕ
with_ack most (WithAnswer answer_version) = max most answer_version
with_ack most ToPost = most

abbrev pub claim_step : ℕ → ℕ → Row → ℕ
claim_step number most (SawAck a) = if nat_eq a.number number then with_ack most a.how else most
claim_step number most row = most

-- the greatest answer version that a live acknowledgement speaks of, or 0
abbrev pub claimed : ℕ → List Row → ℕ
claimed number journal = fold (claim_step number) 0 journal

-- ---- of the answers to an own call that were announced, by its number

abbrev pub noting_step : ℕ → Option NotedRow → Row → Option NotedRow
noting_step number last (Noted n) = if nat_eq n.number number then Some n else last
noting_step number last row = last

-- the last token that was noted
abbrev pub last_noted : ℕ → List Row → Option NotedRow
last_noted number journal = fold (noting_step number) None journal

abbrev pub noted_version : Option NotedRow → ℕ
noted_version last = option_map_or (λ (n : NotedRow). n.answer_version) last 0

abbrev pub announces : ℕ → ℕ → NotedRow → Bool
announces number answer_version n = nat_eq n.number number && nat_eq n.answer_version answer_version

abbrev pub announced_step : ℕ → ℕ → Option NotedRow → Row → Option NotedRow
announced_step number answer_version last (Noted n) = if announces number answer_version n then Some n else last
announced_step number answer_version last row = last

-- the token that announced the answer of this version
abbrev pub noted_at : ℕ → ℕ → List Row → Option NotedRow
noted_at number answer_version journal = fold (announced_step number answer_version) None journal

abbrev pub confirm_step : ℕ → ℕ → Row → ℕ
confirm_step number most (Confirmed c) = if nat_eq c.number number then max most c.answer_version else most
confirm_step number most row = most

-- the greatest answer version that was confirmed, or 0
abbrev pub confirmed_version : ℕ → List Row → ℕ
confirmed_version number journal = fold (confirm_step number) 0 journal

-- ---- of a call of another service, by its caller and number

abbrev pub is_version_of : List ℕ → ℕ → TookRow → Bool
is_version_of caller number t = same_text t.caller caller && nat_eq t.number number

abbrev pub taken_step : List ℕ → ℕ → Option TookRow → Row → Option TookRow
taken_step caller number last (Took t) = if is_version_of caller number t then Some t else last
taken_step caller number last row = last

-- the last version that was taken
abbrev pub last_taken : List ℕ → ℕ → List Row → Option TookRow
last_taken caller number journal = fold (taken_step caller number) None journal

abbrev pub version_in : Option TookRow → ℕ
version_in last = option_map_or (λ (t : TookRow). t.version) last 0

-- the version that was taken, or 0
abbrev pub taken_version : List ℕ → ℕ → List Row → ℕ
taken_version caller number journal = version_in (last_taken caller number journal)

abbrev pub acked_step : List ℕ → ℕ → ℕ → Row → ℕ
acked_step caller number most (Acked a) =
    if same_text a.caller caller && nat_eq a.number number then max most a.version else most
acked_step caller number most row = most

-- the greatest version that was acknowledged, or 0
abbrev pub acknowledged : List ℕ → ℕ → List Row → ℕ
acknowledged caller number journal = fold (acked_step caller number) 0 journal

abbrev pub gives : List ℕ → ℕ → ℕ → AnsweredRow → Bool
gives caller number answer_version a = is_call caller number a.origin && nat_eq a.answer_version answer_version

abbrev pub given_step : List ℕ → ℕ → ℕ → Option AnsweredRow → Row → Option AnsweredRow
given_step caller number answer_version last (Answered a) = if gives caller number answer_version a then Some a else last
given_step caller number answer_version last row = last

-- its answer of this version
abbrev pub given_at : List ℕ → ℕ → ℕ → List Row → Option AnsweredRow
given_at caller number answer_version journal = fold (given_step caller number answer_version) None journal

-- ---- of an entry's origin

-- the last version that was taken for it
abbrev pub last_taken_of : Origin → List Row → Option TookRow
last_taken_of Outside journal = None
last_taken_of (Call caller number) journal = last_taken caller number journal

-- the version that was taken for it; 0 where it is outside
abbrev pub taken_version_of : Origin → List Row → ℕ
taken_version_of origin journal = version_in (last_taken_of origin journal)

-- whether it wants its entry
abbrev pub wants : Origin → List Row → Bool
wants Outside journal = true
wants (Call caller number) journal = option_map_or (λ (t : TookRow). is_some t.desired) (last_taken caller number journal) false

-- ---- of an entry, by its number

abbrev pub first_asked : Option AskedRow → AskedRow → Option AskedRow
first_asked None a = Some a
first_asked (Some first) a = Some first

abbrev pub asked_step : ℕ → Option AskedRow → Row → Option AskedRow
asked_step id first (Asked a) = if nat_eq a.id id then first_asked first a else first
asked_step id first row = first

-- how it was made
abbrev pub asked : ℕ → List Row → Option AskedRow
asked id journal = fold (asked_step id) None journal

abbrev pub count_step : ℕ → Row → ℕ
count_step count (Asked a) = count + 1
count_step count row = count

-- how many entries were made
abbrev pub asked_count : List Row → ℕ
asked_count journal = fold count_step 0 journal

abbrev pub answered_step : ℕ → Option AnsweredRow → Row → Option AnsweredRow
answered_step id last (Answered a) = if nat_eq a.id id then Some a else last
answered_step id last row = last

-- its last answer
abbrev pub last_answered : ℕ → List Row → Option AnsweredRow
last_answered id journal = fold (answered_step id) None journal

abbrev pub given_version : Option AnsweredRow → ℕ
given_version last = option_map_or (λ (a : AnsweredRow). a.answer_version) last 0

abbrev pub is_about : ℕ → About → Bool
is_about id (OfRequest n) = nat_eq n id
is_about id about = false

abbrev pub comes_from : Origin → TookRow → Bool
comes_from Outside t = false
comes_from (Call caller number) t = is_version_of caller number t

abbrev pub or_before : Request → Option Request → Request
or_before before None = before
or_before before (Some q) = q

abbrev pub replaced_by : Request → OrderedRow → Command → Request
replaced_by before o (Replace id method path body) = or_before before o.repaired
replaced_by before o command = before

abbrev pub request_step : ℕ → Origin → Request → Row → Request
request_step id origin before (Took t) = if comes_from origin t then or_before before t.desired else before
request_step id origin before (Ordered o) = if is_about id o.about then replaced_by before o o.command else before
request_step id origin before row = before

-- what it asks now, where it asked this first: the last that was taken for its origin or ordered in its place
abbrev pub request_now : ℕ → Origin → Request → List Row → Request
request_now id origin first journal = fold (request_step id origin) first journal

abbrev pub struck_by : Bool → Command → Bool
struck_by before (Cancel id) = true
struck_by before (Restore id) = false
struck_by before command = before

abbrev pub struck_step : ℕ → Bool → Row → Bool
struck_step id before (Ordered o) = if is_about id o.about then struck_by before o.command else before
struck_step id before row = before

-- whether the last order that struck or restored it struck it
abbrev pub is_struck : ℕ → List Row → Bool
is_struck id journal = fold (struck_step id) false journal

-- ---- of a reply, by its entry's number and the call that it answers

abbrev pub mark_step : ℕ → List ℕ → ℕ → Mark → Row → Mark
mark_step id caller number mark (Answered a) =
    if nat_eq a.id id then (if a.live then AnsweredLive else Unsettled) else mark
mark_step id caller number mark (Acked a) =
    if same_text a.caller caller && nat_eq a.number number then Unsettled else mark
mark_step id caller number mark (WasConfirmed c) =
    if same_text c.caller caller && nat_eq c.number number then ConfirmedAt c.answer_version else mark
mark_step id caller number mark row = mark

-- what was last said of it: it was given to a live request, or confirmed, or neither
abbrev pub last_mark : ℕ → List ℕ → ℕ → List Row → Mark
last_mark id caller number journal = fold (mark_step id caller number) Unsettled journal

-- whether that settles a reply of this answer version
abbrev pub settles : ℕ → Mark → Bool
settles answer_version AnsweredLive = true
settles answer_version (ConfirmedAt v) = nat_eq v answer_version
settles answer_version Unsettled = false

-- ---- of an order, by its token

abbrev pub order_step : List ℕ → Option OrderedRow → Row → Option OrderedRow
order_step token last (Ordered o) = if same_text o.token token then Some o else last
order_step token last row = last

-- the order with this token
abbrev pub ordered : List ℕ → List Row → Option OrderedRow
ordered token journal = fold (order_step token) None journal

-- ---- of the horizon

abbrev pub folded_by : Option ℕ → Command → Option ℕ
folded_by last (Fold id) = Some id
folded_by last command = last

abbrev pub fold_step : Option ℕ → Row → Option ℕ
fold_step last (Ordered o) = folded_by last o.command
fold_step last row = last

-- up to which entry the last fold went, if there was one
abbrev pub last_folded : List Row → Option ℕ
last_folded journal = fold fold_step None journal

-- ---- the last row of all

abbrev pub last_step : Option Row → Row → Option Row
last_step last row = Some row

abbrev pub last_row : List Row → Option Row
last_row journal = fold last_step None journal
