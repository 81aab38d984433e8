-- Events of repair messages: a version of a call is taken, a token is taken, an answer is given, something comes back of a post.
use Rattle.std.specs.Prelude.{ℕ, ◌+◌, Bool, true, false, ◌&&◌, not, List, [], ◌∷◌, ◌++◌, Option, Some, None, Result, Ok, Err, if◌then◌else◌, nat_eq, nat_le, length, find, insert, is_some, max, option_map}
use Rattle.std.specs.List.{list_any}
use Rattle.lang_base.specs.Texts.{same_text}
use Rattle.lang_core.specs.declared.ids.Origin.{Origin}
use Rattle.lang_core.specs.declared.ids.Origin.TheVariants.{Call}
use Rattle.lang_core.specs.declared.inputs.Inputs.{Inputs}
use Rattle.lang_core.specs.declared.request.Request.{Request}
use Rattle.lang_programs.specs.Numbered.{Numbered}
use Rattle.lang_programs.specs.Under.{under_of}
use Rattle.request_log.specs.Entries.{find_call, has_origin, with_entry}
use Rattle.request_log.specs.declared.entry.Entry.{Entry}
use Rattle.create_placement.specs.Placement.{place_between}
use Rattle.repair_messages.specs.declared.messages.Ack.{Ack}
use Rattle.repair_messages.specs.declared.messages.AnswerMessage.{AnswerMessage}
use Rattle.repair_messages.specs.declared.messages.Confirm.{Confirm}
use Rattle.repair_messages.specs.declared.messages.Fetch.{Fetch as FetchMessage}
use Rattle.repair_messages.specs.declared.messages.SetMessage.{SetMessage}
use Rattle.repair_messages.specs.declared.messages.TokenMessage.{TokenMessage}
use Rattle.repair_messages.specs.declared.posts.Post.{Post}
use Rattle.repair_messages.specs.declared.posts.Post.TheVariants.{Set, Token, Fetch}
use Rattle.authorise_rules.specs.Deciding.{decision}
use Rattle.authorise_rules.specs.declared.asked.Decision.{Decision}
use Rattle.journal_rows.specs.Words.{given_at, noted_at, taken_version, or_before}
use Rattle.journal_rows.specs.declared.callee.AnsweredRow.{AnsweredRow}
use Rattle.journal_rows.specs.declared.caller.AckHow.TheVariants.{ToPost}
use Rattle.journal_rows.specs.declared.callee.TookHow.TheVariants.{Message}
use Rattle.journal_rows.specs.declared.caller.NotedRow.{NotedRow}
use Rattle.journal_rows.specs.declared.caller.SawHow.TheVariants.{Fetch as Fetched}
use Rattle.journal_rows.specs.declared.row.Row.{Row}
use Rattle.journal_rows.specs.declared.row.Row.TheVariants.{Asked, Took, Acked, WasConfirmed, SawAck, Noted, SawAnswer, Confirmed}
use Rattle.call_registers.specs.Registers.{register, at_number, with_hold, is_news, is_newer}
use Rattle.call_registers.specs.Replies.{reply, at_entry, with_taken, with_confirm, made_due, with_hold as with_reply_hold}
use Rattle.call_registers.specs.declared.register.Hold.{Hold}
use Rattle.call_registers.specs.declared.register.Hold.TheVariants.{Rule, Unknown as Unheard, TooOld as PastHorizon}
use Rattle.call_registers.specs.declared.register.Register.{Register}
use Rattle.call_registers.specs.declared.reply.Reply.{Reply}
use Rattle.service_events.specs.State.{Kept, After, after, folded, me, next_id, or_else, program_for, where_needed, is_crowded, is_heavy, is_in_flight}
use Rattle.service_events.specs.Calls.{noted}
use Rattle.service_events.specs.Questions.{version_question, answer_question, is_denied, rule_of}
use Rattle.service_events.specs.declared.answers.Heard.{Heard}
use Rattle.service_events.specs.declared.answers.PostReply.{PostReply}
use Rattle.service_events.specs.declared.answers.PostReply.TheVariants.{Acked as WasAcked, Confirmed as WasConfirmedBack, Given, Refused, Lost}
use Rattle.service_events.specs.declared.answers.PostWord.{PostWord}
use Rattle.service_events.specs.declared.answers.PostWord.TheVariants.{Denied as DeniedPost, Unknown as UnknownPost, TooOld as TooOldPost}
use Rattle.service_events.specs.declared.answers.Posted.{Posted}
use Rattle.service_events.specs.declared.answers.Posted.TheVariants.{Acked as PostAcked, Confirmed as PostConfirmed, Saw as PostSaw, Knew as PostKnew, Held, Left}
use Rattle.service_events.specs.declared.answers.Taken.{Taken}
use Rattle.service_events.specs.declared.refusals.AnswerRefused.{AnswerRefused}
use Rattle.service_events.specs.declared.refusals.AnswerRefused.TheVariants.{Unknown, Denied as DeniedAnswer, TooOld as TooOldAnswer}
use Rattle.service_events.specs.declared.refusals.GiveRefused.{GiveRefused}
use Rattle.service_events.specs.declared.refusals.GiveRefused.TheVariants.{Unknown as Ungiven}
use Rattle.service_events.specs.declared.refusals.PostRefused.{PostRefused}
use Rattle.service_events.specs.declared.refusals.PostRefused.TheVariants.{Foreign}
use Rattle.service_events.specs.declared.refusals.TakeRefused.{TakeRefused}
use Rattle.service_events.specs.declared.refusals.TakeRefused.TheVariants.{Full, NotYet, Denied, TooOld}

-- ---- a version of a call

abbrev pub origin_of : SetMessage → Origin
origin_of set = Call set.caller set.number

-- it isn't above the version that was taken
abbrev pub is_known : Kept → SetMessage → Bool
is_known s set = nat_le set.version (taken_version set.caller set.number s.journal)

-- it makes an entry: it has a request, and the call has none
abbrev pub makes_entry : Kept → SetMessage → Bool
makes_entry s set = is_some set.desired && not (is_some (find_call (origin_of set) s.entries))

-- how much there is, where there is too much: the weight counts first
abbrev pub is_too_much : Kept → SetMessage → Option ℕ
is_too_much s set = or_else (is_heavy s) (where_needed (not (is_known s set) && makes_entry s set) (is_crowded s))

-- the request of the call's entry, where it has one
abbrev pub known_request : Kept → SetMessage → Option Request
known_request s set = option_map (λ (e : Entry). e.request) (find_call (origin_of set) s.entries)

-- what the service's rules decide of it
abbrev pub take_decision : Kept → SetMessage → Decision
take_decision s set = decision s.rules.rules (version_question set.caller set.who (known_request s set) set.desired)

abbrev pub take_rule : Kept → SetMessage → ℕ
take_rule s set = rule_of (take_decision s set)

abbrev pub ack_of : SetMessage → Ack
ack_of set = record { caller = set.caller; dest = set.dest; number = set.number; version = set.version }

abbrev pub acked_row : SetMessage → Row
acked_row set = Acked (record { caller = set.caller; number = set.number; version = set.version })

-- with the rule that allowed it
abbrev pub took_row : Kept → SetMessage → Row
took_row s set =
    Took (record {
      caller = set.caller;
      number = set.number;
      version = set.version;
      desired = set.desired;
      how = Message;
      who = set.who;
      rule = take_rule s set;
    })

-- the replies, where that of this entry is changed so
abbrev pub at_reply_of : Option Entry → (Reply → Reply) → List Reply → List Reply
at_reply_of None f replies = replies
at_reply_of (Some e) f replies = at_entry e.id f replies

-- one that is known is acknowledged again
abbrev pub acked_again : Kept → SetMessage → Kept
acked_again s set =
    noted (acked_row set ∷ [])
    (record s { replies = at_reply_of (find_call (origin_of set) s.entries) (made_due (length s.journal)) s.replies })

-- the number of the entry of the caller's call, where one is named and known
abbrev pub neighbour : Kept → List ℕ → Option ℕ → Option ℕ
neighbour s caller None = None
neighbour s caller (Some number) = option_map (λ (e : Entry). e.id) (find (has_origin caller number) s.entries)

-- behind the folded entries, whichever are named
abbrev pub created_place : Kept → SetMessage → ℕ
created_place s set =
    max s.horizon (place_between (neighbour s set.caller set.before) (neighbour s set.caller set.after) s.entries)

-- the program under which it runs
abbrev pub created_under : Kept → SetMessage → Numbered
created_under s set = program_for s (created_place s set)

-- an entry that never ran
abbrev pub created_entry : Kept → SetMessage → Request → Inputs → Entry
created_entry s set q i =
    record {
      id = next_id s;
      origin = origin_of set;
      version = set.version;
      request = q;
      wanted = true;
      struck = false;
      inputs = i;
      under = under_of (created_under s set);
      made = None;
      slots = [];
      answer_version = 0;
      runs = 0;
    }

-- the row that asks of it
abbrev pub created_row : Kept → SetMessage → Request → Inputs → Row
created_row s set q i =
    Asked (record {
      id = next_id s;
      origin = origin_of set;
      request = q;
      inputs = i;
      program = (created_under s set).number;
    })

-- its reply, which is due; its last mark is the acknowledgement, which stands two rows behind
abbrev pub created_reply : Kept → SetMessage → Reply
created_reply s set =
    record {
      id = next_id s;
      caller = set.caller;
      number = set.number;
      version = set.version;
      answer_version = 0;
      wanted = true;
      due = true;
      held = None;
      repair_who = me s;
      since = length s.journal + 2;
    }

-- an entry with this version of its call
abbrev pub at_version : SetMessage → Entry → Entry
at_version set e =
    record e { version = set.version; request = or_before e.request set.desired; wanted = is_some set.desired }

-- the call has an entry, or makes one, or does neither
abbrev pub taken_by : Kept → SetMessage → Inputs → Option Entry → Option Request → Kept
taken_by s set i (Some e) desired =
    noted (took_row s set ∷ (acked_row set ∷ []))
    (record s {
      entries = with_entry (at_version set e) s.entries;
      replies = at_entry e.id (λ p. made_due (length s.journal + 1) (with_taken set.version (is_some set.desired) p)) s.replies;
    })
taken_by s set i None (Some q) =
    noted (took_row s set ∷ (created_row s set q i ∷ (acked_row set ∷ [])))
    (record s {
      entries = insert s.entries (created_place s set) (created_entry s set q i);
      replies = s.replies ++ created_reply s set ∷ [];
    })
taken_by s set i None None = noted (took_row s set ∷ (acked_row set ∷ [])) s

abbrev pub taken : SetMessage → Option ℕ → Taken
taken set rule = record { ack = ack_of set; rule = rule }

abbrev pub take_denied : Kept → SetMessage → After (Result Taken TakeRefused)
take_denied s set = after s (Err (Denied (take_rule s set)))

abbrev pub take_allowed : Kept → SetMessage → Inputs → After (Result Taken TakeRefused)
take_allowed s set i = after (taken_by s set i (find_call (origin_of set) s.entries) set.desired) (Ok (taken set (Some (take_rule s set))))

-- of one that is new, rules are asked, unless its call's entry is folded
abbrev pub take_unless_past : Kept → SetMessage → Inputs → Option Entry → After (Result Taken TakeRefused)
take_unless_past s set i (Some e) = after s (Err (TooOld e.id))
take_unless_past s set i None = if is_denied (take_decision s set) then take_denied s set else take_allowed s set i

abbrev pub take_new : Kept → SetMessage → Inputs → After (Result Taken TakeRefused)
take_new s set i = take_unless_past s set i (find_call (origin_of set) (folded s))

abbrev pub take_admitted : Kept → SetMessage → Inputs → Option ℕ → After (Result Taken TakeRefused)
take_admitted s set i (Some n) = after s (Err (Full n))
take_admitted s set i None =
    if is_known s set then after (acked_again s set) (Ok (taken set None)) else take_new s set i

abbrev pub take_event : Kept → SetMessage → Inputs → After (Result Taken TakeRefused)
take_event s set i =
    if is_in_flight (origin_of set) s then after s (Err (NotYet set.number)) else take_admitted s set i (is_too_much s set)

-- ---- a token

abbrev pub confirm_of : TokenMessage → Confirm
confirm_of t = record { caller = t.caller; callee = t.callee; number = t.number; answer_version = t.answer_version }

abbrev pub confirmed_row : TokenMessage → Row
confirmed_row t = Confirmed (record { number = t.number; answer_version = t.answer_version })

-- what the service's rules decide of another answer to the call of this register
abbrev pub hear_decision : Kept → TokenMessage → Register → Decision
hear_decision s t r = decision s.rules.rules (answer_question r.dest t.who r.desired)

-- with the number of the rule that allowed it
abbrev pub noted_row : ℕ → TokenMessage → Row
noted_row rule t = Noted (record { number = t.number; answer_version = t.answer_version; who = t.who; rule = rule })

abbrev pub heard : TokenMessage → Option ℕ → Heard
heard t rule = record { confirm = confirm_of t; rule = rule }

abbrev pub hear_rule : Kept → TokenMessage → Register → ℕ
hear_rule s t r = rule_of (hear_decision s t r)

abbrev pub hear_denied : Kept → TokenMessage → Register → After (Result Heard AnswerRefused)
hear_denied s t r = after s (Err (DeniedAnswer (hear_rule s t r)))

abbrev pub hear_allowed : Kept → TokenMessage → Register → After (Result Heard AnswerRefused)
hear_allowed s t r =
    after (noted (noted_row (hear_rule s t r) t ∷ (confirmed_row t ∷ [])) s) (Ok (heard t (Some (hear_rule s t r))))

-- the call of this number is one of a folded entry
abbrev pub is_past_call : ℕ → Kept → Bool
is_past_call number s = list_any (λ (e : Entry). list_any (nat_eq number) e.slots) (folded s)

-- of one that tells anything new, rules are asked, unless it is about a call of a folded entry
abbrev pub hear_new : Kept → TokenMessage → Register → After (Result Heard AnswerRefused)
hear_new s t r =
    if is_past_call t.number s then after s (Err (TooOldAnswer t.number))
    else (if is_denied (hear_decision s t r) then hear_denied s t r else hear_allowed s t r)

abbrev pub token_taken_by : Kept → TokenMessage → Register → After (Result Heard AnswerRefused)
token_taken_by s t r =
    if not (same_text r.dest t.callee) then after s (Err (Unknown t.number))
    else (if is_news r t.answer_version then hear_new s t r else after (noted (confirmed_row t ∷ []) s) (Ok (heard t None)))

abbrev pub token_taken_where : Kept → TokenMessage → Option Register → After (Result Heard AnswerRefused)
token_taken_where s t None = after s (Err (Unknown t.number))
token_taken_where s t (Some r) = token_taken_by s t r

abbrev pub take_token_event : Kept → TokenMessage → After (Result Heard AnswerRefused)
take_token_event s t = token_taken_where s t (register t.number s.registers)

-- ---- an answer is given to who fetches it

-- as it was given when it was made
abbrev pub answer_again : Kept → FetchMessage → AnsweredRow → AnswerMessage
answer_again s f a =
    record {
      caller = f.caller;
      callee = me s;
      id = a.id;
      number = f.number;
      answer_version = a.answer_version;
      version = a.version;
      response = a.response;
      who = me s;
    }

abbrev pub given_where : Kept → FetchMessage → Option AnsweredRow → Result AnswerMessage GiveRefused
given_where s f None = Err (Ungiven f.number)
given_where s f (Some a) = Ok (answer_again s f a)

-- the answer of the version that is asked for, whatever was answered since; nothing changes
abbrev pub give_event : Kept → FetchMessage → After (Result AnswerMessage GiveRefused)
give_event s f = after s (given_where s f (given_at f.caller f.number f.answer_version s.journal))

-- ---- what comes back of a post

-- a version from 1 to this one
abbrev pub is_version : ℕ → ℕ → Bool
is_version version last = nat_le 1 version && nat_le version last

-- the service had that call, to that service, at that version
abbrev pub had_call : SetMessage → Option Register → Bool
had_call set None = false
had_call set (Some r) = same_text r.dest set.dest && is_version set.version r.version

-- the service had that answer, to that call
abbrev pub had_answer : TokenMessage → Option Reply → Bool
had_answer t None = false
had_answer t (Some p) = same_text p.caller t.caller && nat_eq p.number t.number && is_version t.answer_version p.answer_version

-- the service has that call, to that service
abbrev pub has_call : FetchMessage → Option Register → Bool
has_call f None = false
has_call f (Some r) = same_text r.dest f.callee

abbrev pub is_ack_of : SetMessage → Ack → Bool
is_ack_of set ack =
    same_text ack.caller set.caller && same_text ack.dest set.dest && nat_eq ack.number set.number && nat_eq ack.version set.version

abbrev pub is_confirm_of : TokenMessage → Confirm → Bool
is_confirm_of t c =
    same_text c.caller t.caller && same_text c.callee t.callee && nat_eq c.number t.number && nat_eq c.answer_version t.answer_version

-- the answer is the one that is asked for
abbrev pub is_given_to : FetchMessage → AnswerMessage → Bool
is_given_to f a = same_text a.callee f.callee && nat_eq a.number f.number && nat_eq a.answer_version f.answer_version

-- the reply is one to that post
abbrev pub replies_to : Post → PostReply → Bool
replies_to (Set set) (WasAcked ack) = is_ack_of set ack
replies_to (Set set) (WasConfirmedBack c) = false
replies_to (Set set) (Given a) = false
replies_to (Token t) (WasAcked ack) = false
replies_to (Token t) (WasConfirmedBack c) = is_confirm_of t c
replies_to (Token t) (Given a) = false
replies_to (Fetch f) (WasAcked ack) = false
replies_to (Fetch f) (WasConfirmedBack c) = false
replies_to (Fetch f) (Given a) = is_given_to f a
replies_to post (Refused word number) = true
replies_to post (Lost note) = true

-- of a fetch: a token announced that answer
abbrev pub had : Kept → Post → Bool
had s (Set set) = same_text set.caller (me s) && had_call set (register set.number s.registers)
had s (Token t) = same_text t.callee (me s) && had_answer t (reply t.id s.replies)
had s (Fetch f) =
    same_text f.caller (me s) && has_call f (register f.number s.registers) && is_some (noted_at f.number f.answer_version s.journal)

abbrev pub call_is_now : ℕ → Option Register → Bool
call_is_now version None = false
call_is_now version (Some r) = nat_eq version r.version

abbrev pub answer_is_now : ℕ → Option Reply → Bool
answer_is_now answer_version None = false
answer_is_now answer_version (Some p) = nat_eq answer_version p.answer_version

-- its version is the current one; a fetch is never held
abbrev pub is_now : Kept → Post → Bool
is_now s (Set set) = call_is_now set.version (register set.number s.registers)
is_now s (Token t) = answer_is_now t.answer_version (reply t.id s.replies)
is_now s (Fetch f) = false

-- whether a refusal with this word holds a post, and how
abbrev pub hold_of : PostWord → ℕ → Option Hold
hold_of DeniedPost number = Some (Rule number)
hold_of UnknownPost number = Some Unheard
hold_of TooOldPost number = Some (PastHorizon number)
hold_of word number = None

abbrev pub held_back : Kept → Post → Hold → Kept
held_back s (Set set) hold = record s { registers = at_number set.number (with_hold hold) s.registers }
held_back s (Token t) hold = record s { replies = at_entry t.id (with_reply_hold hold) s.replies }
held_back s (Fetch f) hold = s

abbrev pub held_where : Kept → Post → Option Hold → After (Result Posted PostRefused)
held_where s post None = after s (Ok Left)
held_where s post (Some hold) = if is_now s post then after (held_back s post hold) (Ok Held) else after s (Ok Left)

abbrev pub saw_ack_row : Ack → Row
saw_ack_row ack = SawAck (record { number = ack.number; version = ack.version; how = ToPost })

abbrev pub was_confirmed_row : Confirm → Row
was_confirmed_row c =
    WasConfirmed (record { caller = c.caller; number = c.number; answer_version = c.answer_version })

-- the reply of the entry that this post is about
abbrev pub confirmed_reply : Kept → Post → ℕ → List Reply
confirmed_reply s (Token t) answer_version = at_entry t.id (with_confirm answer_version (length s.journal)) s.replies
confirmed_reply s post answer_version = s.replies

-- the row of an answer that was fetched: for whom the token was sent that announced it, and the rule that allowed that
abbrev pub fetched_row : AnswerMessage → NotedRow → Row
fetched_row a n =
    SawAnswer (record {
      number = a.number;
      answer_version = a.answer_version;
      version = a.version;
      response = a.response;
      how = Fetched;
      who = n.who;
      rule = n.rule;
    })

-- an answer that isn't above the one that is held changes nothing
abbrev pub fetched_by : Kept → AnswerMessage → Register → NotedRow → After (Result Posted PostRefused)
fetched_by s a r n =
    if is_newer r.answer a.answer_version then after (noted (fetched_row a n ∷ []) s) (Ok PostSaw) else after s (Ok PostKnew)

-- the service has that call, and a token announced that answer; the other cases never come
abbrev pub fetched : Kept → AnswerMessage → Option Register → Option NotedRow → After (Result Posted PostRefused)
fetched s a (Some r) (Some n) = fetched_by s a r n
fetched s a (Some r) None = after s (Ok Left)
fetched s a None o = after s (Ok Left)

abbrev pub posted : Kept → Post → PostReply → After (Result Posted PostRefused)
posted s post (WasAcked ack) = after (noted (saw_ack_row ack ∷ []) s) (Ok PostAcked)
posted s post (WasConfirmedBack c) =
    after (noted (was_confirmed_row c ∷ []) (record s { replies = confirmed_reply s post c.answer_version })) (Ok PostConfirmed)
posted s post (Given a) = fetched s a (register a.number s.registers) (noted_at a.number a.answer_version s.journal)
posted s post (Refused word number) = held_where s post (hold_of word number)
posted s post (Lost note) = after s (Ok Left)

abbrev pub posted_event : Kept → Post → PostReply → After (Result Posted PostRefused)
posted_event s post answer =
    if had s post && replies_to post answer then posted s post answer else after s (Err Foreign)
