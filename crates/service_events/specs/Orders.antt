-- Orders of operators.
use Rattle.std.specs.Prelude.{ℕ, ◌+◌, Bool, true, false, ◌&&◌, not, List, [], ◌∷◌, ◌++◌, Option, Some, None, Result, Ok, Err, if◌then◌else◌, drop, find, insert, length, map, max, nat_eq, nat_le, option_map, take}
use Rattle.std.specs.List.{list_all, position_or_len}
use Rattle.std.specs.Option.{option_map_or}
use Rattle.lang_core.specs.declared.cells.Cell.{Cell}
use Rattle.lang_core.specs.declared.ids.Origin.{Origin}
use Rattle.lang_core.specs.declared.ids.Origin.TheVariants.{Outside, Call}
use Rattle.lang_core.specs.declared.inputs.Inputs.{Inputs}
use Rattle.lang_core.specs.declared.request.Request.{Request}
use Rattle.lang_tree.specs.declared.program.Route.{Route}
use Rattle.lang_programs.specs.Numbered.{Numbered}
use Rattle.request_log.specs.Entries.{has_id, changed, corrected, mark, replace, with_call}
use Rattle.request_log.specs.Folded.{bare}
use Rattle.request_log.specs.declared.entry.Entry.{Entry}
use Rattle.local_repair.specs.Current.{after_entry, rows_after}
use Rattle.local_repair.specs.Tests.{is_current}
use Rattle.create_placement.specs.Placement.{place_between, created}
use Rattle.repair_messages.specs.declared.posts.PostName.{PostName}
use Rattle.repair_messages.specs.declared.posts.PostName.TheVariants.{Call as OfCall, Reply as OfReply, Fetch as OfFetch}
use Rattle.authorise_rules.specs.Deciding.{decision}
use Rattle.authorise_rules.specs.declared.asked.Decision.{Decision}
use Rattle.journal_rows.specs.Programs.{is_number, program_count}
use Rattle.journal_rows.specs.Words.{ordered}
use Rattle.journal_rows.specs.declared.orders.About.{About}
use Rattle.journal_rows.specs.declared.orders.About.TheVariants.{Request as AboutRequest, Post as AboutPost, Program as AboutProgram, Rules as AboutRules}
use Rattle.journal_rows.specs.declared.orders.Command.{Command}
use Rattle.journal_rows.specs.declared.orders.Command.TheVariants.{Cancel, Restore, Replace, Create, Retry, Fold, Deploy, Correct, Rules}
use Rattle.journal_rows.specs.declared.orders.OrderedRow.{OrderedRow}
use Rattle.journal_rows.specs.declared.row.Row.{Row}
use Rattle.journal_rows.specs.declared.row.Row.TheVariants.{Asked, Ordered as OrderedAs}
use Rattle.call_registers.specs.Registers.{register, at_number, is_done_with, released}
use Rattle.call_registers.specs.Replies.{reply, at_entry, is_reply_due, released as released_reply}
use Rattle.call_registers.specs.declared.register.Hold.{Hold}
use Rattle.call_registers.specs.declared.register.Register.{Register}
use Rattle.call_registers.specs.declared.reply.Reply.{Reply}
use Rattle.flights.specs.Corrections.{corrected_flight}
use Rattle.service_events.specs.State.{Kept, After, after, answers, base, folded, is_crowded, is_heavy, is_past, next_id, or_else, program_for, unfolded, where_needed}
use Rattle.service_events.specs.Calls.{noted}
use Rattle.service_events.specs.Questions.{command_question, is_denied, rule_of}
use Rattle.service_events.specs.declared.answers.Ordered.{Ordered}
use Rattle.service_events.specs.declared.refusals.OrderRefused.{OrderRefused}
use Rattle.service_events.specs.declared.refusals.OrderRefused.TheVariants.{NoSuchRequest, Denied, Full, NotHeld, NotOutside, TooOld, NotQuiet, NoSuchProgram}

abbrev pub entry_of : ℕ → Kept → Option Entry
entry_of id s = find (has_id id) s.entries

-- ---- refusals

abbrev pub unless_past : ℕ → Kept → Option OrderRefused
unless_past id s = where_needed (is_past id s) (Some (TooOld id))

-- an order about an entry is about one that is there and isn't folded
abbrev pub unless_present : ℕ → Kept → Option Entry → Option OrderRefused
unless_present id s None = Some (NoSuchRequest id)
unless_present id s (Some e) = unless_past id s

abbrev pub unless_outside : ℕ → Origin → Option OrderRefused
unless_outside id Outside = None
unless_outside id (Call caller number) = Some (NotOutside id)

-- a replacement is besides of one that comes from outside
abbrev pub unless_replaced : ℕ → Kept → Option Entry → Option OrderRefused
unless_replaced id s None = Some (NoSuchRequest id)
unless_replaced id s (Some e) = or_else (unless_past id s) (unless_outside id e.origin)

abbrev pub unless_held : Option Hold → Option OrderRefused
unless_held None = Some NotHeld
unless_held (Some hold) = None

abbrev pub hold_on : Kept → PostName → Option Hold
hold_on s (OfCall number) = option_map_or (λ (r : Register). r.held) (register number s.registers) None
hold_on s (OfReply id) = option_map_or (λ (p : Reply). p.held) (reply id s.replies) None
hold_on s (OfFetch number) = None

-- a correction is of a program that there is, also where nothing runs under it any more
abbrev pub unless_numbered : ℕ → Kept → Option OrderRefused
unless_numbered k s = where_needed (not (is_number k s.journal)) (Some (NoSuchProgram k))

-- why an order can't be about what it names
abbrev pub misnamed : Kept → Command → Option OrderRefused
misnamed s (Cancel id) = unless_present id s (entry_of id s)
misnamed s (Restore id) = unless_present id s (entry_of id s)
misnamed s (Replace id method path body) = unless_replaced id s (entry_of id s)
misnamed s (Create before after q) = None
misnamed s (Retry name) = unless_held (hold_on s name)
misnamed s (Fold id) = unless_present id s (entry_of id s)
misnamed s (Deploy p) = None
misnamed s (Correct k p) = unless_numbered k s
misnamed s (Rules g) = None

-- the entries that a fold up to this one folds: all that aren't folded yet, up to it
abbrev pub to_fold : ℕ → Kept → List Entry
to_fold id s = take (position_or_len (has_id id) (unfolded s) + 1) (unfolded s)

-- the call of this number is acknowledged at its version, and owes no fetch
abbrev pub is_quiet_call : Kept → ℕ → Bool
is_quiet_call s number = option_map_or is_done_with (register number s.registers) false

-- its reply is due
abbrev pub is_due : Kept → Entry → Bool
is_due s e = is_reply_due e.id s.replies

-- an entry is quiet, where these are the rows before it: it isn't stale, its reply isn't due, and all its calls are quiet
abbrev pub is_quiet_entry : Kept → List Cell → Entry → Bool
is_quiet_entry s rows e = is_current (answers s) rows e && not (is_due s e) && list_all (is_quiet_call s) e.slots

-- the first of these entries that isn't, where these are the rows before them
abbrev pub first_unquiet : Kept → List Cell → List Entry → Option ℕ
first_unquiet s rows [] = None
first_unquiet s rows (e ∷ es) = if is_quiet_entry s rows e then first_unquiet s (after_entry rows e) es else Some e.id

-- what is folded is quiet
abbrev pub unless_quiet : Kept → Command → Option OrderRefused
unless_quiet s (Fold id) = option_map (λ unquiet. NotQuiet unquiet) (first_unquiet s (base s) (to_fold id s))
unless_quiet s command = None

abbrev pub makes_entry : Command → Bool
makes_entry (Create before after q) = true
makes_entry command = false

abbrev pub brings_program : Command → Bool
brings_program (Deploy p) = true
brings_program (Correct k p) = true
brings_program command = false

-- how many programs there may be, where there are as many
abbrev pub is_programmed : Kept → Option ℕ
is_programmed s = where_needed (nat_le 10000 (program_count s.journal)) (Some 10000)

-- how much there is of what the command makes one more of, where there is no place for one more
abbrev pub lacks_place : Kept → Command → Option ℕ
lacks_place s command =
    if makes_entry command then is_crowded s else (if brings_program command then is_programmed s else None)

-- how much there is, where there is too much: the weight counts first
abbrev pub is_too_much : Kept → Command → Option ℕ
is_too_much s command = or_else (is_heavy s) (lacks_place s command)

abbrev pub request_of : ℕ → Kept → Option Request
request_of id s = option_map (λ (e : Entry). e.request) (entry_of id s)

-- the request that a retried call asks, where it asks something
abbrev pub request_retried : ℕ → Kept → Option Request
request_retried number s = option_map_or (λ (r : Register). r.desired) (register number s.registers) None

-- the request that rules are asked about: that of the entry or of the post that the command names
abbrev pub subject : Kept → Command → Option Request
subject s (Cancel id) = request_of id s
subject s (Restore id) = request_of id s
subject s (Replace id method path body) = request_of id s
subject s (Create before after q) = None
subject s (Retry (OfCall number)) = request_retried number s
subject s (Retry (OfReply id)) = request_of id s
subject s (Retry (OfFetch number)) = None
subject s (Fold id) = None
subject s (Deploy p) = None
subject s (Correct k p) = None
subject s (Rules g) = None

-- the request that a command puts there, where it finds this one
abbrev pub request_put : Command → Option Request → Option Request
request_put (Replace id method path body) found = option_map (with_call method path body) found
request_put (Create before after q) found = Some q
request_put command found = None

-- what the service's rules decide of it
abbrev pub order_decision : Kept → Command → List ℕ → Decision
order_decision s command who =
    decision s.rules.rules (command_question command who (subject s command) (request_put command (subject s command)))

abbrev pub order_rule : Kept → Command → List ℕ → ℕ
order_rule s command who = rule_of (order_decision s command who)

abbrev pub unless_allowed : Decision → Option OrderRefused
unless_allowed d = if is_denied d then Some (Denied (rule_of d)) else None

-- how much there is counts after what the order names, and rules are asked last
abbrev pub refused : Kept → Command → List ℕ → Option OrderRefused
refused s command who =
    or_else (or_else (or_else (misnamed s command) (unless_quiet s command)) (option_map (λ n. Full n) (is_too_much s command)))
    (unless_allowed (order_decision s command who))

-- ---- what an accepted order does

-- the program that an order brings, with the next number
abbrev pub brought : Kept → List Route → Numbered
brought s p = record { number = program_count s.journal + 1; program = p }

abbrev pub about : Kept → Command → About
about s (Cancel id) = AboutRequest id
about s (Restore id) = AboutRequest id
about s (Replace id method path body) = AboutRequest id
about s (Create before after q) = AboutRequest (next_id s)
about s (Retry name) = AboutPost name
about s (Fold id) = AboutRequest id
about s (Deploy p) = AboutProgram (brought s p).number
about s (Correct k p) = AboutProgram (brought s p).number
about s (Rules g) = AboutRules

-- the request that the order found
abbrev pub original : Kept → Command → Option Request
original s (Cancel id) = request_of id s
original s (Restore id) = request_of id s
original s (Replace id method path body) = request_of id s
original s (Create before after q) = None
original s (Retry name) = None
original s (Fold id) = None
original s (Deploy p) = None
original s (Correct k p) = None
original s (Rules g) = None

abbrev pub repaired : Kept → Command → Option Request
repaired s command = request_put command (original s command)

-- where an order puts a new entry: behind the folded ones, whichever it names
abbrev pub place_made : Kept → Option ℕ → Option ℕ → ℕ
place_made s before after = max s.horizon (place_between before after s.entries)

-- the program under which it runs
abbrev pub made_under : Kept → Option ℕ → Option ℕ → Numbered
made_under s before after = program_for s (place_made s before after)

abbrev pub asked_rows : Kept → Command → Inputs → List Row
asked_rows s (Create before after q) i =
    Asked (record { id = next_id s; origin = Outside; request = q; inputs = i; program = (made_under s before after).number }) ∷ []
asked_rows s command i = []

abbrev pub order_rows : Kept → Command → List ℕ → List ℕ → Inputs → List Row
order_rows s command token who i =
    OrderedAs (record {
      token = token;
      command = command;
      who = who;
      rule = order_rule s command who;
      original = original s command;
      repaired = repaired s command;
      about = about s command;
    }) ∷ asked_rows s command i

abbrev pub released_post : List ℕ → PostName → Kept → Kept
released_post who (OfCall number) s = record s { registers = at_number number (released who) s.registers }
released_post who (OfReply id) s = record s { replies = at_entry id (released_reply who) s.replies }
released_post who (OfFetch number) s = s

-- so many more of the first entries are folded, and the rows that they leave stand before the others
abbrev pub folded_on : ℕ → Kept → Kept
folded_on n s =
    record s {
      entries = map bare (take (s.horizon + n) s.entries) ++ drop (s.horizon + n) s.entries;
      horizon = s.horizon + n;
      base = rows_after (base s) (take n (unfolded s));
    }

abbrev pub newest_by : ℕ → Numbered → Numbered → Numbered
newest_by k program newest = if nat_eq newest.number k then program else newest

-- this program stands in the place of the one of this number: of each unfolded entry and of each flight that has it, and of the newest
abbrev pub corrected_on : ℕ → Numbered → Kept → Kept
corrected_on k program s =
    record s {
      newest = newest_by k program s.newest;
      entries = folded s ++ map (corrected k program) (unfolded s);
      flights = map (corrected_flight k program) s.flights;
    }

-- what it makes of the service, but its rows
abbrev pub carried_out : Kept → Command → List ℕ → Inputs → Kept
carried_out s (Cancel id) who i = record s { entries = changed id (mark true) s.entries }
carried_out s (Restore id) who i = record s { entries = changed id (mark false) s.entries }
carried_out s (Replace id method path body) who i = record s { entries = changed id (replace method path body) s.entries }
carried_out s (Create before after q) who i =
    record s { entries = insert s.entries (place_made s before after) (created (next_id s) q i (made_under s before after)) }
carried_out s (Retry name) who i = released_post who name s
carried_out s (Fold id) who i = folded_on (length (to_fold id s)) s
carried_out s (Deploy p) who i = record s { newest = brought s p }
carried_out s (Correct k p) who i = corrected_on k (brought s p) s
carried_out s (Rules g) who i = record s { rules = g }

abbrev pub order_by : Kept → Command → List ℕ → List ℕ → Inputs → Option OrderRefused → After (Result Ordered OrderRefused)
order_by s command token who i (Some why) = after s (Err why)
order_by s command token who i None =
    after (noted (order_rows s command token who i) (carried_out s command who i)) (Ok (record { about = about s command; rule = order_rule s command who }))

-- a token that was accepted gets the answer of then
abbrev pub order_where : Kept → Command → List ℕ → List ℕ → Inputs → Option OrderedRow → After (Result Ordered OrderRefused)
order_where s command token who i (Some o) = after s (Ok (record { about = o.about; rule = o.rule }))
order_where s command token who i None = order_by s command token who i (refused s command who)

abbrev pub order_event : Kept → Command → List ℕ → List ℕ → Inputs → After (Result Ordered OrderRefused)
order_event s command token who i = order_where s command token who i (ordered token s.journal)
