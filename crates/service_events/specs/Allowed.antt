-- Which repairs a journal says were allowed: each carries the number of the rule that allowed it, as things stood before it.
use Rattle.std.specs.Prelude.{ℕ, ◌≡◌, List, [], Option, Some, None, IsSomeAnd, fold, if◌then◌else◌, option_map}
use Rattle.std.specs.Option.{option_map_or}
use Rattle.lang_core.specs.declared.request.Request.{Request}
use Rattle.repair_messages.specs.declared.posts.PostName.TheVariants.{Call as OfCall, Reply as OfReply, Fetch as OfFetch}
use Rattle.authorise_rules.specs.Deciding.{Question, decision}
use Rattle.authorise_rules.specs.Given.{GivenRules}
use Rattle.authorise_rules.specs.declared.asked.Decision.TheVariants.{Allow}
use Rattle.authorise_rules.specs.declared.rule.Rule.{Rule}
use Rattle.journal_rows.specs.Programs.{rules_now}
use Rattle.journal_rows.specs.Words.{is_version_of, last_sent}
use Rattle.journal_rows.specs.declared.callee.TookHow.{TookHow}
use Rattle.journal_rows.specs.declared.callee.TookHow.TheVariants.{Live, Message}
use Rattle.journal_rows.specs.declared.caller.SawHow.{SawHow}
use Rattle.journal_rows.specs.declared.caller.SawHow.TheVariants.{Live as SeenLive, Fetch as Fetched}
use Rattle.journal_rows.specs.declared.caller.SentRow.{SentRow}
use Rattle.journal_rows.specs.declared.orders.About.TheVariants.{Request as AboutRequest}
use Rattle.journal_rows.specs.declared.orders.Command.{Command}
use Rattle.journal_rows.specs.declared.orders.Command.TheVariants.{Cancel, Restore, Replace, Create, Retry, Fold, Deploy, Correct, Rules}
use Rattle.journal_rows.specs.declared.row.Row.{Row}
use Rattle.journal_rows.specs.declared.row.Row.TheVariants.{Took, Noted, SawAnswer, Ordered}
use Rattle.service_events.specs.State.{Kept}
use Rattle.service_events.specs.Questions.{version_question, answer_question, command_question}
use Rattle.service_events.specs.Orders.{request_put}
use Rattle.service_events.specs.Fits.{EachAfter, request_found}

-- ---- the requests of which a question speaks, read off the rows before it

abbrev pub or_else_before : Option Request → Option Request → Option Request
or_else_before before None = before
or_else_before before (Some q) = Some q

abbrev pub known_step : List ℕ → ℕ → Option Request → Row → Option Request
known_step caller number before (Took t) = if is_version_of caller number t then or_else_before before t.desired else before
known_step caller number before row = before

-- the request of a call's entry: the last that was taken of the call
abbrev pub request_known : List ℕ → ℕ → List Row → Option Request
request_known caller number journal = fold (known_step caller number) None journal

-- the request that an own call asks
abbrev pub request_sent : ℕ → List Row → Option Request
request_sent number journal = option_map_or (λ (sent : SentRow). sent.desired) (last_sent number journal) None

-- the request that a command is about
abbrev pub subject_in : Command → List Row → Option Request
subject_in (Cancel id) journal = request_found (AboutRequest id) journal
subject_in (Restore id) journal = request_found (AboutRequest id) journal
subject_in (Replace id method path body) journal = request_found (AboutRequest id) journal
subject_in (Create before after q) journal = None
subject_in (Retry (OfCall number)) journal = request_sent number journal
subject_in (Retry (OfReply id)) journal = request_found (AboutRequest id) journal
subject_in (Retry (OfFetch number)) journal = None
subject_in (Fold id) journal = None
subject_in (Deploy p) journal = None
subject_in (Correct k p) journal = None
subject_in (Rules g) journal = None

-- ---- a row

-- the rule of this number allows it
abbrev pub Allows : List Rule → Question → ℕ → Type 0
Allows rules q rule = decision rules q ≡ Allow rule

-- no rule is asked of what comes live
abbrev pub AllowsTook : TookHow → List Rule → Question → ℕ → Type 0
AllowsTook Live rules q rule = rule ≡ 0
AllowsTook Message rules q rule = Allows rules q rule

-- of one that is fetched, rules were asked when it was announced
abbrev pub AllowsSeen : SawHow → ℕ → Type 0
AllowsSeen SeenLive rule = rule ≡ 0
AllowsSeen Fetched rule = Unit {0}

-- a repair may stand after these rows: it carries the number of the one of these rules that allows it
abbrev pub AllowedOn : List Rule → List Row → Row → Type 0
AllowedOn rules before (Took t) =
    AllowsTook t.how rules (version_question t.caller t.who (request_known t.caller t.number before) t.desired) t.rule
AllowedOn rules before (Noted n) =
    IsSomeAnd (option_map (λ (sent : SentRow). answer_question sent.dest n.who sent.desired) (last_sent n.number before)) (λ q. Allows rules q n.rule)
AllowedOn rules before (SawAnswer a) = AllowsSeen a.how a.rule
AllowedOn rules before (Ordered o) =
    Allows rules (command_question o.command o.who (subject_in o.command before) (request_put o.command (subject_in o.command before))) o.rule
AllowedOn rules before row = Unit {0}

-- the rules that stood before it are those with which the service began, or the last that an order gave
abbrev pub AllowedThen : GivenRules → List Row → Row → Type 0
AllowedThen began before row = AllowedOn (rules_now began before).rules before row

-- each repair in this journal was allowed, as things and rules stood before it
abbrev pub Allowed : GivenRules → List Row → Type 0
Allowed began journal = EachAfter (AllowedThen began) [] journal

-- each repair that a service applied was allowed by the rules that it had then
abbrev pub IsAllowed : Kept → Type 0
IsAllowed s = Allowed s.began s.journal
