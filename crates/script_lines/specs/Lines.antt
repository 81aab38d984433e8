-- What a line of a script says.
use Rattle.std.specs.Prelude.{nat_lt, ℕ, Bool, true, ◌&&◌, not, nat_eq, List, [], ◌∷◌, length, Option, Some, None, Result, Ok, Err, if◌then◌else◌, nat_le, ◌==◌, codes}
use Rattle.std.specs.List.{starts_with}
use Rattle.std.specs.Str.{is_utf8}
use Rattle.lang_base.specs.Texts.{same_text}
use Rattle.lang_tree.specs.Forms.{is_path}
use Rattle.lang_tree.specs.Methods.{method_named}
use Rattle.lang_tree.specs.declared.method.Method.{Method}
use Rattle.lang_core.specs.Names.{is_name, is_who}
use Rattle.lang_core.specs.declared.request.Request.{Request}
use Rattle.request_names.specs.Numbers.{number_of}
pub use Rattle.request_names.specs.Words.{at_end, cut_at, name_part, where_good, who_part, with_part, with_word}
use Rattle.repair_messages.specs.declared.posts.PostName.{PostName}
use Rattle.repair_messages.specs.declared.posts.PostName.TheVariants.{Call, Reply}
use Rattle.journal_rows.specs.declared.orders.Command.{Command}
use Rattle.journal_rows.specs.declared.orders.Command.TheVariants.{Cancel, Restore, Replace, Create, Retry, Fold}
use Rattle.report_text.specs.Escapes.{unescaped}
use Rattle.world_events.specs.declared.event.Event.TheVariants as event
use Rattle.order_texts.specs.declared.text_order.TextOrder.{TextOrder}
use Rattle.order_texts.specs.declared.text_order.TextOrder.TheVariants.{Correct, Deploy, Rules}
use Rattle.script_lines.specs.declared.line.Line.{Line}
use Rattle.script_lines.specs.declared.line.Line.TheVariants.{Blank, Event, Given, Ask, Settle, Rows, Log, Notices, Preview, Programs, Changed, Rehearse, Dump, Audit}
use Rattle.script_lines.specs.declared.line.LineFault.{LineFault}
use Rattle.script_lines.specs.declared.line.LineFault.TheVariants.{Text, Word, Shape}

-- ---- parts; none where a part is missing, or isn't of its form

-- at most 65,536 bytes
abbrev pub short_enough : Option (List ℕ) → Option (List ℕ)
short_enough None = None
short_enough (Some text) = if nat_le (length text) 65536 then Some text else None

-- what a body stands for, within its limit
abbrev pub body_of : List ℕ → Option (List ℕ)
body_of body = short_enough (unescaped body)

-- a service and a number, with a slash between
abbrev pub numbered_at : List ℕ × Option (List ℕ) → Option (List ℕ × ℕ)
numbered_at parts = with_part parts.1 (λ digits. with_part (number_of digits) (λ n. Some (parts.0, n)))

abbrev pub numbered : List ℕ → Option (List ℕ × ℕ)
numbered word = numbered_at (cut_at 47 word)

-- a number behind a letter
abbrev pub lettered : ℕ → List ℕ → Option ℕ
lettered letter [] = None
lettered letter (b ∷ digits) = if b == letter then number_of digits else None

-- a packet: `p` and its number
abbrev pub packet : List ℕ → Option ℕ
packet word = lettered 112 word

-- a flight: `f` and its number
abbrev pub flight : List ℕ → Option ℕ
flight word = lettered 102 word

-- a neighbour: a number, or `-` for none
abbrev pub neighbour : List ℕ → Option (Option ℕ)
neighbour word =
    if same_text word (codes "-") then Some None else with_part (number_of word) (λ n. Some (Some n))

-- a post of a kind: `call` or `reply`
abbrev pub post_of_kind : List ℕ → ℕ → Option PostName
post_of_kind kind n =
    if same_text kind (codes "call") then Some (Call n) else (if same_text kind (codes "reply") then Some (Reply n) else None)

-- a kind of post and a number, with a colon between
abbrev pub post_name_at : List ℕ × Option (List ℕ) → Option PostName
post_name_at parts = with_part parts.1 (λ digits. with_part (number_of digits) (λ n. post_of_kind parts.0 n))

abbrev pub post_name : List ℕ → Option PostName
post_name word = post_name_at (cut_at 58 word)

-- a path that a script may ask: not one of the program's own
unfoldable pub is_asked_path : List ℕ → Bool
is_asked_path path = is_path path && not (starts_with nat_eq path (codes "/aire/"))

-- the rest of the line, which may lack
abbrev pub rest_or_empty : Option (List ℕ) → List ℕ
rest_or_empty None = []
rest_or_empty (Some rest) = rest

-- `METHOD PATH BODY`
unfoldable pub asked : Option (List ℕ) → Option (Method × List ℕ × List ℕ)
asked rest = with_word rest (λ word rest. with_part (method_named word) (λ method.
    with_word rest (λ path rest. where_good (is_asked_path path)
    (with_part (body_of (rest_or_empty rest)) (λ body. Some (method, path, body))))))

-- a request of a user, from outside
abbrev pub request_of : List ℕ → Method × List ℕ × List ℕ → Request
request_of who asked = record { method = asked.0; path = asked.1; body = asked.2; who = who; chain = [] }

-- ---- lines, behind their first word

-- `S WHO METHOD PATH BODY`
unfoldable pub asking_at : (List ℕ → Request → Line) → Option (List ℕ) → Option Line
asking_at line rest = with_word rest (λ service rest. with_word rest (λ who rest.
    where_good (is_name service && is_who who) (with_part (asked rest) (λ asked. Some (line service (request_of who asked))))))

-- what an order is about, its token and its user, and what stands behind
unfoldable pub order_parts : Option (List ℕ) → Option (List ℕ × List ℕ × List ℕ × Option (List ℕ))
order_parts rest =
    with_word rest (λ about rest. with_word rest (λ token rest. with_word rest (λ who rest. Some (about, token, who, rest))))

-- an order whose service, token and user are each there
abbrev pub order_of : Option (List ℕ) → Command → Option (List ℕ) → Option (List ℕ) → Option Line
order_of service command token who =
    with_part service (λ service. with_part token (λ token. with_part who (λ who. Some (Event (event.Order service command token who)))))

-- an order whose service is a name, and whose token and user may be such
abbrev pub order_with : List ℕ → Command → List ℕ → List ℕ → Option Line
order_with service command token who = order_of (name_part service) command (who_part token) (who_part who)

-- `S/N TOKEN WHO`
unfoldable pub entry_order_at : (ℕ → Command) → Option (List ℕ) → Option Line
entry_order_at command rest = with_part (order_parts rest) (λ o. at_end o.3
    (with_part (numbered o.0) (λ about. order_with about.0 (command about.1) o.1 o.2)))

-- `S/N TOKEN WHO METHOD PATH BODY`
unfoldable pub replace_at : Option (List ℕ) → Option Line
replace_at rest = with_part (order_parts rest) (λ o. with_part (numbered o.0) (λ about. with_part (asked o.3) (λ asked.
    order_with about.0 (Replace about.1 asked.0 asked.1 asked.2) o.1 o.2)))

-- the neighbours and the user of a created request, and what stands behind
unfoldable pub created_parts : Option (List ℕ) → Option (Option ℕ × Option ℕ × List ℕ × Option (List ℕ))
created_parts rest = with_word rest (λ before rest. with_word rest (λ after rest. with_word rest (λ who rest.
    with_part (neighbour before) (λ before. with_part (neighbour after) (λ after. Some (before, after, who, rest))))))

abbrev pub create_command : Option ℕ → Option ℕ → List ℕ → Method × List ℕ × List ℕ → Option Command
create_command before after who asked = where_good (is_who who) (Some (Create before after (request_of who asked)))

-- `BEFORE AFTER WHO2 METHOD PATH BODY`
unfoldable pub created_of : Option (List ℕ) → Option Command
created_of rest = with_part (created_parts rest) (λ c. with_part (asked c.3) (λ asked. create_command c.0 c.1 c.2 asked))

-- `S TOKEN WHO BEFORE AFTER WHO2 METHOD PATH BODY`
unfoldable pub create_at : Option (List ℕ) → Option Line
create_at rest = with_part (order_parts rest) (λ o. with_part (created_of o.3) (λ command. order_with o.0 command o.1 o.2))

-- `S TOKEN WHO NAME`
unfoldable pub retry_at : Option (List ℕ) → Option Line
retry_at rest = with_part (order_parts rest) (λ o. with_word o.3 (λ name rest. at_end rest
    (with_part (post_name name) (λ post. order_with o.0 (Retry post) o.1 o.2))))

-- an order that comes with a text, whose service, token and user are each there
abbrev pub given_of : Option (List ℕ) → TextOrder → Option (List ℕ) → Option (List ℕ) → List ℕ → Option Line
given_of service order token who text =
    with_part service (λ service. with_part token (λ token. with_part who (λ who. Some (Given service order token who text))))

-- one whose service is a name, and whose token and user may be such
abbrev pub given_with : List ℕ → TextOrder → List ℕ → List ℕ → List ℕ → Option Line
given_with service order token who text = given_of (name_part service) order (who_part token) (who_part who) text

-- `S TOKEN WHO TEXT`
unfoldable pub given_at : TextOrder → Option (List ℕ) → Option Line
given_at order rest = with_part (order_parts rest) (λ o. with_part (body_of (rest_or_empty o.3)) (λ text.
    given_with o.0 order o.1 o.2 text))

-- `S K TOKEN WHO TEXT`
unfoldable pub correct_at : Option (List ℕ) → Option Line
correct_at rest = with_word rest (λ service rest. with_part (order_parts rest) (λ o. with_part (number_of o.0) (λ number.
    with_part (body_of (rest_or_empty o.3)) (λ text. given_with service (Correct number) o.1 o.2 text))))

-- a rehearsal whose service and user are both there
abbrev pub rehearsal_of : Option (List ℕ) → ℕ → Option (List ℕ) → List ℕ → Option Line
rehearsal_of service number who text = with_part service (λ service. with_part who (λ who. Some (Rehearse service number who text)))

abbrev pub rehearsal_with : List ℕ → ℕ → List ℕ → List ℕ → Option Line
rehearsal_with service number who text = rehearsal_of (name_part service) number (who_part who) text

-- `S K WHO TEXT`, whose first three words are cut as those of an order
unfoldable pub rehearse_at : Option (List ℕ) → Option Line
rehearse_at rest = with_part (order_parts rest) (λ o. with_part (number_of o.1) (λ number.
    with_part (body_of (rest_or_empty o.3)) (λ text. rehearsal_with o.0 number o.2 text)))

-- `S` alone
unfoldable pub service_at : (List ℕ → Line) → Option (List ℕ) → Option Line
service_at line rest = with_word rest (λ service rest. at_end rest (where_good (is_name service) (Some (line service))))

-- two words alone
abbrev pub two_words : Option (List ℕ) → Option (List ℕ × List ℕ)
two_words rest = with_word rest (λ first rest. with_word rest (λ second rest. at_end rest (Some (first, second))))

-- `S D` alone
unfoldable pub post_at : Option (List ℕ) → Option Line
post_at rest = with_part (two_words rest) (λ words. where_good (is_name words.0 && is_name words.1) (Some (Event (event.Post words.0 words.1))))

-- `S fN` alone
unfoldable pub abandon_at : Option (List ℕ) → Option Line
abandon_at rest = with_part (two_words rest) (λ words. where_good (is_name words.0) (with_part (flight words.1) (λ n. Some (Event (event.Abandon words.0 n)))))

-- the preview of a request of a service by a user, if both may be such
abbrev pub preview_of : Option (List ℕ) → ℕ → Option (List ℕ) → Option Line
preview_of service id who = with_part service (λ service. with_part who (λ who. Some (Preview service id who)))

-- `S/N WHO` alone
unfoldable pub preview_at : Option (List ℕ) → Option Line
preview_at rest = with_part (two_words rest) (λ words. with_part (numbered words.0) (λ about.
    preview_of (name_part about.0) about.1 (who_part words.1)))

-- `pK` alone
unfoldable pub packet_at : Option (List ℕ) → Option ℕ
packet_at rest = with_word rest (λ word rest. at_end rest (packet word))

abbrev pub deliver_at : Option (List ℕ) → Option Line
deliver_at rest = with_part (packet_at rest) (λ n. Some (Event (event.Deliver n)))

abbrev pub lose_at : Option (List ℕ) → Option Line
lose_at rest = with_part (packet_at rest) (λ n. Some (Event (event.Lose n)))

-- `N` alone
unfoldable pub number_at : Option (List ℕ) → Option ℕ
number_at rest = with_word rest (λ word rest. at_end rest (number_of word))

-- no clock tells a later moment
abbrev pub clock_at : Option (List ℕ) → Option Line
clock_at rest = with_part (number_at rest) (λ n. where_good (nat_le n 9223372036854775807) (Some (Event (event.Clock n))))

abbrev pub seed_at : Option (List ℕ) → Option Line
seed_at rest = with_part (number_at rest) (λ n. Some (Event (event.Seed n)))

-- from 1 to 1,000 rounds
abbrev pub settle_at : Option (List ℕ) → Option Line
settle_at rest = with_part (number_at rest) (λ n. where_good (nat_lt 0 n && nat_le n 1000) (Some (Settle n)))

-- ---- a whole line

-- what a line says, or the number of its fault
abbrev pub Read : Type 0
Read = Result Line LineFault

-- a line of which a part is missing, or isn't of its form, has no shape
abbrev pub shaped : Option Line → Read
shaped None = Err Shape
shaped (Some line) = Ok line

-- what stands behind the first word
unfoldable pub words_at : List ℕ → Option (List ℕ) → Read
words_at word rest =
    if same_text word (codes "begin") then shaped (asking_at (λ service request. Event (event.Begin service request)) rest)
    else (if same_text word (codes "ask") then shaped (asking_at Ask rest)
    else (if same_text word (codes "deliver") then shaped (deliver_at rest)
    else (if same_text word (codes "lose") then shaped (lose_at rest)
    else (if same_text word (codes "step") then shaped (service_at (λ service. Event (event.Step service)) rest)
    else (if same_text word (codes "abandon") then shaped (abandon_at rest)
    else (if same_text word (codes "post") then shaped (post_at rest)
    else (if same_text word (codes "cancel") then shaped (entry_order_at Cancel rest)
    else (if same_text word (codes "restore") then shaped (entry_order_at Restore rest)
    else (if same_text word (codes "replace") then shaped (replace_at rest)
    else (if same_text word (codes "create") then shaped (create_at rest)
    else (if same_text word (codes "retry") then shaped (retry_at rest)
    else (if same_text word (codes "fold") then shaped (entry_order_at Fold rest)
    else (if same_text word (codes "deploy") then shaped (given_at Deploy rest)
    else (if same_text word (codes "correct") then shaped (correct_at rest)
    else (if same_text word (codes "rules") then shaped (given_at Rules rest)
    else (if same_text word (codes "clock") then shaped (clock_at rest)
    else (if same_text word (codes "seed") then shaped (seed_at rest)
    else (if same_text word (codes "settle") then shaped (settle_at rest)
    else (if same_text word (codes "rows") then shaped (service_at Rows rest)
    else (if same_text word (codes "log") then shaped (service_at Log rest)
    else (if same_text word (codes "notices") then shaped (service_at Notices rest)
    else (if same_text word (codes "programs") then shaped (service_at Programs rest)
    else (if same_text word (codes "changed") then shaped (service_at Changed rest)
    else (if same_text word (codes "preview") then shaped (preview_at rest)
    else (if same_text word (codes "rehearse") then shaped (rehearse_at rest)
    else (if same_text word (codes "dump") then shaped (at_end rest (Some Dump))
    else (if same_text word (codes "audit") then shaped (at_end rest (Some Audit))
    else Err Word)))))))))))))))))))))))))))

-- an empty line or a comment
abbrev pub is_passed_over : List ℕ → Bool
is_passed_over [] = true
is_passed_over (b ∷ bytes) = b == 35

-- what a line says; its text is tested first, then its first word, then its shape
unfoldable pub line_at : List ℕ → Read
line_at bytes =
    if is_passed_over bytes then Ok Blank
    else (if not (is_utf8 bytes) then Err Text
    else words_at (cut_at 32 bytes).0 (cut_at 32 bytes).1)
