-- Which kind of message a request is.
use Rattle.std.specs.Prelude.{ℕ, List, Option, Some, None, codes, drop, nat_eq, option_map, if◌then◌else◌}
use Rattle.std.specs.List.{starts_with}
use Rattle.lang_base.specs.Texts.{same_text}
use Rattle.lang_tree.specs.declared.method.Method.{Method}
use Rattle.lang_tree.specs.declared.method.Method.TheVariants.{Get, Put, Post, Delete}
use Rattle.http_header.specs.FieldValue.{FieldValue}
use Rattle.http_header.specs.HeaderMap.{Entries, get}
use Rattle.wire_fields.specs.declared.console.ConsoleWord.{ConsoleWord}
use Rattle.wire_fields.specs.declared.console.ConsoleWord.TheVariants.{Cancel, Restore, Replace, Create, Retry, Fold, Deploy, Correct, Rules, Notices, Log, Rows, Programs, Changed, Preview, Rehearse, Audit, Stop}
use Rattle.wire_fields.specs.declared.kinds.RequestKind.{RequestKind}
use Rattle.wire_fields.specs.declared.kinds.RequestKind.TheVariants.{Call, Console, Fetch, Outside, Set, Token}

unfoldable pub console_word : List ℕ → Option ConsoleWord
console_word word =
    if same_text word (codes "cancel") then Some Cancel
    else (if same_text word (codes "restore") then Some Restore
    else (if same_text word (codes "replace") then Some Replace
    else (if same_text word (codes "create") then Some Create
    else (if same_text word (codes "retry") then Some Retry
    else (if same_text word (codes "fold") then Some Fold
    else (if same_text word (codes "deploy") then Some Deploy
    else (if same_text word (codes "correct") then Some Correct
    else (if same_text word (codes "rules") then Some Rules
    else (if same_text word (codes "notices") then Some Notices
    else (if same_text word (codes "log") then Some Log
    else (if same_text word (codes "rows") then Some Rows
    else (if same_text word (codes "programs") then Some Programs
    else (if same_text word (codes "changed") then Some Changed
    else (if same_text word (codes "preview") then Some Preview
    else (if same_text word (codes "rehearse") then Some Rehearse
    else (if same_text word (codes "audit") then Some Audit
    else (if same_text word (codes "stop") then Some Stop
    else None)))))))))))))))))

abbrev pub console_path : List ℕ → Option RequestKind
console_path path = if starts_with nat_eq path (codes "/aire/console/") then option_map Console (console_word (drop 14 path)) else None

-- of a POST to a path below `/aire/`
abbrev pub posted_kind : List ℕ → Option RequestKind
posted_kind path =
    if same_text path (codes "/aire/repair") then Some Set
    else (if same_text path (codes "/aire/notify") then Some Token
    else (if same_text path (codes "/aire/fetch") then Some Fetch
    else (console_path path)))

abbrev pub own_kind : Method → List ℕ → Option RequestKind
own_kind Post path = posted_kind path
own_kind Get path = None
own_kind Put path = None
own_kind Delete path = None

-- of a request to a path of the service's handlers
abbrev pub handled_kind : Option FieldValue → RequestKind
handled_kind None = Outside
handled_kind (Some id) = Call

-- which kind of message it is; None where there is none below `/aire/`
abbrev pub request_kind : Method → List ℕ → Entries FieldValue → Option RequestKind
request_kind method path head =
    if starts_with nat_eq path (codes "/aire/") then own_kind method path
    else Some (handled_kind (get head (codes "aire-response-id")))
