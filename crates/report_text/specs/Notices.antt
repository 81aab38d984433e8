-- What is held as a text.
use Rattle.std.specs.Prelude.{ℕ, ◌++◌, List, [], Option, Some, None, codes, decimal}
use Rattle.std.specs.List.{flat_map}
use Rattle.repair_messages.specs.declared.posts.PostName.{PostName}
use Rattle.repair_messages.specs.declared.posts.PostName.TheVariants.{Call, Reply, Fetch}
use Rattle.repair_messages.specs.Refusals.{word_text}
use Rattle.repair_messages.specs.declared.refusals.Refusal.{Refusal}
use Rattle.call_registers.specs.declared.register.Hold.{Hold}
use Rattle.call_registers.specs.declared.register.Hold.TheVariants.{Rule, Unknown, TooOld}
use Rattle.repair_queue.specs.declared.held.Notice.{Notice}
use Rattle.report_text.specs.Reports.{or_none}

-- `call:N` or `reply:N`; a fetch, `fetch:N`, is never held
abbrev pub post_name_text : PostName → List ℕ
post_name_text (Call n) = codes "call:" ++ decimal n
post_name_text (Reply n) = codes "reply:" ++ decimal n
post_name_text (Fetch n) = codes "fetch:" ++ decimal n

-- ` vV` of a call's version, ` aA` of an answer's
abbrev pub version_behind : PostName → ℕ → List ℕ
version_behind (Call n) version = codes " v" ++ decimal version
version_behind (Reply n) version = codes " a" ++ decimal version
version_behind (Fetch n) version = codes " a" ++ decimal version

-- `rule R`, `unknown` or `tooold N`
abbrev pub hold_text : Hold → List ℕ
hold_text (Rule r) = codes "rule " ++ decimal r
hold_text Unknown = codes "unknown"
hold_text (TooOld n) = codes "tooold " ++ decimal n

-- `call:N vV rule R`
abbrev pub notice_line : Notice → List ℕ
notice_line n =
    post_name_text n.name ++ (version_behind n.name n.version ++ (codes " " ++ (hold_text n.hold ++ codes "\n")))

-- `fold WORD NUMBER`: why a service doesn't fold that folds by itself
abbrev pub fold_line : Option Refusal → List ℕ
fold_line None = []
fold_line (Some why) = codes "fold " ++ (word_text why.word ++ (codes " " ++ (decimal why.number ++ codes "\n")))

-- a line for each notice, and one for a fold that waits
abbrev pub notices_text : List Notice → Option Refusal → List ℕ
notices_text notices waits = or_none (flat_map notice_line notices ++ fold_line waits)
