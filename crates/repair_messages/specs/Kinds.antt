-- What a set message asks for.
use Rattle.std.specs.Prelude.{ℕ, Bool, List, Option, Some, None, if◌then◌else◌, codes, nat_eq}
use Rattle.lang_core.specs.declared.request.Request.{Request}
use Rattle.repair_messages.specs.declared.kinds.Kind.{Kind}
use Rattle.repair_messages.specs.declared.kinds.Kind.TheVariants.{Create, Replace, Delete, ReplaceResponse, Retry, Fold, Deploy, Correct, Rules}
use Rattle.repair_messages.specs.declared.messages.SetMessage.{SetMessage}

-- a request is to be made, or to stand in place of an earlier one
abbrev pub replaces_if : Bool → Option Request → Kind
replaces_if known None = Delete
replaces_if known (Some q) = if known then Replace else Create

-- by what the receiver knows
abbrev pub kind_of : SetMessage → Bool → Kind
kind_of m known = replaces_if known m.desired

-- a request of version 1 is spelled as one to be made
abbrev pub spelled : ℕ → Option Request → Kind
spelled version None = Delete
spelled version (Some q) = if nat_eq version 1 then Create else Replace

-- by the version alone
abbrev pub spelling : SetMessage → Kind
spelling m = spelled m.version m.desired

-- the word of a kind
abbrev pub kind_word : Kind → List ℕ
kind_word Create = codes "create"
kind_word Replace = codes "replace"
kind_word Delete = codes "delete"
kind_word ReplaceResponse = codes "replace_response"
kind_word Retry = codes "retry"
kind_word Fold = codes "fold"
kind_word Deploy = codes "deploy"
kind_word Correct = codes "correct"
kind_word Rules = codes "rules"
