-- The fields of an operator's JSON object; none where a field is missing, or isn't of its form or within its limit.
use Rattle.std.specs.Prelude.{ℕ, Bool, ◌&&◌, not, List, length, Option, Some, None, option_and_then, option_map, is_some, if◌then◌else◌, nat_eq, nat_le, nat_lt, ◌==◌, codes}
use Rattle.std.specs.List.{position_or_len, before_first, after_first, starts_with}
use Rattle.lang_base.specs.Texts.{same_text}
use Rattle.lang_tree.specs.Forms.{is_path}
use Rattle.lang_tree.specs.Methods.{method_named}
use Rattle.lang_tree.specs.declared.method.Method.{Method}
use Rattle.lang_core.specs.Names.{is_who}
use Rattle.request_names.specs.Numbers.{number_of}
use Rattle.repair_messages.specs.declared.posts.PostName.{PostName}
use Rattle.repair_messages.specs.declared.posts.PostName.TheVariants.{Call, Reply}
use Rattle.serde_json.specs.Data.{Data}
use Rattle.serde_json.specs.Find.{get, as_null, as_number, as_object, as_str, as_u64}
use Rattle.serde_json.specs.Read.{read}

-- a value that passes a test
abbrev pub passing : {X : Type 0} → (X → Bool) → X → Option X
passing good x = if good x then Some x else None

-- what a body is as JSON, where that is an object
abbrev pub object_in : List ℕ → Option Data
object_in body = option_and_then (passing (λ value. is_some (as_object value))) (read body)

-- ---- kinds of fields

-- a field that is a text
abbrev pub text_at : List ℕ → Data → Option (List ℕ)
text_at name json = option_and_then as_str (get name json)

-- a whole number from 0, in digits alone
abbrev pub whole_number : Data → Option ℕ
whole_number value = option_and_then as_u64 (as_number value)

abbrev pub number_at : List ℕ → Data → Option ℕ
number_at name json = option_and_then whole_number (get name json)

-- a user or a token: 1 to 64 visible characters
abbrev pub who_at : List ℕ → Data → Option (List ℕ)
who_at name json = option_and_then (passing is_who) (text_at name json)

-- at most 65,536 bytes
abbrev pub is_short : List ℕ → Bool
is_short text = nat_le (length text) 65536

abbrev pub short_text_at : List ℕ → Data → Option (List ℕ)
short_text_at name json = option_and_then (passing is_short) (text_at name json)

-- the number of a request, or null for none
abbrev pub neighbour : Data → Option (Option ℕ)
neighbour value = if is_some (as_null value) then Some None else option_map Some (whole_number value)

abbrev pub neighbour_at : List ℕ → Data → Option (Option ℕ)
neighbour_at name json = option_and_then neighbour (get name json)

-- ---- what a request asks

abbrev pub method_at : Data → Option Method
method_at json = option_and_then method_named (text_at (codes "method") json)

-- a path that a request may have: not one of the program's own
unfoldable pub is_asked_path : List ℕ → Bool
is_asked_path path = is_path path && not (starts_with nat_eq path (codes "/aire/"))

abbrev pub path_at : Data → Option (List ℕ)
path_at json = option_and_then (passing is_asked_path) (text_at (codes "path") json)

abbrev pub body_at : Data → Option (List ℕ)
body_at json = short_text_at (codes "body") json

-- ---- posts

-- what stands before the first colon and what behind it, if there is one
abbrev pub at_colon : List ℕ → Option (List ℕ × List ℕ)
at_colon text =
    if nat_lt (position_or_len (λ b. b == 58) text) (length text)
    then Some (before_first (λ b. b == 58) text, after_first (λ b. b == 58) text) else None

-- a post of a kind: `call` or `reply`
abbrev pub post_of_kind : List ℕ → ℕ → Option PostName
post_of_kind kind n =
    if same_text kind (codes "call") then Some (Call n) else (if same_text kind (codes "reply") then Some (Reply n) else None)

abbrev pub numbered_post : List ℕ × List ℕ → Option PostName
numbered_post parts = option_and_then (post_of_kind parts.0) (number_of parts.1)

-- `call:N` or `reply:N`
abbrev pub post_named : List ℕ → Option PostName
post_named text = option_and_then numbered_post (at_colon text)

abbrev pub post_at : Data → Option PostName
post_at json = option_and_then post_named (text_at (codes "name") json)
