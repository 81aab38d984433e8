-- The forms of header fields.
use Rattle.std.specs.Prelude.{ℕ, Bool, ◌&&◌, ◌||◌, List, Option, Some, None, codes, length, nat_eq, nat_le, ◌==◌, if◌then◌else◌}
use Rattle.std.specs.List.{list_all, slice_split, starts_with, ends_with}
use Rattle.std.specs.Option.{is_some}
use Rattle.lang_core.specs.Names.{is_name, is_who}
use Rattle.lang_base.specs.Characters.{is_digit, is_visible}
use Rattle.lang_base.specs.Texts.{same_text}
use Rattle.lang_tree.specs.Forms.{is_path}
use Rattle.request_names.specs.Ids.{id_of}
use Rattle.request_names.specs.Numbers.{number_of}
use Rattle.repair_messages.specs.declared.kinds.Kind.{Kind}
use Rattle.repair_messages.specs.declared.kinds.Kind.TheVariants.{Create, Replace, Delete, ReplaceResponse}
use Rattle.lang_tree.specs.Methods.{method_named}
use Rattle.http_front.specs.declared.header.AireHeader.{AireHeader}
use Rattle.http_front.specs.declared.header.AireHeader.TheVariants.{From, Dest, RequestId, ResponseId, NotifierUrl, Repair, Version, AnswerVersion, Who, Method, Path, RequestWho, Chain, Before, After, Refused, Seal}
use Rattle.wire_fields.specs.Words.{refusal_of}

-- ---- words

-- the kind of a message that has this word
abbrev pub kind_named : List ℕ → Option Kind
kind_named word =
    if same_text word (codes "create") then Some Create
    else (if same_text word (codes "replace") then Some Replace
    else (if same_text word (codes "delete") then Some Delete
    else (if same_text word (codes "replace_response") then Some ReplaceResponse
    else None)))

-- ---- others

-- at least one name, with commas between them
abbrev pub is_chain : List ℕ → Bool
is_chain text = list_all is_name (slice_split (λ b. b == 44) text)

-- a digit of a seal
abbrev pub is_seal_digit : ℕ → Bool
is_seal_digit b = is_digit b || (nat_le 97 b && nat_le b 102)

abbrev pub is_seal : List ℕ → Bool
is_seal text = nat_eq (length text) 64 && list_all is_seal_digit text

-- where a service hears of new responses: at its door, of 1 to 64 visible characters
abbrev pub is_notifier : List ℕ → Bool
is_notifier text =
    starts_with nat_eq text (codes "http://") && ends_with nat_eq text (codes "/aire/notify") && nat_le 20 (length text) && nat_le (length text) 83
    && list_all is_visible text

-- the text is of its header's form
abbrev pub has_form : AireHeader → List ℕ → Bool
has_form From text = is_name text
has_form Dest text = is_name text
has_form RequestId text = is_some (id_of text)
has_form ResponseId text = is_some (id_of text)
has_form NotifierUrl text = is_notifier text
has_form Repair text = is_some (kind_named text)
has_form Version text = is_some (number_of text)
has_form AnswerVersion text = is_some (number_of text)
has_form Who text = is_who text
has_form Method text = is_some (method_named text)
has_form Path text = is_path text
has_form RequestWho text = is_who text
has_form Chain text = is_chain text
has_form Before text = is_some (number_of text)
has_form After text = is_some (number_of text)
has_form Refused text = is_some (refusal_of text)
has_form Seal text = is_seal text
