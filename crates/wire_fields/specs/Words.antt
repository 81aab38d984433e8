-- The words of refusals, as `Aire-Refused` has them.
use Rattle.std.specs.Prelude.{ℕ, List, ◌++◌, Option, Some, None, codes, decimal, length, nat_lt, ◌==◌, if◌then◌else◌}
use Rattle.std.specs.List.{after_first, before_first, position_or_len}
use Rattle.std.specs.Option.{is_some}
use Rattle.request_names.specs.Numbers.{number_of}
use Rattle.repair_messages.specs.Refusals.{has_number, word_said, word_status}
use Rattle.repair_messages.specs.declared.refusals.RefusalWord.{RefusalWord}
use Rattle.wire_fields.specs.Unread.{unread_status, unread_word}
use Rattle.wire_fields.specs.declared.unread.UnreadWord.{UnreadWord}

abbrev pub alone : Option RefusalWord → Option ℕ
alone None = None
alone (Some word) = if has_number word then None else Some (word_status word)

abbrev pub numbered : Option RefusalWord → Option ℕ
numbered None = None
numbered (Some word) = if has_number word then Some (word_status word) else None

abbrev pub unread_or : Option UnreadWord → Option ℕ → Option ℕ
unread_or (Some word) other = Some (unread_status word)
unread_or None other = other

-- the status of a refusal whose word stands alone; None where there is no such word
unfoldable pub lone_status : List ℕ → Option ℕ
lone_status word = unread_or (unread_word word) (alone (word_said word))

-- the status of a refusal whose word has a number behind it; None where there is no such word
unfoldable pub numbered_status : List ℕ → Option ℕ
numbered_status word = numbered (word_said word)

-- ---- written

abbrev pub first_status : Option ℕ → Option ℕ → ℕ
first_status (Some status) other = status
first_status None (Some status) = status
first_status None None = 500

-- the status of a refusal; 500 where its word is none of these
abbrev pub refusal_status : List ℕ → ℕ
refusal_status word = first_status (lone_status word) (numbered_status word)

-- the word, and behind a space its number where it has one
abbrev pub refusal_text : List ℕ → ℕ → List ℕ
refusal_text word n = if is_some (numbered_status word) then word ++ (codes " " ++ decimal n) else word

-- ---- read

-- what stands before the first space and what behind it, if there is one
abbrev pub cut_space : List ℕ → Option (List ℕ × List ℕ)
cut_space text =
    if nat_lt (position_or_len (λ b. b == 32) text) (length text)
    then Some (before_first (λ b. b == 32) text, after_first (λ b. b == 32) text) else None

abbrev pub with_number : List ℕ → Option ℕ → Option (List ℕ × ℕ)
with_number word None = None
with_number word (Some n) = Some (word, n)

-- without a space it is a word that stands alone, whose number is 0; with one a word and its number
abbrev pub refusal_in : List ℕ → Option (List ℕ × List ℕ) → Option (List ℕ × ℕ)
refusal_in text None = if is_some (lone_status text) then Some (text, 0) else None
refusal_in text (Some parts) = if is_some (numbered_status parts.0) then with_number parts.0 (number_of parts.1) else None

-- the word and the number that a text names
abbrev pub refusal_of : List ℕ → Option (List ℕ × ℕ)
refusal_of text = refusal_in text (cut_space text)
