-- The words of a line, and what goes on with them; none where a part is missing, or isn't of its form.
use Rattle.std.specs.Prelude.{ℕ, Bool, List, Option, Some, None, if◌then◌else◌, length, nat_lt, ◌==◌}
use Rattle.std.specs.List.{position_or_len, before_first, after_first}
use Rattle.lang_tree.specs.Forms.{is_path}
use Rattle.lang_core.specs.Names.{is_name, is_who}

-- ---- one behind another

-- what stands before the first of these bytes, and what stands behind it, if there is one: the first word, where that is a space
abbrev pub cut_at : ℕ → List ℕ → List ℕ × Option (List ℕ)
cut_at sep text =
    if nat_lt (position_or_len (λ b. b == sep) text) (length text)
    then (before_first (λ b. b == sep) text, Some (after_first (λ b. b == sep) text)) else (text, None)

-- goes on with a part
abbrev pub with_part : {X Y : Type 0} → Option X → (X → Option Y) → Option Y
with_part None next = None
with_part (Some part) next = next part

-- goes on with the next word and what stands behind it
abbrev pub with_word : {X : Type 0} → Option (List ℕ) → (List ℕ → Option (List ℕ) → Option X) → Option X
with_word None next = None
with_word (Some rest) next = next (cut_at 32 rest).0 (cut_at 32 rest).1

-- goes on where this holds
abbrev pub where_good : {X : Type 0} → Bool → Option X → Option X
where_good ok next = if ok then next else None

-- goes on where nothing stands behind
abbrev pub at_end : {X : Type 0} → Option (List ℕ) → Option X → Option X
at_end None next = next
at_end (Some rest) next = None

-- ---- what a word may be

-- a service's name
abbrev pub name_part : List ℕ → Option (List ℕ)
name_part word = where_good (is_name word) (Some word)

-- a user or a token
abbrev pub who_part : List ℕ → Option (List ℕ)
who_part word = where_good (is_who word) (Some word)

abbrev pub path_part : List ℕ → Option (List ℕ)
path_part word = where_good (is_path word) (Some word)
