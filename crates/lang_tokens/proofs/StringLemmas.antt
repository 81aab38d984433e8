-- Strings, character by character.
use Rattle.std.proofs.Common.{◌≡◌, ℕ, ◌≤◌, Bool, true, false, List, [], ◌∷◌, ◌++◌, length, Option, Some, None, refl, sym, ap, ◌∙◌, append_assoc, arith}
use Rattle.std.specs.Prelude.{nat_eq}
use Rattle.std.proofs.lemmas.List.{append-nil}
use Rattle.lang_tokens.specs.Lexing.{is_control, unescaped, in_front, in_front_if, with_rest, character_at, string_from}

abbrev string_by : Option (Option ℕ × List ℕ) → Option (List ℕ × List ℕ)
string_by None = None
string_by (Some (None, rest)) = Some ([], rest)
string_by (Some (Some c, rest)) = in_front c (string_from rest)

by_escape : (o : Option ℕ) (cs : List ℕ) → in_front_if o (string_from cs) ≡ string_by (with_rest cs o)
by_escape None cs = refl
by_escape (Some c) cs = refl

by_first : (b : ℕ) (bs : List ℕ) (q r c : Bool) → nat_eq b 34 ≡ q → nat_eq b 92 ≡ r → is_control b ≡ c → string_from (b ∷ bs) ≡ string_by (character_at (b ∷ bs))
unfolding string_from character_at
by_first b [] true r c e f g = rw e refl
by_first b [] false true c e f g = rw (e, f) refl
by_first b [] false false true e f g = rw (e, f, g) refl
by_first b [] false false false e f g = rw (e, f, g) refl
by_first b (d ∷ ds) true r c e f g = rw e refl
by_first b (d ∷ ds) false true c e f g = rw (e, f) (by_escape (unescaped d) ds)
by_first b (d ∷ ds) false false true e f g = rw (e, f, g) refl
by_first b (d ∷ ds) false false false e f g = rw (e, f, g) refl

by_characters : (bs : List ℕ) → string_from bs ≡ string_by (character_at bs)
unfolding string_from character_at
by_characters [] = refl
by_characters (b ∷ bs) = by_first b bs (nat_eq b 34) (nat_eq b 92) (is_control b) refl refl refl

-- what was read before, and what is still read
abbrev pub with_text : List ℕ → Option (List ℕ × List ℕ) → Option (List ℕ × List ℕ)
with_text text None = None
with_text text (Some x) = Some (text ++ x.0, x.1)

regroup : (text : List ℕ) (c : ℕ) (o : Option (List ℕ × List ℕ)) → with_text text (in_front c o) ≡ with_text (text ++ (c ∷ [])) o
regroup text c None = refl
regroup text c (Some x) = ap (λ (t : List ℕ). Some (t, x.1)) (simp append_assoc)

pub ill_formed : (text bs whole : List ℕ) → None ≡ character_at bs → with_text text (string_from bs) ≡ string_from whole → None ≡ string_from whole
ill_formed text bs whole e i = sym (ap (with_text text) (by_characters bs ∙ ap string_by (sym e))) ∙ i

pub ends : (text bs whole rest : List ℕ) → Some (None, rest) ≡ character_at bs → with_text text (string_from bs) ≡ string_from whole → Some (text, rest) ≡ string_from whole
ends text bs whole rest e i = ap (λ (t : List ℕ). Some (t, rest)) (sym (append-nil text)) ∙ sym (ap (with_text text) (by_characters bs ∙ ap string_by (sym e))) ∙ i

pub goes_on : (text bs whole rest : List ℕ) (c : ℕ) → Some (Some c, rest) ≡ character_at bs → with_text text (string_from bs) ≡ string_from whole → with_text (text ++ (c ∷ [])) (string_from rest) ≡ string_from whole
goes_on text bs whole rest c e i = sym (ap (with_text text) (by_characters bs ∙ ap string_by (sym e)) ∙ regroup text c (string_from rest)) ∙ i

pub no_end : (text bs whole : List ℕ) → length bs ≤ 0 → with_text text (string_from bs) ≡ string_from whole → None ≡ string_from whole
unfolding string_from
no_end text [] whole le i = i
no_end text (b ∷ bs) whole le i = absurd (omega arith)
