-- What a search by an index finds.
use Rattle.std.proofs.Common.{◌≡◌, ℕ, zero, suc, Bool, true, false, ◌||◌, nat_lt, List, [], ◌∷◌, Option, Some, None, Bor, fold, map, nat_eq, refl, sym, ap, ◌∙◌, arith}
use Rattle.std.specs.Cmp.{nat_eq_equiv}
use Rattle.std.specs.List.{flat_map, list_any}
use Rattle.std.specs.Option.{is_some, option_copied}
use Rattle.std.proofs.lemmas.Bool.{lt-ltb}
use Rattle.std.proofs.lemmas.Bool.Decides.{nat_tests}
use Rattle.std.proofs.lemmas.List.Folds.{list_any-append, list_any_at}
use Rattle.lang_lists.specs.Ends.{end_behind, last_end}
use Rattle.lang_lists.proofs.SearchLemmas.{IsQuiet}
use Rattle.dump_tables.specs.Found.{IsOneOf}

-- ---- one after another

-- a test held before, or holds here
abbrev pub or_here : {X : Type 0} → (X → Bool) → Bool → X → Bool
or_here p held x = held || p x

pub no_more : (held b : Bool) → b ≡ false → (held || b) ≡ held
no_more true b h = refl
no_more false b h = h

or_assoc : (a b c : Bool) → ((a || b) || c) ≡ (a || (b || c))
or_assoc true b c = refl
or_assoc false b c = refl

fold_any : {X : Type 0} (p : X → Bool) (xs : List X) (held : Bool) → fold (or_here p) held xs ≡ (held || list_any p xs)
fold_any p [] true = refl
fold_any p [] false = refl
fold_any p (x ∷ xs) held = fold_any p xs (held || p x) ∙ or_assoc held (p x) (list_any p xs)

pub any_fold : {X : Type 0} (p : X → Bool) (xs : List X) → fold (or_here p) false xs ≡ list_any p xs
any_fold p xs = fold_any p xs false

pub quiet : {X : Type 0} (key_of : X → ℕ) (p : X → Bool) (key : ℕ) → ((x : X) → nat_eq key (key_of x) ≡ false → p x ≡ false) → IsQuiet key_of (or_here p) key
quiet key_of p key other = record { stays = λ held x h. no_more held (p x) (other x h) }

-- something is found exactly where there is something
pub found_any : {X : Type 0} (test : X → Bool) (xs : List X) (found : Option (Bor X)) → IsOneOf test xs (option_copied found) → is_some found ≡ list_any test xs
found_any test xs None none = sym none
found_any test xs (Some r) one = sym (list_any_at test xs one.0.0 r.now one.0.1 (ap test one.0.2 ∙ one.1))

-- ---- ends

some_more : (e : ℕ) → nat_lt 0 (suc (suc e)) ≡ nat_lt 0 (suc e)
some_more e = grind (arith, nat_tests)

behind_any : (b : Bool) (e : ℕ) (rest : Bool) → nat_lt 0 e ≡ rest → nat_lt 0 (end_behind b e) ≡ (b || rest)
behind_any true zero rest h = refl
behind_any true (suc e) rest h = lt-ltb 0 (suc (suc e)) (omega arith)
behind_any false zero rest h = h
behind_any false (suc e) rest h = some_more e ∙ h

-- a test holds somewhere where that has an end
pub any_end : {X : Type 0} (p : X → Bool) (xs : List X) → nat_lt 0 (last_end p xs) ≡ list_any p xs
any_end p [] = refl
any_end p (x ∷ xs) = behind_any (p x) (last_end p xs) (list_any p xs) (any_end p xs)

-- ---- keys of items, and of parts of items

pub any_key : {X : Type 0} (key_of : X → ℕ) (key : ℕ) (xs : List X) → list_any (nat_eq key) (map key_of xs) ≡ list_any (λ x. nat_eq (key_of x) key) xs
any_key key_of key [] = refl
any_key key_of key (x ∷ xs) = ap (λ b. b || list_any (nat_eq key) (map key_of xs)) (nat_eq_equiv.symm key (key_of x)) ∙ ap (λ rest. nat_eq (key_of x) key || rest) (any_key key_of key xs)

pub any_flat : {X Y : Type 0} (p : Y → Bool) (f : X → List Y) (xs : List X) → list_any p (flat_map f xs) ≡ list_any (λ x. list_any p (f x)) xs
any_flat p f [] = refl
any_flat p f (x ∷ xs) = list_any-append p (f x) (flat_map f xs) ∙ ap (λ rest. list_any p (f x) || rest) (any_flat p f xs)
