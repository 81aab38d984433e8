-- A text's tokens, one after the other.
use Rattle.std.proofs.Common.{◌≡◌, ℕ, suc, ◌+◌, ◌-◌, ◌≤◌, ◌<◌, Bool, true, false, cond, List, [], ◌∷◌, ◌++◌, map, length, Option, Some, None, refl, sym, ap, ◌∙◌, append_assoc, arith}
use Rattle.std.proofs.lemmas.List.{append-nil}
use Rattle.lang_tokens.specs.declared.token.Token.{Token}
use Rattle.lang_tokens.specs.Lexing.{past_gap, next_token, is_bad, Placed, placed_first, lexed}

-- what was found before, and what is found from here
abbrev pub found_from : {X : Type 0} → (Placed → X) → List X → ℕ → ℕ → List ℕ → List X
found_from f front n total bs = front ++ map f (lexed n total bs)

one_step : (n total : ℕ) (bs : List ℕ) (o : Option (Token × List ℕ)) → next_token (past_gap false bs) ≡ o → lexed (suc n) total bs ≡ placed_first (lexed n total) (total - length (past_gap false bs)) o
unfolding lexed
one_step n total bs o e = ap (placed_first (lexed n total) (total - length (past_gap false bs))) e

step_at : (count i total : ℕ) (bs : List ℕ) (o : Option (Token × List ℕ)) → i < count → next_token (past_gap false bs) ≡ o → lexed (count - i) total bs ≡ placed_first (lexed (count - (i + 1)) total) (total - length (past_gap false bs)) o
step_at count i total bs o lt e =
    let k : count - i ≡ suc (count - (i + 1)) = omega arith in
    rw k (one_step (count - (i + 1)) total bs o e)

pub ends : {X : Type 0} (f : Placed → X) (front whole : List X) (count i total : ℕ) (bs : List ℕ) → i < count → None ≡ next_token (past_gap false bs) → found_from f front (count - i) total bs ≡ whole → front ≡ whole
ends f front whole count i total bs lt e so_far =
    sym (append-nil front) ∙ sym (ap (λ (ps : List Placed). front ++ map f ps) (step_at count i total bs None lt (sym e))) ∙ so_far

chosen : (count i total at : ℕ) (bs after : List ℕ) (t : Token) (b : Bool) → i < count → at ≡ total - length (past_gap false bs) → Some (t, after) ≡ next_token (past_gap false bs) → b ≡ is_bad t
    → lexed (count - i) total bs ≡ record { at = at; token = t } ∷ cond b [] (lexed (count - (i + 1)) total after)
chosen count i total at bs after t b lt place e bad =
    step_at count i total bs (Some (t, after)) lt (sym e) ∙ rw (place, bad) refl

pub ends_bad : {X : Type 0} (f : Placed → X) (front whole : List X) (count i total at : ℕ) (bs after : List ℕ) (t : Token) → i < count → at ≡ total - length (past_gap false bs) → Some (t, after) ≡ next_token (past_gap false bs) → true ≡ is_bad t
    → found_from f front (count - i) total bs ≡ whole → front ++ (f (record { at = at; token = t }) ∷ []) ≡ whole
ends_bad f front whole count i total at bs after t lt place e bad so_far =
    sym (ap (λ (ps : List Placed). front ++ map f ps) (chosen count i total at bs after t true lt place e bad)) ∙ so_far

pub goes_on : {X : Type 0} (f : Placed → X) (front whole : List X) (count i total at : ℕ) (bs after : List ℕ) (t : Token) → i < count → at ≡ total - length (past_gap false bs) → Some (t, after) ≡ next_token (past_gap false bs) → false ≡ is_bad t
    → found_from f front (count - i) total bs ≡ whole → found_from f (front ++ (f (record { at = at; token = t }) ∷ [])) (count - (i + 1)) total after ≡ whole
goes_on f front whole count i total at bs after t lt place e bad so_far =
    append_assoc front (f (record { at = at; token = t }) ∷ []) (map f (lexed (count - (i + 1)) total after))
    ∙ sym (ap (λ (ps : List Placed). front ++ map f ps) (chosen count i total at bs after t false lt place e bad)) ∙ so_far

pub is_done : {X : Type 0} (f : Placed → X) (front whole : List X) (count i total : ℕ) (bs : List ℕ) → count ≤ i → found_from f front (count - i) total bs ≡ whole → front ≡ whole
unfolding lexed
is_done f front whole count i total bs le so_far =
    let k : count - i ≡ 0 = omega arith in
    let o : found_from f front (count - i) total bs ≡ front = rw k (append-nil front) in
    sym o ∙ so_far
