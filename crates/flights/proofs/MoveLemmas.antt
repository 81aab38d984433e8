-- The first call that a run makes otherwise.
use Rattle.std.proofs.Common.{◌≡◌, ◌∙◌, sym, ap, refl, ℕ, zero, suc, ◌+◌, ◌<◌, ◌≤◌, Bool, true, false, cond, List, [], ◌∷◌, length, slice_get, take, Option, Some, None, option_map, arith, add-one, get_or}
use Rattle.std.proofs.lemmas.Option.{slice_get-get_or}
use Rattle.lang_base.specs.Equal.{equal}
use Rattle.lang_base.proofs.EqualLemmas.{equal-same, equal-true}
use Rattle.lang_core.specs.contracts.trace.CallMade as call_made
use Rattle.lang_core.specs.declared.trace.CallMade.{CallMade}
use Rattle.flights.specs.Moves.{first_other}

head_same : (x y : CallMade) (xs ys : List CallMade) → x ∷ xs ≡ y ∷ ys → (x ≡ y) × (xs ≡ ys)
head_same x y xs ys h = (cc, cc)

no_other : {X : Type 0} (b : Bool) (x y : Option X) → b ≡ true → cond b x y ≡ x
no_other true x y h = refl
no_other false x y h = cc

other_here : {X : Type 0} (b : Bool) (x y : Option X) → b ≡ false → cond b x y ≡ y
other_here true x y h = cc
other_here false x y h = refl

-- the calls before are the same
same_head : (o n : CallMade) (os ns : List CallMade) (r : Option ℕ) → o ≡ n → first_other os ns ≡ r → first_other (o ∷ os) (n ∷ ns) ≡ option_map suc r
same_head o n os ns r e h =
    no_other (equal call_made.the_row.coded o n) (option_map suc (first_other os ns)) (Some 0) (equal-same call_made.the_row.coded o n e) ∙ ap (option_map suc) h

no_item : {X : Type 0} (x : X) → None ≡ Some x → ⊥
no_item x h = cc

items_same : {X : Type 0} (x y : X) → Some x ≡ Some y → x ≡ y
items_same x y h = cc

pub found_other : (i : ℕ) (os ns : List CallMade) (o n : CallMade) → take i os ≡ take i ns → slice_get os i ≡ Some o → slice_get ns i ≡ Some n → equal call_made.the_row.coded o n ≡ false → first_other os ns ≡ Some i
found_other i [] ns o n same old new h = absurd (no_item o old)
found_other i (x ∷ os) [] o n same old new h = absurd (no_item n new)
found_other zero (x ∷ os) (y ∷ ns) o n same old new h =
    let a : x ≡ o = items_same x o old in
    let b : y ≡ n = items_same y n new in
    other_here (equal call_made.the_row.coded x y) (option_map suc (first_other os ns)) (Some 0) (ap (λ z. equal call_made.the_row.coded z y) a ∙ (ap (equal call_made.the_row.coded o) b ∙ h))
found_other (suc i) (x ∷ os) (y ∷ ns) o n same old new h =
    let s = head_same x y (take i os) (take i ns) same in
    same_head x y os ns (Some i) s.0 (found_other i os ns o n s.1 old new h)

-- no call of the run is left
pub no_more : (i : ℕ) (os ns : List CallMade) → take i os ≡ take i ns → slice_get ns i ≡ None → first_other os ns ≡ None
no_more i [] ns same none = refl
no_more i (x ∷ os) [] same none = refl
no_more zero (x ∷ os) (y ∷ ns) same none = absurd (no_item y (sym none))
no_more (suc i) (x ∷ os) (y ∷ ns) same none =
    let s = head_same x y (take i os) (take i ns) same in
    same_head x y os ns None s.0 (no_more i os ns s.1 none)

-- all calls of the flight are the run's
pub all_same : (i : ℕ) (os ns : List CallMade) → length os ≤ i → take i os ≡ take i ns → first_other os ns ≡ None
all_same i [] ns w same = refl
all_same i (x ∷ os) [] w same = refl
all_same zero (x ∷ os) (y ∷ ns) w same = absurd (omega (arith, w))
all_same (suc i) (x ∷ os) (y ∷ ns) w same =
    let s = head_same x y (take i os) (take i ns) same in
    same_head x y os ns None s.0 (all_same i os ns (omega (arith, w)) s.1)

more_same-from : (i : ℕ) (os ns : List CallMade) (o n : CallMade) → take i os ≡ take i ns → slice_get os i ≡ Some o → slice_get ns i ≡ Some n → o ≡ n → take (suc i) os ≡ take (suc i) ns
more_same-from i [] ns o n same old new e = absurd (no_item o old)
more_same-from i (x ∷ os) [] o n same old new e = absurd (no_item n new)
more_same-from zero (x ∷ os) (y ∷ ns) o n same old new e =
    ap (λ z. z ∷ []) (items_same x o old ∙ e ∙ sym (items_same y n new))
more_same-from (suc i) (x ∷ os) (y ∷ ns) o n same old new e =
    let s = head_same x y (take i os) (take i ns) same in
    let more = more_same-from i os ns o n s.1 old new e in
    ap (λ z. z ∷ take (suc i) os) s.0 ∙ ap (λ l. y ∷ l) more

-- one more call is the same
pub more_same : (i : ℕ) (os ns : List CallMade) (o n : CallMade) → take i os ≡ take i ns → slice_get os i ≡ Some o → slice_get ns i ≡ Some n → equal call_made.the_row.coded o n ≡ true → take (i + 1) os ≡ take (i + 1) ns
more_same i os ns o n same old new h =
    rw add-one (more_same-from i os ns o n same old new (equal-true call_made.the_row.coded o n h))

-- the call at a place within
pub item_at : (i : ℕ) (os : List CallMade) (o : CallMade) → i < length os → o ≡ get_or os i o → slice_get os i ≡ Some o
item_at i os o w is = slice_get-get_or os i o w ∙ ap (λ x. Some x) (sym is)
