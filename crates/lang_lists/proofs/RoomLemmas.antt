-- Room that was made for a call is there for that call, and serves no other.
use Rattle.std.proofs.Common.{◌≡◌, ◌∙◌, sym, ap, refl, ℕ, ◌+◌, ◌<◌, Bool, true, false, cond, not, nat_lt, nat_eq, List, [], ◌∷◌, ◌++◌, length, get_or, slice_get, Some, None, position, is_some, arith, append_assoc, add-one, ◌||◌}
use Rattle.std.proofs.lemmas.Bool.{lt-ltb}
use Rattle.std.proofs.lemmas.Bool.Decides.{nat_tests}
use Rattle.std.proofs.lemmas.List.Folds.{prefix_len-append, list_any-append}
use Rattle.std.proofs.lemmas.List.Edits.{remove-append_left}
use Rattle.std.proofs.lemmas.List.Quantifiers.{position-Some}
use Rattle.std.proofs.lemmas.Option.{get_or_from_slice_get}
use Rattle.std.specs.List.{list_any, position_or_len}
use Rattle.lang_base.specs.Equal.{equal}
use Rattle.lang_base.proofs.EqualLemmas.{equal-true, equal-same}
use Rattle.lang_lists.specs.Room.{is_made, spend, without, IsReady}
use base.Stored.{Coded}

-- ---- of any test

or_some : (b a : Bool) (n l : ℕ) → (b || a) ≡ true → (a ≡ true → n < l) → cond (not b) (1 + n) 0 < l + 1
or_some true a n l h f = omega arith
or_some false a n l h f = let k : n < l = f h in omega arith

-- where some element passes, the first that does is in the list
first_in : {C : Type 0} (p : C → Bool) (xs : List C) → list_any p xs ≡ true → position_or_len p xs < length xs
first_in p [] h = cc
first_in p (x ∷ xs) h =
    let k : cond (not (p x)) (1 + position_or_len p xs) 0 < length xs + 1 = or_some (p x) (list_any p xs) (position_or_len p xs) (length xs) h (λ e. first_in p xs e) in
    rw add-one at k

at_first : {C : Type 0} (p : C → Bool) (xs : List C) → list_any p xs ≡ true → position p xs ≡ Some (position_or_len p xs)
at_first p xs h =
    let e : nat_lt (position_or_len p xs) (length xs) ≡ true = lt-ltb _ _ (first_in p xs h) in
    rw e refl

-- what stands behind it doesn't move it
first_stands : {C : Type 0} (p : C → Bool) (xs ys : List C) → list_any p xs ≡ true → position_or_len p (xs ++ ys) ≡ position_or_len p xs
first_stands p xs ys h =
    let w : position_or_len p xs < length xs = first_in p xs h in
    let e : nat_eq (position_or_len p xs) (length xs) ≡ false = grind (arith, nat_tests) in
    prefix_len-append (λ x. not (p x)) xs ys ∙ rw e refl

any_front : {C : Type 0} (p : C → Bool) (xs ys : List C) → list_any p xs ≡ true → list_any p (xs ++ ys) ≡ true
any_front p xs ys h = list_any-append p xs ys ∙ rw h refl

last_or : (a b : Bool) → b ≡ true → (a || (b || false)) ≡ true
last_or true true h = refl
last_or true false h = refl
last_or false true h = refl
last_or false false h = cc

any_last : {C : Type 0} (p : C → Bool) (xs : List C) (c : C) → p c ≡ true → list_any p (xs ++ c ∷ []) ≡ true
any_last p xs c h = list_any-append p xs (c ∷ []) ∙ last_or (list_any p xs) (p c) h

no_some : {n : ℕ} → None ≡ Some n → ⊥
no_some h = cc

none_passes-at : {C : Type 0} (p : C → Bool) (xs : List C) (b : Bool) → list_any p xs ≡ b → position p xs ≡ None → b ≡ false
none_passes-at p xs true h e = absurd (no_some (sym e ∙ at_first p xs h))
none_passes-at p xs false h e = refl

or_none : (b a : Bool) (n l : ℕ) → (b || a) ≡ false → (a ≡ false → n ≡ l) → cond (not b) (1 + n) 0 ≡ l + 1
or_none true a n l h f = cc
or_none false a n l h f = let k : n ≡ l = f h in omega arith

past_all : {C : Type 0} (p : C → Bool) (xs : List C) → list_any p xs ≡ false → position_or_len p xs ≡ length xs
past_all p [] h = refl
past_all p (x ∷ xs) h =
    let k : cond (not (p x)) (1 + position_or_len p xs) 0 ≡ length xs + 1 = or_none (p x) (list_any p xs) (position_or_len p xs) (length xs) h (λ e. past_all p xs e) in
    rw add-one at k

pub not_less : (n : ℕ) → nat_lt n n ≡ false
not_less n = grind (arith, nat_tests)

nowhere : {C : Type 0} (p : C → Bool) (xs : List C) → list_any p xs ≡ false → position p xs ≡ None
nowhere p xs h = rw (past_all p xs h, not_less (length xs)) refl

-- a search finds something exactly where something passes
some_is-at : {C : Type 0} (p : C → Bool) (xs : List C) (b : Bool) → list_any p xs ≡ b → is_some (position p xs) ≡ b
some_is-at p xs true h = ap is_some (at_first p xs h)
some_is-at p xs false h = ap is_some (nowhere p xs h)

-- ---- of the test for a call

-- the place that is found is that of the call
pub found : {C : Type 0} (code : Coded C) (call : C) (room : List C) (place : ℕ) (c : C) → position (equal code call) room ≡ Some place → slice_get room place ≡ Some c → c ≡ call
found code call room place c e v =
    let is : c ≡ get_or room place c = sym (get_or_from_slice_get room place c c v) in
    sym (equal-true code call c (ap (equal code call) is ∙ (position-Some (equal code call) room place c e).1))

pub some_made : {C : Type 0} (code : Coded C) (call : C) (room : List C) → is_some (position (equal code call) room) ≡ is_made code call room
some_made code call room = some_is-at (equal code call) room (is_made code call room) refl

pub made_there : {C : Type 0} (code : Coded C) (call : C) (room : List C) → is_made code call room ≡ true → position (equal code call) room ≡ Some (position_or_len (equal code call) room)
made_there code call room h = at_first (equal code call) room h

-- a call without room leaves none
pub spent_none : {C : Type 0} (code : Coded C) (call : C) (room : List C) → is_made code call room ≡ false → spend code call room ≡ []
spent_none code call room h = ap (without room) (nowhere (equal code call) room h)

-- nor one of which a test said that it has no room
pub spent_untested : {C : Type 0} (code : Coded C) (call : C) (room seen : List C) (test : Bool) → test ≡ is_made code call seen → seen ≡ room → test ≡ false → spend code call room ≡ []
spent_untested code call room seen test h is fails =
    spent_none code call room (sym (h ∙ ap (is_made code call) is) ∙ fails)

-- room that was made last is there
pub made_last : {C : Type 0} (code : Coded C) (room : List C) (call : C) → is_made code call (room ++ call ∷ []) ≡ true
made_last code room call = any_last (equal code call) room call (equal-same code call call refl)

-- room for one call alone is used up by it
pub spent_one : {C : Type 0} (code : Coded C) (call : C) → spend code call (call ∷ []) ≡ []
spent_one code call =
    let e : equal code call call ≡ true = equal-same code call call refl in
    rw e refl

-- room for one call alone, made where there was none
pub lone_made : {C : Type 0} (code : Coded C) (call : C) (before room : List C) → before ≡ [] → room ≡ before ++ call ∷ [] → is_made code call room ≡ true
lone_made code call before room none is = ap (is_made code call) is ∙ made_last code before call

pub lone_spent : {C : Type 0} (code : Coded C) (call : C) (before room : List C) → before ≡ [] → room ≡ before ++ call ∷ [] → spend code call room ≡ []
lone_spent code call before room none is = ap (spend code call) (is ∙ ap (λ l. l ++ call ∷ []) none) ∙ spent_one code call

-- room made later leaves it there
pub made_front : {C : Type 0} (code : Coded C) (call : C) (room more : List C) → is_made code call room ≡ true → is_made code call (room ++ more) ≡ true
made_front code call room more h = any_front (equal code call) room more h

-- a call uses its own room up, and what was made later stays
pub spent_front : {C : Type 0} (code : Coded C) (call : C) (room more : List C) → is_made code call room ≡ true → spend code call (room ++ more) ≡ spend code call room ++ more
spent_front code call room more h =
    let a : position (equal code call) (room ++ more) ≡ Some (position_or_len (equal code call) room) = at_first (equal code call) (room ++ more) (made_front code call room more h) ∙ ap (λ n. Some n) (first_stands (equal code call) room more h) in
    let b : position (equal code call) room ≡ Some (position_or_len (equal code call) room) = at_first (equal code call) room h in
    ap (without (room ++ more)) a ∙ remove-append_left room more (position_or_len (equal code call) room) (first_in (equal code call) room h) ∙ sym (ap (λ o. without room o ++ more) b)

-- ---- several calls in a row

-- room for one more call
pub ready_more : {C : Type 0} (calls room : List C) (call : C) → IsReady calls room → IsReady (calls ++ call ∷ []) (room ++ call ∷ [])
ready_more calls room call h = record { before = h.before; is = ap (λ l. l ++ call ∷ []) h.is ∙ append_assoc h.before calls (call ∷ []) }

-- the next call has its room
pub ready_made : {C : Type 0} (code : Coded C) (call : C) (calls room : List C) → IsReady (call ∷ calls) room → is_made code call room ≡ true
ready_made code call calls room h =
    let e : h.before ++ call ∷ calls ≡ (h.before ++ call ∷ []) ++ calls = sym (append_assoc h.before (call ∷ []) calls) in
    rw (h.is, e) (made_front code call (h.before ++ call ∷ []) calls (made_last code h.before call))

-- and uses no other call's
pub ready_spent : {C : Type 0} (code : Coded C) (call : C) (calls room : List C) → IsReady (call ∷ calls) room → IsReady calls (spend code call room)
ready_spent code call calls room h =
    let e : h.before ++ call ∷ calls ≡ (h.before ++ call ∷ []) ++ calls = sym (append_assoc h.before (call ∷ []) calls) in
    record {
      before = spend code call (h.before ++ call ∷ []);
      is = ap (spend code call) (h.is ∙ e) ∙ spent_front code call (h.before ++ call ∷ []) calls (made_last code h.before call);
    }
