-- Room that was made for calls: the call that is found there, and how many are left.
use Rattle.std.proofs.Common.{◌≡◌, ℕ, ◌+◌, ◌<◌, ◌≤◌, Bool, true, false, cond, List, length, get_or, slice_get, Option, Some, None, is_some, position, sym, ap, ◌∙◌, arith, refl}
use Rattle.std.proofs.lemmas.Option.{get_or_from_slice_get}
use Rattle.lang_base.specs.Equal.{equal}
use Rattle.lang_lists.specs.Room.{is_made}
use Rattle.lang_lists.proofs.RoomLemmas.{some_made, found as found_there}
use Rattle.key_labels.proofs.ApartLemmas.{position_is}
use base.Stored.{Coded}

-- a call for which room was made is found in the room, and is what is taken out there
pub record IsSpent {C : Type 0} (code : Coded C) (call : C) (room : List C) (place : ℕ) (taken : C) : Type 0 where
  pub made : is_made code call room ≡ true
  pub same : taken ≡ call
  pub is : get_or room place call ≡ call
  pub within : place < length room

pub spent : {C : Type 0} (code : Coded C) (call : C) {room seen : List C} {place : ℕ} {found : Option ℕ} {taken : C} → seen ≡ room → found ≡ position (equal code call) seen → found ≡ Some place
    → slice_get room place ≡ Some taken → IsSpent code call room place taken
spent code call {room} {seen} {place} {found} {taken} alike sought at read =
    let there : position (equal code call) room ≡ Some place = ap (position (equal code call)) (sym alike) ∙ sym sought ∙ at in
    let same : taken ≡ call = found_there code call room place taken there read in
    record {
      made = sym (some_made code call room) ∙ ap is_some there;
      same = same;
      is = get_or_from_slice_get room place taken call read ∙ same;
      within = (position_is (equal code call) room place there).1;
    }

pub unmade : {C : Type 0} (code : Coded C) (call : C) {room seen : List C} {found : Option ℕ} → seen ≡ room → found ≡ position (equal code call) seen → found ≡ None → is_made code call room ≡ false
unmade code call {room} alike sought none = sym (some_made code call room) ∙ ap is_some (ap (position (equal code call)) (sym alike) ∙ sym sought ∙ none)

pub covers_by : (a : Bool) (n m x y : ℕ) → n ≤ m → n ≤ x → x ≤ y → (a ≡ true → m + 1 ≤ y) → n + cond a 1 0 ≤ y
covers_by true n m x y small had more here = let h = here refl in omega arith
covers_by false n m x y small had more here = omega arith

pub one_by : (a : Bool) (y : ℕ) → (a ≡ true → 1 ≤ y) → 0 + cond a 1 0 ≤ y
one_by true y here = here refl
one_by false y here = omega arith
