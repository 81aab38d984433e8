-- Where an entry stands that is put at its place.
use Rattle.std.proofs.Common.{◌≡◌, ℕ, zero, suc, Bool, true, false, cond, List, [], ◌∷◌, length, Option, Some, None, unwrap_or, find, slice_get, nat_lt, refl, sym, ap, add-one, arith}
use Rattle.std.specs.List.{position_or_len}
use Rattle.std.proofs.lemmas.List.Edits.{insert_end}
use Rattle.std.proofs.lemmas.List.Folds.{find_at}
use Rattle.std.proofs.lemmas.Bool.Decides.{nat_tests}
use Rattle.std.proofs.lemmas.Option.{slice_get_within}
use Rattle.request_log.specs.Entries.{has_id}
use Rattle.request_log.specs.declared.entry.Entry.{Entry}
use Rattle.request_log.specs.declared.folded.Folded.{Folded}
use Rattle.create_placement.specs.Placement.{known_place, behind_or, names_folded, place_among, place_behind, named, StandsBefore, StandsBehind, StandsFirst, IsPlaced}

none_past : {P : Type 0} (entries : List Entry) (at : ℕ) → nat_lt at (length entries) ≡ true → None ≡ slice_get entries at → P
none_past [] at within none = grind (arith, nat_tests)
none_past (e ∷ es) zero within none = cc
none_past (e ∷ es) (suc at) within none = none_past es at (grind (arith, nat_tests)) none

before_at : (entries : List Entry) (at : ℕ) (next : Entry) → slice_get entries at ≡ Some next → StandsBefore next at entries
before_at [] at next is = cc
before_at (e ∷ es) zero next is = let same : e ≡ next = cc in record {
  front = [];
  back = es;
  whole = ap (λ x. x ∷ es) same;
  put = λ entry. ap (λ x. entry ∷ (x ∷ es)) same;
}
before_at (e ∷ es) (suc at) next is = let rest = before_at es at next is in record {
  front = e ∷ rest.front;
  back = rest.back;
  whole = ap (λ xs. e ∷ xs) rest.whole;
  put = λ entry. ap (λ xs. e ∷ xs) (rest.put entry);
}

behind_at : (entries : List Entry) (at : ℕ) (last : Entry) → slice_get entries at ≡ Some last → StandsBehind last (suc at) entries
behind_at [] at last is = cc
behind_at (e ∷ es) zero last is = let same : e ≡ last = cc in record {
  front = [];
  back = es;
  whole = ap (λ x. x ∷ es) same;
  put = λ entry. ap (λ x. x ∷ (entry ∷ es)) same;
}
behind_at (e ∷ es) (suc at) last is = let rest = behind_at es at last is in record {
  front = e ∷ rest.front;
  back = rest.back;
  whole = ap (λ xs. e ∷ xs) rest.whole;
  put = λ entry. ap (λ xs. e ∷ xs) (rest.put entry);
}

-- a place in a list and what stands there, or neither
abbrev IsAt : List Entry → Option ℕ → Option Entry → Type 0
IsAt entries None None = Unit {0}
IsAt entries (Some at) (Some e) = slice_get entries at ≡ Some e
IsAt entries (Some at) None = ⊥
IsAt entries None (Some e) = ⊥

chosen : (b : Bool) (at : ℕ) (found : Option Entry) (entries : List Entry) → nat_lt at (length entries) ≡ b → found ≡ slice_get entries at → IsAt entries (cond b (Some at) None) found
chosen true at (Some e) entries within is = sym is
chosen true at None entries within is = none_past entries at within is
chosen false at (Some e) entries past is = let there = slice_get_within entries at e (sym is) in grind (arith, nat_tests)
chosen false at None entries past is = tt

known_at : (id : Option ℕ) (entries : List Entry) → IsAt entries (known_place id entries) (named id entries)
known_at None entries = tt
known_at (Some id) entries =
    chosen (nat_lt (position_or_len (has_id id) entries) (length entries)) (position_or_len (has_id id) entries) (find (has_id id) entries) entries refl (find_at (has_id id) entries)

put_first : (entries : List Entry) → StandsFirst 0 entries
put_first [] = λ entry. refl
put_first (e ∷ es) = λ entry. refl

-- behind the other, or first, or last
behind_place : (entries : List Entry) (after : Option ℕ) (last : Option Entry) (past : Bool) → IsAt entries after last
    → IsPlaced false None past last (cond past 0 (behind_or after (length entries))) entries
behind_place entries after last true and = put_first entries
behind_place entries None None false and = λ entry. insert_end entries entry
behind_place entries None (Some last) false and = absurd and
behind_place entries (Some at) None false and = absurd and
behind_place entries (Some at) (Some last) false and = rw (add-one at) (behind_at entries at last and)

by_place : (entries : List Entry) (before : Option ℕ) (next : Option Entry) (end : ℕ) (past : Bool) (last : Option Entry) → IsAt entries before next
    → IsPlaced false None past last end entries → IsPlaced false next past last (unwrap_or before end) entries
by_place entries (Some at) (Some next) end past last there rest = before_at entries at next there
by_place entries (Some at) None end past last there rest = absurd there
by_place entries None (Some next) end past last there rest = absurd there
by_place entries None None end past last there rest = rest

placed_by : (folded : List Folded) (entries : List Entry) (before after : Option ℕ) (first : Bool)
    → IsPlaced first (named before entries) (names_folded after folded) (named after entries) (cond first 0 (unwrap_or (known_place before entries) (place_behind after folded entries))) entries
placed_by folded entries before after true = put_first entries
placed_by folded entries before after false =
    by_place entries (known_place before entries) (named before entries) (place_behind after folded entries) (names_folded after folded) (named after entries) (known_at before entries)
    (behind_place entries (known_place after entries) (named after entries) (names_folded after folded) (known_at after entries))

pub is_placed : (before after : Option ℕ) (folded : List Folded) (entries : List Entry) (at : ℕ) → at ≡ place_among before after folded entries
    → IsPlaced (names_folded before folded) (named before entries) (names_folded after folded) (named after entries) at entries
is_placed before after folded entries at is = rw is (placed_by folded entries before after (names_folded before folded))
