-- In a log what stands last of a number or a call stands first.
use Rattle.std.proofs.Common.{◌≡◌, ℕ, zero, suc, ◌+◌, ◌-◌, ◌≤◌, Bool, true, false, cond, not, List, [], ◌∷◌, length, map, fold, find, Option, Some, None, nat_eq, nat_lt, position, refl, sym, ap, ◌∙◌, subst, arith, eqb-true}
use Rattle.std.specs.List.{position_or_len}
use Rattle.std.specs.Cmp.{nat_eq_equiv}
use Rattle.std.proofs.lemmas.Bool.{and_parts, lt-ltb, le-ltb, ne_eqb}
use Rattle.std.proofs.lemmas.List.{length-map}
use lib.Pointwise.{bytes_decides}
use Rattle.lang_base.specs.Texts.{same_text}
use Rattle.lang_core.specs.Origins.{is_call}
use Rattle.lang_core.specs.declared.ids.Origin.{Origin}
use Rattle.lang_core.specs.declared.ids.Origin.TheVariants.{Outside, Call}
use Rattle.lang_lists.specs.Ends.{end_behind, last_end}
use Rattle.lang_lists.specs.Keys.{call_key}
use Rattle.lang_lists.proofs.HashEndLemmas.{last_end-within}
use Rattle.lang_lists.proofs.KeyLemmas.{call_other}
use Rattle.lang_lists.proofs.SearchLemmas.{IsQuiet}
use Rattle.request_log.specs.declared.entry.Entry.{Entry}
use Rattle.request_log.specs.Entries.{has_id, has_origin, find_call, IsDistinct}
use Rattle.request_log.specs.Keys.{number_of, origin_key, entry_key}

-- ---- of a call

-- the last that passes, in a fold
abbrev pub last_of : {X : Type 0} → (X → Bool) → Option X → X → Option X
last_of p last e = cond (p e) (Some e) last

pub not_last : {X : Type 0} (b : Bool) (e : X) (last : Option X) → b ≡ false → cond b (Some e) last ≡ last
not_last true e last h = cc
not_last false e last h = refl

pub other_key : (caller : List ℕ) (number id : ℕ) (o : Origin) → nat_eq (call_key caller number) (origin_key id o) ≡ false → is_call caller number o ≡ false
other_key caller number id Outside h = refl
other_key caller number id (Call c n) h = call_other caller c number n h

pub call_quiet : (caller : List ℕ) (number : ℕ) → IsQuiet entry_key (last_of (has_origin caller number)) (call_key caller number)
call_quiet caller number = record { stays = λ last e h. not_last (has_origin caller number e) e last (other_key caller number e.id e.origin h) }

unfoldable pub found_or : {X : Type 0} → Option X → Option X → Option X
found_or None last = last
found_or (Some e) last = Some e

pub found_alone : {X : Type 0} (o : Option X) → found_or o None ≡ o
unfolding found_or
found_alone None = refl
found_alone (Some e) = refl

-- a call that comes again is found nowhere else
pub found_again : (caller : List ℕ) (number : ℕ) (o : Origin) (es : List Entry) → is_call caller number o ≡ true → find_call o es ≡ None → find (has_origin caller number) es ≡ None
found_again caller number Outside es is new = cc
found_again caller number (Call c n) es is new =
    let parts = and_parts (same_text c caller) (nat_eq n number) is in
    let name : c ≡ caller = (bytes_decides c caller).0 parts.0 in
    let numbers : n ≡ number = eqb-true n number parts.1 in
    let P : List ℕ → ℕ → Type 0 = λ t m. find (has_origin t m) es ≡ None in
    subst (P caller) numbers (subst (λ t. P t n) name new)

pub first_head : {X : Type 0} (b : Bool) (e : X) (rest last : Option X) → (b ≡ true → rest ≡ None) → found_or rest (cond b (Some e) last) ≡ found_or (cond b (Some e) rest) last
unfolding found_or
first_head true e rest last h = ap (λ o. found_or o (Some e)) (h refl)
first_head false e rest last h = refl

first_last : (caller : List ℕ) (number : ℕ) (es : List Entry) (last : Option Entry) → IsDistinct es
    → fold (last_of (has_origin caller number)) last es ≡ found_or (find (has_origin caller number) es) last
unfolding found_or
first_last caller number [] last d = refl
first_last caller number (e ∷ es) last d =
    first_last caller number es (last_of (has_origin caller number) last e) d.1
    ∙ first_head (has_origin caller number e) e (find (has_origin caller number) es) last (λ is. found_again caller number e.origin es is d.0.origin)

-- the last of a call is the first
pub last_found : (caller : List ℕ) (number : ℕ) (es : List Entry) → IsDistinct es → fold (last_of (has_origin caller number)) None es ≡ find (has_origin caller number) es
last_found caller number es d = first_last caller number es None d ∙ found_alone (find (has_origin caller number) es)

-- ---- of a number

nowhere_head : (b : Bool) (id : ℕ) (e : Entry) (es : List Entry) → has_id id e ≡ b → cond b (Some e) (find (has_id id) es) ≡ None
    → (find (has_id id) es ≡ None → last_end (nat_eq id) (map number_of es) ≡ 0) → end_behind (nat_eq id e.id) (last_end (nat_eq id) (map number_of es)) ≡ 0
nowhere_head true id e es is h later = cc
nowhere_head false id e es is h later =
    let differs : nat_eq id e.id ≡ false = nat_eq_equiv.symm id e.id ∙ is in
    rw (differs, later h) refl

nowhere : (id : ℕ) (es : List Entry) → find (has_id id) es ≡ None → last_end (nat_eq id) (map number_of es) ≡ 0
nowhere id [] h = refl
nowhere id (e ∷ es) h = nowhere_head (has_id id e) id e es refl h (nowhere id es)

-- where an end is, of what stands before it
place_behind : ℕ → ℕ → ℕ
place_behind len zero = len
place_behind len (suc n) = n

place_next : (len end : ℕ) → cond (not false) (1 + place_behind len end) 0 ≡ place_behind (suc len) (end_behind false end)
unfolding place_behind
place_next len zero = omega arith
place_next len (suc n) = omega arith

place_head : (b : Bool) (id : ℕ) (e : Entry) (es : List Entry) → has_id id e ≡ b → (b ≡ true → last_end (nat_eq id) (map number_of es) ≡ 0)
    → position_or_len (has_id id) es ≡ place_behind (length es) (last_end (nat_eq id) (map number_of es))
    → cond (not b) (1 + position_or_len (has_id id) es) 0 ≡ place_behind (suc (length es)) (end_behind b (last_end (nat_eq id) (map number_of es)))
unfolding place_behind
place_head true id e es is new later = rw (new refl) refl
place_head false id e es is new later = rw later (place_next (length es) (last_end (nat_eq id) (map number_of es)))

placed_at : (id : ℕ) (es : List Entry) → IsDistinct es → position_or_len (has_id id) es ≡ place_behind (length es) (last_end (nat_eq id) (map number_of es))
unfolding place_behind
placed_at id [] d = refl
placed_at id (e ∷ es) d =
    let flip : nat_eq id e.id ≡ has_id id e = nat_eq_equiv.symm id e.id in
    let new : has_id id e ≡ true → last_end (nat_eq id) (map number_of es) ≡ 0 = λ is. nowhere id es (ap (λ n. find (has_id n) es) (sym (eqb-true e.id id is)) ∙ d.0.id) in
    place_head (has_id id e) id e es refl new (placed_at id es d.1)
    ∙ ap (λ b. place_behind (suc (length es)) (end_behind b (last_end (nat_eq id) (map number_of es)))) (sym flip)

position_behind : (len end : ℕ) → end ≤ len → cond (nat_lt (place_behind len end) len) (Some (place_behind len end)) None ≡ cond (nat_eq end 0) None (Some (end - 1))
unfolding place_behind
position_behind len zero within = rw (le-ltb len len (omega arith)) refl
position_behind len (suc n) within =
    let some : nat_eq (suc n) 0 ≡ false = ne_eqb (suc n) 0 (λ e. absurd (omega (arith, e))) in
    let back : suc n - 1 ≡ n = omega arith in
    rw (lt-ltb n len (omega arith), some, back) refl

-- the place of a number, by its end among the numbers
pub position_end : (id : ℕ) (es : List Entry) → IsDistinct es
    → position (has_id id) es ≡ cond (nat_eq (last_end (nat_eq id) (map number_of es)) 0) None (Some (last_end (nat_eq id) (map number_of es) - 1))
position_end id es d =
    ap (λ n. cond (nat_lt n (length es)) (Some n) None) (placed_at id es d)
    ∙ position_behind (length es) (last_end (nat_eq id) (map number_of es)) (omega (arith, last_end-within (nat_eq id) (map number_of es), length-map es number_of))
