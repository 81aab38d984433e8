-- The entry of a number, changed at its place.
use Rattle.std.proofs.Common.{◌≡◌, ℕ, ◌+◌, suc, Bool, true, false, cond, not, List, [], ◌∷◌, length, set, get_or, Option, Some, None, IsSome, find, is_some, option_map, nat_lt, position, refl, sym, ap, ◌∙◌, subst, eqb-true, arith}
use Rattle.std.specs.List.{position_or_len}
use Rattle.request_log.specs.declared.entry.Entry.{Entry}
use Rattle.request_log.specs.declared.folded.Folded.{Folded}
use Rattle.lang_core.specs.HandedOn.{Method}
use Rattle.lang_core.specs.declared.request.Request.{Request}
use Rattle.request_log.specs.Entries.{asking, changed, has_id, replace, request_at, with_call, IsDistinct, KeptLog}
use Rattle.request_log.specs.Keys.{IsIndexed}
use Rattle.request_log.proofs.EntryLemmas.{at_place, is_found, log-set, placed}
use Rattle.request_log.proofs.FoldedLemmas.{Leaves}

changed_head : (change : Entry → Entry) (b : Bool) (id : ℕ) (e : Entry) (es : List Entry) → has_id id e ≡ b → cond b (Some e) (find (has_id id) es) ≡ None
    → (find (has_id id) es ≡ None → changed id change es ≡ es) → changed id change (e ∷ es) ≡ e ∷ es
changed_head change true id e es is h later = cc
changed_head change false id e es is h later = rw is (ap (λ l. e ∷ l) (later h))

-- where no entry has the number, none is changed
pub none_changed : (change : Entry → Entry) (id : ℕ) (es : List Entry) → find (has_id id) es ≡ None → changed id change es ≡ es
none_changed change id [] h = refl
none_changed change id (e ∷ es) h = changed_head change (has_id id e) id e es refl h (none_changed change id es)

-- the changed entry of the number in place of the old one
put_head : (change : Entry → Entry) (b : Bool) (id : ℕ) (x e : Entry) (xs : List Entry) → has_id id x ≡ b → cond b (Some x) (find (has_id id) xs) ≡ Some e
    → find (has_id x.id) xs ≡ None
    → (find (has_id id) xs ≡ Some e → set xs (position_or_len (has_id id) xs) (change e) ≡ changed id change xs)
    → set (x ∷ xs) (cond b 0 (suc (position_or_len (has_id id) xs))) (change e) ≡ changed id change (x ∷ xs)
put_head change true id x e xs is h new later =
    let same : x ≡ e = cc in
    let same_id : x.id ≡ id = eqb-true x.id id is in
    let rest : changed id change xs ≡ xs = none_changed change id xs (subst (λ n. find (has_id n) xs ≡ None) same_id new) in
    rw (is, rest) (ap (λ (v : Entry). change v ∷ xs) (sym same))
put_head change false id x e xs is h new later = rw is (ap (λ l. x ∷ l) (later h))

other_way : (b : Bool) (n : ℕ) → cond (not b) (1 + n) 0 ≡ cond b 0 (suc n)
other_way true n = refl
other_way false n = omega arith

position-head : (id : ℕ) (x : Entry) (xs : List Entry) → position_or_len (has_id id) (x ∷ xs) ≡ cond (has_id id x) 0 (suc (position_or_len (has_id id) xs))
position-head id x xs = other_way (has_id id x) (position_or_len (has_id id) xs)

changed_at : (change : Entry → Entry) (id : ℕ) (es : List Entry) (e : Entry) → IsDistinct es → find (has_id id) es ≡ Some e
    → set es (position_or_len (has_id id) es) (change e) ≡ changed id change es
changed_at change id [] e d h = cc
changed_at change id (x ∷ xs) e d h =
    let S : ℕ → Type 0 = λ n. set (x ∷ xs) n (change e) ≡ changed id change (x ∷ xs) in
    subst S (sym (position-head id x xs)) (put_head change (has_id id x) id x e xs refl h d.0.id (changed_at change id xs e d.1))

-- the entries, where the one at the place of a number was changed
pub record IsChanged (change : Entry → Entry) (id : ℕ) (fs : List Folded) (es es' : List Entry) (ns os : List ℕ) : Type 0 where
  pub log : IsIndexed fs es' ns os
  pub entries : es' ≡ changed id change es
  pub there : true ≡ is_some (find (has_id id) es)

pub changed_place : (change : Entry → Entry) → Leaves change → (id : ℕ) (k : KeptLog) (fs : List Folded) (es : List Entry) (ns os : List ℕ) (place : ℕ) (x : Entry) → (record { folded = fs; entries = es }) ≡ k
    → position (has_id id) es ≡ Some place → x ≡ get_or es place x → IsIndexed fs es ns os → IsChanged change id fs k.entries (set es place (change x)) ns os
changed_place change leaves id k fs es ns os place x seen is at log =
    let old = at_place id es place x is in
    let n : position_or_len (has_id id) es ≡ place = placed (nat_lt (position_or_len (has_id id) es) (length es)) (position_or_len (has_id id) es) place is in
    let e : Entry = get_or es place x in
    let P : Entry → KeptLog → Type 0 = λ e k. IsChanged change id fs k.entries (set es place (change e)) ns os in
    subst (P x) seen
    (subst (λ e. P e (record { folded = fs; entries = es })) (sym at)
    (record {
      log = log-set fs es ns os place (change e) e old.there (leaves.id e) (leaves.origin e) log;
      entries = ap (λ k. set es k (change e)) (sym n) ∙ changed_at change id es e log.log.distinct old.found;
      there = ap is_some (sym old.found);
    }))

nothing : (o : Option Entry) → (IsSome o → ⊥) → o ≡ None
nothing None h = refl
nothing (Some e) h = absurd (h refl)

not_placed : (o : Option ℕ) → o ≡ None → IsSome o → ⊥
not_placed None e h = cc
not_placed (Some n) e h = cc

-- a number that has no place is found nowhere
pub not_found : (id : ℕ) (es : List Entry) → position (has_id id) es ≡ None → find (has_id id) es ≡ None
not_found id es none = nothing (find (has_id id) es) (λ h. not_placed (position (has_id id) es) none (is_found id es h))

-- where no entry has the number, nothing is changed
pub record IsUnknown (change : Entry → Entry) (id : ℕ) (es : List Entry) : Type 0 where
  pub entries : es ≡ changed id change es
  pub there : false ≡ is_some (find (has_id id) es)

pub unknown : (change : Entry → Entry) (id : ℕ) (k : KeptLog) (fs : List Folded) (es : List Entry) → (record { folded = fs; entries = es }) ≡ k → position (has_id id) es ≡ None → IsUnknown change id k.entries
unknown change id k fs es is none =
    let found : find (has_id id) es ≡ None = not_found id es none in
    let P : KeptLog → Type 0 = λ k. IsUnknown change id k.entries in
    subst P is (record { entries = sym (none_changed change id es found); there = ap is_some (sym found) })

-- the request of an entry, where there is one
abbrev request_in : Option Entry → Option Request
request_in o = option_map (λ (e : Entry). e.request) o

-- an entry that asks its own request with another method, path and body is replaced so
replaced_by : (id : ℕ) (es : List Entry) (m : Method) (p b : List ℕ) (q : Request) (o : Option Entry) → IsDistinct es → find (has_id id) es ≡ o
    → option_map (with_call m p b) (request_in o) ≡ Some q → changed id (asking q) es ≡ changed id (replace m p b) es
replaced_by id es m p b q None d is so = cc
replaced_by id es m p b q (Some e) d is so =
    let same : with_call m p b e.request ≡ q = cc in
    sym (changed_at (asking q) id es e d is)
    ∙ (ap (λ (r : Request). set es (position_or_len (has_id id) es) (asking r e)) (sym same)
    ∙ changed_at (replace m p b) id es e d is)

pub replaced_so : (id : ℕ) (k : KeptLog) (fs : List Folded) (es : List Entry) (ns os : List ℕ) → (record { folded = fs; entries = es }) ≡ k → IsIndexed fs es ns os
    → (m : Method) (p b : List ℕ) (q : Request) → option_map (with_call m p b) (request_at id k.entries) ≡ Some q
    → changed id (asking q) k.entries ≡ changed id (replace m p b) k.entries
replaced_so id k fs es ns os is log m p b q =
    let P : KeptLog → Type 0 = λ k. option_map (with_call m p b) (request_at id k.entries) ≡ Some q
    → changed id (asking q) k.entries ≡ changed id (replace m p b) k.entries in
    subst P is (λ so. replaced_by id es m p b q (find (has_id id) es) log.log.distinct refl so)

not_asked : (id : ℕ) (es : List Entry) (m : Method) (p b : List ℕ) (o : Option Entry) → find (has_id id) es ≡ o
    → option_map (with_call m p b) (request_in o) ≡ None → es ≡ changed id (replace m p b) es
not_asked id es m p b None is so = sym (none_changed (replace m p b) id es is)
not_asked id es m p b (Some e) is so = cc

-- where no entry has the number, none is replaced
pub none_replaced : (id : ℕ) (es : List Entry) (m : Method) (p b : List ℕ) → option_map (with_call m p b) (request_at id es) ≡ None
    → es ≡ changed id (replace m p b) es
none_replaced id es m p b so = not_asked id es m p b (find (has_id id) es) refl so
