-- Logs that get an entry more, or another one in the place of one.
use Rattle.std.proofs.Common.{◌≡◌, ℕ, true, false, List, [], ◌∷◌, ◌++◌, length, set, Some, None, find, insert, All, refl, sym, ap, ◌∙◌, subst, inl, inr, nat_eq, eqb-true, eq-eqb, ne_eqb, if◌then◌else◌}
use Rattle.std.proofs.lemmas.Bool.{cases_Bool, and_parts, and_from, both_ways, false_from_ne_true}
use Rattle.std.specs.Cmp.Lexicographic.{nat_list_eq_equiv}
use Rattle.std.proofs.lemmas.List.Edits.{insert_end}
use Rattle.std.proofs.lemmas.List.Elements.{All-cons, All-nil}
use Rattle.lang_base.specs.Texts.{same_text}
use Rattle.lang_core.specs.Origins.{is_call}
use Rattle.lang_core.specs.declared.ids.Origin.{Origin}
use Rattle.lang_core.specs.declared.ids.Origin.TheVariants.{Outside, Call}
use Rattle.request_log.specs.Entries.{has_id, has_origin, find_call, IsNew, IsDistinct, with_entry, changed}
use Rattle.request_log.specs.declared.entry.Entry.{Entry}
use Rattle.request_log.proofs.EntryLemmas.{distinct-insert, distinct-set}
use Rattle.service_events.specs.State.{same_call_origin}
use Rattle.service_events.proofs.SearchLemmas.{text_is, none_first, splits, found_all, none_mid, found_behind, find-insert, find_put, place_is, set_mid, get_mid, none_changed}

-- the number and the origin of another entry
pub record IsOther (id : ℕ) (origin : Origin) (id' : ℕ) (origin' : Origin) : Type 0 where
  pub number : nat_eq id id' ≡ false
  pub call : same_call_origin origin origin' ≡ false

pub call_is : (c : List ℕ) (n : ℕ) (o : Origin) → is_call c n o ≡ true → o ≡ Call c n
call_is c n Outside h = cc
call_is c n (Call d m) h =
    let parts = and_parts (same_text d c) (nat_eq m n) h in
    let caller : d ≡ c = text_is d c parts.0 in
    let number : m ≡ n = eqb-true m n parts.1 in
    cc

pub itself : (c : List ℕ) (n : ℕ) → is_call c n (Call c n) ≡ true
itself c n = and_from (same_text c c) (nat_eq n n) (nat_list_eq_equiv.refl c) (eq-eqb n n refl)

-- ---- entries that are apart

pub behind_new : (xs : List Entry) (x : Entry) (ys : List Entry) → IsDistinct (xs ++ x ∷ ys) → IsNew x ys
behind_new [] x ys h = h.0
behind_new (z ∷ xs) x ys h = behind_new xs x ys h.1

pub front_id : (xs : List Entry) (x : Entry) (ys : List Entry) → IsDistinct (xs ++ x ∷ ys) → find (has_id x.id) xs ≡ None
front_id [] x ys h = refl
front_id (z ∷ xs) x ys h =
    let other : has_id x.id z ≡ false = ne_eqb z.id x.id (λ e. both_ways (nat_eq x.id z.id) (none_mid (has_id z.id) xs x ys h.0.id) (eq-eqb x.id z.id (sym e))) in
    rw other (front_id xs x ys h.1)

front_call : (c : List ℕ) (n : ℕ) (xs : List Entry) (x : Entry) (ys : List Entry) → IsDistinct (xs ++ x ∷ ys) → has_origin c n x ≡ true
    → find (has_origin c n) xs ≡ None
front_call c n [] x ys h is = refl
front_call c n (z ∷ xs) x ys h is =
    let other : has_origin c n z ≡ false = false_from_ne_true (has_origin c n z) (λ t.
    let from : z.origin ≡ Call c n = call_is c n z.origin t in
    let none : find (has_origin c n) (xs ++ x ∷ ys) ≡ None = subst (λ o. find_call o (xs ++ x ∷ ys) ≡ None) from h.0.origin in
    both_ways (has_origin c n x) (none_mid (has_origin c n) xs x ys none) is) in
    rw other (front_call c n xs x ys h.1 is)

-- ---- a log with this entry: one more, or in place of the one of its number

pub record IsWith (x : Entry) (log log' : List Entry) : Type 0 where
  pub distinct : IsDistinct log'
  pub found : (id : ℕ) → find (has_id id) log' ≡ (if nat_eq x.id id then Some x else find (has_id id) log)
  pub calls : (c : List ℕ) (n : ℕ) → find_call (Call c n) log' ≡ (if is_call c n x.origin then Some x else find_call (Call c n) log)

pub with_insert : (log : List Entry) (i : ℕ) (x : Entry) → IsNew x log → IsDistinct log → IsWith x log (insert log i x)
with_insert log i x new apart = record {
  distinct = distinct-insert log i x new apart;
  found = λ id. find-insert (has_id id) log i x (λ same. subst (λ k. find (has_id k) log ≡ None) (eqb-true x.id id same) new.id);
  calls = λ c n. find-insert (has_origin c n) log i x (λ same. subst (λ o. find_call o log ≡ None) (call_is c n x.origin same) new.origin);
}

pub with_push : (log : List Entry) (x : Entry) → IsNew x log → IsDistinct log → IsWith x log (log ++ x ∷ [])
with_push log x new apart = subst (IsWith x log) (insert_end log x) (with_insert log (length log) x new apart)

with_put : (xs : List Entry) (x y : Entry) (ys : List Entry) → y.id ≡ x.id → y.origin ≡ x.origin → IsDistinct (xs ++ x ∷ ys)
    → IsWith y (xs ++ x ∷ ys) (xs ++ y ∷ ys)
with_put xs x y ys id origin apart = record {
  distinct = subst IsDistinct (set_mid xs x y ys) (distinct-set (xs ++ x ∷ ys) (length xs) y x (get_mid xs x ys) id origin apart);
  found = λ k. find_put (has_id k) xs x y ys (ap (λ m. nat_eq m k) id)
      (λ same. subst (λ m. find (has_id m) xs ≡ None) (sym id ∙ eqb-true y.id k same) (front_id xs x ys apart));
  calls = λ c n. find_put (has_origin c n) xs x y ys (ap (is_call c n) origin)
      (λ same. front_call c n xs x ys apart (ap (is_call c n) (sym origin) ∙ same));
}

pub with_entry_is : (log : List Entry) (y old : Entry) → find (has_id y.id) log ≡ Some old → y.origin ≡ old.origin → IsDistinct log
    → IsWith y log (with_entry y log)
with_entry_is log y old found origin apart =
    let s = splits (has_id y.id) log old found in
    let id : y.id ≡ old.id = sym (eqb-true old.id y.id s.passes) in
    let P : List Entry → Type 0 = λ l. IsWith y l (with_entry y l) in
    let at : set (s.before ++ old ∷ s.rest) (length s.before) y ≡ with_entry y (s.before ++ old ∷ s.rest) =
    ap (λ k. set (s.before ++ old ∷ s.rest) k y) (sym (place_is (has_id y.id) s.before old s.rest s.none s.passes)) in
    subst P (sym s.is)
    (subst (IsWith y (s.before ++ old ∷ s.rest)) (sym (set_mid s.before old y s.rest) ∙ at)
    (with_put s.before old y s.rest id origin (subst IsDistinct s.is apart)))

at_mid : (id : ℕ) (f : Entry → Entry) (xs : List Entry) (x : Entry) (ys : List Entry) → find (has_id id) xs ≡ None → has_id id x ≡ true
    → find (has_id id) ys ≡ None → changed id f (xs ++ x ∷ ys) ≡ xs ++ f x ∷ ys
at_mid id f [] x ys front is rest = rw is (ap (λ zs. f x ∷ zs) (none_changed (has_id id) f ys rest))
at_mid id f (z ∷ xs) x ys front is rest =
    let parts = none_first (has_id id z) z (find (has_id id) xs) front in
    rw parts.0 (ap (λ zs. z ∷ zs) (at_mid id f xs x ys parts.1 is rest))

pub with_changed : (log : List Entry) (id : ℕ) (f : Entry → Entry) (old : Entry) → find (has_id id) log ≡ Some old → (f old).id ≡ old.id
    → (f old).origin ≡ old.origin → IsDistinct log → IsWith (f old) log (changed id f log)
with_changed log id f old found same origin apart =
    let s = splits (has_id id) log old found in
    let is : old.id ≡ id = eqb-true old.id id s.passes in
    let whole : IsDistinct (s.before ++ old ∷ s.rest) = subst IsDistinct s.is apart in
    let rest : find (has_id id) s.rest ≡ None = subst (λ k. find (has_id k) s.rest ≡ None) is (behind_new s.before old s.rest whole).id in
    let P : List Entry → Type 0 = λ l. IsWith (f old) l (changed id f l) in
    subst P (sym s.is)
    (subst (IsWith (f old) (s.before ++ old ∷ s.rest)) (sym (at_mid id f s.before old s.rest s.none s.passes rest))
    (with_put s.before old (f old) s.rest same origin whole))

-- an entry that is there stands for itself
pub with_same : (log : List Entry) (id : ℕ) (x : Entry) → find (has_id id) log ≡ Some x → IsDistinct log → IsWith x log log
with_same log id x found apart =
    let s = splits (has_id id) log x found in
    let P : List Entry → Type 0 = λ l. IsWith x l l in
    subst P (sym s.is) (with_put s.before x x s.rest refl refl (subst IsDistinct s.is apart))

-- ---- what holds of each entry

-- its number and its call find an entry that is there
pub found_call : (log : List Entry) (id : ℕ) (x : Entry) (c : List ℕ) (n : ℕ) → find (has_id id) log ≡ Some x → has_origin c n x ≡ true → IsDistinct log
    → find_call (Call c n) log ≡ Some x
found_call log id x c n found from apart =
    let s = splits (has_id id) log x found in
    let P : List Entry → Type 0 = λ l. find (has_origin c n) l ≡ Some x in
    subst P (sym s.is)
    (found_behind (has_origin c n) s.before x s.rest (front_call c n s.before x s.rest (subst IsDistinct s.is apart) from) from)

all_rest : (P : Entry → Type 0) (x : Entry) (xs : List Entry) → IsDistinct (x ∷ xs) → ((id : ℕ) (e : Entry) → find (has_id id) (x ∷ xs) ≡ Some e → P e)
    → (id : ℕ) (e : Entry) → find (has_id id) xs ≡ Some e → P e
all_rest P x xs apart h id e found = elim (cases_Bool (has_id id x)) [
  | inl is ↦ (let same : x.id ≡ id = eqb-true x.id id is in
      let none : find (has_id id) xs ≡ None = subst (λ k. find (has_id k) xs ≡ None) same apart.0.id in
      cc)
  | inr other ↦ h id e (rw other found)
]

pub all_by_found : (P : Entry → Type 0) (log : List Entry) → IsDistinct log → ((id : ℕ) (e : Entry) → find (has_id id) log ≡ Some e → P e) → All P log
all_by_found P [] apart h = All-nil P
all_by_found P (x ∷ xs) apart h =
    All-cons P x xs (h x.id x (rw (eq-eqb x.id x.id refl) refl)) (all_by_found P xs apart.1 (all_rest P x xs apart h))

-- two entries of a log are others, unless they have one number
clash : (x e : Entry) (log' : List Entry) (id : ℕ) (o : Origin) → x.origin ≡ o → IsDistinct log'
    → ((c : List ℕ) (n : ℕ) → is_call c n x.origin ≡ true → find_call (Call c n) log' ≡ Some x)
    → find (has_id id) log' ≡ Some e → nat_eq x.id e.id ≡ false → same_call_origin o e.origin ≡ true → ⊥
clash x e log' id Outside is apart mine found other same = cc
clash x e log' id (Call c n) is apart mine found other same =
    let this : Some x ≡ Some e = sym (mine c n (ap (is_call c n) is ∙ itself c n)) ∙ found_call log' id e c n found same apart in
    let one : x ≡ e = cc in
    both_ways (nat_eq x.id e.id) other (eq-eqb x.id e.id (ap (λ (v : Entry). v.id) one))

pub other_entry : (x : Entry) (log log' : List Entry) (id : ℕ) (e : Entry) → IsWith x log log' → find (has_id id) log' ≡ Some e → nat_eq x.id e.id ≡ false
    → IsOther x.id x.origin e.id e.origin
other_entry x log log' id e w found other = record {
  number = other;
  call = false_from_ne_true (same_call_origin x.origin e.origin)
      (λ t. clash x e log' id x.origin refl w.distinct (λ c n from. w.calls c n ∙ rw from refl) found other t);
}

pub all_with : (P P' : Entry → Type 0) (x : Entry) (log log' : List Entry) → IsWith x log log' → P' x
    → ((e : Entry) → IsOther x.id x.origin e.id e.origin → P e → P' e) → All P log → All P' log'
all_with P P' x log log' w here others all = all_by_found P' log' w.distinct (λ id e found. elim (cases_Bool (nat_eq x.id id)) [
  | inl is ↦ (let this : Some x ≡ Some e = (sym (w.found id ∙ rw is refl)) ∙ found in let one : x ≡ e = cc in subst P' one here)
  | inr other ↦ (let there : find (has_id id) log ≡ Some e = (sym (w.found id ∙ rw other refl)) ∙ found in
      let is : e.id ≡ id = eqb-true e.id id (splits (has_id id) log e there).passes in
      let apart : nat_eq x.id e.id ≡ false = ap (nat_eq x.id) is ∙ other in
      others e (other_entry x log log' id e w found apart) (found_all P (has_id id) log e all there))
])
