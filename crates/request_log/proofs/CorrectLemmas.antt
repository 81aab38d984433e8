-- A program in place of another one, for each entry that has it: what the loop over the entries leaves, and that a log is one still.
use Rattle.std.proofs.Common.{◌≡◌, ℕ, zero, suc, ◌+◌, ◌<◌, ◌≤◌, Bool, true, false, cond, List, [], ◌∷◌, ◌++◌, length, map, set, get_or, take, Option, Some, None, find, nat_eq, refl, sym, ap, ◌∙◌, subst, arith, add-one}
use Rattle.std.proofs.lemmas.List.{length-map, take_all}
use Rattle.lang_programs.specs.Numbered.{Numbered}
use Rattle.request_log.specs.declared.entry.Entry.{Entry}
use Rattle.request_log.specs.declared.folded.Folded.{Folded}
use Rattle.request_log.specs.Corrections.{all_given, given, given_for}
use Rattle.request_log.specs.Entries.{corrected, find_call, has_id, has_program, with_correction, IsDistinct, IsNew}
use Rattle.request_log.specs.Folded.{as_entry, whole}
use Rattle.request_log.specs.Keys.{entry_key, number_of, origin_key, IsIndexed}
use Rattle.request_log.proofs.EntryLemmas.{find_call-is, from_call, not_first, nowhere}
use Rattle.request_log.proofs.FoldedLemmas.{Leaves}

-- ---- the loop

pub length_given : (gs : List (Option Numbered)) (es : List Entry) → length (all_given gs es) ≡ length es
length_given [] es = refl
length_given (g ∷ gs) [] = refl
length_given (g ∷ gs) (e ∷ es) = ap suc (length_given gs es)

given_suc : (gs : List (Option Numbered)) (es : List Entry) (i : ℕ) (g : Option Numbered) (e : Entry) → i < length gs → i < length es → g ≡ get_or gs i g
    → e ≡ get_or (all_given (take i gs) es) i e → set (all_given (take i gs) es) i (given g e) ≡ all_given (take (suc i) gs) es
given_suc [] es i g e lt within is at = absurd (omega arith)
given_suc (x ∷ gs) [] i g e lt within is at = absurd (omega arith)
given_suc (x ∷ gs) (y ∷ es) zero g e lt within is at = ap (λ z. given z e ∷ es) is ∙ ap (λ z. given x z ∷ es) at
given_suc (x ∷ gs) (y ∷ es) (suc i) g e lt within is at = ap (λ l. given x y ∷ l) (given_suc gs es i g e (omega arith) (omega arith) is at)

-- one entry more was given its program
pub given_more : (gs : List (Option Numbered)) (es xs : List Entry) (i : ℕ) (g : Option Numbered) (e : Entry) → i < length gs → i < length es → g ≡ get_or gs i g
    → xs ≡ all_given (take i gs) es → e ≡ get_or xs i e → set xs i (given g e) ≡ all_given (take (i + 1) gs) es
given_more gs es xs i g e lt within is left at =
    let A : List Entry → Type 0 = λ l. e ≡ get_or l i e in
    rw add-one (ap (λ l. set l i (given g e)) left ∙ given_suc gs es i g e lt within is (subst A left at))

pub all_taken : (gs : List (Option Numbered)) (es xs : List Entry) (n : ℕ) → length gs ≤ n → xs ≡ all_given (take n gs) es → xs ≡ all_given gs es
all_taken gs es xs n many left = left ∙ ap (λ l. all_given l es) (take_all n gs many)

given_by : (p : Numbered) (e : Entry) (b : Bool) → given (cond b (Some p) None) e ≡ cond b (with_correction p e) e
given_by p e true = refl
given_by p e false = refl

-- where each is given what it is for its number, the program stands in place of that of the number
pub all_corrected : (number : ℕ) (p : Numbered) (es : List Entry) → all_given (map (given_for number p) es) es ≡ map (corrected number p) es
all_corrected number p [] = refl
all_corrected number p (e ∷ es) = let here = given_by p e (has_program number e) in let rest = all_corrected number p es in (λ i. here i ∷ rest i)

-- ---- the log

leaves_by_id : (p : Numbered) (e : Entry) (b : Bool) → (cond b (with_correction p e) e).id ≡ e.id
leaves_by_id p e true = refl
leaves_by_id p e false = refl

leaves_by_origin : (p : Numbered) (e : Entry) (b : Bool) → (cond b (with_correction p e) e).origin ≡ e.origin
leaves_by_origin p e true = refl
leaves_by_origin p e false = refl

pub corrected_leaves : (number : ℕ) (p : Numbered) → Leaves (corrected number p)
corrected_leaves number p = record {
  id = λ e. leaves_by_id p e (has_program number e);
  origin = λ e. leaves_by_origin p e (has_program number e);
}

none_behind : (p : Entry → Bool) (f : Entry → Entry) → ((e : Entry) → p (f e) ≡ p e) → (front es : List Entry) → find p (front ++ es) ≡ None → find p (front ++ map f es) ≡ None
none_behind p f same [] [] n = n
none_behind p f same [] (e ∷ es) n =
    let parts = not_first (p e) e (find p es) n in
    nowhere (p (f e)) (f e) (find p (map f es)) (same e ∙ parts.0) (none_behind p f same [] es parts.1)
none_behind p f same (x ∷ front) es n =
    let parts = not_first (p x) x (find p (front ++ es)) n in
    nowhere (p x) x (find p (front ++ map f es)) parts.0 (none_behind p f same front es parts.1)

module _ (f : Entry → Entry) (leaves : Leaves f) where
  new_behind : (x : Entry) (front es : List Entry) → IsNew x (front ++ es) → IsNew x (front ++ map f es)
  new_behind x front es new = record {
    id = none_behind (has_id x.id) f (λ e. ap (λ n. nat_eq n x.id) (leaves.id e)) front es new.id;
    origin = find_call-is x.origin (front ++ map f es)
        ∙ none_behind (λ e. from_call x.origin e.origin) f (λ e. ap (from_call x.origin) (leaves.origin e)) front es (sym (find_call-is x.origin (front ++ es)) ∙ new.origin);
  }

  new_changed : (x : Entry) (es : List Entry) → IsNew x es → IsNew (f x) es
  new_changed x es new = record {
    id = ap (λ n. find (has_id n) es) (leaves.id x) ∙ new.id;
    origin = ap (λ o. find_call o es) (leaves.origin x) ∙ new.origin;
  }

  -- those behind others, changed so
  pub distinct_behind : (front es : List Entry) → IsDistinct (front ++ es) → IsDistinct (front ++ map f es)
  distinct_behind [] [] d = d
  distinct_behind [] (e ∷ es) d = (new_changed e (map f es) (new_behind e [] es d.0), distinct_behind [] es d.1)
  distinct_behind (x ∷ front) es d = (new_behind x front es d.0, distinct_behind front es d.1)

  numbers_left : (es : List Entry) → map number_of (map f es) ≡ map number_of es
  numbers_left [] = refl
  numbers_left (e ∷ es) = let here = leaves.id e in let rest = numbers_left es in (λ i. here i ∷ rest i)

  keys_left : (es : List Entry) → map entry_key (map f es) ≡ map entry_key es
  keys_left [] = refl
  keys_left (e ∷ es) =
      let here : entry_key (f e) ≡ entry_key e = ap (λ n. origin_key n (f e).origin) (leaves.id e) ∙ ap (origin_key e.id) (leaves.origin e) in
      let rest = keys_left es in
      (λ i. here i ∷ rest i)

  log_changed : (fs : List Folded) (es new : List Entry) (ns os : List ℕ) → new ≡ map f es → IsIndexed fs es ns os → IsIndexed fs new ns os
  log_changed fs es new ns os is log =
      let D : List Entry → Type 0 = λ l. IsDistinct l in
      let W : List Entry → Type 0 = λ l. IsDistinct (whole fs l) in
      let many = ap length is ∙ length-map es f in
      record {
        log = record {
          distinct = subst D (sym is) (distinct_behind [] es log.log.distinct);
          few = omega (arith, log.log.few);
        };
        apart = subst W (sym is) (distinct_behind (map as_entry fs) es log.apart);
        by_number = log.by_number ∙ sym (ap (map number_of) is ∙ numbers_left es);
        by_origin = log.by_origin ∙ sym (ap (map entry_key) is ∙ keys_left es);
      }

-- a log after a program was put in place of another one
pub log_corrected : (number : ℕ) (p : Numbered) (fs : List Folded) (es new : List Entry) (ns os : List ℕ) → new ≡ all_given (map (given_for number p) es) es → IsIndexed fs es ns os
    → IsIndexed fs new ns os
log_corrected number p fs es new ns os is log =
    log_changed (corrected number p) (corrected_leaves number p) fs es new ns os (is ∙ all_corrected number p es) log
