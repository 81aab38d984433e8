-- How an entry was made, found along the rows of its number's key from the last of them back: the first counts.
use Rattle.std.proofs.Common.{◌≡◌, ◌+◌, ◌-◌, ◌<◌, ◌≤◌, ℕ, Bool, true, false, cond, List, [], ◌∷◌, Bor, Option, Some, None, length, map, take, get_or, nat_eq, refl, sym, ap, ◌∙◌, arith, add-one, eq-eqb, eqb-true, take-suc}
use Rattle.std.specs.Option.{option_copied, option_or}
use Rattle.std.proofs.lemmas.List.{length-take-le, take-map, take-take}
use Rattle.std.proofs.lemmas.List.Sums.{fold-append}
use Rattle.lang_lists.specs.Ends.{last_end}
use Rattle.lang_lists.proofs.SearchLemmas.{IsQuiet, IsSought, sought_first, sought_next}
use Rattle.journal_rows.specs.Keys.{row_key}
use Rattle.journal_rows.specs.Words.{asked, asked_step, first_asked}
use Rattle.journal_rows.specs.declared.callee.AskedRow.{AskedRow}
use Rattle.journal_rows.specs.declared.row.Row.{Row}
use Rattle.journal_rows.specs.declared.row.Row.TheVariants.{Asked}

or_none : {A : Type 0} (o : Option A) → option_or o None ≡ o
or_none None = refl
or_none (Some a) = refl

or_or : {A : Type 0} (o p q : Option A) → option_or (option_or o p) q ≡ option_or o (option_or p q)
or_or None p q = refl
or_or (Some a) p q = refl

-- the first of two that are lent
pub or_lent : {A : Type 0} (o p : Option (Bor A)) → option_copied (option_or o p) ≡ option_or (option_copied o) (option_copied p)
or_lent None p = refl
or_lent (Some a) p = refl

-- ---- a row that doesn't make the entry

number_other : (m n : ℕ) → nat_eq m n ≡ false → (b : Bool) → nat_eq n m ≡ b → b ≡ false
number_other m n differs true same = (let back : nat_eq m n ≡ true = eq-eqb m n (sym (eqb-true n m same)) in cc)
number_other m n differs false same = refl

not_made : (b : Bool) (one s : Option AskedRow) → b ≡ false → cond b one s ≡ s
not_made true one s h = cc
not_made false one s h = refl

asked_stays : (id : ℕ) (s : Option AskedRow) (row : Row) → nat_eq id (row_key row) ≡ false → asked_step id s row ≡ s
asked_stays id s (Asked a) differs = not_made (nat_eq a.id id) (first_asked s a) s (number_other id a.id differs (nat_eq a.id id) refl)
asked_stays id s row differs = refl

asked_quiet : (id : ℕ) → IsQuiet row_key (asked_step id) id
asked_quiet id = record { stays = asked_stays id }

-- what was found before stays
or_made : (b : Bool) (a : AskedRow) (s : Option AskedRow) → cond b (first_asked s a) s ≡ option_or s (cond b (Some a) None)
or_made true a None = refl
or_made true a (Some first) = refl
or_made false a None = refl
or_made false a (Some first) = refl

step_or : (id : ℕ) (s : Option AskedRow) (row : Row) → asked_step id s row ≡ option_or s (asked_step id None row)
step_or id s (Asked a) = or_made (nat_eq a.id id) a s
step_or id s row = sym (or_none s)

-- ---- the search

-- leaves what it is given as it is
abbrev still : Option AskedRow → Row → Option AskedRow
still s row = s

still_quiet : (id : ℕ) → IsQuiet row_key still id
still_quiet id = record { stays = λ s row differs. refl }

-- the entry was made by the first row up to this end that makes it, or else so; a row of its key stands at the end
pub record IsMadeSo (id : ℕ) (rows : List Row) (end : ℕ) (first : Option AskedRow) : Type 0 where
  pub at : IsSought row_key still id None rows end
  pub same : asked id rows ≡ option_or (asked id (take end rows)) first

pub made_first : (id : ℕ) (rows : List Row) (end : ℕ) → end ≡ last_end (nat_eq id) (map row_key rows) → IsMadeSo id rows end None
made_first id rows end is = record {
  at = sought_first row_key still id (still_quiet id) None rows end is;
  same = (sought_first row_key (asked_step id) id (asked_quiet id) None rows end is).same ∙ sym (or_none (asked id (take end rows)));
}

-- with one row more
up_to : (id : ℕ) (rows : List Row) (n : ℕ) (row : Row) → n < length rows → row ≡ get_or rows n row → asked id (take (n + 1) rows) ≡ option_or (asked id (take n rows)) (asked_step id None row)
up_to id rows n row lt is =
    rw (add-one, take-suc rows n row lt) (fold-append (asked_step id) None (take n rows) (get_or rows n row ∷ []))
    ∙ ap (asked_step id (asked id (take n rows))) (sym is)
    ∙ step_or id (asked id (take n rows)) row

-- from a place back to the last row of the key before it
back_to : (id : ℕ) (rows : List Row) (n next : ℕ) → n ≤ length rows → next ≡ last_end (nat_eq id) (map row_key (take n rows)) → asked id (take n rows) ≡ asked id (take next rows)
back_to id rows n next le is =
    let at = sought_first row_key (asked_step id) id (asked_quiet id) None (take n rows) next is in
    at.same ∙ ap (asked id) (take-take next n rows (omega (arith, at.within, length-take-le n rows le)))

pub made_next : (id : ℕ) (rows : List Row) (end next : ℕ) (row : Row) (first : Option AskedRow) → IsMadeSo id rows end first → 0 < end → row ≡ get_or rows (end - 1) row
    → next ≡ last_end (nat_eq (get_or (map row_key rows) (end - 1) 0)) (take (end - 1) (map row_key rows)) → IsMadeSo id rows next (option_or (asked_step id None row) first)
made_next id rows end next row first so some is found =
    let n = end - 1 in
    let within : n < length rows = omega (arith, so.at.within, some) in
    let there : next ≡ last_end (nat_eq id) (map row_key (take n rows)) =
    found ∙ ap (λ k. last_end (nat_eq k) (take n (map row_key rows))) (so.at.keyed some) ∙ ap (last_end (nat_eq id)) (take-map row_key n rows) in
    let e : end ≡ n + 1 = omega (arith, some) in
    let here = asked_step id None row in
    record {
      at = sought_next row_key still id (still_quiet id) None rows end next row so.at some is refl found;
      same =
          so.same
          ∙ ap (λ k. option_or (asked id (take k rows)) first) e
          ∙ ap (λ (o : Option AskedRow). option_or o first) (up_to id rows n row within is)
          ∙ or_or (asked id (take n rows)) here first
          ∙ ap (λ (o : Option AskedRow). option_or o (option_or here first)) (back_to id rows n next (omega (arith, within)) there);
    }

pub made_last : (id : ℕ) (rows : List Row) (end : ℕ) (first : Option AskedRow) → IsMadeSo id rows end first → end ≡ 0 → asked id rows ≡ first
made_last id rows end first so none = so.same ∙ ap (λ k. option_or (asked id (take k rows)) first) none
