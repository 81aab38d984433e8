-- First faults: where there is none, and where nothing else is found.
use Rattle.std.proofs.Common.{◌≡◌, ℕ, suc, ◌<◌, Bool, true, false, cond, List, [], ◌∷◌, Option, Some, None, Result, Ok, Err, slice_index_or, length, ◌⊎◌, inl, inr, zero, refl, sym, ap, subst, ◌∙◌, arith}
use Rattle.std.specs.List.{Any, AllByRecursion}
use Rattle.lang_core.specs.declared.cells.Cell.{Cell}
use Rattle.dump_tables.specs.declared.dump.DumpEntry.{DumpEntry}
use Rattle.dump_tables.specs.declared.dump.DumpService.{DumpService}
use Rattle.dump_audit.specs.Judging.{Found, first_failing, first_in, found_in, found_or, goes_on}
use Rattle.dump_audit.specs.declared.judged.Fault.{Fault}
use Rattle.dump_audit.specs.declared.judged.Judged.{Judged}
use Rattle.dump_audit.specs.declared.judged.Judged.TheVariants.{Legal}

-- ---- of services

found_legal : (me : List ℕ) (found : Found) (behind : Option Judged) (later : Judged) → found_or (found_in me found behind) later ≡ Legal
    → (found ≡ None) × (found_or behind later ≡ Legal)
found_legal me None behind later e = (refl, e)
found_legal me (Some f) behind later e = absurd cc

pub none_in : (kind : DumpService → Found) (services : List DumpService) (later : Judged) → found_or (first_in kind services) later ≡ Legal
    → AllByRecursion (λ s. kind s ≡ None) services × (later ≡ Legal)
none_in kind [] later e = (tt, e)
none_in kind (s ∷ services) later e =
    let here = found_legal s.setting.me (kind s) (first_in kind services) later e in
    let rest = none_in kind services later here.1 in
    ((here.0, rest.0), rest.1)

pub in_none : (kind : DumpService → Found) (services : List DumpService) (later : Judged) → AllByRecursion (λ s. kind s ≡ None) services
    → later ≡ Legal → found_or (first_in kind services) later ≡ Legal
in_none kind [] later each e = e
in_none kind (s ∷ services) later each e =
    ap (λ (f : Found). found_or (found_in s.setting.me f (first_in kind services)) later) each.0 ∙ in_none kind services later each.1 e

-- ---- of entries

none_by : (b : Bool) (id : ℕ) (what : Fault) (later : Found) → cond b later (Some (id, what)) ≡ None → (b ≡ true) × (later ≡ None)
none_by true id what later h = (refl, h)
none_by false id what later h = absurd cc

pub none_failing : (what : Fault) (test : DumpEntry → Bool) (entries : List DumpEntry) → first_failing what test entries ≡ None
    → AllByRecursion (λ e. test e ≡ true) entries
none_failing what test [] h = tt
none_failing what test (e ∷ entries) h =
    let here = none_by (test e) e.id what (first_failing what test entries) h in
    (here.0, none_failing what test entries here.1)

pub failing_none : (what : Fault) (test : DumpEntry → Bool) (entries : List DumpEntry) → AllByRecursion (λ e. test e ≡ true) entries
    → first_failing what test entries ≡ None
failing_none what test [] each = refl
failing_none what test (e ∷ entries) each =
    ap (λ (b : Bool). cond b (first_failing what test entries) (Some (e.id, what))) each.0 ∙ failing_none what test entries each.1

-- ---- of a replay

pub record WentOn (r : Result (List Cell) Fault) (next : List Cell → Found) : Type 0 where
  pub rows : List Cell
  pub is : r ≡ Ok rows
  pub later : next rows ≡ None

pub goes_none : (id : ℕ) (r : Result (List Cell) Fault) (next : List Cell → Found) → goes_on id r next ≡ None → WentOn r next
goes_none id (Ok rows) next h = record { rows = rows; is = refl; later = h }
goes_none id (Err what) next h = absurd cc

-- ---- one among some

pub any_here : {X : Type 0} (P : X → Type 0) (x : X) (xs : List X) → P x → Any P (x ∷ xs)
any_here P x xs p = (0, x, omega arith, refl, p)

pub any_there : {X : Type 0} (P : X → Type 0) (y : X) (xs : List X) → Any P xs → Any P (y ∷ xs)
any_there P y xs a = (suc a.0, a.1, (let within = a.2 in omega (arith, within)), a.3, a.4)

pub any_none : {X : Type 0} (P : X → Type 0) → ¬ Any P []
any_none P a = let within = a.2 in absurd (omega (arith, within))

any_at : {X : Type 0} (P : X → Type 0) (y : X) (xs : List X) (k : ℕ) (x : X) → k < length (y ∷ xs) → slice_index_or (y ∷ xs) k x ≡ x → P x → P y ⊎ Any P xs
any_at P y xs zero x within is p = inl (subst P (sym is) p)
any_at P y xs (suc k) x within is p = inr (k, x, omega (arith, within), is, p)

pub any_cases : {X : Type 0} (P : X → Type 0) (y : X) (xs : List X) → Any P (y ∷ xs) → P y ⊎ Any P xs
any_cases P y xs a = any_at P y xs a.0 a.1 a.2 a.3 a.4
