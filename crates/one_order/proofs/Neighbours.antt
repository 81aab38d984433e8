-- What stands directly behind an entry, found from the entry on, as a walk over its whole log would find it.
use Rattle.std.proofs.Common.{◌≡◌, ℕ, zero, suc, Bool, true, false, ◌&&◌, cond, List, [], ◌∷◌, nat_eq, nat_lt, refl, sym, ap, ◌∙◌, arith}
use Rattle.std.specs.Cmp.{nat_eq_equiv}
use Rattle.std.specs.List.{list_any}
use Rattle.std.proofs.lemmas.Bool.{lt-ltb}
use Rattle.std.proofs.Math.Logic.{∥∥₁_elim}
use Rattle.execution.specs.Executions.{survives}
use Rattle.dump_tables.specs.Indexed.{end_behind, from_end, last_end}
use Rattle.dump_tables.specs.Kept.{IsKept}
use Rattle.dump_tables.specs.declared.dump.DumpEntry.{DumpEntry}
use Rattle.dump_tables.specs.declared.dump.DumpService.{DumpService}
use Rattle.dump_tables.proofs.FoundLemmas.{any_end}
use Rattle.dump_audit.specs.Histories.{act_of}
use Rattle.dump_audit.proofs.OneLemmas.{OfOne, one_end}
use Rattle.one_order.specs.Logs.{acts_of}
use Rattle.one_order.specs.Shown.{are_next, is_front, next_behind}
use Rattle.one_world.specs.Searches.{front}
use Rattle.one_order.proofs.Lookups.{of_one_only}

abbrev is_of : ℕ → DumpEntry → Bool
is_of id e = nat_eq id e.id

-- a walk goes on behind an entry of another number
passed_by : (s b x y : Bool) → b ≡ false → cond (s && b) x y ≡ y
passed_by true b x y h = ap (λ c. cond c x y) h
passed_by false b x y h = refl

-- and ends at one of this number, which has no other behind it
stopped_at : (s b x y : Bool) → b ≡ true → y ≡ false → cond (s && b) x y ≡ (s && x)
stopped_at true b x y h none = ap (λ c. cond c x y) h
stopped_at false b x y h none = none

more_behind : (n : ℕ) → nat_lt 0 (suc n) ≡ true
more_behind n = lt-ltb 0 (suc n) (omega arith)

module _ (first second : ℕ) where
  abbrev walked : List DumpEntry → Bool
  walked entries = are_next first second (acts_of entries)

  step : (e : DumpEntry) (entries : List DumpEntry) (b : Bool) (n : ℕ) → is_of first e ≡ b → last_end (is_of first) entries ≡ n
      → (is_of first e ≡ true → list_any (is_of first) entries ≡ false) → walked entries ≡ next_behind second (from_end n entries)
      → walked (e ∷ entries) ≡ next_behind second (from_end (end_behind b n) (e ∷ entries))
  step e entries true zero here ends alone rest =
      stopped_at (survives (act_of e)) (nat_eq e.id first) (is_front second (front (acts_of entries))) (walked entries) (nat_eq_equiv.symm e.id first ∙ here) rest
  step e entries true (suc n) here ends alone rest =
      let some : false ≡ true = sym (alone here) ∙ sym (any_end (is_of first) entries) ∙ ap (nat_lt 0) ends ∙ more_behind n in
      absurd cc
  step e entries false zero here ends alone rest =
      passed_by (survives (act_of e)) (nat_eq e.id first) (is_front second (front (acts_of entries))) (walked entries) (nat_eq_equiv.symm e.id first ∙ here) ∙ rest
  step e entries false (suc n) here ends alone rest =
      passed_by (survives (act_of e)) (nat_eq e.id first) (is_front second (front (acts_of entries))) (walked entries) (nat_eq_equiv.symm e.id first ∙ here) ∙ rest

  walk : (entries : List DumpEntry) → OfOne (is_of first) entries → walked entries ≡ next_behind second (from_end (last_end (is_of first) entries) entries)
  walk [] alone = refl
  walk (e ∷ entries) alone = step e entries (is_of first e) (last_end (is_of first) entries) refl refl alone.0 (walk entries alone.1)

pub next_found : (first second : ℕ) (s : DumpService) → ∥ IsKept s ∥₁
    → are_next first second (acts_of s.entries) ≡ next_behind second (from_end (last_end (is_of first) s.entries) s.entries)
next_found first second s kept =
    walk first second s.entries (∥∥₁_elim kept (of_one_only (is_of first) s.entries) (λ k. one_end first s.entries k.ids))
