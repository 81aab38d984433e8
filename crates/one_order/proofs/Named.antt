-- In a dump no two services have one name, and in none do two entries have one number, or two calls.
use Rattle.std.proofs.Common.{◌≡◌, ◌⊎◌, inl, inr, ℕ, Bool, true, false, List, [], ◌∷◌, ◌++◌, map, refl, sym, ap, ◌∙◌, subst, nat_eq, eqb-true, eq-eqb, true≢false}
use Rattle.std.specs.List.{AllByRecursion}
use Rattle.std.proofs.lemmas.Bool.{cases_Bool}
use Rattle.std.proofs.Math.Logic.{∥∥₁_elim}
use Rattle.lang_base.specs.Texts.{same_text}
use Rattle.execution.specs.Executions.{Act, History}
use Rattle.execution.specs.Together.{name_of}
use Rattle.dump_tables.specs.Kept.{AreApart as AreKeptApart, AreKept, IsKept, numbers_of, service_name}
use Rattle.dump_tables.specs.declared.dump.DumpEntry.{DumpEntry}
use Rattle.dump_tables.specs.declared.dump.DumpService.{DumpService}
use Rattle.dump_audit.specs.Histories.{act_of, histories_of}
use Rattle.one_world.specs.Certificates.{AreApart, AreNamed}
use Rattle.one_world.proofs.Lists.{same_is, same_self}
use Rattle.one_order.proofs.Climbs.{AreNumbered, numbers_in}

-- ---- where equality is decided, so is whether any two are the same

module _ {X : Type 0} (eq : X → X → Bool) (sound : (x y : X) → eq x y ≡ true → x ≡ y) (self : (x : X) → eq x x ≡ true) where
  abbrev Others : X → List X → Type 0
  Others x ys = AllByRecursion (λ y. ¬ (x ≡ y)) ys

  unlike : (x y : X) → eq x y ≡ false → ¬ (x ≡ y)
  unlike x y isnt same = true≢false (sym (subst (λ z. eq x z ≡ true) same (self x)) ∙ isnt)

  with_other : (x y : X) (ys : List X) → (eq x y ≡ true) ⊎ (eq x y ≡ false) → Others x ys ⊎ ¬ (Others x ys) → Others x (y ∷ ys) ⊎ ¬ (Others x (y ∷ ys))
  with_other x y ys (inl is) rest = inr (λ all. all.0 (sound x y is))
  with_other x y ys (inr isnt) (inl rest) = inl (unlike x y isnt, rest)
  with_other x y ys (inr isnt) (inr never) = inr (λ all. never all.1)

  others_decided : (x : X) (ys : List X) → Others x ys ⊎ ¬ (Others x ys)
  others_decided x [] = inl tt
  others_decided x (y ∷ ys) = with_other x y ys (cases_Bool (eq x y)) (others_decided x ys)

  with_first : (x : X) (xs : List X) → Others x xs ⊎ ¬ (Others x xs) → AreApart xs ⊎ ¬ (AreApart xs) → AreApart (x ∷ xs) ⊎ ¬ (AreApart (x ∷ xs))
  with_first x xs (inl first) (inl rest) = inl (first, rest)
  with_first x xs (inl first) (inr never) = inr (λ all. never all.1)
  with_first x xs (inr never) rest = inr (λ all. never all.0)

  apart_decided : (xs : List X) → AreApart xs ⊎ ¬ (AreApart xs)
  apart_decided [] = inl tt
  apart_decided (x ∷ xs) = with_first x xs (others_decided x xs) (apart_decided xs)

  -- what isn't refuted holds
  apart_really : (xs : List X) → ((AreApart xs → ⊥) → ⊥) → AreApart xs
  apart_really xs really = elim (apart_decided xs) [
    | inl apart ↦ apart
    | inr never ↦ absurd (really never)
  ]

kept_apart : {X : Type 0} (xs : List X) → AreKeptApart xs → AreApart xs
kept_apart [] apart = tt
kept_apart (x ∷ xs) apart = (apart.0, kept_apart xs apart.1)

-- ---- names and numbers of a dump

numbers_apart : (ns : List ℕ) → ((AreApart ns → ⊥) → ⊥) → AreApart ns
numbers_apart ns really = apart_really nat_eq (λ x y e. eqb-true x y e) (λ x. eq-eqb x x refl) ns really

names_apart : (ns : List (List ℕ)) → ((AreApart ns → ⊥) → ⊥) → AreApart ns
names_apart ns really = apart_really same_text same_is same_self ns really

all_names : (services : List DumpService) → map name_of (histories_of services) ≡ map service_name services
all_names [] = refl
all_names (s ∷ services) = ap (λ ns. s.setting.me ∷ ns) (all_names services)

all_numbers : (entries : List DumpEntry) → map (λ (a : Act). a.id) (map act_of entries) ≡ map (λ (e : DumpEntry). e.id) entries
all_numbers [] = refl
all_numbers (e ∷ entries) = ap (λ ns. e.id ∷ ns) (all_numbers entries)

ids_apart : (services : List DumpService) → ((AllByRecursion IsKept services → ⊥) → ⊥)
    → AllByRecursion (λ (h : History). AreApart (map (λ (a : Act). a.id) h.acts)) (histories_of services)
ids_apart [] really = tt
ids_apart (s ∷ services) really = (
  numbers_apart (map (λ (a : Act). a.id) (map act_of s.entries))
      (λ never. really (λ all. never (subst AreApart (sym (all_numbers s.entries)) (kept_apart (map (λ (e : DumpEntry). e.id) s.entries) all.0.ids)))),
  ids_apart services (λ never. really (λ all. never all.1)),
)

pub kept_named : (services : List DumpService) → ∥ AreKept services ∥₁ → AreNamed (histories_of services)
kept_named services kept =
    let really : (AreKept services → ⊥) → ⊥ = λ never. ∥∥₁_elim kept (λ a b. absurd a) never in
    record {
      names = names_apart (map name_of (histories_of services))
          (λ never. really (λ k. never (subst AreApart (sym (all_names services)) (kept_apart (map service_name services) k.names))));
      ids = ids_apart services (λ never. really (λ k. never k.each));
    }

all_calls : (entries : List DumpEntry) → numbers_in (map act_of entries) ≡ numbers_of entries
all_calls [] = refl
all_calls (e ∷ entries) = ap (λ ns. e.numbers ++ ns) (all_calls entries)

calls_apart : (services : List DumpService) → ((AllByRecursion IsKept services → ⊥) → ⊥) → AreNumbered (histories_of services)
calls_apart [] really = tt
calls_apart (s ∷ services) really = (
  numbers_apart (numbers_in (map act_of s.entries))
      (λ never. really (λ all. never (subst AreApart (sym (all_calls s.entries)) (kept_apart (numbers_of s.entries) all.0.numbers)))),
  calls_apart services (λ never. really (λ all. never all.1)),
)

pub kept_numbered : (services : List DumpService) → ∥ AreKept services ∥₁ → AreNumbered (histories_of services)
kept_numbered services kept =
    let really : (AreKept services → ⊥) → ⊥ = λ never. ∥∥₁_elim kept (λ a b. absurd a) never in
    calls_apart services (λ never. really (λ k. never k.each))
