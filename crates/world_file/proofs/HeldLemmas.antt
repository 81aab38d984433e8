-- Services as the code holds them.
use Rattle.std.proofs.Common.{◌≡◌, ℕ, zero, suc, ◌<◌, Bool, true, false, ◌||◌, List, [], ◌∷◌, length, get_or, map, refl, ap, arith}
use Rattle.lang_base.specs.Texts.{same_text}
use Rattle.world_file.specs.Fields.{Fields, Read}
use Rattle.world_file.specs.Spelled.{members_seen, standard_of, standard_read}
use Rattle.world_file.specs.Standard.{good}
use Rattle.world_file.specs.Worlds.{is_taken}
use Rattle.world_file.specs.declared.members.Member.{Member as Held}
use Rattle.world_file.specs.declared.standard.Standard.{Standard}

or_true : (a : Bool) → (a || true) ≡ true
or_true true = refl
or_true false = refl

-- a name that stands at one place is taken
pub taken_at : (members : List Held) (i : ℕ) (m : Held) (name : List ℕ) → i < length members → m ≡ get_or members i m → same_text m.spelled.name name ≡ true → is_taken (members_seen members) name ≡ true
taken_at [] i m name inside is same = absurd (omega (arith, inside))
taken_at (first ∷ members) zero m name inside is same = let here : same_text first.spelled.name name ≡ true = rw (← is) same in rw here refl
taken_at (first ∷ members) (suc i) m name inside is same =
    rw (taken_at members i m name (omega (arith, inside)) is same) (or_true (same_text first.spelled.name name))

-- what a file would say of each is read
pub standards_read : (services : List Standard) → map good (map standard_of services) ≡ map standard_read services
standards_read [] = refl
standards_read (s ∷ services) = ap (λ (more : List (Read Fields)). standard_read s ∷ more) (standards_read services)
