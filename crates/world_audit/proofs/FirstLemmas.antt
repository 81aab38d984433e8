-- The first of something, by service.
use Rattle.std.proofs.Common.{◌≡◌, ℕ, ◌<◌, List, [], ◌∷◌, length, get_or, All, IsSomeAnd, slice_get, subst, arith}
use Rattle.std.specs.List.{AllWithin, HoldsAt}
use Rattle.std.proofs.lemmas.List.{get_or_default}
use Rattle.world_agreement.proofs.HandedOn.{none_first}
use Rattle.flights.specs.declared.flight.Flight.{Flight}
use Rattle.service_events.specs.State.{Kept, answers, base, unfolded}
use Rattle.world_agreement.specs.Partners.{HasPartner}
use Rattle.world_audit.specs.First.{IsFirstWithout}
use Rattle.world_audit.specs.Verdicts.{IsAcknowledged, IsFetched, IsGiven, NoneOf, IsFirstIn, IsFirstOf, IsJoinedIn, IsForged}
use Rattle.world_audit.specs.declared.outstanding.OutstandingKind.{OutstandingKind}
use Rattle.world_audit.specs.declared.outstanding.OutstandingKind.TheVariants.{Flights, Entries, Calls, Fetches, Answers}

-- where there is a first without it, not all have it
pub not_all : {X : Type 0} (P : X → Type 0) (xs : List X) (place : ℕ) → IsFirstWithout P xs place → ¬ (All P xs)
not_all P [] place f all = absurd (omega (arith, f.0))
not_all P (x ∷ xs) place f all = f.2 x (all place x f.0)

-- what holds of the element that was read holds there
pub held_at : {X : Type 0} (P : X → Type 0) (xs : List X) (k : ℕ) (x : X) → k < length xs → x ≡ get_or xs k x → P x → HoldsAt P xs k
held_at {X} P xs k x l is h d = subst P (get_or_default xs k x d l) (subst P is h)

first_without : {X : Type 0} (P : X → Type 0) (xs : List X) (k : ℕ) (x : X) → k < length xs → AllWithin P xs 0 k → x ≡ get_or xs k x → ¬ (P x) → IsFirstWithout P xs k
first_without P xs k x l before is lacks = (l, before, held_at (λ y. ¬ (P y)) xs k x l is lacks)

none_flying : (fs : List Flight) (n : ℕ) → IsSomeAnd (slice_get fs 0) (λ f. f.id ≡ n) → ¬ (fs ≡ [])
none_flying [] n f none = f
none_flying (g ∷ gs) n f none = cc

not_done : (kind : OutstandingKind) (s : Kept) (number : ℕ) → IsFirstIn kind s number → ¬ (NoneOf kind s)
not_done Flights s number f done = none_flying s.flights number f done
not_done Entries s number f done = none_first (answers s) (base s) (unfolded s) f.place done f.first
not_done Calls s number f done = not_all IsAcknowledged s.registers f.place f.first done
not_done Fetches s number f done = not_all IsFetched s.registers f.place f.first done
not_done Answers s number f done = not_all IsGiven s.replies f.place f.first done

pub found_first : (kind : OutstandingKind) (services : List Kept) (at number : ℕ) (s : Kept) → at < length services → AllWithin (NoneOf kind) services 0 at → s ≡ get_or services at s
    → IsFirstIn kind s number → IsFirstOf kind services at number
found_first kind services at number s l before is f = record {
  service = first_without (NoneOf kind) services at s l before is (not_done kind s number f);
  first = held_at (λ x. IsFirstIn kind x number) services at s l is f;
}

pub found_forged : (services : List Kept) (at index : ℕ) (s : Kept) → at < length services → AllWithin (IsJoinedIn services) services 0 at → s ≡ get_or services at s
    → IsFirstWithout (HasPartner services s) s.journal index → IsForged services at index
found_forged services at index s l before is f = record {
  service = first_without (IsJoinedIn services) services at s l before is (not_all (HasPartner services s) s.journal index f);
  row = held_at (λ x. IsFirstWithout (HasPartner services x) x.journal index) services at s l is f;
}
