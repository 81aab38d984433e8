-- The entries of a service that fits its journal, as local repair wants them: each has the calls of its slots, and no slot stands twice.
use Rattle.std.proofs.Common.{ℕ, zero, suc, ◌+◌, ◌<◌, ◌≤◌, List, [], ◌∷◌, ◌++◌, All, AllPairs, Contains, map, length, get_or, refl, ap, arith, sym, ◌∙◌}
use Rattle.std.proofs.lemmas.List.Kept.{AllPairs-cons}
use Rattle.request_log.specs.declared.entry.Entry.{Entry}
use Rattle.local_repair.specs.Settling.{HasItsSlots}
use Rattle.local_repair.specs.Steps.{calls_of_made, StandOnce, AreApart}
use Rattle.call_registers.specs.Registers.{IsNumbered}
use Rattle.call_registers.specs.declared.register.Register.{Register}
use Rattle.service_events.specs.Fits.{NumberedCalls, FitsPlaces, WantsItsCalls, calls_of_entry, count, times_held, wanted_call, Fits, calls_of_flight}
use Rattle.service_events.proofs.CallRowLemmas.{Each, each_of_all, each_front, all_of_each}
use Rattle.service_events.proofs.PlaceLemmas.{lengths, times_held-append}
use Rattle.service_events.proofs.EntryPlaces.{Stands}
use Rattle.service_parts.proofs.SettledLaws.{counted, once_each, one_most, wanted_within}
use Rattle.std.proofs.lemmas.List.{map-append}
use Rattle.std.proofs.lemmas.List.Elements.{All-drop}
use Rattle.service_events.specs.State.{Kept, folded, unfolded}
use Rattle.service_events.proofs.HorizonLemmas.{all_entries}

-- what stands in an entry stands in no other one
each_away : (e : Entry) (es : List Entry) → ((n : ℕ) → count n e.slots + times_held n (map calls_of_entry es) ≤ 1) → Each (λ (f : Entry). (n : ℕ) → Contains e.slots n → Contains f.slots n → ⊥) es
each_away e [] h = tt
each_away e (f ∷ fs) h = (
  λ n here there. (let most = h n in let mine = counted n e.slots here in let theirs = counted n f.slots there in omega (arith, most, mine, theirs)),
  each_away e fs (λ n. (let most = h n in omega (arith, most))),
)

pairs_apart : (es : List Entry) → ((n : ℕ) → times_held n (map calls_of_entry es) ≤ 1) → AllPairs (λ (e f : Entry). (n : ℕ) → Contains e.slots n → Contains f.slots n → ⊥) es
pairs_apart [] h = none
  where
    none : AllPairs (λ (e f : Entry). (n : ℕ) → Contains e.slots n → Contains f.slots n → ⊥) []
    none i j d before within = absurd (omega (arith, within))
pairs_apart (e ∷ es) h =
    AllPairs-cons (λ (e f : Entry). (n : ℕ) → Contains e.slots n → Contains f.slots n → ⊥) e es
    (all_of_each (λ (f : Entry). (n : ℕ) → Contains e.slots n → Contains f.slots n → ⊥) es (each_away e es h))
    (pairs_apart es (λ n. (let most = h n in omega (arith, most))))

each_once : (es : List Entry) → ((n : ℕ) → times_held n (map calls_of_entry es) ≤ 1) → Each (λ (e : Entry). StandOnce e.slots) es
each_once [] h = tt
each_once (e ∷ es) h = (once_each e.slots (λ n. (let most = h n in omega (arith, most))), each_once es (λ n. (let most = h n in omega (arith, most))))

each_given : (last : ℕ) (es : List Entry) → ((n : ℕ) → 0 < times_held n (map calls_of_entry es) → n ≤ last) → Each (λ (e : Entry). (n : ℕ) → Contains e.slots n → n ≤ last) es
each_given last [] h = tt
each_given last (e ∷ es) h = (
  λ n here. h n (let some = counted n e.slots here in omega (arith, some)),
  each_given last es (λ n some. h n (omega (arith, some))),
)

each_own : (rs : List Register) (es : List Entry) → Each (WantsItsCalls rs) (map calls_of_entry es) → Each HasItsSlots es
each_own rs [] h = tt
each_own rs (e ∷ es) h = (lengths rs e.slots (calls_of_made e.made) h.0, each_own rs es h.1)

module _ (rs : List Register) (es : List Entry) (ps : List NumberedCalls) (numbered : IsNumbered rs) (fits : FitsPlaces rs (map calls_of_entry es ++ ps)) where
  among : (n : ℕ) → times_held n (map calls_of_entry es) ≤ 1
  among n =
      (let total = fits.once n in let sum = times_held-append n (map calls_of_entry es) ps in let most = one_most (wanted_call rs n) in omega (arith, total, sum, most))

  -- each entry has as many slots as calls
  pub own_slots : All HasItsSlots es
  own_slots = all_of_each HasItsSlots es (each_own rs es (each_front (WantsItsCalls rs) (map calls_of_entry es) ps (each_of_all (WantsItsCalls rs) (map calls_of_entry es ++ ps) fits.calls)))

  -- no slot stands twice, and each was given
  pub all_apart : AreApart (length rs) es
  all_apart = record {
    apart = pairs_apart es among;
    once = all_of_each (λ (e : Entry). StandOnce e.slots) es (each_once es among);
    given = all_of_each (λ (e : Entry). (n : ℕ) → Contains e.slots n → n ≤ length rs) es
        (each_given (length rs) es (λ n some. (let total = fits.once n in let sum = times_held-append n (map calls_of_entry es) ps in
        wanted_within rs n numbered (omega (arith, some, total, sum)))));
  }

-- the entry at a place stands between others
pub stands_at : (es : List Entry) (k : ℕ) (d : Entry) → k < length es → Stands es (get_or es k d)
stands_at [] k d w = absurd (omega (arith, w))
stands_at (e ∷ es) zero d w = record { before = []; rest = es; is = refl }
stands_at (e ∷ es) (suc k) d w =
    (let later = stands_at es k d (omega (arith, w)) in record { before = e ∷ later.before; rest = later.rest; is = ap (λ xs. e ∷ xs) later.is })

-- ---- of a service, the entries that aren't folded

module _ (s : Kept) (f : Fits s) where
  pub own_behind : All HasItsSlots (unfolded s)
  own_behind = All-drop HasItsSlots s.horizon s.entries (own_slots s.registers s.entries (map calls_of_flight s.flights) f.sent.numbered f.places)

  among_behind : (n : ℕ) → times_held n (map calls_of_entry (unfolded s)) ≤ 1
  among_behind n =
      let all = among s.registers s.entries (map calls_of_flight s.flights) f.sent.numbered f.places n in
      let split = ap (λ l. times_held n (map calls_of_entry l)) (sym (all_entries s)) ∙ ap (times_held n) (map-append calls_of_entry (folded s) (unfolded s))
      ∙ times_held-append n (map calls_of_entry (folded s)) (map calls_of_entry (unfolded s)) in
      omega (arith, all, split)

  pub apart_behind : AreApart (length s.registers) (unfolded s)
  apart_behind =
      let all = all_apart s.registers s.entries (map calls_of_flight s.flights) f.sent.numbered f.places in
      record {
        apart = pairs_apart (unfolded s) among_behind;
        once = All-drop (λ (e : Entry). StandOnce e.slots) s.horizon s.entries all.once;
        given = All-drop (λ (e : Entry). (n : ℕ) → Contains e.slots n → n ≤ length s.registers) s.horizon s.entries all.given;
      }
