-- The queues of the registers that are to be posted.
use Rattle.std.proofs.Common.{◌≡◌, ℕ, zero, suc, ◌+◌, ◌-◌, ◌<◌, List, [], ◌∷◌, Some, length, get_or, slice_get, nat_lt, refl, sym, ap, ◌∙◌, arith}
use Rattle.std.proofs.lemmas.Option.{cond_some, slice_get-get_or}
use Rattle.lang_lists.specs.Keys.{text_key}
use Rattle.lang_lists.specs.Ages.{of_code, IsRising}
use Rattle.lang_lists.specs.declared.age_keys.AgeKey.{AgeKey}
use Rattle.call_registers.specs.Queues.{IsQueue}
use Rattle.call_registers.specs.Registers.{has_number, owes_fetch, register, CountFrom, IsNumbered}
use Rattle.call_registers.specs.Waiting.{age_key, waiting_key, AreWaiting, fetch_key, noted_key, AreFetched}
use Rattle.call_registers.specs.declared.register.Register.{Register}
use Rattle.call_registers.proofs.ChangeLemmas.{found_at}
use Rattle.call_registers.proofs.QueueLemmas.{are_oldest_first}

numbered_at-from : (m i : ℕ) (rs : List Register) (d : Register) → CountFrom m rs → i < length rs → (get_or rs i d).number ≡ m + i
numbered_at-from m i [] d h lt = absurd (omega (arith, lt))
numbered_at-from m zero (r ∷ rs) d h lt = omega (arith, h.0)
numbered_at-from m (suc i) (r ∷ rs) d h lt = let e = numbered_at-from (m + 1) i rs d h.1 (omega (arith, lt)) in omega arith

pub numbered_at : (rs : List Register) (i : ℕ) (d : Register) → IsNumbered rs → i < length rs → (get_or rs i d).number ≡ i + 1
numbered_at rs i d h lt = let e = numbered_at-from 1 i rs d h lt in omega arith

-- the register at a place is the one of its number
pub found_itself : (rs : List Register) (i : ℕ) (d : Register) → IsNumbered rs → i < length rs → register (get_or rs i d).number rs ≡ Some (get_or rs i d)
found_itself rs i d h lt =
    let n = numbered_at rs i d h lt in
    let e : (get_or rs i d).number - 1 ≡ i = omega arith in
    found_at rs (get_or rs i d).number h (omega arith) ∙ ap (slice_get rs) e ∙ slice_get-get_or rs i d lt

named : (r : Register) (k : AgeKey) → waiting_key r ≡ Some k → k.number ≡ r.number
named r k e = ap (λ (x : AgeKey). x.number) (sym (cond_some (nat_lt r.acked r.version) (age_key r) k e).1)

pub are_waiting : (registers : List Register) (keys : List AgeKey) → IsNumbered registers → IsQueue waiting_key registers keys → (dest : List ℕ) (found : List AgeKey)
    → found ≡ of_code (text_key dest) keys → IsRising found → AreWaiting dest registers found
are_waiting registers keys numbered queued dest found is rising =
    are_oldest_first waiting_key (λ r. r.number) has_number registers keys named (λ i d lt. found_itself registers i d numbered lt) queued (text_key dest) (text_key dest) found refl is rising

fetch_named : (r : Register) (k : AgeKey) → fetch_key r ≡ Some k → k.number ≡ r.number
fetch_named r k e = ap (λ (x : AgeKey). x.number) (sym (cond_some (owes_fetch r) (noted_key r) k e).1)

pub are_fetched : (registers : List Register) (keys : List AgeKey) → IsNumbered registers → IsQueue fetch_key registers keys → (dest : List ℕ) (found : List AgeKey)
    → found ≡ of_code (text_key dest) keys → IsRising found → AreFetched dest registers found
are_fetched registers keys numbered queued dest found is rising =
    are_oldest_first fetch_key (λ r. r.number) has_number registers keys fetch_named (λ i d lt. found_itself registers i d numbered lt) queued (text_key dest) (text_key dest) found refl is rising
