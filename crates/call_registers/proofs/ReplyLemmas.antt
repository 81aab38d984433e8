-- Replies are changed by their place, and stay in order.
use Rattle.std.proofs.Common.{◌≡◌, ◌∙◌, sym, ap, refl, ℕ, zero, suc, ◌+◌, ◌<◌, Bool, true, false, List, [], ◌∷◌, ◌++◌, Some, length, set, get_or, find, nat_eq, arith, subst}
use Rattle.std.proofs.lemmas.Option.{cond_some}
use Rattle.lang_lists.specs.Keys.{text_key}
use Rattle.lang_lists.specs.Ages.{of_code, IsRising as KeysRise}
use Rattle.lang_lists.specs.declared.age_keys.AgeKey.{AgeKey}
use Rattle.call_registers.specs.Queues.{IsQueue}
use Rattle.call_registers.proofs.QueueLemmas.{are_oldest_first}
use Rattle.std.proofs.lemmas.Bool.Decides.{nat_tests}
use Rattle.lang_lists.specs.Numbers.{RisesFrom, IsRising as NumbersRise, IsAt, IsMissing}
use Rattle.lang_lists.proofs.NumberLemmas.{found_nowhere, none_there}
use Rattle.call_registers.proofs.ChangeLemmas.{pass, fail}
use Rattle.call_registers.specs.Changes.{change}
use Rattle.call_registers.specs.Replies.{age_key, due_key, has_entry, reply, AreDue, IsThere, IsAboveAll, IsBelowAll, IsRising, at_entry, changed}
use Rattle.call_registers.specs.declared.reply.ReplyChange.{ReplyChange}
use Rattle.call_registers.specs.declared.reply.ReplyChange.TheVariants.{Take, Answer, Confirm, Due, Hold, Release}
use Rattle.call_registers.specs.declared.reply.Reply.{Reply}

-- ---- replies as items with numbers

abbrev id_of : Reply → ℕ
id_of p = p.id

numbers_from : (id : ℕ) (ps : List Reply) → IsBelowAll id ps → IsRising ps → RisesFrom id_of (id + 1) ps
numbers_from id [] b h = tt
numbers_from id (p ∷ ps) b h = (let lower = b.0 in omega (arith, lower), numbers_from p.id ps h.0 h.1)

-- replies in order are so by their entries' numbers
pub numbers_rise : (ps : List Reply) → IsRising ps → NumbersRise id_of ps
numbers_rise [] h = tt
numbers_rise (p ∷ ps) h = (omega arith, numbers_from p.id ps h.0 h.1)

-- none is there where a search finds none
pub not_there : {A : Type 0} (id place : ℕ) (ps : List Reply) → IsRising ps → IsMissing id_of id ps place → IsThere id ps → A
not_there id place ps h at there = none_there (find (has_entry id) ps) (found_nowhere id_of 0 id place ps (numbers_rise ps h) at) there

-- ---- a change by the place

set_changes : (p : Reply → Bool) (f : Reply → Reply) (xs : List Reply) (i : ℕ) (old : Reply) → p (get_or xs i old) ≡ true → ((k : ℕ) → k < i → p (get_or xs k old) ≡ false) → old ≡ get_or xs i old → set xs i (f old) ≡ change p f xs
set_changes p f [] i old here before is = refl
set_changes p f (x ∷ xs) zero old here before is =
    ap (λ y. f y ∷ xs) is ∙ sym (pass (p x) (f x) x xs (change p f xs) here)
set_changes p f (x ∷ xs) (suc i) old here before is =
    let skipped : p x ≡ false = before zero (omega arith) in
    ap (λ l. x ∷ l) (set_changes p f xs i old here (λ k w. before (suc k) (omega (arith, w))) is)
    ∙ sym (fail (p x) (f x) x xs (change p f xs) skipped)

another : (m n : ℕ) → n < m → nat_eq n m ≡ false
another m n h = grind (arith, nat_tests)

itself : (m n : ℕ) → n ≡ m → nat_eq n m ≡ true
itself m n h = grind (arith, nat_tests)

pub change_placed : (id place : ℕ) (f : Reply → Reply) (ps : List Reply) (old : Reply) → IsAt id_of id ps place → old ≡ get_or ps place old → set ps place (f old) ≡ at_entry id f ps
change_placed id place f ps old at is =
    set_changes (has_entry id) f ps place old (itself id (get_or ps place old).id (at.here old))
    (λ k w. another id (get_or ps k old).id (at.front k old (omega arith) w)) is

-- ---- the order

below_set : (id place : ℕ) (ps : List Reply) (old new : Reply) → IsBelowAll id ps → old ≡ get_or ps place old → new.id ≡ old.id → IsBelowAll id (set ps place new)
below_set id place [] old new h is e = tt
below_set id zero (p ∷ ps) old new h is e =
    let same : p.id ≡ new.id = sym (e ∙ ap (λ (x : Reply). x.id) is) in
    (subst (λ n. id < n) same h.0, h.1)
below_set id (suc place) (p ∷ ps) old new h is e = (h.0, below_set id place ps old new h.1 is e)

below_same : (m n : ℕ) (ps : List Reply) → m ≡ n → IsBelowAll m ps → IsBelowAll n ps
below_same m n ps e h = subst (λ k. IsBelowAll k ps) e h

pub rising_set : (place : ℕ) (ps : List Reply) (old new : Reply) → IsRising ps → old ≡ get_or ps place old → new.id ≡ old.id → IsRising (set ps place new)
rising_set place [] old new h is e = tt
rising_set zero (p ∷ ps) old new h is e = (below_same p.id new.id ps (sym (e ∙ ap (λ (x : Reply). x.id) is)) h.0, h.1)
rising_set (suc place) (p ∷ ps) old new h is e = (below_set p.id place ps old new h.0 is e, rising_set place ps old new h.1 is e)

below_push : (id : ℕ) (ps : List Reply) (p : Reply) → IsBelowAll id ps → id < p.id → IsBelowAll id (ps ++ p ∷ [])
below_push id [] p h w = (w, tt)
below_push id (x ∷ ps) p h w = (h.0, below_push id ps p h.1 w)

pub rising_push : (ps : List Reply) (p : Reply) → IsRising ps → IsAboveAll p.id ps → IsRising (ps ++ p ∷ [])
rising_push [] p h w = (tt, tt)
rising_push (x ∷ ps) p h w = (below_push x.id ps p h.0 w.0, rising_push ps p h.1 w.1)

-- ---- those that are due

below_at : (id i : ℕ) (ps : List Reply) (d : Reply) → IsBelowAll id ps → i < length ps → id < (get_or ps i d).id
below_at id i [] d h lt = absurd (omega (arith, lt))
below_at id zero (p ∷ ps) d h lt = h.0
below_at id (suc i) (p ∷ ps) d h lt = below_at id i ps d h.1 (omega (arith, lt))

pub rises_at : (i j : ℕ) (ps : List Reply) (d : Reply) → IsRising ps → i < j → j < length ps → (get_or ps i d).id < (get_or ps j d).id
rises_at i j [] d h less lt = absurd (omega (arith, lt))
rises_at i zero (p ∷ ps) d h less lt = absurd (omega (arith, less))
rises_at zero (suc j) (p ∷ ps) d h less lt = below_at p.id j ps d h.0 (omega (arith, lt))
rises_at (suc i) (suc j) (p ∷ ps) d h less lt = rises_at i j ps d h.1 (omega (arith, less)) (omega (arith, lt))

-- the reply at a place is the one of its entry
pub found_itself : (ps : List Reply) (i : ℕ) (d : Reply) → IsRising ps → i < length ps → reply (get_or ps i d).id ps ≡ Some (get_or ps i d)
found_itself [] i d h lt = absurd (omega (arith, lt))
found_itself (p ∷ ps) zero d h lt = let same = itself p.id p.id refl in rw same refl
found_itself (p ∷ ps) (suc i) d h lt =
    let less : i < length ps = omega (arith, lt) in
    let other = another (get_or ps i d).id p.id (below_at p.id i ps d h.0 less) in
    rw other (found_itself ps i d h.1 less)

due_named : (p : Reply) (k : AgeKey) → due_key p ≡ Some k → k.number ≡ p.id
due_named p k e = ap (λ (x : AgeKey). x.number) (sym (cond_some p.due (age_key p) k e).1)

pub are_due : (replies : List Reply) (keys : List AgeKey) → IsRising replies → IsQueue due_key replies keys → (caller : List ℕ) (code : ℕ) (found : List AgeKey) → code ≡ text_key caller
    → found ≡ of_code code keys → KeysRise found → AreDue caller replies found
are_due replies keys rises queued caller code found same is rising =
    are_oldest_first due_key (λ p. p.id) has_entry replies keys due_named (λ i d lt. found_itself replies i d rises lt) queued (text_key caller) code found same is rising

-- no change of a reply changes its entry
pub entry_stays : (change : ReplyChange) (p : Reply) → (changed change p).id ≡ p.id
entry_stays (Take version wanted) p = refl
entry_stays (Answer answer_version version since) p = refl
entry_stays (Confirm answer_version since) p = refl
entry_stays (Due since) p = refl
entry_stays (Hold hold) p = refl
entry_stays (Release who) p = refl
