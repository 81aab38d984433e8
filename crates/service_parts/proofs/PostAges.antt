-- What is outstanding waits since the row that its age tells.
use Rattle.std.proofs.Common.{◌≡◌, ℕ, ◌≤◌, Bool, true, false, List, [], ◌∷◌, ◌++◌, Option, Some, All, filter, is_some, map, nat_lt, sym, subst, inl, inr, arith, ltb-true}
use Rattle.std.specs.Option.{option_map_or}
use Rattle.std.proofs.lemmas.Bool.{cases_Bool, and_parts}
use Rattle.std.proofs.lemmas.List.Elements.{All-append}
use Rattle.lang_base.specs.Texts.{same_text}
use Rattle.call_registers.specs.Registers.{held_version, owes_fetch}
use Rattle.call_registers.specs.Replies.{reply}
use Rattle.call_registers.specs.declared.register.Register.{Register}
use Rattle.call_registers.specs.declared.reply.Reply.{Reply}
use Rattle.service_events.specs.Ages.{IsLastAt, IsNotedAt, WaitsSince, marks_reply}
use Rattle.service_events.specs.Fits.{Fits}
use Rattle.service_events.specs.Flying.{awaited}
use Rattle.service_events.specs.Posts.{Aged, aged_call, aged_fetch, aged_reply, is_to_fetch, is_unacknowledged, is_owed, outstanding}
use Rattle.service_events.specs.State.{Kept}
use Rattle.service_events.proofs.CallRowLemmas.{Each, each_of_all, all_of_each}
use Rattle.service_parts.proofs.AgeLaws.{AgesOf}
use Rattle.service_parts.proofs.AgeLemmas.{IsAged, IsMarked, each_both}
use Rattle.service_parts.proofs.OwnedLemmas.{found_itself}

-- of those that pass, what each becomes
each_passed : {X Y : Type 0} (P : X → Type 0) (Q : Y → Type 0) (p : X → Bool) (f : X → Y) → ((x : X) → p x ≡ true → P x → Q (f x)) → (xs : List X) → Each P xs
    → Each Q (map f (filter p xs))
each_passed P Q p f becomes [] h = tt
each_passed P Q p f becomes (x ∷ xs) h = elim (cases_Bool (p x)) [
  | inl is ↦ rw is (becomes x is h.0, each_passed P Q p f becomes xs h.1)
  | inr other ↦ rw other (each_passed P Q p f becomes xs h.1)
]

-- a reply that is there waits since it was marked
reply_waits : (s : Kept) (p : Reply) → reply p.id s.replies ≡ Some p → IsMarked s.journal p → WaitsSince s (aged_reply p).name p.since
reply_waits s p there h =
    let P : Option Reply → Type 0 = λ o. IsLastAt (λ row. option_map_or (λ q. marks_reply q row) o false) s.journal p.since in
    subst P (sym there) h

-- where an answer is to be fetched, one was announced
was_noted : (dest : List ℕ) (r : Register) → is_to_fetch dest r ≡ true → 1 ≤ r.noted
was_noted dest r h =
    let owes = and_parts (is_some r.desired) (nat_lt (held_version r.answer) r.noted) (and_parts (owes_fetch r) (same_text r.dest dest) h).0 in
    let above = ltb-true (held_version r.answer) r.noted owes.1 in
    omega (arith, above)

fetch_waits : (s : Kept) (dest : List ℕ) (r : Register) → is_to_fetch dest r ≡ true → IsNotedAt s.journal r → WaitsSince s (aged_fetch r).name r.noted_since
fetch_waits s dest r out h = h (was_noted dest r out)

pub posts_aged : (s : Kept) → Fits s → AgesOf s → (dest : List ℕ)
    → All (λ (p : Aged). WaitsSince s p.name p.since) (outstanding s.registers s.replies (map awaited s.flights) dest)
posts_aged s f h dest =
    let Q : Aged → Type 0 = λ p. WaitsSince s p.name p.since in
    let calls = filter (is_unacknowledged (map awaited s.flights) dest) s.registers in
    let replies = filter (is_owed dest) s.replies in
    let marked =
    each_both (λ (p : Reply). reply p.id s.replies ≡ Some p) (IsMarked s.journal) (λ (p : Reply). Q (aged_reply p)) (reply_waits s) s.replies
    (found_itself s.replies f.replies.rising) (each_of_all (IsMarked s.journal) s.replies h.replies) in
    let fetches = filter (is_to_fetch dest) s.registers in
    All-append Q (map aged_call calls ++ map aged_reply replies) (map aged_fetch fetches)
    (All-append Q (map aged_call calls) (map aged_reply replies)
    (all_of_each Q (map aged_call calls)
    (each_passed (IsAged s.journal) Q (is_unacknowledged (map awaited s.flights) dest) aged_call (λ r out a. a) s.registers (each_of_all (IsAged s.journal) s.registers h.calls)))
    (all_of_each Q (map aged_reply replies) (each_passed (λ (p : Reply). Q (aged_reply p)) Q (is_owed dest) aged_reply (λ p out a. a) s.replies marked)))
    (all_of_each Q (map aged_fetch fetches)
    (each_passed (IsNotedAt s.journal) Q (is_to_fetch dest) aged_fetch (fetch_waits s dest) s.registers (each_of_all (IsNotedAt s.journal) s.registers h.fetches)))
