-- A flight's numbers are its own in a service that fits its journal, and they stay so as it names and changes calls.
use Rattle.std.proofs.Common.{◌≡◌, ℕ, ◌+◌, ◌≤◌, Bool, false, List, [], ◌∷◌, ◌++◌, map, length, set, Option, Some, None, IsSome, find, All, nat_eq, refl, sym, ap, ◌∙◌, subst, inl, inr, arith, eq-eqb, length-append, length-set}
use Rattle.std.specs.Option.{option_map_or}
use Rattle.std.proofs.lemmas.Bool.{cases_Bool, cond_both}
use Rattle.std.proofs.lemmas.List.{length-map}
use Rattle.std.proofs.lemmas.List.Elements.{All-head, All-tail}
use Rattle.lang_core.specs.declared.trace.CallMade.{CallMade}
use Rattle.journal_rows.specs.declared.caller.SentRow.{SentRow}
use Rattle.call_registers.specs.Changes.{raised}
use Rattle.call_registers.specs.Registers.{register, IsNumbered, consumed, next_number, with_call, at_number, sent_anew, with_ack, with_answer, with_cause, is_newer}
use Rattle.call_registers.specs.declared.register.Answer.{Answer}
use Rattle.call_registers.specs.declared.register.Register.{Register}
use Rattle.call_registers.specs.declared.register.Why.{Why}
use Rattle.call_registers.proofs.ChangeLemmas.{there_within}
use Rattle.flights.specs.declared.flight.Flight.{Flight}
use Rattle.service_events.specs.Calls.{version_of, first_sent, put_sent, after_rows, named}
use Rattle.service_events.specs.Fits.{Fits, NumberedCalls, calls_of_entry, calls_of_flight, call_in, wanted_call, count, times_held, WantsItsCalls, FitsPlaces, places}
use Rattle.service_events.specs.Flying.{deletion}
use Rattle.service_events.specs.State.{Kept, has_flight, flight_of}
use Rattle.service_events.proofs.OwnLemmas.{numbered_changed, length_changed, consumed_changed, consumed_other, consumed_named, next_free, numbered_named, length_named, IsNone, AreApart, AreWithin, within_more, within_push, within_set, above_none, apart_push, apart_set}

-- these are the numbers of a flight's calls, each once
pub record IsAloft (registers : List Register) (numbers : List ℕ) (calls : List CallMade) : Type 0 where
  pub numbered : IsNumbered registers
  pub apart : AreApart numbers
  pub within : AreWithin (length registers) numbers
  pub many : length numbers ≡ length calls

-- what rows made of registers: so many more, and the same consumed by what wasn't touched
pub record Became (rs rs' : List Register) (more : ℕ) (untouched : ℕ → Type 0) : Type 0 where
  pub numbered : IsNumbered rs'
  pub many : length rs' ≡ length rs + more
  pub gives : (m : ℕ) → untouched m → consumed m rs' ≡ consumed m rs

abbrev pub AnyNumber : ℕ → Type 0
AnyNumber m = Unit {0}

abbrev pub IsNot : Option ℕ → ℕ → Type 0
IsNot None m = Unit {0}
IsNot (Some n) m = nat_eq n m ≡ false

-- ---- a call is named

pub named_is : (at : ℕ) (rs : List Register) (next : ℕ) (call : CallMade) → next ≡ next_number rs → IsNumbered rs → after_rows at rs (named next call ∷ []) ≡ with_call call.dest call.request at rs
named_is at rs next call same h =
    ap (λ o. put_sent at (record { number = next; dest = call.dest; version = 1; desired = Some call.request }) o rs) (ap (λ k. register k rs) same ∙ next_free rs h)

pub named_became : (at : ℕ) (rs : List Register) (next : ℕ) (call : CallMade) → next ≡ next_number rs → IsNumbered rs → Became rs (after_rows at rs (named next call ∷ [])) 1 AnyNumber
named_became at rs next call same h =
    subst (λ r. Became rs r 1 AnyNumber) (sym (named_is at rs next call same h))
    (record { numbered = numbered_named call.dest call.request at rs h; many = length_named call.dest call.request at rs; gives = λ m _. consumed_named m call.dest call.request at rs })

-- ---- a call is deleted

pub put_deleted : (at : ℕ) (s : SentRow) (o : Option Register) (rs : List Register) → s.desired ≡ None → IsNumbered rs → Became rs (put_sent at s o rs) 0 (λ m. nat_eq s.number m ≡ false)
put_deleted at s None rs gone h =
    subst (λ r. Became rs r 0 (λ m. nat_eq s.number m ≡ false)) (ap (λ d. first_sent at s d rs) (sym gone)) (record { numbered = h; many = omega arith; gives = λ m other. refl })
put_deleted at s (Some r) rs gone h = record {
  numbered = numbered_changed s.number (sent_anew s.desired at) (λ x. refl) rs h;
  many = (let same = length_changed s.number (sent_anew s.desired at) (λ x. refl) rs in omega (arith, same));
  gives = λ m other. consumed_other s.number (sent_anew s.desired at) (λ x. refl) m other rs;
}

became_then : (a b c : List Register) (x y : ℕ) (P : ℕ → Type 0) → Became a b x P → Became b c y AnyNumber → Became a c (x + y) P
became_then a b c x y P f g = record {
  numbered = g.numbered;
  many = (let one = f.many in let two = g.many in omega (arith, one, two));
  gives = λ m other. g.gives m tt ∙ f.gives m other;
}

pub changed_became : (at : ℕ) (s : Kept) (old : Option ℕ) (was : Option CallMade) (call : CallMade) → IsNumbered s.registers
    → Became s.registers (after_rows at s.registers (deletion s old was ++ named (next_number s.registers) call ∷ [])) 1 (IsNot old)
changed_became at s None was call h = named_became at s.registers (next_number s.registers) call refl h
changed_became at s (Some n) None call h =
    (let one = named_became at s.registers (next_number s.registers) call refl h in record { numbered = one.numbered; many = one.many; gives = λ m other. one.gives m tt })
changed_became at s (Some n) (Some c) call h =
    let row : SentRow = record { number = n; dest = c.dest; version = raised (version_of s.registers n); desired = None } in
    let first = put_deleted at row (register n s.registers) s.registers refl h in
    let rs = put_sent at row (register n s.registers) s.registers in
    let size = first.many in
    let second = named_became (at + 1) rs (next_number s.registers) call (omega (arith, size)) first.numbered in
    became_then s.registers rs (after_rows (at + 1) rs (named (next_number s.registers) call ∷ [])) 0 1 (λ m. nat_eq n m ≡ false) first second

-- ---- why a call has no answer

pub told_became : (n : ℕ) (why : Why) (rs : List Register) → IsNumbered rs → Became rs (at_number n (with_cause why) rs) 0 AnyNumber
told_became n why rs h = record {
  numbered = numbered_changed n (with_cause why) (λ r. refl) rs h;
  many = (let same = length_changed n (with_cause why) (λ r. refl) rs in omega (arith, same));
  gives = λ m _. consumed_changed n (with_cause why) (λ r. refl) (λ r. refl) m rs;
}

pub untold_became : (n : ℕ) (why : Why) (rs rs' : List Register) (P : ℕ → Type 0) → Became rs rs' 1 P → Became rs (at_number n (with_cause why) rs') 1 P
untold_became n why rs rs' P b = became_then rs rs' (at_number n (with_cause why) rs') 1 0 P b (told_became n why rs' b.numbered)

-- ---- a flight's numbers

pub aloft_named : (rs rs' : List Register) (ns : List ℕ) (cs : List CallMade) (call : CallMade) (P : ℕ → Type 0) → Became rs rs' 1 P → IsAloft rs ns cs
    → IsAloft rs' (ns ++ next_number rs ∷ []) (cs ++ call ∷ [])
aloft_named rs rs' ns cs call P b a =
    let size = b.many in
    record {
      numbered = b.numbered;
      apart = apart_push ns (next_number rs) (above_none (length rs) (next_number rs) ns (omega arith) a.within) a.apart;
      within = within_push (length rs') ns (next_number rs) (within_more (length rs) (length rs') ns (omega (arith, size)) a.within) (omega (arith, size));
      many = length-append ns (next_number rs ∷ []) ∙ ap (λ k. k + 1) a.many ∙ sym (length-append cs (call ∷ []));
    }

pub aloft_changed : (rs rs' : List Register) (ns : List ℕ) (cs : List CallMade) (slot : ℕ) (call : CallMade) (P : ℕ → Type 0) → Became rs rs' 1 P → IsAloft rs ns cs
    → IsAloft rs' (set ns slot (next_number rs)) (set cs slot call)
aloft_changed rs rs' ns cs slot call P b a =
    let size = b.many in
    record {
      numbered = b.numbered;
      apart = apart_set ns slot (next_number rs) (above_none (length rs) (next_number rs) ns (omega arith) a.within) a.apart;
      within = within_set (length rs') ns slot (next_number rs) (within_more (length rs) (length rs') ns (omega (arith, size)) a.within) (omega (arith, size));
      many = length-set ns slot (next_number rs) ∙ a.many ∙ sym (length-set cs slot call);
    }

pub aloft_same : (rs rs' : List Register) (ns : List ℕ) (cs : List CallMade) → IsNumbered rs' → length rs' ≡ length rs → IsAloft rs ns cs → IsAloft rs' ns cs
aloft_same rs rs' ns cs numbered size a =
    record { numbered = numbered; apart = a.apart; within = subst (λ k. AreWithin k ns) (sym size) a.within; many = a.many }

-- what was seen of a call
pub acked_aloft : (n version : ℕ) (rs : List Register) (ns : List ℕ) (cs : List CallMade) → IsAloft rs ns cs → IsAloft (at_number n (with_ack version) rs) ns cs
acked_aloft n version rs ns cs a =
    aloft_same rs (at_number n (with_ack version) rs) ns cs (numbered_changed n (with_ack version) (λ r. refl) rs a.numbered) (length_changed n (with_ack version) (λ r. refl) rs) a

pub answer_number : (x : Answer) (r : Register) → (with_answer x r).number ≡ r.number
answer_number x r = cond_both (is_newer r.answer x.answer_version) (record r { answer = Some x }) r (λ (y : Register). y.number ≡ r.number) (λ _. refl) (λ _. refl)

pub answered_aloft : (n : ℕ) (x : Answer) (rs : List Register) (ns : List ℕ) (cs : List CallMade) → IsAloft rs ns cs → IsAloft (at_number n (with_answer x) rs) ns cs
answered_aloft n x rs ns cs a =
    aloft_same rs (at_number n (with_answer x) rs) ns cs (numbered_changed n (with_answer x) (answer_number x) rs a.numbered) (length_changed n (with_answer x) (answer_number x) rs) a

pub told_aloft : (n : ℕ) (why : Why) (rs : List Register) (ns : List ℕ) (cs : List CallMade) → IsAloft rs ns cs → IsAloft (at_number n (with_cause why) rs) ns cs
told_aloft n why rs ns cs a =
    aloft_same rs (at_number n (with_cause why) rs) ns cs (numbered_changed n (with_cause why) (λ r. refl) rs a.numbered) (length_changed n (with_cause why) (λ r. refl) rs) a

-- ---- of a service that fits its journal

all_behind : {X : Type 0} (P : X → Type 0) (xs ys : List X) → All P (xs ++ ys) → All P ys
all_behind P [] ys h = h
all_behind P (x ∷ xs) ys h = all_behind P xs ys (All-tail P x (xs ++ ys) h)

found_place : (P : NumberedCalls → Type 0) (p : Flight → Bool) (fs : List Flight) (f : Flight) → All P (map calls_of_flight fs) → find p fs ≡ Some f → P (calls_of_flight f)
found_place P p [] f h e = cc
found_place P p (g ∷ gs) f h e = elim (cases_Bool (p g)) [
  | inl is ↦ (let here : Some g ≡ Some f = rw is at e in
      let same : g ≡ f = cc in
      subst (λ x. P (calls_of_flight x)) same (All-head P (calls_of_flight g) (map calls_of_flight gs) h))
  | inr other ↦ found_place P p gs f (All-tail P (calls_of_flight g) (map calls_of_flight gs) h) (rw other at e)
]

stands_more : (n : ℕ) (xs ys : List NumberedCalls) → times_held n ys ≤ times_held n (xs ++ ys)
stands_more n [] ys = omega arith
stands_more n (x ∷ xs) ys = (let more = stands_more n xs ys in omega (arith, more))

stands_found : (n : ℕ) (p : Flight → Bool) (fs : List Flight) (f : Flight) → find p fs ≡ Some f → count n f.numbers ≤ times_held n (map calls_of_flight fs)
stands_found n p [] f e = cc
stands_found n p (g ∷ gs) f e = elim (cases_Bool (p g)) [
  | inl is ↦ (let here : Some g ≡ Some f = rw is at e in
      let same : f ≡ g = cc in
      let counts = ap (λ (x : Flight). count n x.numbers) same in
      omega (arith, counts))
  | inr other ↦ (let more = stands_found n p gs f (rw other at e) in omega (arith, more))
]

count_none : (n : ℕ) (ns : List ℕ) → count n ns ≡ 0 → IsNone n ns
count_none n [] h = tt
count_none n (m ∷ ms) h = elim (cases_Bool (nat_eq m n)) [
  | inl is ↦ (let one : 1 + count n ms ≡ 0 = rw is at h in absurd (omega (arith, one)))
  | inr other ↦ (let none : 0 + count n ms ≡ 0 = rw other at h in (other, count_none n ms (omega (arith, none))))
]

apart_of : (ns : List ℕ) → ((n : ℕ) → count n ns ≤ 1) → AreApart ns
apart_of [] h = tt
apart_of (n ∷ ns) h = (
  count_none n ns (let one : count n (n ∷ ns) ≡ 1 + count n ns = rw (eq-eqb n n refl) refl in let most = h n in omega (arith, one, most)),
  apart_of ns (λ m. (let most = h m in omega (arith, most))),
)

one_most : (o : Option CallMade) → option_map_or (λ c. 1) o 0 ≤ 1
one_most None = omega arith
one_most (Some c) = omega arith

register_wanted : (o : Option Register) (c : CallMade) → call_in o ≡ Some c → IsSome o
register_wanted None c e = cc
register_wanted (Some r) c e = refl

head_is : {X Y : Type 0} (f : X → Y) (x : X) (y : Y) (xs : List X) (ys : List Y) → map f (x ∷ xs) ≡ y ∷ ys → f x ≡ y
head_is f x y xs ys e = cc

tail_is : {X Y : Type 0} (f : X → Y) (x : X) (y : Y) (xs : List X) (ys : List Y) → map f (x ∷ xs) ≡ y ∷ ys → map f xs ≡ ys
tail_is f x y xs ys e = cc

within_wanted : (rs : List Register) (ns : List ℕ) (cs : List CallMade) → IsNumbered rs → map (wanted_call rs) ns ≡ map Some cs → AreWithin (length rs) ns
within_wanted rs [] cs h e = tt
within_wanted rs (n ∷ ns) [] h e = cc
within_wanted rs (n ∷ ns) (c ∷ cs) h e =
    let here : wanted_call rs n ≡ Some c = head_is (wanted_call rs) n (Some c) ns (map Some cs) e in
    let w = there_within rs n h (register_wanted (register n rs) c here) in
    let most = w.1 in
    (omega (arith, most), within_wanted rs ns cs h (tail_is (wanted_call rs) n (Some c) ns (map Some cs) e))

pub aloft_by : (s : Kept) (id : ℕ) (f : Flight) → IsNumbered s.registers → FitsPlaces s.registers (places s) → flight_of id s ≡ Some f
    → IsAloft s.registers f.numbers f.calls
aloft_by s id f numbered fits found =
    let front = map calls_of_entry s.entries in
    let wants : WantsItsCalls s.registers (calls_of_flight f) =
    found_place (WantsItsCalls s.registers) (has_flight id) s.flights f (all_behind (WantsItsCalls s.registers) front (map calls_of_flight s.flights) fits.calls) found in
    record {
      numbered = numbered;
      apart = apart_of f.numbers (λ n. (
          let once = fits.once n in
          let most = one_most (wanted_call s.registers n) in
          let more = stands_more n front (map calls_of_flight s.flights) in
          let mine = stands_found n (has_flight id) s.flights f found in
          omega (arith, once, most, more, mine)
          ));
      within = within_wanted s.registers f.numbers f.calls numbered wants;
      many = sym (length-map f.numbers (wanted_call s.registers)) ∙ ap length wants ∙ length-map f.calls Some;
    }

pub aloft_of : (s : Kept) (id : ℕ) (f : Flight) → Fits s → flight_of id s ≡ Some f → IsAloft s.registers f.numbers f.calls
aloft_of s id f h found = aloft_by s id f h.sent.numbered h.places found
