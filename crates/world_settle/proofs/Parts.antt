-- Steps, posts, shares and rounds, part by part.
use Rattle.std.proofs.Common.{◌≡◌, ◌≢◌, ℕ, zero, suc, ◌+◌, ◌-◌, ◌<◌, ◌≤◌, Bool, true, false, not, List, [], ◌∷◌, ◌++◌, drop, flat_map, get_or, length, if◌then◌else◌, append_assoc, refl, ap, sym, ◌∙◌, subst, arith}
use Rattle.std.proofs.Math.Seq.{drop-cons}
use Rattle.std.specs.Cmp.Lexicographic.{nat_list_eq_equiv}
use Rattle.std.proofs.lemmas.Bool.{cond-true, cond-false, false_from_ne_true}
use Rattle.std.proofs.lemmas.List.{append-nil}
use Rattle.std.proofs.lemmas.List.Concat.{flat_map-cons}
use Rattle.lang_base.specs.Texts.{same_text}
use Rattle.call_registers.specs.Changes.{raised}
use Rattle.service_events.proofs.SearchLemmas.{text_is}
use Rattle.world_core.proofs.HandedOn.{events_sound}
use Rattle.world_events.specs.Events.{after_event, after_events, answer_to}
use Rattle.world_events.specs.Sound.{IsSound}
use Rattle.world_events.specs.Worlds.{World}
use Rattle.world_events.specs.declared.event.Event.{Event}
use Rattle.world_events.specs.declared.event.Event.TheVariants.{Step}
use Rattle.world_settle.specs.Doing.{AreOfSettling, Comes, Does, DoesFirst, DoesRound, Exchanges, HaveHappened, KeepsSound, Settles, SettlesFirst, risen, worked}
use Rattle.world_settle.specs.Settles.{AreExchanges, AreRounds, EachInOrder, Follows, IsExchange, IsPosting, IsRound, IsShare, IsStepping, PostsBy, PostsTo, came, counted, entries_of, goes_on, has_work, is_post, is_run, names_of, others, outstanding_for, rounds_with_work}
use Rattle.world_settle.specs.declared.came.Came.{Came}
use Rattle.world_settle.specs.declared.tally.Tally.{Tally}
use Rattle.world_settle.proofs.ComeToEnd.{Has, counts_of, fewer, others_has, posting_has, round_has, rounds_has, settling_has, shares_has, stepping_has}
use Rattle.world_settle.proofs.CountLemmas.{counted_raised, risen_is, worked_is}
use Rattle.world_settle.proofs.EventLemmas.{Goes, does_goes, goes_does, goes_first, goes_none, goes_then, goes_within, happened_then, none_first, nothing_happened, one_happened, risen_append}

-- ---- steps

-- a step is made, and as many more may follow where an entry ran
step_goes : (name : List ℕ) (left : ℕ) (start now : World) (t u : Tally) (told : Came) → 0 < left → Comes start (Step name) t u told now
    → Goes start (IsStepping name left) t u now (IsStepping name (if told.ran then left - 1 else 0))
step_goes name zero start now t u told some c = absurd (omega (arith, some))
step_goes name (suc more) start now t u told some c = record {
  done = Step name ∷ [];
  happened = one_happened start now (Step name) c.world c.few;
  tally = c.tally;
  leads = λ rest h. (refl, by_run (came is_run (answer_to start (Step name))) told.ran (ap (λ x. x.ran) c.told) rest (subst (λ w. IsStepping name (if told.ran then suc more - 1 else 0) w rest) c.world h));
}
  where
    by_run : (b ran : Bool) → ran ≡ b → (rest : List Event) → IsStepping name (if ran then suc more - 1 else 0) (after_event start (Step name)) rest
        → Follows b (IsStepping name more (after_event start (Step name)) rest) rest
    by_run true true e rest h = (let less : suc more - 1 ≡ more = omega arith in subst (λ n. IsStepping name n (after_event start (Step name)) rest) less h)
    by_run false false e rest h = h
    by_run true false e rest h = cc
    by_run false true e rest h = cc

-- no step is made yet
pub stepping_none : (start : World) (name : List ℕ) (whole left : ℕ) (t : Tally) → left ≡ whole → Goes start (IsStepping name whole) t t start (IsStepping name left)
stepping_none start name whole left t is = (let G : ℕ → Type 0 = λ n. Goes start (IsStepping name whole) t t start (IsStepping name n) in
    subst G (sym is) (goes_none start (IsStepping name whole) t))

-- the loop goes on by a step
pub stepping_on : (start now next : World) (name : List ℕ) (whole left : ℕ) (t u v : Tally) (told : Came) → 0 < left
    → Goes start (IsStepping name whole) t u now (IsStepping name left) → Comes now (Step name) u v told next
    → Goes start (IsStepping name whole) t v next (IsStepping name (if told.ran then left - 1 else 0))
stepping_on start now next name whole left t u v told some g c =
    goes_then start (IsStepping name whole) t u v now (IsStepping name left) next (IsStepping name (if told.ran then left - 1 else 0)) g (step_goes name left now next u v told some c)

-- where an entry ran, and where the step was idle
pub stepping_ran : (start now next : World) (name : List ℕ) (whole left : ℕ) (t u v : Tally) (told : Came) → 0 < left → told.ran ≡ true
    → Goes start (IsStepping name whole) t u now (IsStepping name left) → Comes now (Step name) u v told next → Goes start (IsStepping name whole) t v next (IsStepping name (left - 1))
stepping_ran start now next name whole left t u v told some ran g c =
    let G : Bool → Type 0 = λ b. Goes start (IsStepping name whole) t v next (IsStepping name (if b then left - 1 else 0)) in
    subst G ran (stepping_on start now next name whole left t u v told some g c)

pub stepping_idle : (start now next : World) (name : List ℕ) (whole left : ℕ) (t u v : Tally) (told : Came) → 0 < left → told.ran ≡ false
    → Goes start (IsStepping name whole) t u now (IsStepping name left) → Comes now (Step name) u v told next → Goes start (IsStepping name whole) t v next (IsStepping name 0)
stepping_idle start now next name whole left t u v told some idle g c =
    let G : Bool → Type 0 = λ b. Goes start (IsStepping name whole) t v next (IsStepping name (if b then left - 1 else 0)) in
    subst G idle (stepping_on start now next name whole left t u v told some g c)

pub stepping_done : (start now : World) (name : List ℕ) (whole left : ℕ) (t u : Tally) → left ≡ 0 → Goes start (IsStepping name whole) t u now (IsStepping name left)
    → Does start (IsStepping name whole) t u now
stepping_done start now name whole left t u none g =
    let S : ℕ → Type 0 = λ n. IsStepping name n now [] in
    goes_does start (IsStepping name whole) t u now (IsStepping name left) g (subst S (sym none) refl)

pub stepping_first : (start now end : World) (name : List ℕ) (whole left : ℕ) (t u : Tally) → Goes start (IsStepping name whole) t u now (IsStepping name left) → end ≡ now
    → DoesFirst start (IsStepping name whole) end
stepping_first start now end name whole left t u g same = goes_first start (IsStepping name whole) t u now end (IsStepping name left) g (stepping_has name left now) same

-- ---- posts

-- posts follow, or nothing does
abbrev pub PostsIf : Bool → List ℕ → List ℕ → World → List Event → Type 0
PostsIf true from to w events = IsPosting from to w events
PostsIf false from to w events = events ≡ []

-- an exchange is made, and others follow where it wasn't left
exchange_goes : (from to : List ℕ) (start now : World) (t u : Tally) (more : Bool) → Exchanges start from to t u more now → Goes start (IsPosting from to) t u now (PostsIf more from to)
exchange_goes from to start now t u more x = record {
  done = x.events;
  happened = x.happened;
  tally = x.tally;
  leads = λ rest h. by_more more x.is rest (subst (λ w. PostsIf more from to w rest) (x.happened).world h);
}
  where
    by_more : (b : Bool) → b ≡ goes_on from to start x.events → (rest : List Event) → PostsIf b from to (after_events start x.events) rest → IsPosting from to start (x.events ++ rest)
    by_more true e rest h = (
      x.events ∷ h.0,
      (x.are, subst (λ b. Follows {X = List Event} b (AreExchanges from to (after_events start x.events) h.0) h.0) e h.1),
      ap (λ es. x.events ++ es) h.2 ∙ sym (flat_map-cons (λ y. y) x.events h.0),
    )
    by_more false e rest h = (
      x.events ∷ [],
      (x.are, subst (λ b. Follows {X = List Event} b (AreExchanges from to (after_events start x.events) []) []) e refl),
      ap (λ es. x.events ++ es) h ∙ sym (flat_map-cons (λ y. y) x.events []),
    )

pub posting_none : (start : World) (from to : List ℕ) (t : Tally) → Goes start (IsPosting from to) t t start (PostsIf true from to)
posting_none start from to t = goes_none start (IsPosting from to) t

pub posting_on : (start now next : World) (from to : List ℕ) (t u v : Tally) (more on : Bool) → more ≡ true → Goes start (IsPosting from to) t u now (PostsIf more from to)
    → Exchanges now from to u v on next → Goes start (IsPosting from to) t v next (PostsIf on from to)
posting_on start now next from to t u v more on is g x =
    let G : Bool → Type 0 = λ b. Goes start (IsPosting from to) t u now (PostsIf b from to) in
    goes_then start (IsPosting from to) t u v now (IsPosting from to) next (PostsIf on from to) (subst G is g) (exchange_goes from to now next u v on x)

pub posting_done : (start now : World) (from to : List ℕ) (t u : Tally) (more : Bool) → more ≡ false → Goes start (IsPosting from to) t u now (PostsIf more from to)
    → Does start (IsPosting from to) t u now
posting_done start now from to t u more is g =
    let P : Bool → Type 0 = λ b. PostsIf b from to now [] in
    goes_does start (IsPosting from to) t u now (PostsIf more from to) g (subst P (sym is) refl)

posts_has : (more : Bool) (from to : List ℕ) (w : World) → Has (PostsIf more from to) w
posts_has true from to w = posting_has from to w
posts_has false from to w = ([], refl)

pub posting_within : (start now end : World) (from to : List ℕ) (t u : Tally) (more : Bool) → more ≡ true → Goes start (IsPosting from to) t u now (PostsIf more from to)
    → DoesFirst now (IsExchange from to) end → DoesFirst start (IsPosting from to) end
posting_within start now end from to t u more is g d =
    let G : Bool → Type 0 = λ b. Goes start (IsPosting from to) t u now (PostsIf b from to) in
    goes_within start (IsPosting from to) t u now end (IsPosting from to) (IsExchange from to) (subst G is g) d
    (λ events are. rest_of events (goes_on from to now events) refl are)
  where
    rest_of : (events : List Event) (b : Bool) → goes_on from to now events ≡ b → IsExchange from to now events → (more : List Event) × IsPosting from to now (events ++ more)
    rest_of events true is are =
        let p = posting_has from to (after_events now events) in
        let xs = (p.1).0 in (
          p.0,
          (
            events ∷ xs,
            (are, subst (λ b. Follows {X = List Event} b (AreExchanges from to (after_events now events) xs) xs) (sym is) (p.1).1),
            ap (λ es. events ++ es) (p.1).2 ∙ sym (flat_map-cons (λ y. y) events xs),
          ),
        )
    rest_of events false is are = (
      [],
      (events ∷ [], (are, subst (λ b. Follows {X = List Event} b (AreExchanges from to (after_events now events) []) []) (sym is) refl), sym (flat_map-cons (λ y. y) events [])),
    )

-- how far the posts of a loop are from their end
abbrev pub posts_left : Bool → List ℕ → List ℕ → World → ℕ
posts_left more from to w = if more then outstanding_for from to w + 1 else 0

pub posts_fall : (now next : World) (from to : List ℕ) (u v : Tally) (more on : Bool) → more ≡ true → Exchanges now from to u v on next → posts_left on from to next < posts_left more from to now
posts_fall now next from to u v more on is x = subst (λ b. posts_left on from to next < posts_left b from to now) (sym is) (by_on on refl)
  where
    by_on : (b : Bool) → on ≡ b → posts_left b from to next < posts_left true from to now
    by_on false e = omega arith
    by_on true e =
        let f = fewer from to now x.events (sym x.is ∙ e) in
        let same : outstanding_for from to next ≡ outstanding_for from to (after_events now x.events) = ap (outstanding_for from to) (x.happened).world in
        omega (arith, f, same)

-- ---- one behind another

-- each of the first elements did its part
abbrev pub EachFrom : {X : Type 0} → (X → World → List Event → Type 0) → List X → ℕ → World → List Event → Type 0
EachFrom Are xs i w events = EachInOrder Are (drop i xs) w events

-- and now the next one does
pub each_on : {X : Type 0} (Whole : World → List Event → Type 0) (Are : X → World → List Event → Type 0) (xs : List X) (i : ℕ) (x : X) (start now next : World) (t u v : Tally)
    → i < length xs → get_or xs i x ≡ x → Goes start Whole t u now (EachFrom Are xs i) → Does now (Are x) u v next → Goes start Whole t v next (EachFrom Are xs (i + 1))
each_on Whole Are xs i x start now next t u v within is g d =
    let cut : drop i xs ≡ x ∷ drop (suc i) xs = drop-cons xs i x within ∙ ap (λ y. y ∷ drop (suc i) xs) is in
    let G : List _ → Type 0 = λ ys. Goes start Whole t u now (λ w events. EachInOrder Are ys w events) in
    let place : suc i ≡ i + 1 = omega arith in
    let N : ℕ → Type 0 = λ k. Goes start Whole t v next (EachFrom Are xs k) in
    subst N place
    (goes_then start Whole t u v now (λ w events. EachInOrder Are (x ∷ drop (suc i) xs) w events) next (EachFrom Are xs (suc i)) (subst G cut g)
    (does_goes now (Are x) (λ w events. EachInOrder Are (x ∷ drop (suc i) xs) w events) (EachFrom Are xs (suc i)) u v next d
    (λ events rest are h. (events, rest, refl, are, h))))

-- of what it does some first events happened
pub each_within : {X : Type 0} (Whole : World → List Event → Type 0) (Are : X → World → List Event → Type 0) → ((ys : List X) (w : World) → Has (EachInOrder Are ys) w)
    → (xs : List X) (i : ℕ) (x : X) (start now end : World) (t u : Tally)
    → i < length xs → get_or xs i x ≡ x → Goes start Whole t u now (EachFrom Are xs i) → DoesFirst now (Are x) end → DoesFirst start Whole end
each_within Whole Are has xs i x start now end t u within is g d =
    let cut : drop i xs ≡ x ∷ drop (suc i) xs = drop-cons xs i x within ∙ ap (λ y. y ∷ drop (suc i) xs) is in
    let G : List _ → Type 0 = λ ys. Goes start Whole t u now (λ w events. EachInOrder Are ys w events) in
    goes_within start Whole t u now end (λ w events. EachInOrder Are (x ∷ drop (suc i) xs) w events) (Are x) (subst G cut g) d
    (λ events are. (let rest = has (drop (suc i) xs) (after_events now events) in (rest.0, (events, rest.0, refl, are, rest.1))))

-- behind the last there is none
pub none_left : {X : Type 0} (i : ℕ) (xs : List X) → length xs ≤ i → drop i xs ≡ []
none_left zero [] h = refl
none_left zero (x ∷ xs) h = absurd (omega (arith, h))
none_left (suc i) [] h = refl
none_left (suc i) (x ∷ xs) h = none_left i xs (omega (arith, h))

-- all of them did
pub each_done : {X : Type 0} (Whole : World → List Event → Type 0) (Are : X → World → List Event → Type 0) (xs : List X) (i : ℕ) (start now : World) (t u : Tally) → drop i xs ≡ []
    → Goes start Whole t u now (EachFrom Are xs i) → Does start Whole t u now
each_done Whole Are xs i start now t u none g =
    let E : List _ → Type 0 = λ ys. EachInOrder Are ys now [] in
    goes_does start Whole t u now (EachFrom Are xs i) g (subst E (sym none) refl)

-- ---- posts to the others

-- posts to those of the names from a place on that aren't this one
abbrev pub PostsFrom : List ℕ → List (List ℕ) → ℕ → World → List Event → Type 0
PostsFrom name names i w events = EachInOrder (IsPosting name) (others name (drop i names)) w events

others_cons : (name other : List ℕ) (names : List (List ℕ)) (b : Bool) → same_text other name ≡ b
    → others name (other ∷ names) ≡ (if b then others name names else other ∷ others name names)
others_cons name other names true e = cond-false (not (same_text other name)) (other ∷ others name names) (others name names) (ap not e)
others_cons name other names false e = cond-true (not (same_text other name)) (other ∷ others name names) (others name names) (ap not e)

pub posts_none : (start : World) (name : List ℕ) (names : List (List ℕ)) (t : Tally) → Goes start (EachInOrder (IsPosting name) (others name names)) t t start (PostsFrom name names 0)
posts_none start name names t = goes_none start (EachInOrder (IsPosting name) (others name names)) t

same_is : (other name : List ℕ) → other ≡ name → same_text other name ≡ true
same_is other name e = subst (λ n. same_text other n ≡ true) e (nat_list_eq_equiv.refl other)

other_is : (other name : List ℕ) → name ≢ other → same_text other name ≡ false
other_is other name apart = false_from_ne_true (same_text other name) (λ h. apart (sym (text_is other name h)))

pub posts_to_itself : (w : World) (name other : List ℕ) (t : Tally) → other ≡ name → Does w (PostsTo name other) t t w
posts_to_itself w name other t e = record {
  events = [];
  are = subst (λ b. PostsBy b name other w []) (sym (same_is other name e)) refl;
  happened = nothing_happened w;
  tally = refl;
}

pub posts_to_other : (w now : World) (name other : List ℕ) (t u : Tally) → name ≢ other → Does w (IsPosting name other) t u now → Does w (PostsTo name other) t u now
posts_to_other w now name other t u apart d = record {
  events = d.events;
  are = subst (λ b. PostsBy b name other w d.events) (sym (other_is other name apart)) d.are;
  happened = d.happened;
  tally = d.tally;
}

pub posts_to_first : (w now : World) (name other : List ℕ) → name ≢ other → DoesFirst w (IsPosting name other) now → DoesFirst w (PostsTo name other) now
posts_to_first w now name other apart d = record {
  done = d.done;
  rest = d.rest;
  are = subst (λ b. PostsBy b name other w (d.done ++ d.rest)) (sym (other_is other name apart)) d.are;
  happened = d.happened;
}

pub posts_to_has : (w : World) (name other : List ℕ) → Has (PostsTo name other) w
posts_to_has w name other = by (same_text other name)
  where
    by : (b : Bool) → Has (PostsBy b name other) w
    by true = ([], refl)
    by false = posting_has name other w

-- what is posted to one name, and to those behind it
posts_join : (name other : List ℕ) (names : List (List ℕ)) (b : Bool) → same_text other name ≡ b → (w : World) (events rest : List Event) → PostsBy b name other w events
    → EachInOrder (IsPosting name) (others name names) (after_events w events) rest → EachInOrder (IsPosting name) (others name (other ∷ names)) w (events ++ rest)
posts_join name other names true is w events rest are h =
    let E : List Event → Type 0 = λ es. EachInOrder (IsPosting name) (others name names) (after_events w es) rest → EachInOrder (IsPosting name) (others name names) w (es ++ rest) in
    let whole = subst E (sym are) (λ x. x) h in
    subst (λ ys. EachInOrder (IsPosting name) ys w (events ++ rest)) (sym (others_cons name other names true is)) whole
posts_join name other names false is w events rest are h =
    subst (λ ys. EachInOrder (IsPosting name) ys w (events ++ rest)) (sym (others_cons name other names false is)) (events, rest, refl, are, h)

pub posts_on : (Whole : World → List Event → Type 0) (name other : List ℕ) (names : List (List ℕ)) (i : ℕ) (start now next : World) (t u v : Tally) → i < length names → get_or names i other ≡ other
    → Goes start Whole t u now (PostsFrom name names i) → Does now (PostsTo name other) u v next → Goes start Whole t v next (PostsFrom name names (i + 1))
posts_on Whole name other names i start now next t u v within is g d =
    let left = drop (suc i) names in
    let cut : drop i names ≡ other ∷ left = drop-cons names i other within ∙ ap (λ y. y ∷ left) is in
    let G : List (List ℕ) → Type 0 = λ ys. Goes start Whole t u now (λ w events. EachInOrder (IsPosting name) (others name ys) w events) in
    let place : suc i ≡ i + 1 = omega arith in
    let N : ℕ → Type 0 = λ k. Goes start Whole t v next (PostsFrom name names k) in
    subst N place
    (goes_then start Whole t u v now (λ w events. EachInOrder (IsPosting name) (others name (other ∷ left)) w events) next (PostsFrom name names (suc i)) (subst G cut g)
    (does_goes now (PostsTo name other) (λ w events. EachInOrder (IsPosting name) (others name (other ∷ left)) w events) (PostsFrom name names (suc i)) u v next d
    (λ events rest are h. posts_join name other left (same_text other name) refl now events rest are h)))

pub posts_within : (Whole : World → List Event → Type 0) (name other : List ℕ) (names : List (List ℕ)) (i : ℕ) (start now end : World) (t u : Tally) → i < length names → get_or names i other ≡ other
    → Goes start Whole t u now (PostsFrom name names i) → DoesFirst now (PostsTo name other) end → DoesFirst start Whole end
posts_within Whole name other names i start now end t u within is g d =
    let left = drop (suc i) names in
    let cut : drop i names ≡ other ∷ left = drop-cons names i other within ∙ ap (λ y. y ∷ left) is in
    let G : List (List ℕ) → Type 0 = λ ys. Goes start Whole t u now (λ w events. EachInOrder (IsPosting name) (others name ys) w events) in
    goes_within start Whole t u now end (λ w events. EachInOrder (IsPosting name) (others name (other ∷ left)) w events) (PostsTo name other) (subst G cut g) d
    (λ events are. (let rest = others_has name (others name left) (after_events now events) in (rest.0, posts_join name other left (same_text other name) refl now events rest.0 are rest.1)))

pub posts_done : (name : List ℕ) (names : List (List ℕ)) (i : ℕ) (Whole : World → List Event → Type 0) (start now : World) (t u : Tally) → drop i names ≡ []
    → Goes start Whole t u now (PostsFrom name names i) → Does start Whole t u now
posts_done name names i Whole start now t u none g =
    let E : List (List ℕ) → Type 0 = λ ys. EachInOrder (IsPosting name) (others name ys) now [] in
    goes_does start Whole t u now (PostsFrom name names i) g (subst E (sym none) refl)

-- ---- a share

pub share_does : (names : List (List ℕ)) (name : List ℕ) (start mid now : World) (t u v : Tally) → Does start (IsStepping name (entries_of name start)) t u mid
    → Does mid (EachInOrder (IsPosting name) (others name names)) u v now → Does start (IsShare names name) t v now
share_does names name start mid now t u v a b =
    let Rest : World → List Event → Type 0 = EachInOrder (IsPosting name) (others name names) in
    let g = does_goes start (IsStepping name (entries_of name start)) (IsShare names name) Rest t u mid a (λ events rest are h. (events, rest, refl, are, h)) in
    let h = does_goes mid Rest Rest (λ w events. events ≡ []) u v now b (λ events rest are none. subst (Rest mid) (sym (ap (λ es. events ++ es) none ∙ append-nil events)) are) in
    goes_does start (IsShare names name) t v now (λ w events. events ≡ []) (goes_then start (IsShare names name) t u v mid Rest now (λ w events. events ≡ []) g h) refl

pub share_steps : (names : List (List ℕ)) (name : List ℕ) (start end : World) → DoesFirst start (IsStepping name (entries_of name start)) end → DoesFirst start (IsShare names name) end
share_steps names name start end d =
    let rest = others_has name (others name names) (after_events start (d.done ++ d.rest)) in
    record {
      done = d.done;
      rest = d.rest ++ rest.0;
      are = subst (IsShare names name start) (append_assoc d.done d.rest rest.0) (d.done ++ d.rest, rest.0, refl, d.are, rest.1);
      happened = d.happened;
    }

pub share_posts : (names : List (List ℕ)) (name : List ℕ) (start mid end : World) (t u : Tally) → Does start (IsStepping name (entries_of name start)) t u mid
    → DoesFirst mid (EachInOrder (IsPosting name) (others name names)) end → DoesFirst start (IsShare names name) end
share_posts names name start mid end t u a d =
    let Rest : World → List Event → Type 0 = EachInOrder (IsPosting name) (others name names) in
    let g = does_goes start (IsStepping name (entries_of name start)) (IsShare names name) Rest t u mid a (λ events rest are h. (events, rest, refl, are, h)) in
    goes_within start (IsShare names name) t u mid end Rest Rest g d (λ events are. ([], subst (Rest mid) (sym (append-nil events)) are))

-- ---- shares

pub shares_none : (start : World) (names : List (List ℕ)) (t : Tally) → Goes start (EachInOrder (IsShare names) names) t t start (EachFrom (IsShare names) names 0)
shares_none start names t = goes_none start (EachInOrder (IsShare names) names) t

pub shares_within : (names : List (List ℕ)) (i : ℕ) (name : List ℕ) (start now end : World) (t u : Tally) → i < length names → get_or names i name ≡ name
    → Goes start (EachInOrder (IsShare names) names) t u now (EachFrom (IsShare names) names i) → DoesFirst now (IsShare names name) end
    → DoesFirst start (EachInOrder (IsShare names) names) end
shares_within names i name start now end t u within is g d =
    each_within (EachInOrder (IsShare names) names) (IsShare names) (shares_has names) names i name start now end t u within is g d

-- ---- a round

pub round_first : (w end : World) → end ≡ w → DoesFirst w IsRound end
round_first w end same = none_first w end IsRound (round_has w) same

pub round_does : (w now : World) (names : List (List ℕ)) (t u : Tally) → names ≡ names_of w → Does w (EachInOrder (IsShare names) names) t u now → Does w IsRound t u now
round_does w now names t u is d = (let D : List (List ℕ) → Type 0 = λ ns. Does w (EachInOrder (IsShare ns) ns) t u now in
    let e = subst D is d in record { events = e.events; are = e.are; happened = e.happened; tally = e.tally })

pub round_within : (w end : World) (names : List (List ℕ)) → names ≡ names_of w → DoesFirst w (EachInOrder (IsShare names) names) end → DoesFirst w IsRound end
round_within w end names is d = (let D : List (List ℕ) → Type 0 = λ ns. DoesFirst w (EachInOrder (IsShare ns) ns) end in
    let e = subst D is d in record { done = e.done; rest = e.rest; are = e.are; happened = e.happened })

-- whether it had work, where that was set back before
pub round_works : (w now : World) (t s u : Tally) → s ≡ record t { works = false } → Does w IsRound s u now → DoesRound w t u u.works now
round_works w now t s u is d = record {
  events = d.events;
  are = d.are;
  happened = d.happened;
  runs = ap (λ x. x.runs) d.tally ∙ ap (λ (x : Tally). risen is_run x.runs w d.events) is;
  posts = ap (λ x. x.posts) d.tally ∙ ap (λ (x : Tally). risen is_post x.posts w d.events) is;
  is = ap (λ x. x.works) d.tally ∙ ap (λ (x : Tally). worked x.works w d.events) is ∙ worked_is w d.events;
}

-- ---- rounds

-- So many rounds may follow, and these were done and counted; so many of them had work.
pub record Rounding (start : World) (whole : ℕ) (with_work left : ℕ) (t : Tally) (now : World) : Type 0 where
  pub done : List Event
  pub happened : HaveHappened start done now
  pub runs : t.runs ≡ risen is_run 0 start done
  pub posts : t.posts ≡ risen is_post 0 start done
  pub count : ℕ
  pub is : with_work ≡ counted count
  pub leads : (list : List (List Event)) → AreRounds left now list
      → (all : List (List Event)) × AreRounds whole start all × (done ++ flat_map (λ r. r) list ≡ flat_map (λ r. r) all) × (count + rounds_with_work now list ≡ rounds_with_work start all)

pub rounding_none : (start : World) (whole : ℕ) (t : Tally) → t ≡ record { runs = 0; posts = 0; works = false } → Rounding start whole 0 whole t start
rounding_none start whole t is = record {
  done = [];
  happened = nothing_happened start;
  runs = ap (λ x. x.runs) is;
  posts = ap (λ x. x.posts) is;
  count = 0;
  is = refl;
  leads = λ list are. (list, are, refl, (let zero : 0 + rounds_with_work start list ≡ rounds_with_work start list = omega arith in zero));
}

pub rounding_on : (start now next : World) (whole with_work left : ℕ) (t u : Tally) (works : Bool) → 0 < left → Rounding start whole with_work left t now → DoesRound now t u works next
    → Rounding start whole (if works then raised with_work else with_work) (if works then left - 1 else 0) u next
rounding_on start now next whole with_work zero t u works some g d = absurd (omega (arith, some))
rounding_on start now next whole with_work (suc more) t u works some g d = record {
  done = g.done ++ d.events;
  happened = happened_then start now next g.done d.events g.happened d.happened;
  runs = d.runs ∙ ap (λ n. risen is_run n now d.events) g.runs ∙ ap (λ w. risen is_run (risen is_run 0 start g.done) w d.events) (g.happened).world ∙ sym (risen_append is_run 0 start g.done d.events);
  posts = d.posts ∙ ap (λ n. risen is_post n now d.events) g.posts ∙ ap (λ w. risen is_post (risen is_post 0 start g.done) w d.events) (g.happened).world ∙ sym (risen_append is_post 0 start g.done d.events);
  count = (if works then g.count + 1 else g.count);
  is = counted_by works;
  leads = λ list are. on works d.is list (subst (λ w. AreRounds (if works then suc more - 1 else 0) w list) (d.happened).world are)
      (ap (λ w. rounds_with_work w list) (d.happened).world);
}
  where
    counted_by : (b : Bool) → (if b then raised with_work else with_work) ≡ counted (if b then g.count + 1 else g.count)
    counted_by true = ap raised g.is ∙ counted_raised g.count
    counted_by false = g.is

    on : (b : Bool) → b ≡ has_work now d.events → (list : List (List Event)) → AreRounds (if b then suc more - 1 else 0) (after_events now d.events) list
        → rounds_with_work next list ≡ rounds_with_work (after_events now d.events) list
        → (all : List (List Event)) × AreRounds whole start all × ((g.done ++ d.events) ++ flat_map (λ r. r) list ≡ flat_map (λ r. r) all)
        × ((if b then g.count + 1 else g.count) + rounds_with_work next list ≡ rounds_with_work start all)
    on true e list are same =
        let F : Bool → Type 0 = λ b. Follows {X = List Event} b (AreRounds more (after_events now d.events) list) list in
        let less : suc more - 1 ≡ more = omega arith in
        let mine : AreRounds more (after_events now d.events) list = subst (λ n. AreRounds n (after_events now d.events) list) less are in
        let all = g.leads (d.events ∷ list) (d.are, subst F e mine) in
        let flat = append_assoc g.done d.events (flat_map (λ r. r) list) ∙ ap (λ es. g.done ++ es) (sym (flat_map-cons (λ r. r) d.events list)) ∙ all.2 in
        let one : rounds_with_work now (d.events ∷ list) ≡ 1 + rounds_with_work (after_events now d.events) list =
        ap (λ b. (if b then 1 else 0) + rounds_with_work (after_events now d.events) list) (sym e) in
        let total = all.3 in
        (all.0, all.1, flat, omega (arith, one, total, same))
    on false e list are same =
        let F : Bool → Type 0 = λ b. Follows {X = List Event} b (AreRounds more (after_events now d.events) list) list in
        let all = g.leads (d.events ∷ list) (d.are, subst F e are) in
        let flat = append_assoc g.done d.events (flat_map (λ r. r) list) ∙ ap (λ es. g.done ++ es) (sym (flat_map-cons (λ r. r) d.events list)) ∙ all.2 in
        let one : rounds_with_work now (d.events ∷ list) ≡ 0 + rounds_with_work (after_events now d.events) list =
        ap (λ b. (if b then 1 else 0) + rounds_with_work (after_events now d.events) list) (sym e) in
        let total = all.3 in
        (all.0, all.1, flat, omega (arith, one, total, same))

pub rounding_works : (start now next : World) (whole with_work left : ℕ) (t u : Tally) (works : Bool) → 0 < left → works ≡ true → Rounding start whole with_work left t now → DoesRound now t u works next
    → (more : ℕ) → more ≡ (if works then raised with_work else with_work) → Rounding start whole more (left - 1) u next
rounding_works start now next whole with_work left t u works some is g d more same =
    let R : Bool → Type 0 = λ b. Rounding start whole more (if b then left - 1 else 0) u next in
    let S : ℕ → Type 0 = λ n. Rounding start whole n (if works then left - 1 else 0) u next in
    subst R is (subst S (sym same) (rounding_on start now next whole with_work left t u works some g d))

pub rounding_rests : (start now next : World) (whole with_work left : ℕ) (t u : Tally) (works : Bool) → 0 < left → works ≡ false → Rounding start whole with_work left t now → DoesRound now t u works next
    → (more : ℕ) → more ≡ (if works then raised with_work else with_work) → Rounding start whole more 0 u next
rounding_rests start now next whole with_work left t u works some is g d more same =
    let R : Bool → Type 0 = λ b. Rounding start whole more (if b then left - 1 else 0) u next in
    let S : ℕ → Type 0 = λ n. Rounding start whole n (if works then left - 1 else 0) u next in
    subst R is (subst S (sym same) (rounding_on start now next whole with_work left t u works some g d))

-- all rounds are done
pub rounding_done : (start now : World) (whole with_work left : ℕ) (t : Tally) → left ≡ 0 → Rounding start whole with_work left t now
    → Settles start whole (record { rounds = with_work; runs = t.runs; posts = t.posts }) now
rounding_done start now whole with_work left t none g =
    let A : ℕ → Type 0 = λ n. AreRounds n now [] in
    let all = g.leads [] (subst A (sym none) refl) in
    let same : g.done ≡ flat_map (λ r. r) all.0 = sym (append-nil g.done) ∙ all.2 in
    let total = all.3 in
    let count : g.count ≡ rounds_with_work start all.0 = omega (arith, total) in
    record {
      events = g.done;
      are = record {
        list = all.0;
        are = all.1;
        whole = same;
        rounds = g.is ∙ ap counted count;
        runs = g.runs ∙ risen_is is_run start g.done;
        posts = g.posts ∙ risen_is is_post start g.done;
      };
      happened = g.happened;
    }

-- of the next round some first events happened
pub rounding_within : (start now end : World) (whole with_work left : ℕ) (t : Tally) → 0 < left → Rounding start whole with_work left t now → DoesFirst now IsRound end → SettlesFirst start whole end
rounding_within start now end whole with_work zero t some g d = absurd (omega (arith, some))
rounding_within start now end whole with_work (suc more) t some g d =
    let round = d.done ++ d.rest in
    let list = list_of round (has_work now round) refl in
    let all = g.leads (round ∷ list.0) (d.are, list.1) in
    let is = settling_has start whole all.0 all.1 in
    let tail = flat_map (λ r. r) list.0 in
    let same : flat_map (λ r. r) all.0 ≡ (g.done ++ d.done) ++ (d.rest ++ tail) =
    sym all.2 ∙ ap (λ es. g.done ++ es) (flat_map-cons (λ r. r) round list.0 ∙ append_assoc d.done d.rest tail) ∙ sym (append_assoc g.done d.done (d.rest ++ tail)) in
    record {
      done = g.done ++ d.done;
      rest = d.rest ++ tail;
      are = subst (AreOfSettling whole start) same (counts_of start all.0, is);
      happened = happened_then start now end g.done d.done g.happened d.happened;
    }
  where
    list_of : (round : List Event) (b : Bool) → has_work now round ≡ b → (list : List (List Event)) × Follows {X = List Event} (has_work now round) (AreRounds more (after_events now round) list) list
    list_of round true e = (let r = rounds_has more (after_events now round) in (r.0, subst (λ b. Follows {X = List Event} b (AreRounds more (after_events now round) r.0) r.0) (sym e) r.1))
    list_of round false e = ([], subst (λ b. Follows {X = List Event} b (AreRounds more (after_events now round) []) []) (sym e) refl)

-- ---- soundness

settles_sound : (start now : World) (events : List Event) → HaveHappened start events now → KeepsSound start now
settles_sound start now events h sound = subst IsSound (sym h.world) (events_sound events start sound h.few)

pub rounding_sound : (start now : World) (whole with_work left : ℕ) (t : Tally) → Rounding start whole with_work left t now → KeepsSound start now
rounding_sound start now whole with_work left t g = settles_sound start now g.done g.happened

pub first_sound : (start end : World) (n : ℕ) → SettlesFirst start n end → KeepsSound start end
first_sound start end n d = settles_sound start end d.done d.happened
