-- Settling comes to an end, and there is one list of its events.
use Rattle.std.proofs.Common.{◌≡◌, ℕ, zero, suc, ◌<◌, ◌≤◌, Bool, true, false, List, [], ◌∷◌, ◌++◌, Option, Some, None, flat_map, nat_lt, refl, ap, sym, ◌∙◌, subst, arith, ltb-true}
use Rattle.std.proofs.lemmas.Bool.{and_parts}
use Rattle.world_events.specs.Events.{after_event, after_events, answer_to}
use Rattle.world_events.specs.Worlds.{World}
use Rattle.world_events.specs.declared.event.Event.{Event}
use Rattle.world_events.specs.declared.event.Event.TheVariants.{Deliver, Post as Posts, Step}
use Rattle.world_core.specs.HandedOn.{written}
use Rattle.world_settle.specs.Doing.{AreOfSettling, IsSettled}
use Rattle.world_settle.specs.Settles.{AreExchanges, AreRounds, EachInOrder, Follows, IsDelivered, IsExchange, IsPosting, IsRound, IsSettling, IsShare, IsStepping, Then, any_came, came, counted, entries_of, goes_on, has_work, how_many, is_done, is_post, is_run, names_of, others, outstanding_for, rounds_with_work}
use Rattle.world_settle.specs.declared.settled.Settled.{Settled}

-- ---- there is a list, and one

-- a list of events of which this holds
abbrev pub Has : (World → List Event → Type 0) → World → Type 0
Has Are w = (events : List Event) × Are w events

-- two such lists are one
abbrev pub One : (World → List Event → Type 0) → World → Type 0
One Are w = (xs ys : List Event) → Are w xs → Are w ys → xs ≡ ys

-- ---- what follows

follows_has : {X : Type 0} (b : Bool) (More : List X → Type 0) → (b ≡ true → (xs : List X) × More xs) → (xs : List X) × Follows b (More xs) xs
follows_has true More h = h refl
follows_has false More h = ([], refl)

follows_one : {X : Type 0} (b : Bool) (M N : Type 0) (xs ys : List X) → (M → N → xs ≡ ys) → Follows b M xs → Follows b N ys → xs ≡ ys
follows_one true M N xs ys one a c = one a c
follows_one false M N xs ys one a c = a ∙ sym c

-- ---- one behind another

pub then_has : (First Rest : World → List Event → Type 0) (w : World) → Has First w → ((now : World) → Has Rest now) → Has (Then First Rest) w
then_has First Rest w first rest =
    let more = rest (after_events w first.0) in
    (first.0 ++ more.0, (first.0, more.0, refl, first.1, more.1))

then_one : (First Rest : World → List Event → Type 0) (w : World) → One First w → ((now : World) → One Rest now) → One (Then First Rest) w
then_one First Rest w first rest xs ys a b =
    let same : a.0 ≡ b.0 = first a.0 b.0 a.3 b.3 in
    let R : List Event → Type 0 = λ es. Rest (after_events w es) b.1 in
    let more : a.1 ≡ b.1 = rest (after_events w a.0) a.1 b.1 a.4 (subst R (sym same) b.4) in
    a.2 ∙ ap (λ es. es ++ a.1) same ∙ ap (λ es. b.0 ++ es) more ∙ sym b.2

pub each_has : {X : Type 0} (Are : X → World → List Event → Type 0) → ((x : X) (w : World) → Has (Are x) w) → (xs : List X) (w : World) → Has (EachInOrder Are xs) w
each_has Are has [] w = ([], refl)
each_has Are has (x ∷ xs) w = then_has (Are x) (λ now rest. EachInOrder Are xs now rest) w (has x w) (λ now. each_has Are has xs now)

each_one : {X : Type 0} (Are : X → World → List Event → Type 0) → ((x : X) (w : World) → One (Are x) w) → (xs : List X) (w : World) → One (EachInOrder Are xs) w
each_one Are one [] w ys zs a b = a ∙ sym b
each_one Are one (x ∷ xs) w ys zs a b = then_one (Are x) (λ now rest. EachInOrder Are xs now rest) w (one x w) (λ now. each_one Are one xs now) ys zs a b

-- ---- steps

pub stepping_has : (name : List ℕ) (n : ℕ) (w : World) → Has (IsStepping name n) w
stepping_has name zero w = ([], refl)
stepping_has name (suc n) w =
    let e = Step name in
    let more = follows_has (came is_run (answer_to w e)) (λ events. IsStepping name n (after_event w e) events) (λ _. stepping_has name n (after_event w e)) in
    (e ∷ more.0, (refl, more.1))

stepping_one : (name : List ℕ) (n : ℕ) (w : World) → One (IsStepping name n) w
stepping_one name zero w xs ys a b = a ∙ sym b
stepping_one name (suc n) w [] ys a b = absurd a
stepping_one name (suc n) w (x ∷ xs) [] a b = absurd b
stepping_one name (suc n) w (x ∷ xs) (y ∷ ys) a b =
    let same : x ≡ y = a.0 ∙ sym b.0 in
    let F : Event → Type 0 = λ e. Follows (came is_run (answer_to w e)) (IsStepping name n (after_event w e) ys) ys in
    let more : xs ≡ ys =
    follows_one (came is_run (answer_to w x)) (IsStepping name n (after_event w x) xs) (IsStepping name n (after_event w x) ys) xs ys
    (λ c d. stepping_one name n (after_event w x) xs ys c d) a.1 (subst F (sym same) b.1) in
    ap (λ e. e ∷ xs) same ∙ ap (λ es. y ∷ es) more

-- ---- exchanges

pub delivered_has : (n : ℕ) (packet : Option ℕ) (w : World) → Has (λ now events. IsDelivered n now packet events) w
delivered_has zero packet w = ([], refl)
delivered_has (suc n) None w = ([], refl)
delivered_has (suc n) (Some number) w =
    let e = Deliver number in
    let more = delivered_has n (written w e) (after_event w e) in
    (e ∷ more.0, (refl, more.1))

delivered_one : (n : ℕ) (packet : Option ℕ) (w : World) → One (λ now events. IsDelivered n now packet events) w
delivered_one zero packet w xs ys a b = a ∙ sym b
delivered_one (suc n) None w xs ys a b = a ∙ sym b
delivered_one (suc n) (Some number) w [] ys a b = absurd a
delivered_one (suc n) (Some number) w (x ∷ xs) [] a b = absurd b
delivered_one (suc n) (Some number) w (x ∷ xs) (y ∷ ys) a b =
    let same : x ≡ y = a.0 ∙ sym b.0 in
    let D : Event → Type 0 = λ e. IsDelivered n (after_event w e) (written w e) ys in
    ap (λ e. e ∷ xs) same ∙ ap (λ es. y ∷ es) (delivered_one n (written w x) (after_event w x) xs ys a.1 (subst D (sym same) b.1))

pub exchange_has : (from to : List ℕ) (w : World) → Has (IsExchange from to) w
exchange_has from to w =
    let e = Posts from to in
    let more = delivered_has 2 (written w e) (after_event w e) in
    (e ∷ more.0, (refl, more.1))

exchange_one : (from to : List ℕ) (w : World) → One (IsExchange from to) w
exchange_one from to w [] ys a b = absurd a
exchange_one from to w (x ∷ xs) [] a b = absurd b
exchange_one from to w (x ∷ xs) (y ∷ ys) a b =
    let same : x ≡ y = a.0 ∙ sym b.0 in
    let D : Event → Type 0 = λ e. IsDelivered 2 (after_event w e) (written w e) ys in
    ap (λ e. e ∷ xs) same ∙ ap (λ es. y ∷ es) (delivered_one 2 (written w x) (after_event w x) xs ys a.1 (subst D (sym same) b.1))

-- where another one follows, fewer posts are outstanding than before
pub fewer : (from to : List ℕ) (w : World) (x : List Event) → goes_on from to w x ≡ true → outstanding_for from to (after_events w x) < outstanding_for from to w
fewer from to w x e =
    let later = outstanding_for from to (after_events w x) in
    let now = outstanding_for from to w in
    ltb-true later now (and_parts (any_came is_done w x) (nat_lt later now) e).1

-- so at most as many follow as are outstanding
exchanges_within : (n : ℕ) (from to : List ℕ) (w : World) → outstanding_for from to w ≤ n → (xs : List (List Event)) × AreExchanges from to w xs
exchanges_within zero from to w h =
    let x = exchange_has from to w in
    let more = follows_has (goes_on from to w x.0) (λ xs. AreExchanges from to (after_events w x.0) xs) (λ e. let f = fewer from to w x.0 e in absurd (omega (arith, f, h))) in
    (x.0 ∷ more.0, (x.1, more.1))
exchanges_within (suc n) from to w h =
    let x = exchange_has from to w in
    let more = follows_has (goes_on from to w x.0) (λ xs. AreExchanges from to (after_events w x.0) xs)
    (λ e. let f = fewer from to w x.0 e in exchanges_within n from to (after_events w x.0) (omega (arith, f, h))) in
    (x.0 ∷ more.0, (x.1, more.1))

exchanges_one : (from to : List ℕ) (w : World) (xs ys : List (List Event)) → AreExchanges from to w xs → AreExchanges from to w ys → xs ≡ ys
exchanges_one from to w [] ys a b = absurd a
exchanges_one from to w (x ∷ xs) [] a b = absurd b
exchanges_one from to w (x ∷ xs) (y ∷ ys) a b =
    let same : x ≡ y = exchange_one from to w x y a.0 b.0 in
    let F : List Event → Type 0 = λ e. Follows (goes_on from to w e) (AreExchanges from to (after_events w e) ys) ys in
    let more : xs ≡ ys =
    follows_one (goes_on from to w x) (AreExchanges from to (after_events w x) xs) (AreExchanges from to (after_events w x) ys) xs ys
    (λ c d. exchanges_one from to (after_events w x) xs ys c d) a.1 (subst F (sym same) b.1) in
    ap (λ e. e ∷ xs) same ∙ ap (λ es. y ∷ es) more

pub posting_has : (from to : List ℕ) (w : World) → Has (IsPosting from to) w
posting_has from to w =
    let xs = exchanges_within (outstanding_for from to w) from to w (omega arith) in
    (flat_map (λ x. x) xs.0, (xs.0, xs.1, refl))

posting_one : (from to : List ℕ) (w : World) → One (IsPosting from to) w
posting_one from to w xs ys a b = a.2 ∙ ap (flat_map (λ x. x)) (exchanges_one from to w a.0 b.0 a.1 b.1) ∙ sym b.2

-- ---- rounds

pub others_has : (name : List ℕ) (names : List (List ℕ)) (w : World) → Has (EachInOrder (IsPosting name) names) w
others_has name names w = each_has (IsPosting name) (posting_has name) names w

pub share_has : (names : List (List ℕ)) (name : List ℕ) (w : World) → Has (IsShare names name) w
share_has names name w =
    then_has (IsStepping name (entries_of name w)) (EachInOrder (IsPosting name) (others name names)) w (stepping_has name (entries_of name w) w)
    (λ now. others_has name (others name names) now)

share_one : (names : List (List ℕ)) (name : List ℕ) (w : World) → One (IsShare names name) w
share_one names name w xs ys a b =
    then_one (IsStepping name (entries_of name w)) (EachInOrder (IsPosting name) (others name names)) w (stepping_one name (entries_of name w) w)
    (λ now. each_one (IsPosting name) (posting_one name) (others name names) now) xs ys a b

pub shares_has : (names left : List (List ℕ)) (w : World) → Has (EachInOrder (IsShare names) left) w
shares_has names left w = each_has (IsShare names) (share_has names) left w

pub round_has : (w : World) → Has IsRound w
round_has w = shares_has (names_of w) (names_of w) w

round_one : (w : World) → One IsRound w
round_one w xs ys a b = each_one (IsShare (names_of w)) (share_one (names_of w)) (names_of w) w xs ys a b

pub rounds_has : (n : ℕ) (w : World) → (list : List (List Event)) × AreRounds n w list
rounds_has zero w = ([], refl)
rounds_has (suc n) w =
    let r = round_has w in
    let more = follows_has (has_work w r.0) (λ list. AreRounds n (after_events w r.0) list) (λ _. rounds_has n (after_events w r.0)) in
    (r.0 ∷ more.0, (r.1, more.1))

rounds_one : (n : ℕ) (w : World) (xs ys : List (List Event)) → AreRounds n w xs → AreRounds n w ys → xs ≡ ys
rounds_one zero w xs ys a b = a ∙ sym b
rounds_one (suc n) w [] ys a b = absurd a
rounds_one (suc n) w (x ∷ xs) [] a b = absurd b
rounds_one (suc n) w (x ∷ xs) (y ∷ ys) a b =
    let same : x ≡ y = round_one w x y a.0 b.0 in
    let F : List Event → Type 0 = λ r. Follows (has_work w r) (AreRounds n (after_events w r) ys) ys in
    let more : xs ≡ ys =
    follows_one (has_work w x) (AreRounds n (after_events w x) xs) (AreRounds n (after_events w x) ys) xs ys
    (λ c d. rounds_one n (after_events w x) xs ys c d) a.1 (subst F (sym same) b.1) in
    ap (λ r. r ∷ xs) same ∙ ap (λ rs. y ∷ rs) more

-- ---- settling

-- the counts of rounds
abbrev pub counts_of : World → List (List Event) → Settled
counts_of w list = record {
  rounds = counted (rounds_with_work w list);
  runs = counted (how_many is_run w (flat_map (λ round. round) list));
  posts = counted (how_many is_post w (flat_map (λ round. round) list));
}

pub settling_has : (w : World) (n : ℕ) (list : List (List Event)) → AreRounds n w list → IsSettling w n (flat_map (λ round. round) list) (counts_of w list)
settling_has w n list are = record { list = list; are = are; whole = refl; rounds = refl; runs = refl; posts = refl }

pub settling_one : (w : World) (n : ℕ) (xs ys : List Event) (c d : Settled) → IsSettling w n xs c → IsSettling w n ys d → (xs ≡ ys) × (c ≡ d)
settling_one w n xs ys c d a b =
    let lists = rounds_one n w a.list b.list a.are b.are in
    let same : xs ≡ ys = a.whole ∙ ap (flat_map (λ round. round)) lists ∙ sym b.whole in
    let rounds : c.rounds ≡ d.rounds = a.rounds ∙ ap (λ list. counted (rounds_with_work w list)) lists ∙ sym b.rounds in
    let runs : c.runs ≡ d.runs = a.runs ∙ ap (λ events. counted (how_many is_run w events)) same ∙ sym b.runs in
    let posts : c.posts ≡ d.posts = a.posts ∙ ap (λ events. counted (how_many is_post w events)) same ∙ sym b.posts in
    (same, (λ i. record { rounds = rounds i; runs = runs i; posts = posts i }))

pub settled : (w : World) (n : ℕ) → IsSettled w n
settled w n =
    let list = rounds_has n w in
    let is = settling_has w n list.0 list.1 in
    record {
      events = flat_map (λ round. round) list.0;
      counts = counts_of w list.0;
      are = is;
      alone = λ others theirs are. settling_one w n others (flat_map (λ round. round) list.0) theirs (counts_of w list.0) are is;
    }

-- as what a line of a script comes to
pub of_settling_has : (n : ℕ) (w : World) → Has (AreOfSettling n) w
of_settling_has n w = (let s = settled w n in (s.events, (s.counts, s.are)))

pub of_settling_one : (n : ℕ) (w : World) → One (AreOfSettling n) w
of_settling_one n w xs ys a b = (settling_one w n xs ys a.0 b.0 a.1 b.1).0
