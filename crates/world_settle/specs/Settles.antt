-- How a world of services comes to rest: rounds in which each service steps until it is idle, and then exchanges its posts
-- with each of the others.
use Rattle.std.specs.Prelude.{ℕ, zero, suc, ◌≡◌, ◌+◌, ◌-◌, ◌^◌, Bool, true, false, ◌&&◌, not, List, [], ◌∷◌, ◌++◌, Option, Some, None, Ok, Err, ◌||◌, if◌then◌else◌, filter, flat_map, length, map, min, nat_lt}
use Rattle.std.specs.Option.{option_map_or}
use Rattle.lang_base.specs.Texts.{same_text}
use Rattle.local_repair.specs.declared.stepped.Stepped.TheVariants.{Ran}
use Rattle.service_events.specs.Flying.{awaited}
use Rattle.service_events.specs.Posts.{outstanding}
use Rattle.service_events.specs.State.{Kept, me, unfolded}
use Rattle.service_events.specs.declared.answers.Posted.TheVariants.{Acked, Confirmed, Saw, Held}
use Rattle.world_agreement.specs.Partners.{service_of}
use Rattle.world_events.specs.Events.{Answer, after_event, after_events, answer_to}
use Rattle.world_events.specs.Worlds.{World}
use Rattle.world_events.specs.declared.event.Event.{Event}
use Rattle.world_events.specs.declared.event.Event.TheVariants.{Deliver, Post as Posts, Step}
use Rattle.world_events.specs.declared.happened.What.{What}
use Rattle.world_events.specs.declared.happened.What.TheVariants.{NextPost, Posted, RepairStep}
use Rattle.world_core.specs.HandedOn.{written}
use Rattle.world_settle.specs.declared.settled.Settled.{Settled}

-- ---- what happened

-- an entry ran again; a step that is idle is no run
abbrev pub is_run : What → Bool
is_run (RepairStep (Ran id answered)) = true
is_run what = false

-- a post was written
abbrev pub is_post : What → Bool
is_post (NextPost (Some name)) = true
is_post what = false

-- an entry ran or a post was written
abbrev pub is_work : What → Bool
is_work what = is_run what || is_post what

-- its sender has a post acknowledged or confirmed, or its answer, or holds it
abbrev pub is_done : What → Bool
is_done (Posted (Ok Acked)) = true
is_done (Posted (Ok Confirmed)) = true
is_done (Posted (Ok Saw)) = true
is_done (Posted (Ok Held)) = true
is_done what = false

-- this came of an event
abbrev pub came : (What → Bool) → Answer → Bool
came passes (Ok h) = passes h.what
came passes (Err why) = false

-- it came of one of these events
abbrev pub any_came : (What → Bool) → World → List Event → Bool
any_came passes w [] = false
any_came passes w (e ∷ events) = came passes (answer_to w e) || any_came passes (after_event w e) events

-- of how many of them it came
abbrev pub how_many : (What → Bool) → World → List Event → ℕ
how_many passes w [] = 0
how_many passes w (e ∷ events) = (if came passes (answer_to w e) then 1 else 0) + how_many passes (after_event w e) events

-- ---- one behind another

-- first the one, and then the other in the world that the one leaves
abbrev pub Then : (World → List Event → Type 0) → (World → List Event → Type 0) → World → List Event → Type 0
Then First Rest w events =
    (first : List Event) × (rest : List Event) × (events ≡ first ++ rest) × First w first × Rest (after_events w first) rest

-- so with each of these in order
abbrev pub EachInOrder : {X : Type 0} → (X → World → List Event → Type 0) → List X → World → List Event → Type 0
EachInOrder Does [] w events = events ≡ []
EachInOrder Does (x ∷ xs) w events = Then (Does x) (λ now rest. EachInOrder Does xs now rest) w events

-- more follows where this holds, and nothing where it doesn't
abbrev pub Follows : {X : Type 0} → Bool → Type 0 → List X → Type 0
Follows true More xs = More
Follows false More xs = xs ≡ []

-- ---- a service steps

-- it makes repair steps until one is idle, at most so many
abbrev pub IsStepping : List ℕ → ℕ → World → List Event → Type 0
IsStepping name zero w events = events ≡ []
IsStepping name (suc more) w [] = ⊥
IsStepping name (suc more) w (e ∷ events) =
    (e ≡ Step name) × Follows (came is_run (answer_to w e)) (IsStepping name more (after_event w e) events) events

-- how many entries it has that aren't folded, which nothing repairs any more
abbrev pub entries_of : List ℕ → World → ℕ
entries_of name w = option_map_or (λ (s : Kept). length (unfolded s)) (service_of name w.services) 0

-- ---- a service posts to another one

-- the packet in hand is delivered, and then the one that this writes, so often
abbrev pub IsDelivered : ℕ → World → Option ℕ → List Event → Type 0
IsDelivered zero w packet events = events ≡ []
IsDelivered (suc more) w None events = events ≡ []
IsDelivered (suc more) w (Some number) [] = ⊥
IsDelivered (suc more) w (Some number) (e ∷ events) =
    (e ≡ Deliver number) × IsDelivered more (after_event w e) (written w e) events

-- the next post is written, if there is one, it is delivered, and so is what comes back of it
abbrev pub IsExchange : List ℕ → List ℕ → World → List Event → Type 0
IsExchange from to w [] = ⊥
IsExchange from to w (e ∷ events) = (e ≡ Posts from to) × IsDelivered 2 (after_event w e) (written w e) events

-- how many posts of a service are outstanding for another one
abbrev pub outstanding_at : List ℕ → Kept → ℕ
outstanding_at to s = length (outstanding s.registers s.replies (map awaited s.flights) to)

abbrev pub outstanding_for : List ℕ → List ℕ → World → ℕ
outstanding_for from to w = option_map_or (outstanding_at to) (service_of from w.services) 0

-- A post was written and wasn't left: its sender has it acknowledged or confirmed, or its answer, or holds it, and so fewer are
-- outstanding than before it.
abbrev pub goes_on : List ℕ → List ℕ → World → List Event → Bool
goes_on from to w exchange =
    any_came is_done w exchange
    && nat_lt (outstanding_for from to (after_events w exchange)) (outstanding_for from to w)

-- exchanges, until there is no post or one was left
abbrev pub AreExchanges : List ℕ → List ℕ → World → List (List Event) → Type 0
AreExchanges from to w [] = ⊥
AreExchanges from to w (x ∷ xs) = IsExchange from to w x × Follows (goes_on from to w x) (AreExchanges from to (after_events w x) xs) xs

abbrev pub IsPosting : List ℕ → List ℕ → World → List Event → Type 0
IsPosting from to w events = (xs : List (List Event)) × AreExchanges from to w xs × (events ≡ flat_map (λ x. x) xs)

-- ---- a round

-- the names that aren't this one, in order
abbrev pub others : List ℕ → List (List ℕ) → List (List ℕ)
others name names = filter (λ other. not (same_text other name)) names

-- to itself a service posts nothing
abbrev pub PostsBy : Bool → List ℕ → List ℕ → World → List Event → Type 0
PostsBy true name other w events = events ≡ []
PostsBy false name other w events = IsPosting name other w events

abbrev pub PostsTo : List ℕ → List ℕ → World → List Event → Type 0
PostsTo name other w events = PostsBy (same_text other name) name other w events

-- a service steps, at most as often as it has entries that aren't folded, and then posts to each other one
abbrev pub IsShare : List (List ℕ) → List ℕ → World → List Event → Type 0
IsShare names name w events =
    Then (IsStepping name (entries_of name w)) (EachInOrder (IsPosting name) (others name names)) w events

abbrev pub names_of : World → List (List ℕ)
names_of w = map me w.services

-- each service does its share
abbrev pub IsRound : World → List Event → Type 0
IsRound w events = EachInOrder (IsShare (names_of w)) (names_of w) w events

-- an entry ran in it, or a post was written
abbrev pub has_work : World → List Event → Bool
has_work w round = any_came is_work w round

-- at most so many rounds; one without work is the last
abbrev pub AreRounds : ℕ → World → List (List Event) → Type 0
AreRounds zero w rounds = rounds ≡ []
AreRounds (suc more) w [] = ⊥
AreRounds (suc more) w (r ∷ rounds) = IsRound w r × Follows (has_work w r) (AreRounds more (after_events w r) rounds) rounds

-- how many of these rounds had work
abbrev pub rounds_with_work : World → List (List Event) → ℕ
rounds_with_work w [] = 0
rounds_with_work w (r ∷ rounds) = (if has_work w r then 1 else 0) + rounds_with_work (after_events w r) rounds

-- ---- settling

-- as far as a number of 64 bits counts
abbrev pub counted : ℕ → ℕ
counted n = min n (2 ^ 64 - 1)

-- these are the events of at most n rounds, and their counts
pub record IsSettling (w : World) (n : ℕ) (events : List Event) (counts : Settled) : Type 0 where
  pub list : List (List Event)
  pub are : AreRounds n w list
  pub whole : events ≡ flat_map (λ round. round) list
  pub rounds : counts.rounds ≡ counted (rounds_with_work w list)
  pub runs : counts.runs ≡ counted (how_many is_run w events)
  pub posts : counts.posts ≡ counted (how_many is_post w events)
