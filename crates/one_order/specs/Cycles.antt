-- Two neighbours of a log that show that no order of the roots passes.
--
-- Both are of one root, which comes to the second first; or the root of the second is before that of the first, by a chain of roots.
use Rattle.std.specs.Prelude.{◌≡◌, ◌⊎◌, ℕ, Bool, true, false, List, [], ◌∷◌, ◌++◌, Option, Some, None, nat_eq, nat_lt, slice_get, if◌then◌else◌}
use Rattle.lang_core.specs.declared.ids.RequestId.{RequestId}
use Rattle.lang_core.specs.declared.trace.CallMade.{CallMade}
use Rattle.execution.specs.Executions.{Act, History, survives}
use Rattle.execution.specs.Together.{history_in, name_of}
use Rattle.one_order.specs.declared.certificates.Certificate.{Certificate}
use Rattle.one_order.specs.declared.certificates.Certificate.TheVariants.{Order, Cycle}
use Rattle.one_world.specs.Certificates.{survivors}
use Rattle.one_world.specs.Trees.{IsRoot, callee_in, calls_of, id_of}

-- ---- where a root comes to

-- a request of a history
pub record Place : Type 0 where
  pub history : History
  pub act : Act

abbrev pub id_at : Place → RequestId
id_at p = id_of p.history p.act

abbrev pub place_in : History → Option Act → Option Place
place_in h None = None
place_in h (Some a) = Some (record { history = h; act = a })

abbrev pub callee_at : List ℕ → ℕ → Option History → Option Place
callee_at caller n None = None
callee_at caller n (Some h) = place_in h (callee_in caller n h.acts)

abbrev pub led_to : List History → List ℕ → Option ℕ → Option CallMade → Option Place
led_to world caller None call = None
led_to world caller (Some n) None = None
led_to world caller (Some n) (Some c) = callee_at caller n (history_in c.dest world)

-- the request to which the call in a slot led
abbrev pub in_slot : List History → Place → ℕ → Option Place
in_slot world p slot = led_to world (name_of p.history) (slice_get p.act.numbers slot) (slice_get (calls_of p.act) slot)

abbrev pub then_along : Option Place → (Place → Option Place) → Option Place
then_along None next = None
then_along (Some p) next = next p

-- the request to which calls led in these slots, one below the other
abbrev pub along : List History → List ℕ → Place → Option Place
along world [] p = Some p
along world (slot ∷ slots) p = then_along (in_slot world p slot) (λ q. along world slots q)

-- a root comes to a request that survives, by these slots
pub record ComesTo (world : List History) (root : RequestId) (slots : List ℕ) (id : RequestId) : Type 0 where
  pub history : History
  pub act : Act
  pub is_root : IsRoot world root history act
  pub place : Place
  pub there : along world slots (record { history = history; act = act }) ≡ Some place
  pub alive : survives place.act ≡ true
  pub is : id_at place ≡ id

-- call order is depth first, by slots
abbrev pub is_earlier : List ℕ → List ℕ → Bool
is_earlier [] [] = false
is_earlier [] (t ∷ ts) = true
is_earlier (s ∷ ss) [] = false
is_earlier (s ∷ ss) (t ∷ ts) = if nat_eq s t then is_earlier ss ts else nat_lt s t

-- ---- which root is before which

-- the second stands directly behind the first, among those of a log that survive
pub record AreNeighbours (world : List History) (first second : RequestId) : Type 0 where
  pub history : History
  pub served : history_in first.service world ≡ Some history
  pub same : first.service ≡ second.service
  pub before : List ℕ
  pub after : List ℕ
  pub is : survivors history.acts ≡ before ++ first.number ∷ second.number ∷ after

-- a root is before another where an entry of the one stands directly before an entry of the other
pub record IsBefore (world : List History) (root other : RequestId) : Type 0 where
  pub first : RequestId
  pub second : RequestId
  pub neighbours : AreNeighbours world first second
  pub first_slots : List ℕ
  pub second_slots : List ℕ
  pub of_root : ComesTo world root first_slots first
  pub of_other : ComesTo world other second_slots second
  pub apart : ¬ (root ≡ other)

-- the same by these two entries
pub record IsLink (world : List History) (root other first second : RequestId) : Type 0 where
  pub before : IsBefore world root other
  pub first_is : before.first ≡ first
  pub second_is : before.second ≡ second

-- from this root on each is before the next, up to the last
abbrev pub LeadTo : List History → RequestId → List RequestId → RequestId → Type 0
LeadTo world root [] last = root ≡ last
LeadTo world root (next ∷ roots) last = IsBefore world root next × LeadTo world next roots last

-- a list of roots from this one to the last, each before the next
pub record IsWay (world : List History) (root last : RequestId) (roots : List RequestId) : Type 0 where
  pub later : List RequestId
  pub is : roots ≡ root ∷ later
  pub way : LeadTo world root later last

-- ---- what is shown

-- both are of one root, which comes to the second first
pub record IsTurned (world : List History) (first second : RequestId) (back : List RequestId) : Type 0 where
  pub root : RequestId
  pub first_slots : List ℕ
  pub second_slots : List ℕ
  pub of_first : ComesTo world root first_slots first
  pub of_second : ComesTo world root second_slots second
  pub turned : is_earlier second_slots first_slots ≡ true
  pub none : back ≡ []

-- the way back leads from the root of the second to that of the first, which is another
pub record LeadsBack (world : List History) (first second : RequestId) (back : List RequestId) : Type 0 where
  pub root : RequestId
  pub other : RequestId
  pub first_slots : List ℕ
  pub second_slots : List ℕ
  pub of_first : ComesTo world root first_slots first
  pub of_second : ComesTo world other second_slots second
  pub apart : ¬ (root ≡ other)
  pub way : IsWay world other root back

pub record ShowsCycle (world : List History) (first second : RequestId) (back : List RequestId) : Type 0 where
  pub neighbours : AreNeighbours world first second
  pub way : IsTurned world first second back ⊎ LeadsBack world first second back

-- a certificate that isn't an order has two entries, and these show that there is none
abbrev pub IsShown : List History → Certificate → Type 0
IsShown world (Order order) = Unit {0}
IsShown world (Cycle first second back) = ShowsCycle world first second back
