-- Entries that survive, each with its root, and the first two neighbours of a log of which something holds.
use Rattle.std.specs.Prelude.{◌≡◌, ◌⊎◌, ℕ, Bool, not, ◌&&◌, List, [], ◌∷◌, ◌++◌, Option, Some, None, reverse, if◌then◌else◌}
use Rattle.lang_core.specs.declared.ids.RequestId.{RequestId}
use Rattle.execution.specs.Executions.{History}
use Rattle.one_order.specs.Cycles.{IsBefore, LeadTo, is_earlier}
use Rattle.one_order.specs.Shown.{same_ids}

-- a request, and the slots in which calls lead from its root down to it
pub record Rooted : Type 0 where
  pub id : RequestId
  pub root : RequestId
  pub slots : List ℕ

-- both are of one root, which comes to the second first
abbrev pub is_turned : Rooted → Rooted → Bool
is_turned first second = same_ids first.root second.root && is_earlier second.slots first.slots

-- the second is of this root, and the first isn't
abbrev pub leads_to : RequestId → Rooted → Rooted → Bool
leads_to root first second = not (same_ids first.root root) && same_ids second.root root

abbrev pub Pair : Type 0
Pair = Option (Rooted × Rooted)

abbrev pub pair_behind : (Rooted → Rooted → Bool) → Rooted → List Rooted → Pair
pair_behind test first [] = None
pair_behind test first (second ∷ later) = if test first second then Some (first, second) else pair_behind test second later

-- the first two neighbours of a log that pass a test
abbrev pub pair_in : (Rooted → Rooted → Bool) → List Rooted → Pair
pair_in test [] = None
pair_in test (first ∷ later) = pair_behind test first later

abbrev pub or_pair : Pair → Pair → Pair
or_pair None later = later
or_pair (Some found) later = Some found

-- the same of these logs
abbrev pub pair_of : (Rooted → Rooted → Bool) → List (List Rooted) → Pair
pair_of test [] = None
pair_of test (log ∷ logs) = or_pair (pair_in test log) (pair_of test logs)

-- a root is that of one of these
abbrev pub IsRootIn : RequestId → List Rooted → Type 0
IsRootIn i [] = ⊥
IsRootIn i (e ∷ entries) = (e.root ≡ i) ⊎ IsRootIn i entries

abbrev pub IsRootOf : RequestId → List (List Rooted) → Type 0
IsRootOf i [] = ⊥
IsRootOf i (log ∷ logs) = IsRootIn i log ⊎ IsRootOf i logs

-- ---- from a root to one before it

-- these roots up to one, with it, if it is among them
abbrev pub and_roots : RequestId → Option (List RequestId) → Option (List RequestId)
and_roots i None = None
and_roots i (Some roots) = Some (i ∷ roots)

abbrev pub up_to : RequestId → List RequestId → Option (List RequestId)
up_to root [] = None
up_to root (i ∷ roots) = if same_ids i root then Some (i ∷ []) else and_roots i (up_to root roots)

-- roots, each but the first before the one in front of it, and the last of them
pub record IsWalk (world : List History) (roots : List RequestId) (last : RequestId) : Type 0 where
  pub start : RequestId
  pub back : List RequestId
  pub is : reverse roots ≡ last ∷ back
  pub leads : LeadTo world last back start

-- a root more, which wasn't among them
pub record GoesBack (world : List History) (roots : List RequestId) (last : RequestId) (logs : List (List Rooted)) (roots_now : List RequestId) (last_now : RequestId) : Type 0 where
  pub is : roots_now ≡ roots ++ last_now ∷ []
  pub before : IsBefore world last_now last
  pub among : IsRootOf last_now logs
  pub new : up_to last_now (reverse roots) ≡ None
