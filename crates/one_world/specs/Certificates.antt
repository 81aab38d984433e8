-- Which orders of the roots are certificates.
use Rattle.std.specs.Prelude.{ℕ, ◌≡◌, List, [], ◌∷◌, map, filter}
use Rattle.std.specs.List.{AllByRecursion}
use Rattle.lang_base.specs.Texts.{same_text}
use Rattle.lang_core.specs.declared.ids.RequestId.{RequestId}
use Rattle.execution.specs.Executions.{Act, History, survives}
use Rattle.execution.specs.Together.{name_of}
use Rattle.one_world.specs.Trees.{AreRoots, IsRoot, Trees, call_order}

-- the numbers of those requests that are of the service of this name
abbrev pub numbers_at : List ℕ → List RequestId → List ℕ
numbers_at name ids = map (λ i. i.number) (filter (λ i. same_text i.service name) ids)

-- the numbers of requests that survive, in their order
abbrev pub survivors : List Act → List ℕ
survivors acts = map (λ a. a.id) (filter survives acts)

-- the roots in this order, each with all that it calls, come to the requests of each service in the order of its log: to each that survives, and to each
-- once
pub record Passes (world : List History) (order : List RequestId) : Type 0 where
  pub trees : Trees
  pub roots : AreRoots trees world order
  pub logged : AllByRecursion (λ h. numbers_at (name_of h) (call_order trees) ≡ survivors h.acts) world

-- no two of these are the same
abbrev pub AreApart : {X : Type 0} → List X → Type 0
AreApart [] = Unit {0}
AreApart (x ∷ xs) = AllByRecursion (λ y. ¬ (x ≡ y)) xs × AreApart xs

-- no two services have one name, and in none do two requests have one number
pub record AreNamed (world : List History) : Type 0 where
  pub names : AreApart (map name_of world)
  pub ids : AllByRecursion (λ h. AreApart (map (λ (a : Act). a.id) h.acts)) world

-- each of these is a root
abbrev pub AllRoots : List History → List RequestId → Type 0
AllRoots world order = AllByRecursion (λ i. (h : History) × (a : Act) × IsRoot world i h a) order
