-- The way up from a request to its root, and the requests that are left of logs, each with its root.
use Rattle.std.specs.Prelude.{ℕ, zero, suc, Bool, List, [], ◌∷◌, ◌++◌, Option, Some, None, find, length, map, nat_eq, ◌==◌, if◌then◌else◌}
use Rattle.std.specs.List.{list_any, position}
use Rattle.lang_core.specs.declared.ids.Origin.{Origin}
use Rattle.lang_core.specs.declared.ids.Origin.TheVariants.{Outside, Call}
use Rattle.execution.specs.Executions.{Act, History, survives}
use Rattle.execution.specs.Together.{history_in, name_of}
use Rattle.order_finder.specs.declared.candidate.At.{At}
use Rattle.one_order.specs.Cycles.{Place, id_at}
use Rattle.one_order.specs.Pairs.{Rooted, is_turned, leads_to}
use Rattle.one_order.specs.Shown.{act_at, name_at}
use Rattle.one_order.specs.declared.pairs.Neighbours.{Neighbours}
use Rattle.one_order.specs.declared.pairs.Sought.{Sought}
use Rattle.one_order.specs.declared.pairs.Sought.TheVariants.{Into, Turned}
use Rattle.one_order.specs.declared.roots.Rooted.{Rooted as RootedEntry}
use Rattle.one_order.specs.Shown.{place_of}
use Rattle.one_world.specs.Searches.{Log}

-- ---- the way up

-- the request that made the call of this number
abbrev pub made_in : ℕ → List Act → Option Act
made_in number acts = find (λ a. list_any (nat_eq number) a.numbers) acts

abbrev pub with_slot : History → Act → Option ℕ → Option (Place × ℕ)
with_slot h a None = None
with_slot h a (Some slot) = Some (record { history = h; act = a }, slot)

abbrev pub called_in : ℕ → History → Option Act → Option (Place × ℕ)
called_in number h None = None
called_in number h (Some a) = with_slot h a (position (λ n. n == number) a.numbers)

abbrev pub called_by : ℕ → Option History → Option (Place × ℕ)
called_by number None = None
called_by number (Some h) = called_in number h (made_in number h.acts)

-- the request that made the call which one comes from, and the call's slot
abbrev pub caller_of : List History → Origin → Option (Place × ℕ)
caller_of world Outside = None
caller_of world (Call caller number) = called_by number (history_in caller world)

-- a root, and the slots in which calls lead from it down to a request
pub record WayUp : Type 0 where
  pub root : Place
  pub slots : List ℕ

abbrev pub climb_on : (Place → List ℕ → WayUp) → Place → List ℕ → Option (Place × ℕ) → WayUp
climb_on go p slots None = record { root = p; slots = slots }
climb_on go p slots (Some caller) = go caller.0 (caller.1 ∷ slots)

-- so many callers up at most, where these slots lead on
abbrev pub climb : ℕ → List History → Place → List ℕ → WayUp
climb zero world p slots = record { root = p; slots = slots }
climb (suc n) world p slots = climb_on (climb n world) p slots (caller_of world p.act.origin)

-- as many as wait for a request
abbrev pub way_up : List History → Place → WayUp
way_up world p = climb (length p.act.request.chain) world p []

-- a request with its root
abbrev pub rooted : List History → Place → Rooted
rooted world p = record { id = id_at p; root = id_at (way_up world p).root; slots = (way_up world p).slots }

-- ---- what is left

abbrev pub found_place : Option Place → List Place
found_place None = []
found_place (Some p) = p ∷ []

-- the requests of a service that are left and survive, as the service has them
abbrev pub places_left : List History → History → List Act → List Place
places_left world h [] = []
places_left world h (a ∷ left) =
    if survives a then found_place (act_at a.id (history_in (name_of h) world)) ++ places_left world h left else places_left world h left

abbrev pub rooted_left : List History → Log → List Rooted
rooted_left world l = map (rooted world) (places_left world l.history l.left)

abbrev pub all_rooted : List History → List Log → List (List Rooted)
all_rooted world logs = map (rooted_left world) logs

abbrev pub first_of : List Place → Option Place
first_of [] = None
first_of (p ∷ places) = Some p

abbrev pub or_place : Option Place → Option Place → Option Place
or_place None later = later
or_place (Some p) later = Some p

-- the first that is left
abbrev pub first_left : List History → List Log → Option Place
first_left world [] = None
first_left world (l ∷ logs) = or_place (first_of (places_left world l.history l.left)) (first_left world logs)

-- ---- as the code has them

abbrev pub rooted_of : RootedEntry → Rooted
rooted_of r = record { id = name_at r.at; root = name_at r.root; slots = r.slots.items }

abbrev pub rooted_at : List History → At → Rooted
rooted_at world e = rooted world (place_of e)

abbrev pub both_rooted : List History → Neighbours → Rooted × Rooted
both_rooted world pair = (rooted_at world pair.first, rooted_at world pair.second)

-- what is sought of two neighbours
abbrev pub sought_of : Sought → Rooted → Rooted → Bool
sought_of Turned = is_turned
sought_of (Into root) = leads_to (name_at root)
