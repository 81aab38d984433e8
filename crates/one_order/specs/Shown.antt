-- The test of two entries that are to show that there is no order.
use Rattle.std.specs.Prelude.{ℕ, Bool, false, not, ◌&&◌, List, [], ◌∷◌, Option, Some, None, nat_eq, if◌then◌else◌}
use Rattle.lang_base.specs.Texts.{same_text}
use Rattle.lang_core.specs.declared.ids.RequestId.{RequestId}
use Rattle.execution.specs.Executions.{Act, History, survives}
use Rattle.execution.specs.Together.{history_in}
use Rattle.dump_tables.specs.declared.dump.DumpEntry.{DumpEntry}
use Rattle.dump_audit.specs.Histories.{act_of, history_of}
use Rattle.order_finder.specs.declared.candidate.At.{At}
use Rattle.one_order.specs.Cycles.{Place, along, id_at, place_in}
use Rattle.one_order.specs.Logs.{acts_of}
use Rattle.one_world.specs.Checks.{is_outside}
use Rattle.one_world.specs.Searches.{front}
use Rattle.one_world.specs.Trees.{act_in}

-- an entry, as a request of a history
abbrev pub place_of : At → Place
place_of e = record { history = history_of e.service.now; act = act_of e.entry.now }

-- its name
abbrev pub name_at : At → RequestId
name_at e = id_at (place_of e)

abbrev pub same_ids : RequestId → RequestId → Bool
same_ids a b = nat_eq a.number b.number && same_text a.service b.service

abbrev pub is_at : RequestId → Option Place → Bool
is_at id None = false
is_at id (Some p) = survives p.act && same_ids (id_at p) id

abbrev pub act_at : ℕ → Option History → Option Place
act_at number None = None
act_at number (Some h) = place_in h (act_in number h.acts)

abbrev pub comes_by : List History → List ℕ → RequestId → Option Place → Bool
comes_by world slots id None = false
comes_by world slots id (Some p) = (is_outside p.act.origin && survives p.act) && is_at id (along world slots p)

-- a root comes to a request that survives, by these slots
abbrev pub comes_to : List History → RequestId → List ℕ → RequestId → Bool
comes_to world root slots id = comes_by world slots id (act_at root.number (history_in root.service world))

abbrev pub is_front : ℕ → Option ℕ → Bool
is_front n None = false
is_front n (Some m) = nat_eq m n

-- the second stands directly behind the first, among those of a log that survive
abbrev pub are_next : ℕ → ℕ → List Act → Bool
are_next first second [] = false
are_next first second (a ∷ acts) = if survives a && nat_eq a.id first then is_front second (front acts) else are_next first second acts

-- the same of the first of these, which survives
abbrev pub next_behind : ℕ → List DumpEntry → Bool
next_behind second [] = false
next_behind second (e ∷ later) = survives (act_of e) && is_front second (front (acts_of later))

abbrev pub next_in : ℕ → ℕ → Option History → Bool
next_in first second None = false
next_in first second (Some h) = are_next first second h.acts

abbrev pub are_neighbours : List History → RequestId → RequestId → Bool
are_neighbours world first second = same_text first.service second.service && next_in first.number second.number (history_in first.service world)

-- two neighbours, with the roots that come to them
abbrev pub is_pair : List History → RequestId → RequestId → RequestId → RequestId → List ℕ → List ℕ → Bool
is_pair world first second root other first_slots second_slots =
    are_neighbours world first second && (comes_to world root first_slots first && comes_to world other second_slots second)

-- a root is before another, which comes to the second of two neighbours
abbrev pub is_before : List History → RequestId → RequestId → RequestId → RequestId → List ℕ → List ℕ → Bool
is_before world root other first second first_slots second_slots =
    not (same_ids root other) && is_pair world first second root other first_slots second_slots
