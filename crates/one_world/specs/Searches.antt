-- The search of an order, root by root: always the first root that comes next in all logs.
use Rattle.std.specs.Prelude.{◌≡◌, ℕ, Bool, true, false, not, ◌&&◌, List, [], ◌∷◌, ◌++◌, length, map, Option, Some, None, if◌then◌else◌}
use Rattle.std.specs.Option.{is_some}
use Rattle.lang_core.specs.declared.ids.RequestId.{RequestId}
use Rattle.execution.specs.Executions.{Act, History, survives}
use Rattle.execution.specs.Together.{history_in, name_of}
use Rattle.one_world.specs.Checks.{Left, behind_id}

-- a service, and what is left of its log
pub record Log : Type 0 where
  pub history : History
  pub left : List Act

abbrev pub whole_log : History → Log
whole_log h = record { history = h; left = h.acts }

-- all logs, of which nothing was passed
abbrev pub logs_of : List History → List Log
logs_of world = map whole_log world

-- the number of the first request that survives
abbrev pub front : List Act → Option ℕ
front [] = None
front (a ∷ left) = if survives a then Some a.id else front left

-- these logs, where each goes on as it should
abbrev pub Logs : Type 0
Logs = Option (List Log)

abbrev pub and_logs : Log → Logs → Logs
and_logs l None = None
and_logs l (Some logs) = Some (l ∷ logs)

abbrev pub and_left : History → Left → Logs → Logs
and_left h None logs = None
and_left h (Some left) logs = and_logs (record { history = h; left = left }) logs

-- what is left of these logs behind a root and all that it calls, where that comes next in each of them
abbrev pub behind_each : List History → RequestId → List Log → Logs
behind_each world i [] = Some []
behind_each world i (l ∷ logs) =
    and_left l.history (behind_id (length world) world (name_of l.history) i.number (history_in i.service world) l.left) (behind_each world i logs)

-- a root, and what is left behind it
abbrev pub Taken : Type 0
Taken = Option (RequestId × List Log)

abbrev pub taken : RequestId → Logs → Taken
taken i None = None
taken i (Some logs) = Some (i, logs)

abbrev pub named : History → ℕ → RequestId
named h n = record { service = name_of h; number = n }

-- the request of this number, if there is one, where it is a root that comes next in all logs
abbrev pub tried : List History → List Log → History → Option ℕ → Taken
tried world logs h None = None
tried world logs h (Some n) = taken (named h n) (behind_each world (named h n) logs)

abbrev pub or_later : Taken → Taken → Taken
or_later None later = later
or_later (Some found) later = Some found

-- of these logs the first that goes on with a root that comes next in all
abbrev pub next_root : List History → List Log → List Log → Taken
next_root world logs [] = None
next_root world logs (l ∷ part) = or_later (tried world logs l.history (front l.left)) (next_root world logs part)

-- nothing that survives is left of these logs
abbrev pub all_passed : List Log → Bool
all_passed [] = true
all_passed (l ∷ logs) = not (is_some (front l.left)) && all_passed logs

-- a step of a search: the next root is taken, or there is none
abbrev pub IsStep : List History → List RequestId → List Log → List RequestId → List Log → Bool → Type 0
IsStep world order logs order_now logs_now true = (i : RequestId) × (next_root world logs logs ≡ Some (i, logs_now)) × (order_now ≡ order ++ i ∷ [])
IsStep world order logs order_now logs_now false = (next_root world logs logs ≡ None) × (order_now ≡ order) × (logs_now ≡ logs)
