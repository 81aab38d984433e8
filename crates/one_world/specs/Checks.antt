-- The test of a certificate, service by service: what is left of the service's log behind each request to which the roots come.
use Rattle.std.specs.Prelude.{ℕ, zero, suc, Bool, true, false, not, ◌&&◌, List, [], ◌∷◌, length, Option, Some, None, nat_eq, if◌then◌else◌}
use Rattle.std.specs.List.{list_all, list_any}
use Rattle.lang_base.specs.Texts.{same_text}
use Rattle.lang_core.specs.declared.ids.Origin.{Origin}
use Rattle.lang_core.specs.declared.ids.Origin.TheVariants.{Outside, Call}
use Rattle.lang_core.specs.declared.ids.RequestId.{RequestId}
use Rattle.lang_core.specs.declared.trace.CallMade.{CallMade}
use Rattle.execution.specs.Executions.{Act, History, survives}
use Rattle.execution.specs.Together.{history_in, name_of}
use Rattle.one_world.specs.Trees.{act_in, callee_in, calls_of, id_of}

-- what is left of a log, where it goes on as it should
abbrev pub Left : Type 0
Left = Option (List Act)

-- what is left behind the first that survives, where that has this number
abbrev pub behind_next : ℕ → List Act → Left
behind_next id [] = None
behind_next id (a ∷ left) = if survives a then (if nat_eq a.id id then Some left else None) else behind_next id left

-- what is left at the service of this name behind a request, which may be another service's
abbrev pub passed : List ℕ → RequestId → List Act → Left
passed name i left = if same_text i.service name then behind_next i.number left else Some left

abbrev pub then_left : Left → (List Act → Left) → Left
then_left None next = None
then_left (Some left) next = next left

-- what is left behind all that a request calls
abbrev pub Deeper : Type 0
Deeper = History → Act → List Act → Left

-- behind a request that was called, if it survives, and all that it calls
abbrev pub behind_act : Deeper → List ℕ → History → Act → List Act → Left
behind_act deeper name h a left = if survives a then then_left (passed name (id_of h a) left) (deeper h a) else Some left

abbrev pub behind_found : Deeper → List ℕ → History → Option Act → List Act → Left
behind_found deeper name h None left = None
behind_found deeper name h (Some a) left = behind_act deeper name h a left

abbrev pub behind_callee : Deeper → List ℕ → List ℕ → ℕ → Option History → List Act → Left
behind_callee deeper name caller n None left = None
behind_callee deeper name caller n (Some h) left = behind_found deeper name h (callee_in caller n h.acts) left

-- behind the last call, of which no name may be left
abbrev pub behind_last : List ℕ → List Act → Left
behind_last [] left = Some left
behind_last (n ∷ ns) left = None

-- behind these calls of a service
abbrev pub behind_calls : Deeper → List History → List ℕ → List ℕ → List ℕ → List CallMade → List Act → Left
behind_calls deeper world name caller [] [] left = Some left
behind_calls deeper world name caller (n ∷ ns) (c ∷ cs) left =
    then_left (behind_callee deeper name caller n (history_in c.dest world) left) (λ later. behind_calls deeper world name caller ns cs later)
behind_calls deeper world name caller ns cs left = None

-- behind all that a request calls, where calls lead down so deep at most
abbrev pub behind_all : ℕ → List History → List ℕ → History → Act → List Act → Left
behind_all zero world name h a left = None
behind_all (suc depth) world name h a left =
    behind_calls (behind_all depth world name) world name (name_of h) a.numbers (calls_of a) left

abbrev pub is_outside : Origin → Bool
is_outside Outside = true
is_outside (Call caller number) = false

abbrev pub behind_root : ℕ → List History → List ℕ → History → Option Act → List Act → Left
behind_root depth world name h None left = None
behind_root depth world name h (Some a) left =
    if is_outside a.origin && survives a then then_left (passed name (id_of h a) left) (behind_all (suc depth) world name h a) else None

abbrev pub behind_id : ℕ → List History → List ℕ → ℕ → Option History → List Act → Left
behind_id depth world name number None left = None
behind_id depth world name number (Some h) left = behind_root depth world name h (act_in number h.acts) left

-- behind the roots of an order and all that they call
abbrev pub behind_roots : ℕ → List History → List ℕ → List RequestId → List Act → Left
behind_roots depth world name [] left = Some left
behind_roots depth world name (i ∷ order) left =
    then_left (behind_id depth world name i.number (history_in i.service world) left) (λ later. behind_roots depth world name order later)

abbrev pub none_left : Left → Bool
none_left None = false
none_left (Some left) = not (list_any survives left)

-- the log of a service stands in this order
abbrev pub stands_in : List History → List RequestId → History → Bool
stands_in world order h = none_left (behind_roots (length world) world (name_of h) order h.acts)

abbrev pub is_empty : List RequestId → Bool
is_empty [] = true
is_empty (i ∷ order) = false

-- an order is a certificate
abbrev pub is_certificate : List History → List RequestId → Bool
is_certificate [] order = is_empty order
is_certificate (h ∷ world) order = list_all (stands_in (h ∷ world) order) (h ∷ world)
