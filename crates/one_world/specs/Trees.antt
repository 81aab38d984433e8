-- Who called whom, as trees: each request of some histories with those that it called.
use Rattle.std.specs.Prelude.{ℕ, ◌≡◌, true, List, [], ◌∷◌, ◌++◌, Option, Some, None, find, nat_eq, if◌then◌else◌}
use Rattle.lang_core.specs.declared.ids.Origin.TheVariants.{Outside}
use Rattle.lang_core.specs.declared.ids.RequestId.{RequestId}
use Rattle.lang_core.specs.declared.request.Request.{Request}
use Rattle.lang_core.specs.declared.setting.Setting.{Setting}
use Rattle.lang_core.specs.declared.trace.CallMade.{CallMade}
use Rattle.handler_run.specs.HandedOn.{with_program}
use Rattle.execution.specs.Executions.{Act, Deed, History, survives}
use Rattle.execution.specs.Together.{comes_from, history_in, name_of}

-- requests of services, each with those that it called by slot, and with the requests that stand behind it
pub data Trees : Type 0 where
  none : Trees
  tree : (h : History) → (a : Act) → (below : Trees) → (behind : Trees) → Trees

-- the request of this number
abbrev pub act_in : ℕ → List Act → Option Act
act_in id acts = find (λ a. nat_eq a.id id) acts

-- the request of this call
abbrev pub callee_in : List ℕ → ℕ → List Act → Option Act
callee_in caller number acts = find (comes_from caller number) acts

abbrev pub deed_calls : Option Deed → List CallMade
deed_calls None = []
deed_calls (Some d) = d.calls

-- the calls of a request, by slot
abbrev pub calls_of : Act → List CallMade
calls_of a = deed_calls a.did

-- the request that a call led to, at the service that was called
pub record IsCallee (world : List History) (caller : List ℕ) (number : ℕ) (call : CallMade) (h : History) (a : Act) : Type 0 where
  pub served : history_in call.dest world ≡ Some h
  pub called : callee_in caller number h.acts ≡ Some a

-- these are the requests that calls of a service led to, one for each, with all that they called
abbrev pub AreCalled : Trees → List History → List ℕ → List ℕ → List CallMade → Type 0
AreCalled none world caller [] [] = Unit {0}
AreCalled (tree h a below behind) world caller (n ∷ ns) (c ∷ cs) =
    IsCallee world caller n c h a × AreCalled below world (name_of h) a.numbers (calls_of a) × AreCalled behind world caller ns cs
AreCalled trees world caller ns cs = ⊥

-- a root: a request from outside that survives
pub record IsRoot (world : List History) (id : RequestId) (h : History) (a : Act) : Type 0 where
  pub served : history_in id.service world ≡ Some h
  pub logged : act_in id.number h.acts ≡ Some a
  pub outside : a.origin ≡ Outside
  pub alive : survives a ≡ true

-- these are the roots of this order, with all that they called
abbrev pub AreRoots : Trees → List History → List RequestId → Type 0
AreRoots none world [] = Unit {0}
AreRoots (tree h a below behind) world (id ∷ order) =
    IsRoot world id h a × AreCalled below world (name_of h) a.numbers (calls_of a) × AreRoots behind world order
AreRoots trees world order = ⊥

-- the setting of a service, with the program of a request
abbrev pub setting_of : History → Act → Setting
setting_of h a = with_program a.program h.setting

-- the name of a request
abbrev pub id_of : History → Act → RequestId
id_of h a = record { service = name_of h; number = a.id }

-- those that survive in call order: each before those that it called, and these by slot
abbrev pub call_order : Trees → List RequestId
call_order none = []
call_order (tree h a below behind) =
    if survives a then id_of h a ∷ (call_order below ++ call_order behind) else call_order behind

-- what those ask that were called by none of the others
abbrev pub requests_of : Trees → List Request
requests_of none = []
requests_of (tree h a below behind) = a.request ∷ requests_of behind
