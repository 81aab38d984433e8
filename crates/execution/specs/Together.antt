-- Histories of services that call one another, and which of them are one legal execution.
use Rattle.std.specs.Prelude.{ℕ, ◌≡◌, ◌⊎◌, Bool, true, List, [], ◌∷◌, Option, IsSomeAnd, All, Any, find, filter}
use Rattle.handler_run.specs.HandedOn.{same_text}
use Rattle.handler_run.specs.HandedOn.{is_call}
use Rattle.handler_run.specs.HandedOn.{Origin}
use Rattle.handler_run.specs.HandedOn.{Outside, Call}
use Rattle.handler_run.specs.HandedOn.{Response}
use Rattle.handler_run.specs.HandedOn.{CallMade}
use Rattle.execution.specs.Executions.{Act, History, survives, IsLegal}

-- there is exactly one, and this holds of it
abbrev pub IsOne : {X : Type 0} → (X → Type 0) → List X → Type 0
IsOne P [] = ⊥
IsOne P (x ∷ []) = P x
IsOne P (x ∷ y ∷ ys) = ⊥

abbrev pub name_of : History → List ℕ
name_of h = h.setting.me

-- the history of the service of this name, if it is one of these
abbrev pub history_in : List ℕ → List History → Option History
history_in name world = find (λ h. same_text (name_of h) name) world

-- ---- each call led to one request

abbrev pub comes_from : List ℕ → ℕ → Act → Bool
comes_from caller number a = is_call caller number a.origin

-- a request that a call led to: its origin wants it, it asks what the call asks, and its response is what the call consumed
pub record Serves (call : CallMade) (answer : Response) (a : Act) : Type 0 where
  pub wanted : a.wanted ≡ true
  pub request : a.request ≡ call.request
  pub response : IsSomeAnd a.did (λ d. d.response ≡ answer)

-- the service that was called has exactly one request of this call, and that serves it
abbrev pub IsServed : List History → List ℕ → ℕ → CallMade → Response → Type 0
IsServed world caller number call answer =
    IsSomeAnd (history_in call.dest world) (λ h. IsOne (Serves call answer) (filter (comes_from caller number) h.acts))

-- each of these calls, by its number and with what it consumed
abbrev pub AreServed : List History → List ℕ → List ℕ → List CallMade → List Response → Type 0
AreServed world caller [] [] [] = Unit {0}
AreServed world caller (n ∷ ns) (c ∷ cs) (r ∷ rs) = IsServed world caller n c r × AreServed world caller ns cs rs
AreServed world caller ns cs rs = ⊥

-- each call of a request that survives
abbrev pub CallsAreServed : List History → History → Act → Type 0
CallsAreServed world h a = survives a ≡ true → IsSomeAnd a.did (λ d. AreServed world (name_of h) a.numbers d.calls a.answers)

-- ---- each request was called for

-- this call is one of these, by its number
abbrev pub IsAmong : ℕ → CallMade → List ℕ → List CallMade → Type 0
IsAmong number call (n ∷ ns) (c ∷ cs) = ((n ≡ number) × (c ≡ call)) ⊎ IsAmong number call ns cs
IsAmong number call ns cs = ⊥

-- a request that survives made this call
pub record Makes (number : ℕ) (call : CallMade) (a : Act) : Type 0 where
  pub survives : survives a ≡ true
  pub makes : IsSomeAnd a.did (λ d. IsAmong number call a.numbers d.calls)

-- the service of this name has a request of this origin: where that is a call, a request of the caller makes it
abbrev pub IsCalledFor : List History → List ℕ → Act → Origin → Type 0
IsCalledFor world name a Outside = Unit {0}
IsCalledFor world name a (Call caller number) =
    IsSomeAnd (history_in caller world) (λ h. Any (Makes number (record { dest = name; request = a.request })) h.acts)

-- each request that its origin wants
abbrev pub WantedIsCalledFor : List History → History → Act → Type 0
WantedIsCalledFor world h a = a.wanted ≡ true → IsCalledFor world (name_of h) a a.origin

-- ---- all of it

-- the services' histories are one legal execution of the surviving requests: each replays alone, each call of a surviving request has
-- exactly one request at its destination, which is wanted and whose response is what the call consumed, and no other call's request is wanted
pub record IsLegalTogether (world : List History) : Type 0 where
  pub alone : IsLegal world
  pub served : All (λ h. All (CallsAreServed world h) h.acts) world
  pub called_for : All (λ h. All (WantedIsCalledFor world h) h.acts) world
