-- The calls of a run, and how they go on from its request.
use Rattle.std.specs.Prelude.{◌≡◌, ℕ, Bool, false, List, [], ◌∷◌, ◌++◌, Contains}
use Rattle.std.specs.List.{list_any}
use Rattle.lang_base.specs.Texts.{same_text}
use Rattle.lang_core.specs.declared.request.Request.{Request}
use Rattle.lang_core.specs.declared.trace.CallMade.{CallMade}
use Rattle.handler_run.specs.declared.state.Ran.{Ran}
use Rattle.handler_run.specs.declared.state.Ran.TheVariants.{Done, Wants}

-- the calls of a run, also the one whose answer it wants
abbrev pub calls_in : Ran → List CallMade
calls_in (Done t) = t.calls
calls_in (Wants slot calls call) = calls ++ call ∷ []

-- whether a name is one of these
abbrev pub is_among : List ℕ → List (List ℕ) → Bool
is_among name chain = list_any (λ n. same_text n name) chain

-- what a request's chain is for the calls that a service makes for it
abbrev pub chain_behind : List ℕ → Request → List (List ℕ)
chain_behind name q = q.chain ++ name ∷ []

-- a call that a service with these peers makes for a request: for itself, with the chain of the request and its own name behind it, to a peer that
-- is no service of that chain
pub record IsOnward (name : List ℕ) (peers : List (List ℕ)) (q : Request) (c : CallMade) : Type 0 where
  pub who : c.request.who ≡ name
  pub chain : c.request.chain ≡ chain_behind name q
  pub fresh : is_among c.dest (chain_behind name q) ≡ false
  pub peer : Contains peers c.dest
