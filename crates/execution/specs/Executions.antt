-- Histories, and which of them are legal executions.
use Rattle.std.specs.Prelude.{ℕ, ◌≡◌, Bool, true, false, not, ◌&&◌, List, [], ◌∷◌, Option, Some, length, All, IfSome}
use Rattle.handler_run.specs.HandedOn.{apply}
use Rattle.handler_run.specs.HandedOn.{dead_trace}
use Rattle.handler_run.specs.HandedOn.{Cell}
use Rattle.handler_run.specs.HandedOn.{Origin}
use Rattle.handler_run.specs.HandedOn.{Inputs}
use Rattle.handler_run.specs.HandedOn.{Request}
use Rattle.handler_run.specs.HandedOn.{Response}
use Rattle.handler_run.specs.HandedOn.{Route}
use Rattle.handler_run.specs.HandedOn.{Setting}
use Rattle.handler_run.specs.HandedOn.{CallMade}
use Rattle.handler_run.specs.HandedOn.{Trace}
use Rattle.handler_run.specs.HandedOn.{with_program}
use Rattle.handler_run.specs.Handlers.{run_of}
use Rattle.handler_run.specs.declared.state.Ran.TheVariants.{Done}

-- what a request did, as others see it: its calls by slot, and what it answered
pub record Deed : Type 0 where
  pub calls : List CallMade
  pub response : Response

-- a request of a history
pub record Act : Type 0 where
  -- its number, and where it comes from
  pub id : ℕ
  pub origin : Origin
  -- whether its origin still wants it, and whether an order has struck it
  pub wanted : Bool
  pub struck : Bool
  -- what it asks, the clock and random words that it was given, and the program that it runs under
  pub request : Request
  pub inputs : Inputs
  pub program : List Route
  -- the names of its calls, and the answers that these consumed
  pub numbers : List ℕ
  pub answers : List Response
  -- what its last run did; none where it never ran
  pub did : Option Deed

-- the requests of a service in logged order, and its last rows
pub record History : Type 0 where
  pub setting : Setting
  pub acts : List Act
  pub rows : List Cell

-- a request survives where its origin wants it and no order has struck it
abbrev pub survives : Act → Bool
survives a = a.wanted && not a.struck

-- what others see of a trace
abbrev pub deed_of : Trace → Deed
deed_of t = record { calls = t.calls; response = t.response }

-- the trace of a request: the run of its program on these rows with the answers that its calls consumed, one answer and one name for each call; or
-- nothing where it doesn't survive; and that is what it did
pub record IsPlayed (setting : Setting) (rows : List Cell) (a : Act) (t : Trace) : Type 0 where
  pub live : survives a ≡ true → run_of (with_program a.program setting) a.request a.inputs a.answers rows ≡ Done t
  pub dead : survives a ≡ false → t ≡ dead_trace
  pub consumed : a.answers ≡ t.answers
  pub answered : length a.answers ≡ length t.calls
  pub named : length a.numbers ≡ length t.calls
  pub did : a.did ≡ Some (deed_of t)

-- these traces, one of each request, are those of the requests one after another from these rows on, and leave the last rows
abbrev pub IsReplay : Setting → List Cell → List Act → List Trace → List Cell → Type 0
IsReplay setting rows [] [] last = rows ≡ last
IsReplay setting rows (a ∷ acts) (t ∷ traces) last = IsPlayed setting rows a t × IsReplay setting (apply rows t.writes) acts traces last
IsReplay setting rows acts traces last = ⊥

-- the requests, one after another from these rows on, each ran and did what is told of it, and they leave the last rows
pub record Replays (setting : Setting) (rows : List Cell) (acts : List Act) (last : List Cell) : Type 0 where
  pub traces : List Trace
  pub replay : IsReplay setting rows acts traces last

-- a request that doesn't survive calls nothing; in its history's replay it writes nothing either
abbrev pub IsEmptyIfDead : Act → Type 0
IsEmptyIfDead a = survives a ≡ false → IfSome a.did (λ d. d.calls ≡ [])

-- each history is a legal execution of its surviving requests, from empty rows on, whatever its calls led to
pub record IsLegal (world : List History) : Type 0 where
  pub replayed : All (λ h. Replays h.setting [] h.acts h.rows) world
  pub dead_are_empty : All (λ h. All IsEmptyIfDead h.acts) world
