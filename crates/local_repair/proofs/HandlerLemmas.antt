-- What repair takes of a run: the laws of a handler.
use Rattle.std.proofs.Common.{◌≡◌, ℕ, ◌<◌, List, [], ◌∷◌, ◌++◌, length}
use Rattle.lang_core.specs.declared.cells.Cell.{Cell}
use Rattle.lang_core.specs.declared.inputs.Inputs.{Inputs}
use Rattle.lang_core.specs.declared.request.Request.{Request}
use Rattle.lang_core.specs.declared.request.Response.{Response}
use Rattle.lang_core.specs.declared.setting.Setting.{Setting}
use Rattle.lang_core.specs.declared.trace.CallMade.{CallMade}
use Rattle.lang_core.specs.declared.trace.Trace.{Trace}
use Rattle.execution.specs.HandedOn.{run_of}
use Rattle.execution.specs.HandedOn.{calls_of}
use Rattle.execution.specs.HandedOn.{GivesAll}
use Rattle.execution.specs.HandedOn.{Ran}
use Rattle.execution.specs.HandedOn.{Done, Wants}
use Rattle.execution.proofs.HandedOn.{starts, goes_on_wants, few_wants, takes_done, counts_done, reads_done, same_done}

-- a run takes its answers one by one, each for the call that wanted it
pub record IsSteady (run : List Response → Ran) : Type 0 where
  pub starts : calls_of (run []) ≡ []
  pub goes_on : (xs : List Response) (slot : ℕ) (calls : List CallMade) (call : CallMade) (x : Response) → run xs ≡ Wants slot calls call
      → calls_of (run (xs ++ x ∷ [])) ≡ calls ++ call ∷ []
  pub asks : (xs : List Response) (slot : ℕ) (calls : List CallMade) (call : CallMade) → run xs ≡ Wants slot calls call
      → (slot ≡ length xs) × (length calls ≡ length xs) × (slot < 16)
  pub takes : (xs : List Response) (t : Trace) → run xs ≡ Done t → (rest : List Response) × (xs ≡ t.answers ++ rest)
  pub fits : (xs : List Response) (t : Trace) → run xs ≡ Done t → length t.answers ≡ length t.calls

-- a service's runs are steady, and draw on the rows by their recorded reads alone
pub record IsHandler (setting : Setting) : Type 0 where
  pub steady : (q : Request) (i : Inputs) (rows : List Cell) → IsSteady (λ xs. run_of setting q i xs rows)
  pub reads : (q : Request) (i : Inputs) (xs : List Response) (rows : List Cell) (t : Trace) → run_of setting q i xs rows ≡ Done t
      → GivesAll rows t.reads
  pub same : (q : Request) (i : Inputs) (xs later : List Response) (rows other : List Cell) (t : Trace) → run_of setting q i xs rows ≡ Done t
      → GivesAll other t.reads → run_of setting q i (t.answers ++ later) other ≡ Done t

pub handler : (setting : Setting) → IsHandler setting
handler s = record {
  steady = λ q i rows. record {
    starts = starts s q i rows;
    goes_on = λ xs slot calls call x e. (goes_on_wants s q i xs rows slot calls call e).2 x;
    asks = λ xs slot calls call e. (let g = goes_on_wants s q i xs rows slot calls call e in (g.0, g.1, few_wants s q i xs rows slot calls call e));
    takes = λ xs t e. takes_done s q i xs rows t e;
    fits = λ xs t e. counts_done s q i xs rows t e;
  };
  reads = λ q i xs rows t e. reads_done s q i xs rows t e;
  same = λ q i xs later rows other t e gives. same_done s q i xs rows t e other gives later;
}
