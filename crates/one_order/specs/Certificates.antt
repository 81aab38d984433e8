-- What a certificate says, and why there is none.
use Rattle.std.specs.Prelude.{◌≡◌, false, List, [], ◌∷◌, Option, Some, None}
use Rattle.lang_core.specs.declared.ids.RequestId.{RequestId}
use Rattle.dump_audit.specs.declared.judged.Judged.{Judged}
use Rattle.one_order.specs.declared.certificates.Certificate.{Certificate}
use Rattle.one_order.specs.declared.certificates.Certificate.TheVariants.{Order, Cycle}
use Rattle.one_order.specs.declared.certificates.OneRefused.{OneRefused}
use Rattle.one_order.specs.declared.certificates.OneRefused.TheVariants.{NoMemory, NotLegal}
use Rattle.execution.specs.Executions.{History}
use Rattle.one_world.specs.Searches.{Log, all_passed, logs_of, next_root}

-- the order, if there is one
abbrev pub order_in : Certificate → Option (List RequestId)
order_in (Order order) = Some order
order_in (Cycle first second back) = None

-- what the dump is found to be, where that is why
abbrev pub found_ill : OneRefused → Option Judged
found_ill NoMemory = None
found_ill (NotLegal found) = Some found

-- behind those before it, each of these roots is the first by service that comes next in all of these logs
abbrev pub AreFirst : List History → List Log → List RequestId → Type 0
AreFirst world logs [] = Unit {0}
AreFirst world logs (i ∷ order) = (later : List Log) × (next_root world logs logs ≡ Some (i, later)) × AreFirst world later order

-- the roots that were taken from some logs on, each where it came next, and what is left of these logs behind them
abbrev pub AreTaken : List History → List Log → List RequestId → List Log → Type 0
AreTaken world logs [] left = logs ≡ left
AreTaken world logs (i ∷ order) left = (later : List Log) × (next_root world logs logs ≡ Some (i, later)) × AreTaken world later order left

-- what a search leaves where no root comes next, and something is left
pub record IsStuck (world : List History) (logs : List Log) : Type 0 where
  pub order : List RequestId
  pub taken : AreTaken world (logs_of world) order logs
  pub none_next : next_root world logs logs ≡ None
  pub some_left : all_passed logs ≡ false
