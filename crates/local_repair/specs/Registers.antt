-- What a repair sees of the registers, before and after an entry's calls are settled.
use Rattle.std.specs.Prelude.{ℕ, Bool, List}
use Rattle.lang_core.specs.declared.trace.Trace.{Trace}
use Rattle.request_log.specs.declared.entry.Entry.{Entry}
use Rattle.local_repair.specs.Current.{Consumed}

pub record SlotsChange : Type 1 where
  -- what each number consumes
  pub before : Consumed
  pub after : Consumed
  -- the last number that was given
  pub last : ℕ
  pub later : ℕ
  -- no answer was held for a later request than its register's
  pub timely : Type 0
  -- how calls were settled: the entry as it was, its new trace, whether its answer is new, and the numbers of its calls
  pub settles : Entry → Trace → Bool → List ℕ → Type 0
