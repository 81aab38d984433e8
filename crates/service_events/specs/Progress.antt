-- How far a repair step gets.
use Rattle.std.specs.Prelude.{ℕ, suc, zero, ◌≡◌, ◌+◌, Bool, List, [], ◌∷◌, length, map, take}
use Rattle.lang_core.specs.declared.trace.Trace.{Trace}
use Rattle.request_log.specs.declared.entry.Entry.{Entry}
use Rattle.local_repair.specs.Current.{AllCurrent, IsFirstStale}
use Rattle.local_repair.specs.Registers.{SlotsChange}
use Rattle.local_repair.specs.Steps.{calls_of_made, raised, StepsTo}
use Rattle.local_repair.specs.declared.stepped.Stepped.{Stepped}
use Rattle.local_repair.specs.declared.stepped.Stepped.TheVariants.{Idle, Ran}
use Rattle.call_registers.specs.Registers.{next_number, IsTimely}
use Rattle.service_events.specs.Calls.{settling_numbers}
use Rattle.service_events.specs.State.{Kept, answers, base, unfolded}

-- ---- what a step of local repair is to a service

-- the numbers of an entry's new calls
abbrev pub gives_numbers : Kept → Entry → Trace → Bool → List ℕ → Type 0
gives_numbers s e t answered numbers =
    numbers ≡ settling_numbers (next_number s.registers) e.slots (calls_of_made e.made) t.calls

-- the registers before and after a step, as local repair sees them
abbrev pub changes : Kept → Kept → SlotsChange
changes s s' =
    record {
      before = answers s;
      after = answers s';
      last = length s.registers;
      later = length s'.registers;
      timely = IsTimely s.registers;
      settles = gives_numbers s;
    }

-- none of the entries that aren't folded is stale, and the log stays; or the first stale one ran again on the rows before it, and no other
-- changed
abbrev pub IsLocalStep : Kept → Stepped → Kept → Type 0
IsLocalStep s stepped s' = StepsTo s.setting (changes s s') (base s) (unfolded s) stepped (unfolded s')

-- ---- how often entries ran

-- how often each entry that isn't folded ran, in logged order
abbrev pub run_counts : Kept → List ℕ
run_counts s = map (λ (e : Entry). e.runs) (unfolded s)

-- the counts with that at this place raised by one
abbrev pub raised_at : ℕ → List ℕ → List ℕ
raised_at place [] = []
raised_at zero (n ∷ ns) = raised n ∷ ns
raised_at (suc place) (n ∷ ns) = n ∷ raised_at place ns

-- the first stale entry ran once more, and no other ran
pub record RanOnce (s s' : Kept) : Type 0 where
  pub place : ℕ
  pub first : IsFirstStale (answers s) (base s) (unfolded s) place
  pub counts : run_counts s' ≡ raised_at place (run_counts s)

-- no entry ran where a step is idle
abbrev pub Counts : Kept → Stepped → Kept → Type 0
Counts s Idle s' = run_counts s' ≡ run_counts s
Counts s (Ran id answered) s' = RanOnce s s'

-- ---- how far it gets

-- the service is on time still; and where none of the first so many entries behind the folded ones was stale, none of them and of the next
-- one is any more
pub record GoesFurther (s s' : Kept) : Type 0 where
  pub timely : IsTimely s'.registers
  pub further : (k : ℕ) → AllCurrent (answers s) (base s) (take k (unfolded s)) → AllCurrent (answers s') (base s') (take (k + 1) (unfolded s'))
