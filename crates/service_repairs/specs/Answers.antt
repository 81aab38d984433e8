-- What a repair step may answer, and what it leaves; the answer of an accepted order.
use Rattle.std.specs.Prelude.{ℕ, ◌≡◌, Option, Result, IfOk, is_err, option_map}
use Rattle.lang_base.specs.Memory.{Unless}
use Rattle.lang_base.specs.declared.memory.NoMemory.{NoMemory as LacksMemory}
use Rattle.local_repair.specs.Current.{AreChecked}
use Rattle.local_repair.specs.declared.stepped.Stepped.{Stepped}
use Rattle.journal_rows.specs.declared.orders.OrderedRow.{OrderedRow}
use Rattle.service_events.specs.State.{Kept, after, answers, base, unfolded}
use Rattle.service_events.specs.Steps.{step_event}
use Rattle.service_events.specs.declared.answers.Ordered.{Ordered}

-- a step does what its event means; for want of memory, which is its only refusal, nothing changed
abbrev pub Steps : Kept → Result Stepped LacksMemory → Kept → Type 0
Steps s result s' = Unless (is_err result) (IfOk result (λ stepped. after s' stepped ≡ step_event s)) (s' ≡ s)

-- of the first entries behind the folded ones, so many are known to be current
abbrev pub IsChecked : Kept → ℕ → Type 0
IsChecked s checked = AreChecked (answers s) (base s) (unfolded s) checked

-- the answer of an accepted order
abbrev pub answered_by : Option OrderedRow → Option Ordered
answered_by o = option_map (λ (row : OrderedRow). record { about = row.about; rule = row.rule }) o
