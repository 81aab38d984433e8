-- Services of which nothing is outstanding.
use Rattle.std.specs.Prelude.{◌≡◌, false, List, [], All}
use Rattle.local_repair.specs.Current.{AllCurrent}
use Rattle.call_registers.specs.Registers.{owes_fetch}
use Rattle.call_registers.specs.declared.register.Register.{Register}
use Rattle.call_registers.specs.declared.reply.Reply.{Reply}
use Rattle.service_events.specs.State.{Kept, answers, base, unfolded}

-- no request is in flight, no entry that isn't folded is stale, the last version of each call is acknowledged, that of a deletion too, no answer that was
-- announced is to be fetched, and none is due
pub record IsQuiet (s : Kept) : Type 0 where
  pub landed : s.flights ≡ []
  pub current : AllCurrent (answers s) (base s) (unfolded s)
  pub acknowledged : All (λ (r : Register). r.acked ≡ r.version) s.registers
  pub fetched : All (λ (r : Register). owes_fetch r ≡ false) s.registers
  pub given : All (λ (p : Reply). p.due ≡ false) s.replies

abbrev pub AreQuiet : List Kept → Type 0
AreQuiet services = All IsQuiet services
