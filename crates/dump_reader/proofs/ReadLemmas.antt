-- What follows for a text that is read, or refused.
use Rattle.std.proofs.Common.{ℕ, ◌≤◌, List, Result, Ok, Err, IfOk, length, subst}
use Rattle.dump_tables.specs.Kept.{AreKept}
use Rattle.dump_tables.specs.declared.dump.Dump.{Dump}
use Rattle.dump_tables.specs.declared.dump.DumpService.{DumpService}
use Rattle.dump_reader.specs.Reading.{Answers, read_of, services_of}
use Rattle.dump_reader.specs.Spelled.{Spells}
use Rattle.dump_reader.specs.declared.refused.DumpRefused.{DumpRefused}
use Rattle.dump_reader.proofs.OnlyLemmas.{read_only}
use Rattle.dump_reader.proofs.SpelledLemmas.{read_spells}

-- what is read is what the lines say
pub spelled : (text : List ℕ) (r : Result Dump DumpRefused) → Answers (services_of r) (read_of text) → IfOk r (λ dump. Spells text dump.services)
spelled text (Ok dump) is = read_spells text dump.services is
spelled text (Err why) is = tt

-- what the lines say is read
pub only_these : (text : List ℕ) (services : List DumpService) (r : Result Dump DumpRefused) → AreKept services → Spells text services → length text ≤ 67108864
    → Answers (services_of r) (read_of text) → Answers (services_of r) (Ok services)
only_these text services r kept spells short is =
    let A : Result (List DumpService) DumpRefused → Type 0 = λ read. Answers (services_of r) read in
    subst A (read_only text services kept spells short) is
