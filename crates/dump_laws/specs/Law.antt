-- What is promised of a dump of services.
use Rattle.std.specs.Prelude.{◌≡◌, ◌≤◌, List, All, Ok, length}
use Rattle.std.specs.List.{AllByRecursion}
use Rattle.std.specs.Str.{IsUtf8}
use Rattle.service_events.specs.Fits.{Fits}
use Rattle.service_events.specs.State.{Kept}
use Rattle.world_agreement.specs.Partners.{NamesDiffer}
use Rattle.dump_lines.specs.Dumps.{dump_text}
use Rattle.dump_reader.specs.Reading.{read_of}
use Rattle.dump_audit.specs.Judging.{judged}
use Rattle.dump_audit.specs.declared.judged.Judged.TheVariants.{Legal}
use Rattle.dump_laws.specs.Dumped.{dumped_all}
use Rattle.dump_laws.specs.Forms.{IsWritten}

-- services that fit their journals and have different names, whose names, texts and numbers are of their types' forms, and whose requests and
-- programs are within their limits; and their dump, which is UTF-8, as each text in code is, and no longer than a dump that is read
pub record CanBeRead (services : List Kept) : Type 0 where
  pub fit : All Fits services
  pub differ : NamesDiffer services
  pub written : AllByRecursion IsWritten services
  pub utf8 : IsUtf8 (dump_text services)
  pub short : length (dump_text services) ≤ 67108864

-- the dump of these services is read as what it says of them, and judged legal
pub record IsReadAsLegal (services : List Kept) : Type 0 where
  pub read : read_of (dump_text services) ≡ Ok (dumped_all services)
  pub legal : judged (dumped_all services) ≡ Legal
