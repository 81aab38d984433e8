-- What is known of a dump that is loaded.
use Rattle.std.specs.Option.{ForSome}
use Rattle.std.proofs.Common.{◌≡◌, ℕ, ◌<◌, List, length, Option, Some, None, option_map, Result, Ok, Err, true, nat_lt, refl, ap, sym, ◌∙◌, rules, tests}
use Rattle.dump_tables.specs.declared.dump.DumpService.{DumpService}
use Rattle.dump_reader.specs.Reading.{read_of}
use Rattle.dump_reader.specs.declared.refused.DumpRefused.{DumpRefused}
use Rattle.dump_reader.specs.declared.refused.DumpRefused.TheVariants.{TooLong}
use Rattle.audit_command.specs.Audits.{Is, dump_told}

-- a file whose bytes say this
file_says : (files : Option (List ℕ → Option (List ℕ))) (path bytes : List ℕ) (dump : Result (List DumpService) DumpRefused) → ForSome files (λ at. at path ≡ Some bytes) → read_of bytes ≡ dump → Is (dump_told files path) dump
file_says None path bytes dump file is = λ there e. cc
file_says (Some at) path bytes dump file is = λ there e.
    let stands : at path ≡ Some bytes = file at refl in
    let told : option_map read_of (at path) ≡ there = cc in
    sym told ∙ ap (option_map read_of) stands ∙ ap Some is

pub file_read : (files : Option (List ℕ → Option (List ℕ))) (path bytes : List ℕ) (services : List DumpService) → ForSome files (λ at. at path ≡ Some bytes) → read_of bytes ≡ Ok services → Is (dump_told files path) (Ok services)
file_read files path bytes services file is = file_says files path bytes (Ok services) file is

pub file_refused : (files : Option (List ℕ → Option (List ℕ))) (path bytes : List ℕ) (why : DumpRefused) → ForSome files (λ at. at path ≡ Some bytes) → read_of bytes ≡ Err why → Is (dump_told files path) (Err why)
file_refused files path bytes why file is = file_says files path bytes (Err why) file is

long_read : (bytes : List ℕ) → 67108864 < length bytes → read_of bytes ≡ Err TooLong
long_read bytes long = let e : nat_lt 67108864 (length bytes) ≡ true = search (tests, rules) in rw e refl

-- a file that is too long
pub long_file : (files : Option (List ℕ → Option (List ℕ))) (path : List ℕ) → ForSome files (λ at. (bytes : List ℕ) × (at path ≡ Some bytes) × (67108864 < length bytes)) → Is (dump_told files path) (Err TooLong)
long_file None path longer = λ there e. cc
long_file (Some at) path longer =
    let l = longer at refl in
    file_says (Some at) path l.0 (Err TooLong) (λ other e. let same : at ≡ other = cc in ap (λ (f : List ℕ → Option (List ℕ)). f path) (sym same) ∙ l.1) (long_read l.0 l.2)
