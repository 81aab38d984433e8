-- What a service keeps, and what an event leaves of it.
use Rattle.std.specs.Prelude.{ℕ, ◌≡◌, ◌+◌, ◌≤◌, Bool, List, [], Option, Some, None, if◌then◌else◌, drop, is_some, find, nat_le, length, refl, slice_get, take}
use Rattle.std.specs.Coded.{Coded, coded_ℕ, code_by, coded×, coded_list}
use Rattle.lang_core.specs.contracts.cells.Cell as cell
use Rattle.lang_core.specs.contracts.setting.Setting as setting
use Rattle.lang_core.specs.declared.cells.Cell.{Cell}
use Rattle.lang_core.specs.declared.ids.Origin.{Origin}
use Rattle.lang_core.specs.declared.setting.Setting.{Setting}
use Rattle.lang_programs.specs.Numbered.{Numbered, numbered_code}
use Rattle.request_log.specs.Entries.{has_id}
use Rattle.request_log.specs.contracts.entry.Entry as entry
use Rattle.request_log.specs.declared.entry.Entry.{Entry}
use Rattle.local_repair.specs.Current.{Consumed}
use Rattle.local_repair.specs.Steps.{answer_or_tentative}
use Rattle.authorise_rules.specs.Given.{GivenRules, given_code}
use Rattle.journal_rows.specs.Weights.{journal_weight}
use Rattle.journal_rows.specs.contracts.row.Row as row
use Rattle.journal_rows.specs.declared.row.Row.{Row}
use Rattle.call_registers.specs.Registers.{consumed}
use Rattle.call_registers.specs.contracts.register.Register as register
use Rattle.call_registers.specs.contracts.reply.Reply as reply
use Rattle.call_registers.specs.declared.register.Register.{Register}
use Rattle.call_registers.specs.declared.reply.Reply.{Reply}
use Rattle.flights.specs.contracts.flight.Flight as flight
pub use Rattle.flights.specs.Numbers.{has_flight, without_flight, put_flight, with_flight, free_from, same_call_origin}
use Rattle.flights.specs.Numbers.{flight_in, is_flying}
use Rattle.flights.specs.declared.flight.Flight.{Flight}

-- what it is set to do, its first program among it; the rules with which it began, and those by which it allows repairs now; the program under
-- which what comes now runs; its entries in logged order, how many of the first of them are folded and the rows that these left; its flights in
-- the order of their numbers, its journal, its registers and its replies
pub record Kept : Type 0 where
  pub setting : Setting
  pub began : GivenRules
  pub rules : GivenRules
  pub newest : Numbered
  pub entries : List Entry
  pub horizon : ℕ
  pub base : List Cell
  pub flights : List Flight
  pub journal : List Row
  pub registers : List Register
  pub replies : List Reply

-- by which a proof tells two of them apart
abbrev pub kept_code : Coded Kept
kept_code =
    code_by (Setting × (GivenRules × (GivenRules × (Numbered × (List Entry × (ℕ × (List Cell × (List Flight × (List Row × (List Register × List Reply))))))))))
    (coded× setting.the_row.coded
    (coded× given_code
    (coded× given_code
    (coded× numbered_code
    (coded× (coded_list entry.the_row.coded)
    (coded× coded_ℕ
    (coded× (coded_list cell.the_row.coded)
    (coded× (coded_list flight.the_row.coded)
    (coded× (coded_list row.the_row.coded) (coded× (coded_list register.the_row.coded) (coded_list reply.the_row.coded)))))))))))
    (λ s. (s.setting, (s.began, (s.rules, (s.newest, (s.entries, (s.horizon, (s.base, (s.flights, (s.journal, (s.registers, s.replies)))))))))))
    (λ p. record {
      setting = p.0;
      began = p.1.0;
      rules = p.1.1.0;
      newest = p.1.1.1.0;
      entries = p.1.1.1.1.0;
      horizon = p.1.1.1.1.1.0;
      base = p.1.1.1.1.1.1.0;
      flights = p.1.1.1.1.1.1.1.0;
      journal = p.1.1.1.1.1.1.1.1.0;
      registers = p.1.1.1.1.1.1.1.1.1.0;
      replies = p.1.1.1.1.1.1.1.1.1.1;
    })
    (λ _. refl)

-- what a service keeps that has answered nothing yet
abbrev pub fresh : Setting → GivenRules → Kept
fresh setting rules =
    record {
      setting = setting;
      began = rules;
      rules = rules;
      newest = record { number = 1; program = setting.program };
      entries = [];
      horizon = 0;
      base = [];
      flights = [];
      journal = [];
      registers = [];
      replies = [];
    }

-- what an event leaves, and what it answers
pub record After (A : Type 0) : Type 0 where
  pub service : Kept
  pub answer : A

abbrev pub after : {A : Type 0} → Kept → A → After A
after s answer = record { service = s; answer = answer }

abbrev pub me : Kept → List ℕ
me s = s.setting.me

-- the rows before its first entry that isn't folded
abbrev pub base : Kept → List Cell
base s = s.base

-- its folded entries, which nothing repairs any more, and the others
abbrev pub folded : Kept → List Entry
folded s = take s.horizon s.entries

abbrev pub unfolded : Kept → List Entry
unfolded s = drop s.horizon s.entries

-- what was folded is folded still, and stands first as it was
pub record KeepsFolded (s s' : Kept) : Type 0 where
  pub within : s.horizon ≤ s'.horizon
  pub entries : take s.horizon s'.entries ≡ folded s

-- the entry of this number is folded
abbrev pub is_past : ℕ → Kept → Bool
is_past id s = is_some (find (has_id id) (folded s))

-- ---- programs

abbrev pub program_or : Numbered → Option Entry → Numbered
program_or newest None = newest
program_or newest (Some e) = e.under.now

-- the program of an entry that is made at this place: that of the entry which it stands before, and the newest at the end
abbrev pub program_for : Kept → ℕ → Numbered
program_for s place = program_or s.newest (slice_get s.entries place)

-- ---- what calls consume

-- what each number consumes
abbrev pub answers : Kept → Consumed
answers s number = answer_or_tentative (consumed number s.registers)

-- numbers of entries count from 1 in the order in which entries are made
abbrev pub next_id : Kept → ℕ
next_id s = length s.entries + 1

-- ---- limits: folded entries don't count

abbrev pub in_all : Kept → ℕ
in_all s = length (unfolded s) + length s.flights

-- how many such entries and flights there are, where there is no place for one more
abbrev pub is_crowded : Kept → Option ℕ
is_crowded s = if nat_le 100000 (in_all s) then Some (in_all s) else None

-- what the journal weighs, where that has reached what it may weigh
abbrev pub is_heavy : Kept → Option ℕ
is_heavy s = if nat_le s.setting.weight (journal_weight s.journal) then Some (journal_weight s.journal) else None

abbrev pub or_else : {X : Type 0} → Option X → Option X → Option X
or_else None other = other
or_else (Some x) other = Some x

abbrev pub where_needed : {X : Type 0} → Bool → Option X → Option X
where_needed b o = if b then o else None

-- ---- flights

abbrev pub flight_of : ℕ → Kept → Option Flight
flight_of id s = flight_in id s.flights

-- whether a call with this origin is in flight
abbrev pub is_in_flight : Origin → Kept → Bool
is_in_flight origin s = is_flying origin s.flights

abbrev pub free_flight : Kept → ℕ
free_flight s = free_from 1 s.flights
