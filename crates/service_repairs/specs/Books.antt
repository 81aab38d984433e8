-- How the calls of an entry that ran again are settled: what it makes of journal, registers and replies.
use Rattle.std.specs.Prelude.{ℕ, ◌≡◌, ◌+◌, Bool, false, List, [], ◌∷◌, ◌++◌, if◌then◌else◌, length, refl}
use Rattle.std.specs.Coded.{Coded, code_by, coded×, coded_list}
use Rattle.lang_core.specs.declared.request.Response.{Response}
use Rattle.lang_core.specs.declared.trace.Trace.{Trace}
use Rattle.request_log.specs.declared.entry.Entry.{Entry}
use Rattle.local_repair.specs.Steps.{answer_or_tentative, calls_of_made, raised}
use Rattle.journal_rows.specs.contracts.row.Row as row
use Rattle.journal_rows.specs.declared.row.Row.{Row}
use Rattle.journal_rows.specs.declared.row.Row.TheVariants.{Answered}
use Rattle.call_registers.specs.Registers.{consumed, next_number}
use Rattle.call_registers.specs.Replies.{at_entry, with_answer}
use Rattle.call_registers.specs.contracts.register.Register as register
use Rattle.call_registers.specs.contracts.reply.Reply as reply
use Rattle.call_registers.specs.declared.register.Register.{Register}
use Rattle.call_registers.specs.declared.reply.Reply.{Reply}
use Rattle.flights.specs.contracts.flight.Flight as flight
use Rattle.flights.specs.declared.flight.Flight.{Flight}
use Rattle.service_events.specs.Calls.{after_rows, settling_rows, settling_numbers}
use Rattle.service_events.specs.State.{Kept as Service}
use Rattle.service_events.specs.Fits.{FitsSent, FitsPlaces, NumberedCalls, calls_of_entry}

-- a journal, the registers and replies of which it tells, and the flights for whose abandonment it has room
pub record KeptBook : Type 0 where
  pub journal : List Row
  pub registers : List Register
  pub replies : List Reply
  pub flights : List Flight

-- by which a proof tells two of them apart
abbrev pub book_code : Coded KeptBook
book_code =
    code_by (List Row × (List Register × (List Reply × List Flight)))
    (coded× (coded_list row.the_row.coded)
    (coded× (coded_list register.the_row.coded) (coded× (coded_list reply.the_row.coded) (coded_list flight.the_row.coded))))
    (λ b. (b.journal, (b.registers, (b.replies, b.flights))))
    (λ p. record { journal = p.0; registers = p.1.0; replies = p.1.1.0; flights = p.1.1.1 })
    (λ _. refl)

-- what a number consumes
abbrev pub answers : KeptBook → ℕ → Response
answers b n = answer_or_tentative (consumed n b.registers)

-- the rows that tell how an entry's calls are others after this trace
abbrev pub sent_rows : KeptBook → Entry → Trace → List Row
sent_rows b e t = settling_rows b.registers (next_number b.registers) e.slots (calls_of_made e.made) t.calls

-- the numbers of the trace's calls
abbrev pub new_numbers : KeptBook → Entry → Trace → List ℕ
new_numbers b e t = settling_numbers (next_number b.registers) e.slots (calls_of_made e.made) t.calls

-- the row of the trace's answer, where it is a new one
abbrev pub answer_rows : Entry → Trace → Bool → List Row
answer_rows e t answered =
    if answered
    then Answered (record {
      id = e.id;
      origin = e.origin;
      answer_version = raised e.answer_version;
      version = e.version;
      response = t.response;
      live = false;
    }) ∷ []
    else []

-- the reply of the entry, where it has one, has the new answer, whose row has this index
abbrev pub replied : Entry → ℕ → Bool → List Reply → List Reply
replied e index answered replies =
    if answered then at_entry e.id (with_answer (raised e.answer_version) e.version index) replies else replies

-- these rows came for an entry with this trace: first those of its calls, and then that of its answer, if it has a new one
abbrev pub entered : KeptBook → Entry → Trace → Bool → List Row → KeptBook
entered b e t answered sent =
    record {
      journal = b.journal ++ (sent ++ answer_rows e t answered);
      registers = after_rows (length b.journal) b.registers (sent ++ answer_rows e t answered);
      replies = replied e (length b.journal + length sent) answered b.replies;
      flights = b.flights;
    }

abbrev pub settled : KeptBook → Entry → Trace → Bool → KeptBook
settled b e t answered = entered b e t answered (sent_rows b e t)

-- what settling leaves, and the numbers that it gives
pub record Settles (b b' : KeptBook) (e : Entry) (t : Trace) (answered : Bool) (numbers : List ℕ) : Type 0 where
  pub is : b' ≡ settled b e t answered
  pub given : numbers ≡ new_numbers b e t

-- the entry's calls are those that are wanted under its numbers, beside those of these other places
pub record IsOwn (b : KeptBook) (e : Entry) : Type 0 where
  pub sent : FitsSent b.journal b.registers
  pub others : List NumberedCalls
  pub places : FitsPlaces b.registers (calls_of_entry e ∷ others)

-- ---- a service with its book

-- what the book of a service has
abbrev pub book_of : Service → KeptBook
book_of s = record { journal = s.journal; registers = s.registers; replies = s.replies; flights = s.flights }

-- the service with these entries and this book
abbrev pub with_book : Service → List Entry → KeptBook → Service
with_book s entries b =
    record s { entries = entries; journal = b.journal; registers = b.registers; replies = b.replies; flights = b.flights }
