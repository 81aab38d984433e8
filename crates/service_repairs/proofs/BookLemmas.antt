-- What settling the calls of an entry leaves of a book.
use Rattle.std.proofs.Common.{◌≡◌, ◌∙◌, sym, ap, subst, ℕ, ◌<◌, ◌^◌, Bool, false, List, ◌∷◌, ◌++◌, length, arith, length-append}
use Rattle.lang_core.specs.declared.trace.Trace.{Trace}
use Rattle.request_log.specs.declared.entry.Entry.{Entry}
use Rattle.local_repair.specs.Settling.{IsSettled}
use Rattle.local_repair.specs.Steps.{answers_for, calls_of_made, raised}
use Rattle.journal_rows.specs.declared.row.Row.{Row}
use Rattle.call_registers.specs.Registers.{IsTimely}
use Rattle.service_events.specs.Fits.{calls_of_entry}
use Rattle.service_events.proofs.CallRowLemmas.{Each, IsPlain}
use Rattle.service_events.proofs.FittingLemmas.{Book, HasRoom, Fitting}
use Rattle.service_parts.proofs.SettledLaws.{change, settled_is, settled_timely}
use Rattle.service_parts.proofs.StepLaws.{answer_plain}
use Rattle.service_repairs.specs.Books.{KeptBook, answers, answer_rows, new_numbers, sent_rows, entered, settled, Settles, IsOwn}

-- ---- what settling leaves

plain : (e : Entry) (t : Trace) (answered : Bool) → Each IsPlain (answer_rows e t answered)
plain e t answered = answer_plain (record { id = e.id; origin = e.origin; answer_version = raised e.answer_version; version = e.version; response = t.response; live = false }) answered

-- nothing is asked here of how calls are settled
abbrev pub any : Entry → Trace → Bool → List ℕ → Type 0
any e t answered numbers = Unit {0}

-- in the words of local repair, and the registers stay on time
pub record Left (b b' : KeptBook) (e : Entry) (t : Trace) (numbers : List ℕ) : Type 0 where
  pub settled : IsSettled (change b.registers b'.registers any) e.slots numbers t.answers
  pub timely : IsTimely b.registers → IsTimely b'.registers

left_by : (b : KeptBook) (e : Entry) (t : Trace) (answered : Bool) → IsOwn b e → length (settled b e t answered).journal < 2 ^ 64
    → t.answers ≡ answers_for (answers b) (calls_of_made e.made) e.slots t.calls → Left b (settled b e t answered) e t (new_numbers b e t)
left_by b e t answered own few given =
    let book : Book = record { journal = b.journal; registers = b.registers } in
    let more = answer_rows e t answered in
    let room : HasRoom book (sent_rows b e t ++ more) = record { counts = (let sum = length-append b.journal (sent_rows b e t ++ more) in omega (arith, few, sum)) } in
    let fits : Fitting book (calls_of_entry e ∷ own.others) = record { sent = own.sent; places = own.places } in
    record {
      settled = settled_is book e t.calls more own.others (plain e t answered) room fits any t.answers given;
      timely = settled_timely book e t.calls more own.others (plain e t answered) room fits;
    }

pub settle_left : (b b' : KeptBook) (e : Entry) (t : Trace) (answered : Bool) (numbers : List ℕ) → Settles b b' e t answered numbers → IsOwn b e → length b'.journal < 2 ^ 64
    → t.answers ≡ answers_for (answers b) (calls_of_made e.made) e.slots t.calls → Left b b' e t numbers
settle_left b b' e t answered numbers s own few given =
    let F : KeptBook → Type 0 = λ k. length k.journal < 2 ^ 64 in
    let P : KeptBook → Type 0 = λ k. Left b k e t (new_numbers b e t) in
    let Q : List ℕ → Type 0 = λ ns. Left b b' e t ns in
    subst Q (sym s.given) (subst P (sym s.is) (left_by b e t answered own (subst F s.is few) given))

-- it is what is entered
pub settles_by : (b b' : KeptBook) (e : Entry) (t : Trace) (answered : Bool) (sent : List Row) (numbers : List ℕ) → b' ≡ entered b e t answered sent → sent ≡ sent_rows b e t
    → numbers ≡ new_numbers b e t → Settles b b' e t answered numbers
settles_by b b' e t answered sent numbers is rows given = record { is = is ∙ ap (entered b e t answered) rows; given = given }
