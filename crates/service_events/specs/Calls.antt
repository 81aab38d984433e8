-- What rows make of registers, and which rows tell that the calls of an entry or a flight are others.
use Rattle.std.specs.Prelude.{ℕ, ◌+◌, Bool, ◌||◌, List, [], ◌∷◌, ◌++◌, Option, Some, None, if◌then◌else◌, length}
use Rattle.std.specs.Option.{option_map_or}
use Rattle.lang_base.specs.Texts.{same_text}
use Rattle.lang_core.specs.declared.request.Request.{Request}
use Rattle.lang_core.specs.declared.trace.CallMade.{CallMade}
use Rattle.local_repair.specs.Steps.{same_call}
use Rattle.journal_rows.specs.declared.caller.SawAnswerRow.{SawAnswerRow}
use Rattle.journal_rows.specs.declared.caller.SentRow.{SentRow}
use Rattle.journal_rows.specs.declared.row.Row.{Row}
use Rattle.journal_rows.specs.declared.row.Row.TheVariants.{Sent, SawAck, Noted, SawAnswer}
use Rattle.call_registers.specs.Changes.{raised}
use Rattle.call_registers.specs.Registers.{register, with_call, at_number, sent_anew, with_ack, with_answer, with_note}
use Rattle.call_registers.specs.declared.register.Answer.{Answer}
use Rattle.call_registers.specs.declared.register.Register.{Register}
use Rattle.service_events.specs.State.{Kept}

-- ---- rows as changes of registers

abbrev pub first_sent : ℕ → SentRow → Option Request → List Register → List Register
first_sent at s None registers = registers
first_sent at s (Some q) registers = with_call s.dest q at registers

abbrev pub put_sent : ℕ → SentRow → Option Register → List Register → List Register
put_sent at s None registers = first_sent at s s.desired registers
put_sent at s (Some r) registers = at_number s.number (sent_anew s.desired at) registers

abbrev pub seen_answer : SawAnswerRow → Answer
seen_answer a = record { answer_version = a.answer_version; version = a.version; response = a.response }

-- what the row of this index makes of registers
abbrev pub after_row : ℕ → List Register → Row → List Register
after_row at registers (Sent s) = put_sent at s (register s.number registers) registers
after_row at registers (SawAck a) = at_number a.number (with_ack a.version) registers
after_row at registers (Noted n) = at_number n.number (with_note n.answer_version n.who n.rule at) registers
after_row at registers (SawAnswer a) = at_number a.number (with_answer (seen_answer a)) registers
after_row at registers row = registers

-- what rows make of registers, the first of which has this index
abbrev pub after_rows : ℕ → List Register → List Row → List Register
after_rows at registers [] = registers
after_rows at registers (row ∷ rows) = after_rows (at + 1) (after_row at registers row) rows

-- the rows are noted: they stand last in the journal, and the registers are what they make of them
abbrev pub noted : List Row → Kept → Kept
noted rows s = record s { journal = s.journal ++ rows; registers = after_rows (length s.journal) s.registers rows }

-- ---- rows on calls

abbrev pub version_of : List Register → ℕ → ℕ
version_of registers number = option_map_or (λ (r : Register). r.version) (register number registers) 0

-- a call with another request
abbrev pub replaced : List Register → ℕ → List ℕ → Request → Row
replaced registers number dest q =
    Sent (record { number = number; dest = dest; version = raised (version_of registers number); desired = Some q })

-- a call that is to have no effect
abbrev pub deleted : List Register → ℕ → CallMade → Row
deleted registers number call =
    Sent (record { number = number; dest = call.dest; version = raised (version_of registers number); desired = None })

-- a new call
abbrev pub named : ℕ → CallMade → Row
named number call = Sent (record { number = number; dest = call.dest; version = 1; desired = Some call.request })

-- these calls are to have no effect
abbrev pub all_deleted : List Register → List ℕ → List CallMade → List Row
all_deleted registers (n ∷ ns) (c ∷ cs) = deleted registers n c ∷ all_deleted registers ns cs
all_deleted registers (n ∷ ns) [] = []
all_deleted registers [] calls = []

-- ---- the calls of one run in place of those of another

-- a slot keeps its number where the call goes to the same service
abbrev pub keeps_number : CallMade → CallMade → Bool
keeps_number old new = same_call old new || same_text old.dest new.dest

-- the rows of one slot, where this is the next number
abbrev pub slot_rows : List Register → ℕ → ℕ → CallMade → CallMade → List Row
slot_rows registers next number old new =
    if same_call old new then []
    else (if same_text old.dest new.dest then replaced registers number old.dest new.request ∷ []
    else deleted registers number old ∷ named next new ∷ [])

abbrev pub slot_number : ℕ → ℕ → CallMade → CallMade → ℕ
slot_number next number old new = if keeps_number old new then number else next

abbrev pub next_after : ℕ → CallMade → CallMade → ℕ
next_after next old new = if keeps_number old new then next else next + 1

-- the rows of all slots in order, and then those of the slots too many
abbrev pub settling_rows : List Register → ℕ → List ℕ → List CallMade → List CallMade → List Row
settling_rows registers next (n ∷ ns) (o ∷ os) (c ∷ cs) =
    slot_rows registers next n o c ++ settling_rows registers (next_after next o c) ns os cs
settling_rows registers next (n ∷ ns) (o ∷ os) [] = all_deleted registers (n ∷ ns) (o ∷ os)
settling_rows registers next [] os (c ∷ cs) = named next c ∷ settling_rows registers (next + 1) [] os cs
settling_rows registers next [] os [] = []
settling_rows registers next (n ∷ ns) [] cs = []

-- the numbers of the new slots
abbrev pub settling_numbers : ℕ → List ℕ → List CallMade → List CallMade → List ℕ
settling_numbers next (n ∷ ns) (o ∷ os) (c ∷ cs) =
    slot_number next n o c ∷ settling_numbers (next_after next o c) ns os cs
settling_numbers next (n ∷ ns) (o ∷ os) [] = []
settling_numbers next [] os (c ∷ cs) = next ∷ settling_numbers (next + 1) [] os cs
settling_numbers next [] os [] = []
settling_numbers next (n ∷ ns) [] cs = []
