-- What a fetched answer leaves.
use Rattle.std.proofs.Common.{◌≡◌, ◌∙◌, ap, refl, [], ◌∷◌, Option, Some, None, Result, Ok}
use Rattle.std.proofs.lemmas.Bool.{cond_both}
use Rattle.repair_messages.specs.declared.messages.AnswerMessage.{AnswerMessage}
use Rattle.journal_rows.specs.Words.{noted_at}
use Rattle.journal_rows.specs.declared.caller.NotedRow.{NotedRow}
use Rattle.call_registers.specs.Registers.{register, is_newer}
use Rattle.call_registers.specs.declared.register.Register.{Register}
use Rattle.service_events.specs.Calls.{noted}
use Rattle.service_events.specs.Messages.{fetched, fetched_by, fetched_row}
use Rattle.service_events.specs.State.{Kept, After, after}
use Rattle.service_events.specs.declared.answers.Posted.{Posted}
use Rattle.service_events.specs.declared.answers.Posted.TheVariants.{Saw, Knew, Left}
use Rattle.service_events.specs.declared.refusals.PostRefused.{PostRefused}
use Rattle.service_deliveries.specs.Fetching.{sight_by, sight_where}
use Rattle.service_deliveries.specs.declared.fetching.Sight.{Sight}
use Rattle.service_deliveries.specs.declared.fetching.Sight.TheVariants.{New, Known, Unasked}

-- by what comes of it
abbrev pub left : Kept → Sight → After (Result Posted PostRefused)
left s (New row) = after (noted (row ∷ []) s) (Ok Saw)
left s Known = after s (Ok Knew)
left s Unasked = after s (Ok Left)

by_is : (s : Kept) (a : AnswerMessage) (r : Register) (n : NotedRow) → left s (sight_by a r n) ≡ fetched_by s a r n
by_is s a r n =
    cond_both (is_newer r.answer a.answer_version) (New (fetched_row a n)) Known (λ x. left s x ≡ fetched_by s a r n)
    (λ new. rw new refl) (λ old. rw old refl)

where_is : (s : Kept) (a : AnswerMessage) (o : Option Register) (n : Option NotedRow) → left s (sight_where a o n) ≡ fetched s a o n
where_is s a None n = refl
where_is s a (Some r) None = refl
where_is s a (Some r) (Some n) = by_is s a r n

pub fetched_is : (s : Kept) (a : AnswerMessage) (x : Sight) → x ≡ sight_where a (register a.number s.registers) (noted_at a.number a.answer_version s.journal)
    → left s x ≡ fetched s a (register a.number s.registers) (noted_at a.number a.answer_version s.journal)
fetched_is s a x is = ap (left s) is ∙ where_is s a (register a.number s.registers) (noted_at a.number a.answer_version s.journal)
