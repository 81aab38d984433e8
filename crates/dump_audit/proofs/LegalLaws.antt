-- A dump is judged legal exactly where its histories are one legal execution.
use Rattle.std.proofs.Common.{◌≡◌, ◌↔◌, true, List, [], ◌∷◌, None, Result, Ok, Err, IfOk, map, refl, sym, ◌∙◌}
use Rattle.std.specs.List.{All, AllByRecursion}
use Rattle.std.proofs.lemmas.List.Elements.{All-from_recursion, recursion_from_All}
use Rattle.execution.specs.Executions.{Act, History, IsEmptyIfDead, Replays}
use Rattle.execution.specs.Together.{CallsAreServed, IsLegalTogether, WantedIsCalledFor}
use Rattle.dump_tables.specs.declared.dump.DumpEntry.{DumpEntry}
use Rattle.dump_tables.specs.declared.dump.DumpService.{DumpService}
use Rattle.dump_audit.specs.Histories.{act_of, histories_of, history_of}
use Rattle.dump_audit.specs.Judging.{answer_fault, first_in, found_or, is_answered, is_called_for, judged, judged_together, replay_fault, stray_fault}
use Rattle.dump_audit.specs.declared.judged.Fault.TheVariants as fault
use Rattle.dump_audit.specs.declared.judged.Judged.{Judged}
use Rattle.dump_audit.specs.declared.judged.Judged.TheVariants.{Legal}
use Rattle.dump_audit.proofs.Firsts.{failing_none, in_none, none_failing, none_in}
use Rattle.dump_audit.proofs.ReplayLaws.{faultless, replay_empty, replays}
use Rattle.dump_audit.proofs.ServedLaws.{answered_it, called_it, it_answered, it_called}

-- what holds of each entry holds of its request, and the other way round
each_act : (test : DumpEntry → Type 0) (P : Act → Type 0) → ((e : DumpEntry) → test e → P (act_of e)) → (entries : List DumpEntry)
    → AllByRecursion test entries → AllByRecursion P (map act_of entries)
each_act test P so [] each = tt
each_act test P so (e ∷ entries) each = (so e each.0, each_act test P so entries each.1)

act_each : (test : DumpEntry → Type 0) (P : Act → Type 0) → ((e : DumpEntry) → P (act_of e) → test e) → (entries : List DumpEntry)
    → AllByRecursion P (map act_of entries) → AllByRecursion test entries
act_each test P so [] each = tt
act_each test P so (e ∷ entries) each = (so e each.0, act_each test P so entries each.1)

-- and of each service and its history
each_history : (test : DumpService → Type 0) (P : History → Type 0) → ((s : DumpService) → test s → P (history_of s)) → (services : List DumpService)
    → AllByRecursion test services → AllByRecursion P (map history_of services)
each_history test P so [] each = tt
each_history test P so (s ∷ services) each = (so s each.0, each_history test P so services each.1)

history_each : (test : DumpService → Type 0) (P : History → Type 0) → ((s : DumpService) → P (history_of s) → test s) → (services : List DumpService)
    → AllByRecursion P (map history_of services) → AllByRecursion test services
history_each test P so [] each = tt
history_each test P so (s ∷ services) each = (so s each.0, history_each test P so services each.1)

-- ---- service by service

-- a history replays, and what doesn't survive in it calls nothing
abbrev ReplaysAlone : History → Type 0
ReplaysAlone h = Replays h.setting [] h.acts h.rows

abbrev DeadAreEmpty : History → Type 0
DeadAreEmpty h = All IsEmptyIfDead h.acts

replay_of : (s : DumpService) → replay_fault s ≡ None → ReplaysAlone (history_of s)
replay_of s h = replays s.setting [] s.entries s.rows h

of_replay : (s : DumpService) → ReplaysAlone (history_of s) → replay_fault s ≡ None
of_replay s r = faultless s.setting [] s.entries s.rows r

empty_of : (s : DumpService) → replay_fault s ≡ None → DeadAreEmpty (history_of s)
empty_of s h = All-from_recursion IsEmptyIfDead (map act_of s.entries) (replay_empty s.setting [] (map act_of s.entries) s.rows (replay_of s h))

abbrev AllServed : List DumpService → History → Type 0
AllServed world h = All (CallsAreServed (histories_of world) h) h.acts

served_of : (world : List DumpService) (s : DumpService) → answer_fault world s ≡ None → AllServed world (history_of s)
served_of world s h =
    All-from_recursion (CallsAreServed (histories_of world) (history_of s)) (map act_of s.entries)
    (each_act (λ e. is_answered world s.setting.me e ≡ true) (CallsAreServed (histories_of world) (history_of s)) (λ e is. answered_it world s e is) s.entries
    (none_failing fault.Answer (is_answered world s.setting.me) s.entries h))

of_served : (world : List DumpService) (s : DumpService) → AllServed world (history_of s) → answer_fault world s ≡ None
of_served world s all =
    failing_none fault.Answer (is_answered world s.setting.me) s.entries
    (act_each (λ e. is_answered world s.setting.me e ≡ true) (CallsAreServed (histories_of world) (history_of s)) (λ e is. it_answered world s e is) s.entries
    (recursion_from_All (CallsAreServed (histories_of world) (history_of s)) (map act_of s.entries) all))

abbrev AllCalledFor : List DumpService → History → Type 0
AllCalledFor world h = All (WantedIsCalledFor (histories_of world) h) h.acts

called_of : (world : List DumpService) (s : DumpService) → stray_fault world s ≡ None → AllCalledFor world (history_of s)
called_of world s h =
    All-from_recursion (WantedIsCalledFor (histories_of world) (history_of s)) (map act_of s.entries)
    (each_act (λ e. is_called_for world s.setting.me e ≡ true) (WantedIsCalledFor (histories_of world) (history_of s)) (λ e is. called_it world s e is) s.entries
    (none_failing fault.Stray (is_called_for world s.setting.me) s.entries h))

of_called : (world : List DumpService) (s : DumpService) → AllCalledFor world (history_of s) → stray_fault world s ≡ None
of_called world s all =
    failing_none fault.Stray (is_called_for world s.setting.me) s.entries
    (act_each (λ e. is_called_for world s.setting.me e ≡ true) (WantedIsCalledFor (histories_of world) (history_of s)) (λ e is. it_called world s e is) s.entries
    (recursion_from_All (WantedIsCalledFor (histories_of world) (history_of s)) (map act_of s.entries) all))

-- ---- whole dumps

-- no service has a fault of any kind
record Faultless (world : List DumpService) : Type 0 where
  alone : AllByRecursion (λ s. replay_fault s ≡ None) world
  answered : AllByRecursion (λ s. answer_fault world s ≡ None) world
  called_for : AllByRecursion (λ s. stray_fault world s ≡ None) world

faultless_of : (world : List DumpService) → judged world ≡ Legal → Faultless world
faultless_of world h =
    let first = none_in replay_fault world (judged_together world) h in
    let second = none_in (answer_fault world) world (found_or (first_in (stray_fault world) world) Legal) first.1 in
    record { alone = first.0; answered = second.0; called_for = (none_in (stray_fault world) world Legal second.1).0 }

pub legal_so : (world : List DumpService) → judged world ≡ Legal → IsLegalTogether (histories_of world)
legal_so world h =
    let none = faultless_of world h in
    record {
      alone = record {
        replayed = All-from_recursion ReplaysAlone (histories_of world) (each_history (λ s. replay_fault s ≡ None) ReplaysAlone (λ s is. replay_of s is) world none.alone);
        dead_are_empty = All-from_recursion DeadAreEmpty (histories_of world) (each_history (λ s. replay_fault s ≡ None) DeadAreEmpty (λ s is. empty_of s is) world none.alone);
      };
      served = All-from_recursion (AllServed world) (histories_of world) (each_history (λ s. answer_fault world s ≡ None) (AllServed world) (λ s is. served_of world s is) world none.answered);
      called_for = All-from_recursion (AllCalledFor world) (histories_of world) (each_history (λ s. stray_fault world s ≡ None) (AllCalledFor world) (λ s is. called_of world s is) world none.called_for);
    }

pub so_legal : (world : List DumpService) → IsLegalTogether (histories_of world) → judged world ≡ Legal
so_legal world legal =
    let alone = history_each (λ s. replay_fault s ≡ None) ReplaysAlone (λ s is. of_replay s is) world (recursion_from_All ReplaysAlone (histories_of world) legal.alone.replayed) in
    let answered = history_each (λ s. answer_fault world s ≡ None) (AllServed world) (λ s is. of_served world s is) world (recursion_from_All (AllServed world) (histories_of world) legal.served) in
    let called = history_each (λ s. stray_fault world s ≡ None) (AllCalledFor world) (λ s is. of_called world s is) world (recursion_from_All (AllCalledFor world) (histories_of world) legal.called_for) in
    in_none replay_fault world (judged_together world) alone
    (in_none (answer_fault world) world (found_or (first_in (stray_fault world) world) Legal) answered (in_none (stray_fault world) world Legal called refl))

-- an answer that is this verdict is Legal exactly there
judged_legal : (world : List DumpService) (found : Judged) → found ≡ judged world → (found ≡ Legal → IsLegalTogether (histories_of world)) × (IsLegalTogether (histories_of world) → found ≡ Legal)
judged_legal world found is = (λ e. legal_so world (sym is ∙ e), λ legal. is ∙ so_legal world legal)

pub legal_where : {E : Type 0} (world : List DumpService) (r : Result Judged E) → IfOk r (λ found. found ≡ judged world)
    → IfOk r (λ found. (found ≡ Legal) ↔ IsLegalTogether (histories_of world))
legal_where world (Ok found) is = judged_legal world found is
legal_where world (Err e) is = tt
