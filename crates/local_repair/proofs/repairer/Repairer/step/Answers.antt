use Rattle.std.proofs.Common.{◌≡◌, ◌∙◌, sym, ap, subst, List, length, get_or, set, take, arith}
use Rattle.std.proofs.lemmas.List.{length-map}
use Rattle.lang_core.specs.declared.cells.Cell.{Cell}
use Rattle.request_log.specs.declared.entry.Entry.{Entry}
use Rattle.local_repair.specs.Current.{AllCurrent, IsFirstStale, rows_after, writes_of}
use Rattle.local_repair.specs.Held.{all_looked, looked, IsKept, IsMarkedBehind}
use Rattle.local_repair.specs.Registers.{SlotsChange}
use Rattle.local_repair.specs.Repairs.{KeptRepairer}
use Rattle.local_repair.specs.Settling.{IsAgain, Leaves, noted}
use Rattle.local_repair.specs.Steps.{StepsTo}
use Rattle.local_repair.specs.Written.{all_written}
use Rattle.local_repair.specs.declared.stepped.Stepped.TheVariants.{Ran}
use Rattle.local_repair.proofs.ChangedLemmas.{kept_idle, kept_run}
use Rattle.local_repair.proofs.StepLemmas.{entry_at, stepped, not_idle}
use Rattle.local_repair.proofs.TestLemmas.{none_first}
use Rattle.local_repair.proofs.repairer.Repairer.step.Given.{Over}
use Rattle.local_repair.proofs.repairer.Repairer.step.Goals as goal

pub place_of_stale-stale-requires-clause-kept : goal.place_of_stale-stale-requires-clause-kept
place_of_stale-stale-requires-clause-kept g c =
    let inside = c.self.inside in
    let P : List Entry → Type 0 = λ l. IsKept inside.rows.base l inside.rows.writes inside.marks inside.calls in
    subst P (sym c.as_slice-entries.ensures.entries) c.self.invariant

pub remake_at-requires-clause-tied : goal.remake_at-requires-clause-tied
remake_at-requires-clause-tied g c = c.self.invariant.tied ∙ ap all_written (sym c.as_slice-entries.ensures.entries)

pub remake_at-requires-clause-looked : goal.remake_at-requires-clause-looked
remake_at-requires-clause-looked g c = c.self.invariant.looked ∙ ap all_looked (sym c.as_slice-entries.ensures.entries)

pub note-requires-clause-within_marks : goal.note-requires-clause-within_marks
note-requires-clause-within_marks g c =
    let entries = c.self.inside.log.entries in
    let seen = ap length c.as_slice-entries.ensures.entries in
    let count = ap length (c.in_ok-again-in-Some.ensures.marked (entry_at c.as_slice-entries.result.now c.in-Some.place c.in-Some.ensures.within).0).marked.reads in
    let many = ap length c.self.invariant.looked ∙ length-map entries looked in
    let within = c.in-Some.ensures.within in
    omega arith

pub note-requires-clause-few : goal.note-requires-clause-few
note-requires-clause-few g c = c.as_slice-entries.ensures.log.few

-- none is stale
pub invariant_of-self : goal.invariant_of-self
invariant_of-self g c =
    let inside = c.self.inside in
    let P : List Entry → Type 0 = λ l. AllCurrent (g.S.Slots.consumed_of c.args.slots.now) inside.rows.base l in
    kept_idle (g.S.Slots.consumed_of c.args.slots.now) inside.rows.base inside.log.entries inside.rows.writes inside.marks c.clear_before.new.self inside.calls c.self.invariant
    (subst P c.as_slice-entries.ensures.entries c.in-None.ensures) c.clear_before.ensures.reads

-- the registers before and after
change : (g : Over) (c : goal.After-note g) → SlotsChange
change g c =
    record {
      before = g.S.Slots.consumed_of c.args.slots.now;
      after = g.S.Slots.consumed_of c.remake_at.new.slots;
      last = g.S.Slots.last_of c.args.slots.now;
      later = g.S.Slots.last_of c.remake_at.new.slots;
      timely = g.S.Slots.is_timely c.args.slots.now;
      settles = g.S.Slots.settles c.args.slots.now c.remake_at.new.slots;
    }

-- what the step answers and leaves
left : (g : Over) (c : goal.After-note g)
    → Leaves c.args.setting.now (change g c) c.args.self.now.base c.in-Some.place c.note.new.log.entries × StepsTo c.args.setting.now (change g c) c.args.self.now.base c.args.self.now.entries c.note.result c.note.new.log.entries
unfolding change
left g c =
    let place = c.in-Some.place in
    let again = c.in_ok-again-in-Some.again in
    let seen : c.self.inside.log.entries ≡ c.args.self.now.entries = ap (λ (k : KeptRepairer). k.entries) c.self.view_is in
    let based : c.self.inside.rows.base ≡ c.args.self.now.base = ap (λ (k : KeptRepairer). k.base) c.self.view_is in
    let F : List Cell → List Entry → Type 0 = λ base xs. IsFirstStale (g.S.Slots.consumed_of c.args.slots.now) base xs place in
    let F1 : List Cell → Type 0 = λ base. F base c.as_slice-entries.result.now in
    let A : List Cell → List Entry → Type 0 = λ base xs. (d : Entry) → IsAgain c.args.setting.now (change g c) (rows_after base (take place xs)) (get_or xs place d) again in
    let A1 : List Cell → Type 0 = λ base. A base c.as_slice-entries.result.now in
    let T : List Entry → Type 0 = λ xs. (d : Entry) → c.note.result ≡ Ran (get_or xs place d).id again.answered in
    let P : List Entry → Type 0 = λ xs. (d : Entry) → c.note.new.log.entries ≡ set xs place (noted again (get_or xs place d)) in
    stepped c.args.setting.now (change g c) c.args.self.now.base c.args.self.now.entries c.note.new.log.entries place again c.note.result
    (subst (F c.args.self.now.base) (c.as_slice-entries.ensures.entries ∙ seen) (subst F1 based c.in-Some.ensures))
    (subst (A c.args.self.now.base) (c.as_slice-entries.ensures.entries ∙ seen) (subst A1 based c.in_ok-again-in-Some.ensures.ok))
    (subst T seen c.note.ensures.stepped) (subst P seen c.note.ensures.entries)
    c.requires.runs c.requires.apart c.requires.own

-- the first stale entry ran
pub invariant_of-self-in-Some : goal.invariant_of-self-in-Some
unfolding change
invariant_of-self-in-Some g c =
    let inside = c.self.inside in
    let place = c.in-Some.place in
    let again = c.in_ok-again-in-Some.again in
    let seen = c.as_slice-entries.ensures.entries in
    let F : List Entry → Type 0 = λ xs. IsFirstStale (g.S.Slots.consumed_of c.args.slots.now) inside.rows.base xs place in
    let A : List Entry → Type 0 = λ xs. (d : Entry) → IsAgain c.args.setting.now (change g c) (rows_after inside.rows.base (take place xs)) (get_or xs place d) again in
    let M : List Entry → Type 0 = λ xs. (d : Entry) → IsMarkedBehind place (writes_of (get_or xs place d).made) again.made.trace.writes inside.marks c.remake_at.new.marks in
    let based : c.note.new.rows.base ≡ inside.rows.base = c.note.ensures.base ∙ c.remake_at.ensures.base in
    let K : List Cell → Type 0 = λ base. IsKept base c.note.new.log.entries c.note.new.rows.writes c.note.new.marks c.may_call-self-inside.result in
    subst K (sym based)
    (kept_run c.args.setting.now (change g c) inside.rows.base inside.log.entries c.note.new.log.entries inside.rows.writes c.note.new.rows.writes inside.marks c.remake_at.new.marks c.note.new.marks
    place again inside.calls c.may_call-self-inside.result c.self.invariant (subst F seen c.in-Some.ensures) (subst A seen c.in_ok-again-in-Some.ensures.ok) (subst M seen c.in_ok-again-in-Some.ensures.marked)
    c.note.ensures.entries c.note.ensures.reads c.note.ensures.marks c.may_call-self-inside.ensures c.note.ensures.tied)

pub returns-in_ok-again-in-Some-clause-runs : goal.returns-in_ok-again-in-Some-clause-runs
returns-in_ok-again-in-Some-clause-runs g c = (left g c).0.runs

pub returns-in_ok-again-in-Some-clause-apart : goal.returns-in_ok-again-in-Some-clause-apart
unfolding change
returns-in_ok-again-in-Some-clause-apart g c = (left g c).0.apart

pub returns-in_ok-again-in-Some-clause-own : goal.returns-in_ok-again-in-Some-clause-own
returns-in_ok-again-in-Some-clause-own g c = (left g c).0.own

pub returns-in_ok-again-in-Some-clause-steps : goal.returns-in_ok-again-in-Some-clause-steps
unfolding change
returns-in_ok-again-in-Some-clause-steps g c = (left g c).1

pub returns-in_ok-again-in-Some-clause-free : goal.returns-in_ok-again-in-Some-clause-free
returns-in_ok-again-in-Some-clause-free g c = λ all.
    let seen = c.as_slice-entries.ensures.entries ∙ ap (λ (k : KeptRepairer). k.entries) c.self.view_is in
    let F : List Entry → Type 0 = λ xs. IsFirstStale (g.S.Slots.consumed_of c.args.slots.now) c.args.self.now.base xs c.in-Some.place in
    let B : List Cell → Type 0 = λ base. IsFirstStale (g.S.Slots.consumed_of c.args.slots.now) base c.as_slice-entries.result.now c.in-Some.place in
    let based = ap (λ (k : KeptRepairer). k.base) c.self.view_is in
    absurd (none_first (g.S.Slots.consumed_of c.args.slots.now) c.args.self.now.base c.args.self.now.entries c.in-Some.place all (subst F seen (subst B based c.in-Some.ensures)))

pub returns-in_err-again-in-Some-clause-free : goal.returns-in_err-again-in-Some-clause-free
returns-in_err-again-in-Some-clause-free g c = λ all.
    let seen = c.as_slice-entries.ensures.entries ∙ ap (λ (k : KeptRepairer). k.entries) c.self.view_is in
    let F : List Entry → Type 0 = λ xs. IsFirstStale (g.S.Slots.consumed_of c.args.slots.now) c.args.self.now.base xs c.in-Some.place in
    let B : List Cell → Type 0 = λ base. IsFirstStale (g.S.Slots.consumed_of c.args.slots.now) base c.as_slice-entries.result.now c.in-Some.place in
    let based = ap (λ (k : KeptRepairer). k.base) c.self.view_is in
    absurd (none_first (g.S.Slots.consumed_of c.args.slots.now) c.args.self.now.base c.args.self.now.entries c.in-Some.place all (subst F seen (subst B based c.in-Some.ensures)))

pub returns-in_ok-again-in-Some-clause-idle : goal.returns-in_ok-again-in-Some-clause-idle
returns-in_ok-again-in-Some-clause-idle g c = λ idle.
    let F : List Entry → Type 0 = λ xs. IsFirstStale (g.S.Slots.consumed_of c.args.slots.now) c.self.inside.rows.base xs c.in-Some.place in
    let first = subst F c.as_slice-entries.ensures.entries c.in-Some.ensures in
    absurd (not_idle c.self.inside.log.entries c.in-Some.place c.in_ok-again-in-Some.again.answered c.note.result first.within c.note.ensures.stepped idle)

-- how many of the first entries are known to be current
pub returns-in_ok-again-in-Some-clause-checked : goal.returns-in_ok-again-in-Some-clause-checked
unfolding change
returns-in_ok-again-in-Some-clause-checked g c =
    let before = (left g c).0.before in
    record { within = before.0; current = before.1 }
