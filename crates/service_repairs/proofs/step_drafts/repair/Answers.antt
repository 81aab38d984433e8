use Rattle.std.proofs.Common.{◌∙◌, List, All, ap, subst, sym, length, map}
use Rattle.lang_core.specs.declared.cells.Cell.{Cell}
use Rattle.lang_core.specs.declared.setting.Setting.{Setting}
use Rattle.request_log.specs.Folded.{as_entry}
use Rattle.request_log.specs.declared.entry.Entry.{Entry}
use Rattle.local_repair.specs.Current.{AllCurrent, AllRuns, AreChecked}
use Rattle.local_repair.specs.Repairs.{KeptRepairer}
use Rattle.local_repair.specs.Settling.{HasItsSlots, CanSettle}
use Rattle.local_repair.specs.Steps.{AreApart}
use Rattle.call_registers.specs.declared.register.Register.{Register}
use Rattle.service_events.specs.State.{Kept, base, unfolded}
use Rattle.service_parts.specs.Parts.{kept}
use Rattle.service_parts.proofs.ApartLaws.{apart_behind, own_behind}
use Rattle.service_parts.proofs.WholeLemmas.{drop_whole, folded_kept, unfolded_kept}
use Rattle.service_repairs.specs.Answers.{IsChecked}
use Rattle.service_repairs.specs.Books.{KeptBook, answers, IsOwn}
use Rattle.service_repairs.proofs.StepDraftLemmas.{all_settle, repaired}
use Rattle.service_repairs.proofs.step_drafts.repair.Goals as goal

pub step-stepped-requires-clause-apart : goal.step-stepped-requires-clause-apart
step-stepped-requires-clause-apart c =
    let s = kept c.args.parts.now in
    let f = c.requires.fits in
    let P : List Register → Type 0 = λ rs. AreApart (length rs) (unfolded s) in
    let Q : List Entry → Type 0 = λ es. AreApart (length c.take_book-book.result.registers) es in
    subst Q (sym (ap (λ (r : KeptRepairer). r.entries) c.take_book-book.ensures.entries ∙ sym (unfolded_kept c.args.parts.now)))
    (subst P (sym (ap (λ (b : KeptBook). b.registers) c.take_book-book.ensures.book))
    (apart_behind s f))

pub step-stepped-requires-clause-own : goal.step-stepped-requires-clause-own
step-stepped-requires-clause-own c =
    let s = kept c.args.parts.now in
    let f = c.requires.fits in
    let Q : List Entry → Type 0 = λ es. All HasItsSlots es in
    subst Q (sym (ap (λ (r : KeptRepairer). r.entries) c.take_book-book.ensures.entries ∙ sym (unfolded_kept c.args.parts.now)))
    (own_behind s f)

pub step-stepped-requires-clause-runs : goal.step-stepped-requires-clause-runs
step-stepped-requires-clause-runs c =
    let s = kept c.args.parts.now in
    let T : Setting → Type 0 = λ t. AllRuns t (unfolded s) in
    let Q : List Entry → Type 0 = λ es. AllRuns c.take_book-book.new.parts.setting es in
    subst Q (sym (ap (λ (r : KeptRepairer). r.entries) c.take_book-book.ensures.entries ∙ sym (unfolded_kept c.args.parts.now)))
    (subst T (sym c.take_book-book.ensures.setting) c.requires.fits.runs)

pub step-stepped-requires-clause-can : goal.step-stepped-requires-clause-can
step-stepped-requires-clause-can c =
    let s = kept c.args.parts.now in
    let P : KeptBook → Type 0 = λ b. All (CanSettle (λ e t. IsOwn b e) s.setting) (unfolded s) in
    let T : Setting → Type 0 = λ t. All (CanSettle (λ e t. IsOwn c.take_book-book.result e) t) (unfolded s) in
    let Q : List Entry → Type 0 = λ es. All (CanSettle (λ e t. IsOwn c.take_book-book.result e) c.take_book-book.new.parts.setting) es in
    subst Q (sym (ap (λ (r : KeptRepairer). r.entries) c.take_book-book.ensures.entries ∙ sym (unfolded_kept c.args.parts.now)))
    (subst T (sym c.take_book-book.ensures.setting) (subst P (sym c.take_book-book.ensures.book) (all_settle s c.requires.fits)))

pub returns-clause-ok : goal.returns-clause-ok
returns-clause-ok c =
    let p = c.args.parts.now in
    let same = c.take_book-book.ensures.entries in
    repaired (kept p) c.requires.fits c.take_book-book.result c.step-stepped.new.slots
    (length c.take_book-book.result.registers) (length c.step-stepped.new.slots.registers)
    c.take_book-book.new.parts.setting c.take_book-book.new.parts.began c.take_book-book.new.parts.rules c.take_book-book.new.parts.newest
    c.take_book-book.new.parts.repairer c.step-stepped.new.self (kept c.put_book.new.parts) c.step-stepped.result
    c.take_book-book.ensures.book c.take_book-book.ensures.setting c.take_book-book.ensures.began c.take_book-book.ensures.rules c.take_book-book.ensures.newest
    (ap (λ (r : KeptRepairer). map as_entry r.folded) same ∙ sym (folded_kept p)) (ap (λ (r : KeptRepairer). length r.folded) same) (ap (λ (r : KeptRepairer). r.base) same)
    (ap (λ (r : KeptRepairer). r.entries) same ∙ sym (unfolded_kept p)) c.step-stepped.ensures.folded c.step-stepped.ensures.base
    c.step-stepped.ensures.steps (λ idle. (c.step-stepped.ensures.idle idle).1) c.put_book.ensures.kept

-- the rows before the entries that aren't folded, and these, are the service's
pub returns-clause-free : goal.returns-clause-free
returns-clause-free c = λ all.
    let s = kept c.args.parts.now in
    let same = c.take_book-book.ensures.entries in
    let P : KeptBook → Type 0 = λ b. AllCurrent (answers b) (base s) (unfolded s) in
    let B : List Cell → Type 0 = λ r. AllCurrent (answers c.take_book-book.result) r (unfolded s) in
    let Q : List Entry → Type 0 = λ es. AllCurrent (answers c.take_book-book.result) c.take_book-book.new.parts.repairer.base es in
    c.step-stepped.ensures.free
    (subst Q (sym (ap (λ (r : KeptRepairer). r.entries) same ∙ sym (unfolded_kept c.args.parts.now)))
    (subst B (sym (ap (λ (r : KeptRepairer). r.base) same)) (subst P (sym c.take_book-book.ensures.book) all)))

pub step-stepped-requires-clause-checked : goal.step-stepped-requires-clause-checked
step-stepped-requires-clause-checked c =
    let s = kept c.args.parts.now in
    let same = c.take_book-book.ensures.entries in
    let P : KeptBook → Type 0 = λ b. AreChecked (answers b) (base s) (unfolded s) c.args.checked.now in
    let B : List Cell → Type 0 = λ r. AreChecked (answers c.take_book-book.result) r (unfolded s) c.args.checked.now in
    let Q : List Entry → Type 0 = λ es. AreChecked (answers c.take_book-book.result) c.take_book-book.new.parts.repairer.base es c.args.checked.now in
    subst Q (sym (ap (λ (r : KeptRepairer). r.entries) same ∙ sym (unfolded_kept c.args.parts.now)))
    (subst B (sym (ap (λ (r : KeptRepairer). r.base) same)) (subst P (sym c.take_book-book.ensures.book) c.requires.checked))

pub returns-clause-checked : goal.returns-clause-checked
returns-clause-checked c =
    let P : Kept → Type 0 = λ k. IsChecked k c.step-stepped.new.checked in
    let answer = c.step-stepped.ensures.checked in
    let B : List Cell → Type 0 = λ r. AreChecked (answers c.step-stepped.new.slots) r c.step-stepped.new.self.entries c.step-stepped.new.checked in
    let Q : List Entry → Type 0 = λ es. AreChecked (answers c.step-stepped.new.slots) c.step-stepped.new.self.base es c.step-stepped.new.checked in
    subst P (sym c.put_book.ensures.kept) (subst Q (sym (drop_whole c.step-stepped.new.self.folded c.step-stepped.new.self.entries)) (subst B (sym c.step-stepped.ensures.base) answer))
