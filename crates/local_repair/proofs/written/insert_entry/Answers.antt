use Rattle.std.proofs.Common.{◌≡◌, ◌≤◌, ℕ, sym, ap, ◌∙◌, subst, insert, length, get_or, take, arith, refl, List}
use Rattle.std.proofs.lemmas.List.{length-map}
use Rattle.std.proofs.lemmas.List.Edits.{get_or-insert_at, length-insert}
use Rattle.lang_core.specs.declared.cells.Cell.{Cell}
use Rattle.request_log.specs.declared.entry.Entry.{Entry}
use Rattle.request_log.specs.Entries.{KeptLog}
use Rattle.log_index.specs.Marks.{is_marked, IsReadyToInsert as IsReadyToMark}
use Rattle.log_index.specs.Rows.{IsReadyToInsert}
use Rattle.local_repair.specs.Current.{rows_after, writes_of}
use Rattle.local_repair.specs.Held.{looked, reads_of, IsKept, IsPutAt}
use Rattle.local_repair.specs.Written.{all_written}
use Rattle.local_repair.proofs.ChangedLemmas.{kept_calls}
use Rattle.local_repair.proofs.HeldLemmas.{kept_grown, kept_inserted}
use Rattle.local_repair.proofs.WrittenLemmas.{seen_before, written_insert}
use Rattle.local_repair.proofs.written.insert_entry.Goals as goal

-- what was put is what is read
read : (entries after : List Entry) (at : ℕ) (put e : Entry) → after ≡ insert entries at e → put ≡ get_or after at put → at ≤ length entries → put ≡ e
read entries after at put e is there within = there ∙ ap (λ l. get_or l at put) is ∙ get_or-insert_at entries at e put within

pub insert_parts-requires-clause-within : goal.insert_parts-requires-clause-within
insert_parts-requires-clause-within c =
    let n = ap length (c.in_ok-ready_entry.ensures.writes ∙ c.requires.kept.tied) in
    let m = length-map c.args.log.now.entries (λ (e : Entry). writes_of e.made) in
    let within = c.requires.within in
    omega arith

pub insert_parts-requires-clause-within_marks : goal.insert_parts-requires-clause-within_marks
insert_parts-requires-clause-within_marks c =
    let n = ap length (c.in_ok-ready_entry.ensures.ok.reads ∙ c.requires.kept.looked) in
    let m = length-map c.args.log.now.entries looked in
    let within = c.requires.within in
    omega arith

pub insert_parts-requires-clause-few : goal.insert_parts-requires-clause-few
insert_parts-requires-clause-few c =
    let n = ap length (c.in_ok-ready_entry.ensures.writes ∙ c.requires.kept.tied) in
    let m = length-map c.args.log.now.entries (λ (e : Entry). writes_of e.made) in
    let few = c.as_slice-entries.ensures.log.few in
    let more = ap length c.in_ok-insert.ensures.ok in
    let k = length-insert c.args.log.now.entries c.args.at c.args.added c.requires.within in
    omega arith

pub insert_parts-requires-clause-few_marks : goal.insert_parts-requires-clause-few_marks
insert_parts-requires-clause-few_marks c =
    let n = ap length (c.in_ok-ready_entry.ensures.ok.reads ∙ c.requires.kept.looked) in
    let m = length-map c.args.log.now.entries looked in
    let few = c.as_slice-entries.ensures.log.few in
    let more = ap length c.in_ok-insert.ensures.ok in
    let k = length-insert c.args.log.now.entries c.args.at c.args.added c.requires.within in
    omega arith

pub insert_parts-requires-clause-ready_rows : goal.insert_parts-requires-clause-ready_rows
insert_parts-requires-clause-ready_rows c =
    let is = c.entry.ensures ∙ read c.args.log.now.entries c.as_slice-entries.result.now c.args.at c.index-entries-at.result c.args.added (c.as_slice-entries.ensures.entries ∙ c.in_ok-insert.ensures.ok) c.index-entries-at.is c.requires.within in
    let P : Entry → Type 0 = λ e. IsReadyToInsert c.args.at (writes_of e.made) c.ready_entry.new.rows in
    subst P (sym is) c.in_ok-ready_entry.ensures.ready_rows

pub insert_parts-requires-clause-ready_marks : goal.insert_parts-requires-clause-ready_marks
insert_parts-requires-clause-ready_marks c =
    let is = c.entry.ensures ∙ read c.args.log.now.entries c.as_slice-entries.result.now c.args.at c.index-entries-at.result c.args.added (c.as_slice-entries.ensures.entries ∙ c.in_ok-insert.ensures.ok) c.index-entries-at.is c.requires.within in
    let P : Entry → Type 0 = λ e. IsReadyToMark c.args.at (reads_of e.made) c.ready_entry.new.marks in
    subst P (sym is) c.in_ok-ready_entry.ensures.ready_marks

pub returns-clause-kept : goal.returns-clause-kept
returns-clause-kept c =
    let es = c.args.log.now.entries in
    let at = c.args.at in
    let base = c.args.rows.now.base in
    let kept = c.requires.kept in
    let m1 = c.ready_entry.new.marks in
    let m2 = c.insert_parts.new.marks in
    let is = c.entry.ensures ∙ read es c.as_slice-entries.result.now at c.index-entries-at.result c.args.added (c.as_slice-entries.ensures.entries ∙ c.in_ok-insert.ensures.ok) c.index-entries-at.is c.requires.within in
    let tied = c.in_ok-ready_entry.ensures.writes ∙ kept.tied in
    let seen = seen_before c.ready_entry.new.rows es at tied ∙ ap (λ b. rows_after b (take at es)) c.in_ok-ready_entry.ensures.base in
    let based : c.insert_parts.new.rows.base ≡ base = c.insert_parts.ensures.base ∙ c.in_ok-ready_entry.ensures.base in
    let P : Entry → List Cell → Type 0 = λ e rows. IsPutAt at e rows m1 m2 in
    let Q : Entry → Type 0 = λ e. P e (rows_after base (take at es)) in
    let K : List Cell → Type 0 = λ b. IsKept b c.insert.new.self.entries c.insert_parts.new.rows.writes m2 c.may_call_with.result in
    let put = subst Q is (subst (P c.entry.result.now) seen c.insert_parts.ensures.marks) in
    subst K (sym based)
    (kept_inserted base es c.insert.new.self.entries c.args.rows.now.writes c.insert_parts.new.rows.writes c.args.marks.now m1 m2 at c.args.added (is_marked at m2.marks) c.args.calls.now c.may_call_with.result
    kept c.may_call_with.ensures c.requires.within c.in_ok-ready_entry.ensures.ok put.held put.reads refl put.front put.behind c.in_ok-insert.ensures.ok
    (c.insert_parts.ensures.rows
    ∙ ap (λ w. insert w at (writes_of c.entry.result.now.made)) tied
    ∙ ap (λ (e : Entry). insert (all_written es) at (writes_of e.made)) is
    ∙ sym (ap all_written c.in_ok-insert.ensures.ok ∙ written_insert es at c.args.added)))

pub returns-in_err-ready_entry-clause-kept : goal.returns-in_err-ready_entry-clause-kept
returns-in_err-ready_entry-clause-kept c =
    let from = c.in_err-ready_entry.ensures.err in
    let K : List Cell → Type 0 = λ b. IsKept b c.args.log.now.entries c.ready_entry.new.rows.writes c.ready_entry.new.marks c.args.calls.now in
    subst K (sym c.in_err-ready_entry.ensures.base)
    (kept_grown c.args.rows.now.base c.args.log.now.entries c.args.rows.now.writes c.ready_entry.new.rows.writes c.args.marks.now c.ready_entry.new.marks c.args.calls.now c.requires.kept
    c.in_err-ready_entry.ensures.writes from.reads from.stays)

pub returns-in_err-insert-clause-kept : goal.returns-in_err-insert-clause-kept
returns-in_err-insert-clause-kept c =
    let es = c.args.log.now.entries in
    let base = c.args.rows.now.base in
    let from = c.in_ok-ready_entry.ensures.ok in
    let rows = c.ready_entry.new.rows.writes in
    let m1 = c.ready_entry.new.marks in
    let P : List Entry → Type 0 = λ l. IsKept c.ready_entry.new.rows.base l rows m1 c.may_call_with.result in
    let K : List Cell → Type 0 = λ b. IsKept b es rows m1 c.may_call_with.result in
    subst P (sym (ap (λ (k : KeptLog). k.entries) c.in_err-insert.ensures.err))
    (subst K (sym c.in_ok-ready_entry.ensures.base)
    (kept_calls base es rows m1 c.args.calls.now c.may_call_with.result
    (kept_grown base es c.args.rows.now.writes rows c.args.marks.now m1 c.args.calls.now c.requires.kept c.in_ok-ready_entry.ensures.writes from.reads from.stays)
    (λ none. (c.may_call_with.ensures none).0)))
