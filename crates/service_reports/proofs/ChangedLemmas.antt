-- A search for what a journal says of a request from outside, along the rows of its number, and a log's two parts as one list.
use Rattle.std.proofs.Common.{◌≡◌, ℕ, Bool, true, false, ◌&&◌, cond, List, ◌++◌, Option, Some, None, Result, Ok, Err, OnOk, flat_map, map, is_some, nat_eq, refl, sym, ap, ◌∙◌, append_assoc, arith}
use Rattle.std.proofs.lemmas.Bool.Decides.{nat_tests}
use Rattle.std.proofs.lemmas.List.Concat.{flat_map-append}
use Rattle.lang_core.specs.declared.ids.Origin.{Origin}
use Rattle.lang_core.specs.declared.ids.Origin.TheVariants.{Outside, Call}
use Rattle.lang_lists.proofs.SearchLemmas.{IsQuiet}
use Rattle.request_log.specs.Folded.{as_entry, whole}
use Rattle.request_log.specs.declared.entry.Entry.{Entry}
use Rattle.request_log.specs.declared.folded.Folded.{Folded}
use Rattle.journal_rows.specs.Keys.{origin_key, row_key}
use Rattle.journal_rows.specs.declared.callee.AnsweredRow.{AnsweredRow}
use Rattle.journal_rows.specs.declared.callee.AskedRow.{AskedRow}
use Rattle.journal_rows.specs.declared.row.Row.{Row}
use Rattle.journal_rows.specs.declared.row.Row.TheVariants.{Asked, Answered}
use Rattle.service_reports.specs.Changed.{answer_outside_step, asked_outside_step, is_answer, is_of, is_outside, is_which}
use Rattle.service_reports.specs.declared.changed.Which.{Which}

not_chosen : {X : Type 0} (b : Bool) (x : X) (s : Option X) → b ≡ false → cond b (Some x) s ≡ s
not_chosen true x s h = cc
not_chosen false x s h = refl

passed : {X : Type 0} (b : Bool) (x : X) (s : Option X) → is_some (cond b (Some x) None) ≡ false → cond b (Some x) s ≡ s
passed true x s h = cc
passed false x s h = refl

not_both : (b d : Bool) → b ≡ false → (b && d) ≡ false
not_both true d h = cc
not_both false d h = refl

flipped : (m n : ℕ) → nat_eq m n ≡ false → nat_eq n m ≡ false
flipped m n h = grind (arith, nat_tests)

-- ---- how it was asked

asked_stays : (id : ℕ) (s : Option AskedRow) (row : Row) → nat_eq id (row_key row) ≡ false → asked_outside_step id s row ≡ s
asked_stays id s (Asked a) h = not_chosen (is_of id a.id a.origin) a s (not_both (nat_eq a.id id) (is_outside a.origin) (flipped id a.id h))
asked_stays id s row h = refl

pub asked_quiet : (id : ℕ) → IsQuiet row_key (asked_outside_step id) id
asked_quiet id = record { stays = asked_stays id }

pub asked_passed : (id : ℕ) (s : Option AskedRow) (row : Row) → is_some (asked_outside_step id None row) ≡ false → asked_outside_step id s row ≡ s
asked_passed id s (Asked a) h = passed (is_of id a.id a.origin) a s h
asked_passed id s row h = refl

-- ---- what it was answered

never_of : (b : Bool) → (b && false) ≡ false
never_of true = refl
never_of false = refl

-- what is under another key isn't of it: of a call, or of another number
of_other : (id number : ℕ) (o : Origin) → nat_eq id (origin_key number o) ≡ false → is_of id number o ≡ false
of_other id number Outside h = not_both (nat_eq number id) true (flipped id number h)
of_other id number (Call c n) h = never_of (nat_eq number id)

answer_stays : (which : Which) (id : ℕ) (s : Option AnsweredRow) (row : Row) → nat_eq id (row_key row) ≡ false → answer_outside_step which id s row ≡ s
answer_stays which id s (Answered a) h =
    not_chosen (is_answer which id a) a s (not_both (is_of id a.id a.origin) (is_which which a) (of_other id a.id a.origin h))
answer_stays which id s row h = refl

pub answer_quiet : (which : Which) (id : ℕ) → IsQuiet row_key (answer_outside_step which id) id
answer_quiet which id = record { stays = answer_stays which id }

pub answer_passed : (which : Which) (id : ℕ) (s : Option AnsweredRow) (row : Row) → is_some (answer_outside_step which id None row) ≡ false → answer_outside_step which id s row ≡ s
answer_passed which id s (Answered a) h = passed (is_answer which id a) a s h
answer_passed which id s row h = refl

-- ---- a log's two parts

-- the lines of the folded entries and then those of the others are those of all
pub parts_together : {X E : Type 0} (f : Entry → List ℕ) (folded : List Folded) (entries : List Entry) (before mid now : List ℕ) (done : Result X E)
    → mid ≡ before ++ flat_map f (map as_entry folded) → OnOk done (now ≡ mid ++ flat_map f entries) → OnOk done (now ≡ before ++ flat_map f (whole folded entries))
parts_together f folded entries before mid now (Ok unit) first rest =
    rest
    ∙ ap (λ t. t ++ flat_map f entries) first
    ∙ append_assoc before (flat_map f (map as_entry folded)) (flat_map f entries)
    ∙ ap (λ t. before ++ t) (sym (flat_map-append f (map as_entry folded) entries))
parts_together f folded entries before mid now (Err lacks) first rest = tt
