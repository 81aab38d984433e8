-- An entry of a log: what follows from the journal of it.
use Rattle.std.proofs.Common.{◌≡◌, ℕ, Bool, true, false, ◌&&◌, not, List, [], ◌∷◌, ◌++◌, Option, Some, None, IsSomeAnd, find, is_some, option_map, refl, sym, ap, ◌∙◌, subst, eqb-true, eq-eqb}
use Rattle.std.specs.List.{list_any}
use Rattle.std.proofs.lemmas.Bool.{or_left}
use Rattle.std.proofs.lemmas.List.Folds.{list_any-append}
use Rattle.std.proofs.lemmas.List.Sums.{fold_push}
use Rattle.lang_core.specs.Origins.{is_call}
use Rattle.lang_core.specs.declared.ids.Origin.{Origin}
use Rattle.lang_core.specs.declared.ids.Origin.TheVariants.{Outside, Call}
use Rattle.lang_core.specs.declared.inputs.Inputs.{Inputs}
use Rattle.request_log.specs.Entries.{has_id, has_origin, find_call, IsDistinct}
use Rattle.request_log.specs.Records.{Record, record_of}
use Rattle.request_log.specs.declared.entry.Entry.{Entry}
use Rattle.journal_rows.specs.Words.{asked_step, taken_step, last_taken_of, request_step, struck_step, last_answered, given_version}
use Rattle.journal_rows.specs.declared.callee.AnsweredRow.{AnsweredRow}
use Rattle.journal_rows.specs.declared.callee.AskedRow.{AskedRow}
use Rattle.journal_rows.specs.declared.row.Row.{Row}
use Rattle.journal_rows.specs.declared.row.Row.TheVariants.{Acked, Answered, WasConfirmed}
use Rattle.call_registers.specs.declared.reply.Reply.{Reply}
use Rattle.service_events.specs.Fits.{asked_as, answer_recorded, answer_given, takes_request, HasAnswered}
use Rattle.call_registers.specs.declared.register.Answer.{Answer}
use Rattle.service_events.proofs.LogLemmas.{call_is, itself, front_id, found_call}
use Rattle.service_events.proofs.PartLemmas.{IsLogged}
use Rattle.service_events.proofs.EntryRowLemmas.{AsksSame}
use Rattle.service_events.proofs.SearchLemmas.{splits, found_behind}

-- ---- rows that say nothing of what is asked

-- a row that doesn't say what is asked
abbrev pub AsksNothing : Row → Type 0
AsksNothing (Acked a) = Unit {0}
AsksNothing (Answered a) = Unit {0}
AsksNothing (WasConfirmed c) = Unit {0}
AsksNothing row = ⊥

made_nothing : (id : ℕ) (first : Option AskedRow) (row : Row) → AsksNothing row → asked_step id first row ≡ first
made_nothing id first (Acked a) h = refl
made_nothing id first (Answered a) h = refl
made_nothing id first (WasConfirmed c) h = refl
made_nothing id first row h = absurd h

taken_nothing : (o : Origin) (j : List Row) (row : Row) → AsksNothing row → last_taken_of o (j ++ row ∷ []) ≡ last_taken_of o j
taken_nothing Outside j row h = refl
taken_nothing (Call c n) j (Acked a) h = fold_push (taken_step c n) None j (Acked a)
taken_nothing (Call c n) j (Answered a) h = fold_push (taken_step c n) None j (Answered a)
taken_nothing (Call c n) j (WasConfirmed a) h = fold_push (taken_step c n) None j (WasConfirmed a)
taken_nothing (Call c n) j row h = absurd h

pub asks_same_after : (j : List Row) (row : Row) (id : ℕ) (o : Origin) → AsksNothing row → AsksSame j (j ++ row ∷ []) id o
asks_same_after j (Acked a) id o h = record {
  made = fold_push (asked_step id) None j (Acked a);
  taken = taken_nothing o j (Acked a) tt;
  request = λ first. fold_push (request_step id o) first j (Acked a);
  struck = fold_push (struck_step id) false j (Acked a);
}
asks_same_after j (Answered a) id o h = record {
  made = fold_push (asked_step id) None j (Answered a);
  taken = taken_nothing o j (Answered a) tt;
  request = λ first. fold_push (request_step id o) first j (Answered a);
  struck = fold_push (struck_step id) false j (Answered a);
}
asks_same_after j (WasConfirmed c) id o h = record {
  made = fold_push (asked_step id) None j (WasConfirmed c);
  taken = taken_nothing o j (WasConfirmed c) tt;
  request = λ first. fold_push (request_step id o) first j (WasConfirmed c);
  struck = fold_push (struck_step id) false j (WasConfirmed c);
}
asks_same_after j row id o h = absurd h

-- ---- how it was made, and its answers

pub made_from : (o : Option AskedRow) (origin : Origin) (inputs : Inputs) → Some (origin, inputs) ≡ option_map asked_as o → IsSomeAnd o (λ a. a.origin ≡ origin)
made_from None origin inputs e = cc
made_from (Some a) origin inputs e = (let same : (origin, inputs) ≡ (a.origin, a.inputs) = cc in ap (λ (p : Origin × Inputs). p.0) (sym same))

version_made : (v : ℕ) (made : Option Record) (last : Option AnsweredRow) → option_map (answer_recorded v) made ≡ option_map answer_given last → (made ≡ None → v ≡ 0)
    → v ≡ given_version last
version_made v None None e first = first refl
version_made v None (Some a) e first = cc
version_made v (Some r) None e first = cc
version_made v (Some r) (Some a) e first =
    let same : answer_recorded v r ≡ answer_given a = cc in
    ap (λ (x : Answer). x.answer_version) same

-- its answer version is that of its last answer
pub version_given : (j : List Row) (e : Entry) → HasAnswered j e → e.answer_version ≡ given_version (last_answered e.id j)
version_given j e h = version_made e.answer_version (record_of e) (last_answered e.id j) h.answer h.first

pub found_itself : (log : List Entry) (id : ℕ) (e : Entry) → find (has_id id) log ≡ Some e → e.id ≡ id
found_itself log id e found = eqb-true e.id id (splits (has_id id) log e found).passes

-- an entry that a call finds is found by its number
pub found_by_call : (log : List Entry) (c : List ℕ) (n : ℕ) (e : Entry) → IsDistinct log → find_call (Call c n) log ≡ Some e
    → (e.origin ≡ Call c n) × (find (has_id e.id) log ≡ Some e)
found_by_call log c n e apart found =
    let s = splits (has_origin c n) log e found in
    let P : List Entry → Type 0 = λ l. find (has_id e.id) l ≡ Some e in (
      call_is c n e.origin s.passes,
      subst P (sym s.is) (found_behind (has_id e.id) s.before e s.rest (front_id s.before e s.rest (subst IsDistinct s.is apart)) (eq-eqb e.id e.id refl)),
    )

-- a call that has an entry was taken with a request
pub still_called : (j rows : List Row) (log : List Entry) (kept : List Reply) (e : Entry) → IsLogged j log kept → find (has_id e.id) log ≡ Some e
    → (c : List ℕ) (n : ℕ) → e.origin ≡ Call c n → list_any (takes_request c n) (j ++ rows) ≡ true
still_called j rows log kept e h found c n from =
    let there = found_call log e.id e c n found (ap (is_call c n) from ∙ itself c n) h.asked.distinct in
    list_any-append (takes_request c n) j rows
    ∙ or_left (list_any (takes_request c n) j) (list_any (takes_request c n) rows) ((h.asked.calls c n).0 (ap is_some there))

pub and_always : (b : Bool) → b ≡ (b && not false)
and_always true = refl
and_always false = refl
