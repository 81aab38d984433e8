-- The entry that gave an answer to a call.
use Rattle.std.proofs.Common.{◌≡◌, ℕ, false, true, List, Option, Some, None, IsSomeAnd, Contains, find, option_map, refl, sym, ap, ◌∙◌, subst}
use Rattle.std.specs.List.{list_any}
use Rattle.lang_core.specs.declared.ids.Origin.TheVariants.{Call}
use Rattle.request_log.specs.Entries.{has_id, has_origin, find_call}
use Rattle.request_log.specs.declared.entry.Entry.{Entry}
use Rattle.journal_rows.specs.Words.{last_taken, asked}
use Rattle.journal_rows.specs.declared.callee.AnsweredRow.{AnsweredRow}
use Rattle.journal_rows.specs.declared.callee.AskedRow.{AskedRow}
use Rattle.journal_rows.specs.declared.callee.TookRow.{TookRow}
use Rattle.journal_rows.specs.declared.row.Row.{Row}
use Rattle.journal_rows.specs.declared.row.Row.TheVariants.{Answered}
use Rattle.service_events.specs.Fits.{Fits, made_as, asked_as, takes_request}
use Rattle.service_events.specs.State.{Kept}
use Rattle.service_events.proofs.JournalLemmas.{untaken}
use Rattle.service_events.proofs.LogLemmas.{itself, found_call}
use Rattle.world_agreement.proofs.AnswerFacts.{given_asked}

-- an entry with this number, which comes from this call
pub record IsOfCall (k : Kept) (id : ℕ) (c : List ℕ) (n : ℕ) : Type 0 where
  pub entry : Entry
  pub by_id : find (has_id id) k.entries ≡ Some entry
  pub by_call : find_call (Call c n) k.entries ≡ Some entry

-- what answered a call is an entry of that call
pub of_call : (k : Kept) → Fits k → (row : AnsweredRow) (c : List ℕ) (n : ℕ) → row.origin ≡ Call c n → Contains k.journal (Answered row) → IsOfCall k row.id c n
of_call k fits row c n from has = by_entry (find (has_id row.id) k.entries) refl (asked row.id k.journal) (fits.asked.entries row.id) (given_asked row k.journal fits.answered.rows has)
  where
    by_entry : (o : Option Entry) → find (has_id row.id) k.entries ≡ o → (a : Option AskedRow) → option_map made_as o ≡ option_map asked_as a
        → IsSomeAnd a (λ made. made.origin ≡ row.origin) → IsOfCall k row.id c n
    by_entry o is None e at = absurd at
    by_entry None is (Some a) e at = cc
    by_entry (Some x) is (Some a) e at =
        let same : made_as x ≡ asked_as a = cc in
        let origin : x.origin ≡ Call c n = ap (λ p. p.0) same ∙ at ∙ from in
        let mine : has_origin c n x ≡ true = subst (λ o. has_origin c n (record x { origin = o }) ≡ true) (sym origin) (itself c n) in
        record { entry = x; by_id = is; by_call = found_call k.entries row.id x c n is mine fits.asked.distinct }

-- the last version that was taken of a call of which one was taken with a request
pub taken_there : (c : List ℕ) (n : ℕ) (j : List Row) (o : Option TookRow) → last_taken c n j ≡ o → list_any (takes_request c n) j ≡ true → (t : TookRow) × (o ≡ Some t)
taken_there c n j None is any = (let none : false ≡ true = sym (untaken c n j is) ∙ any in cc)
taken_there c n j (Some t) is any = (t, refl)
