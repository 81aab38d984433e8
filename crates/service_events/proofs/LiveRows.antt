-- Rows of live answers: which groups of rows have none.
use Rattle.std.proofs.Common.{◌≡◌, false, List, [], ◌∷◌, ◌++◌, Some, length, slice_get, refl, ap, ◌∙◌, inl, inr, append-nil}
use Rattle.std.proofs.lemmas.Bool.{cases_Bool}
use Rattle.lang_core.specs.declared.ids.Origin.{Origin}
use Rattle.lang_core.specs.declared.ids.Origin.TheVariants.{Outside, Call}
use Rattle.lang_core.specs.declared.request.Request.{Request}
use Rattle.journal_rows.specs.declared.row.Row.{Row}
use Rattle.journal_rows.specs.declared.row.Row.TheVariants.{Answered, Sent}
use Rattle.service_events.specs.Commits.{is_live_row, live_rows}
use Rattle.service_events.specs.Flying.{took_rows}
use Rattle.service_events.proofs.CallRowLemmas.{Each, IsSending}

-- it answers none
abbrev pub IsSilent : Row → Type 0
IsSilent (Answered a) = a.live ≡ false
IsSilent row = Unit {0}

pub live-append : (xs ys : List Row) → live_rows (xs ++ ys) ≡ live_rows xs ++ live_rows ys
live-append [] ys = refl
live-append (x ∷ xs) ys = elim (cases_Bool (is_live_row x)) [
  | inl is ↦ rw is (ap (λ zs. x ∷ zs) (live-append xs ys))
  | inr differs ↦ rw differs (live-append xs ys)
]

silent_row : (row : Row) → IsSilent row → is_live_row row ≡ false
silent_row (Answered a) h = h
silent_row row h = refl

pub silent_none : (rows : List Row) → Each IsSilent rows → live_rows rows ≡ []
silent_none [] h = refl
silent_none (row ∷ rows) h = (let none = silent_row row h.0 in rw none (silent_none rows h.1))

-- rows that answer no live request leave those that do
pub live_same : (journal rows : List Row) → Each IsSilent rows → live_rows (journal ++ rows) ≡ live_rows journal
live_same journal rows h =
    live-append journal rows ∙ ap (λ zs. live_rows journal ++ zs) (silent_none rows h) ∙ append-nil (live_rows journal)

pub sending_silent : (row : Row) → IsSending row → IsSilent row
sending_silent (Sent s) h = tt
sending_silent row h = absurd h

pub took_silent : (o : Origin) (q : Request) → Each IsSilent (took_rows o q)
took_silent Outside q = tt
took_silent (Call c n) q = (tt, tt)

-- the row behind others
pub got_behind : (xs : List Row) (y : Row) (ys : List Row) → slice_get (xs ++ y ∷ ys) (length xs) ≡ Some y
got_behind [] y ys = refl
got_behind (x ∷ xs) y ys = got_behind xs y ys
