-- Rows on a service's own calls say nothing of its entries.
use Rattle.std.proofs.Common.{◌≡◌, ℕ, ◌+◌, Bool, false, List, [], ◌∷◌, ◌++◌, Option, None, find, length, All, refl, ◌∙◌}
use Rattle.std.specs.Cmp.{nat_eq_equiv}
use Rattle.std.specs.List.{AllByRecursion as Each, list_any}
use Rattle.std.proofs.lemmas.List.Elements.{All-nil, All-cons, All-weaker}
use Rattle.std.proofs.lemmas.List.Folds.{list_any-append}
use Rattle.lang_core.specs.declared.ids.Origin.{Origin}
use Rattle.lang_core.specs.declared.ids.Origin.TheVariants.{Outside, Call}
use Rattle.request_log.specs.Entries.{has_id, has_origin, find_call}
use Rattle.request_log.specs.declared.entry.Entry.{Entry}
use Rattle.journal_rows.specs.Words.{asked_step, count_step, taken_step, last_taken_of}
use Rattle.journal_rows.specs.declared.callee.AskedRow.{AskedRow}
use Rattle.journal_rows.specs.declared.callee.TookRow.{TookRow}
use Rattle.journal_rows.specs.declared.row.Row.{Row}
use Rattle.journal_rows.specs.declared.row.Row.TheVariants.{Sent, SawAck, Noted, SawAnswer, Confirmed}
use Rattle.call_registers.specs.declared.reply.Reply.{Reply}
use Rattle.service_events.specs.Fits.{EachAfter, TakesOn, AsksOn, AnswersOn, ConfirmsOn, takes_request}
use Rattle.service_events.specs.State.{same_call_origin}
use Rattle.service_events.proofs.FreshLemmas.{unfound}
use Rattle.service_events.proofs.LogLemmas.{IsOther}
use Rattle.service_events.proofs.PartLemmas.{IsLogged, MayCome, logged_none}
use Rattle.service_events.proofs.EntryRowLemmas.{IsOf, SaysSame, says_same, word_same}
use Rattle.service_events.proofs.SearchLemmas.{none_first, or_none}

-- a row on an own call
abbrev pub IsCallerRow : Row → Type 0
IsCallerRow (Sent s) = Unit {0}
IsCallerRow (SawAck a) = Unit {0}
IsCallerRow (Noted t) = Unit {0}
IsCallerRow (SawAnswer a) = Unit {0}
IsCallerRow (Confirmed c) = Unit {0}
IsCallerRow row = ⊥

pub each_append : {X : Type 0} (P : X → Type 0) (xs ys : List X) → Each P xs → Each P ys → Each P (xs ++ ys)
each_append P [] ys h k = k
each_append P (x ∷ xs) ys h k = (h.0, each_append P xs ys h.1 k)

each_weaker : {X : Type 0} (P Q : X → Type 0) → ((x : X) → P x → Q x) → (xs : List X) → Each P xs → Each Q xs
each_weaker P Q w [] h = tt
each_weaker P Q w (x ∷ xs) h = (w x h.0, each_weaker P Q w xs h.1)

caller_of : (id : ℕ) (o : Origin) (row : Row) → IsCallerRow row → IsOf id o row
caller_of id o (Sent s) h = tt
caller_of id o (SawAck a) h = tt
caller_of id o (Noted t) h = tt
caller_of id o (SawAnswer a) h = tt
caller_of id o (Confirmed c) h = tt
caller_of id o row h = absurd h

pub made_caller : (id : ℕ) (first : Option AskedRow) (row : Row) → IsCallerRow row → asked_step id first row ≡ first
made_caller id first (Sent s) h = refl
made_caller id first (SawAck a) h = refl
made_caller id first (Noted t) h = refl
made_caller id first (SawAnswer a) h = refl
made_caller id first (Confirmed c) h = refl
made_caller id first row h = absurd h

count_caller : (many : ℕ) (row : Row) → IsCallerRow row → count_step many row ≡ many
count_caller many (Sent s) h = refl
count_caller many (SawAck a) h = refl
count_caller many (Noted t) h = refl
count_caller many (SawAnswer a) h = refl
count_caller many (Confirmed c) h = refl
count_caller many row h = absurd h

taken_caller : (c : List ℕ) (n : ℕ) (last : Option TookRow) (row : Row) → IsCallerRow row → taken_step c n last row ≡ last
taken_caller c n last (Sent s) h = refl
taken_caller c n last (SawAck a) h = refl
taken_caller c n last (Noted t) h = refl
taken_caller c n last (SawAnswer a) h = refl
taken_caller c n last (Confirmed r) h = refl
taken_caller c n last row h = absurd h

takes_caller : (c : List ℕ) (n : ℕ) (row : Row) → IsCallerRow row → takes_request c n row ≡ false
takes_caller c n (Sent s) h = refl
takes_caller c n (SawAck a) h = refl
takes_caller c n (Noted t) h = refl
takes_caller c n (SawAnswer a) h = refl
takes_caller c n (Confirmed r) h = refl
takes_caller c n row h = absurd h

any_caller : (c : List ℕ) (n : ℕ) (rows : List Row) → Each IsCallerRow rows → list_any (takes_request c n) rows ≡ false
any_caller c n [] h = refl
any_caller c n (row ∷ rows) h = rw (takes_caller c n row h.0) (any_caller c n rows h.1)

each_after : (Follows : List Row → Row → Type 0) → ((before : List Row) (row : Row) → IsCallerRow row → Follows before row) → (rows before : List Row)
    → Each IsCallerRow rows → EachAfter Follows before rows
each_after Follows may [] before h = tt
each_after Follows may (row ∷ rows) before h = (may before row h.0, each_after Follows may rows (before ++ row ∷ []) h.1)

takes_on : (before : List Row) (row : Row) → IsCallerRow row → TakesOn before row
takes_on before (Sent s) h = tt
takes_on before (SawAck a) h = tt
takes_on before (Noted t) h = tt
takes_on before (SawAnswer a) h = tt
takes_on before (Confirmed c) h = tt
takes_on before row h = absurd h

asks_on : (before : List Row) (row : Row) → IsCallerRow row → AsksOn before row
asks_on before (Sent s) h = tt
asks_on before (SawAck a) h = tt
asks_on before (Noted t) h = tt
asks_on before (SawAnswer a) h = tt
asks_on before (Confirmed c) h = tt
asks_on before row h = absurd h

answers_on : (before : List Row) (row : Row) → IsCallerRow row → AnswersOn before row
answers_on before (Sent s) h = tt
answers_on before (SawAck a) h = tt
answers_on before (Noted t) h = tt
answers_on before (SawAnswer a) h = tt
answers_on before (Confirmed c) h = tt
answers_on before row h = absurd h

confirms_on : (before : List Row) (row : Row) → IsCallerRow row → ConfirmsOn before row
confirms_on before (Sent s) h = tt
confirms_on before (SawAck a) h = tt
confirms_on before (Noted t) h = tt
confirms_on before (SawAnswer a) h = tt
confirms_on before (Confirmed c) h = tt
confirms_on before row h = absurd h

callers_may : (j rows : List Row) → Each IsCallerRow rows → MayCome j rows
callers_may j rows h = record {
  takes = each_after TakesOn takes_on rows j h;
  asks = each_after AsksOn asks_on rows j h;
  answers = each_after AnswersOn answers_on rows j h;
  confirms = each_after ConfirmsOn confirms_on rows j h;
}

-- ---- entries that are others than one that isn't there

none_all : {X : Type 0} (p : X → Bool) (xs : List X) → find p xs ≡ None → All (λ x. p x ≡ false) xs
none_all p [] h = All-nil (λ x. p x ≡ false)
none_all p (x ∷ xs) h = (let parts = none_first (p x) x (find p xs) h in All-cons (λ y. p y ≡ false) x xs parts.0 (none_all p xs parts.1))

no_caller : (o : Origin) (log : List Entry) → find_call o log ≡ None → All (λ (e : Entry). same_call_origin o e.origin ≡ false) log
no_caller Outside log h = λ k d l. refl
no_caller (Call c n) log h = none_all (has_origin c n) log h

pub all_other : (id : ℕ) (o : Origin) (log : List Entry) → find (has_id id) log ≡ None → find_call o log ≡ None
    → All (λ (e : Entry). IsOther id o e.id e.origin) log
all_other id o log unfound uncalled = λ k d l. record {
  number = nat_eq_equiv.symm id _ ∙ none_all (has_id id) log unfound k d l;
  call = no_caller o log uncalled k d l;
}

pub all_same : (id : ℕ) (o : Origin) (j rows : List Row) (log : List Entry) → Each (IsOf id o) rows → find (has_id id) log ≡ None → find_call o log ≡ None
    → All (λ (e : Entry). SaysSame j (j ++ rows) e.id e.origin) log
all_same id o j rows log of unfound uncalled =
    All-weaker (λ (e : Entry). IsOther id o e.id e.origin) (λ (e : Entry). SaysSame j (j ++ rows) e.id e.origin)
    (λ e other. says_same id o j rows of e.id e.origin other) log (all_other id o log unfound uncalled)

-- ---- the law of these rows

pub callers_logged : (j rows : List Row) (log : List Entry) (kept : List Reply) → Each IsCallerRow rows → IsLogged j log kept → IsLogged (j ++ rows) log kept
callers_logged j rows log kept callers h = logged_none j rows log kept
    (record {
      may = callers_may j rows callers;
      count = word_same IsCallerRow count_step count_caller 0 j rows callers;
      made = λ id. word_same IsCallerRow (asked_step id) (made_caller id) None j rows callers;
      calls = λ c n. list_any-append (takes_request c n) j rows ∙ or_none (list_any (takes_request c n) j) (list_any (takes_request c n) rows) (any_caller c n rows callers);
      same = all_same (length log + 1) Outside j rows log (each_weaker IsCallerRow (IsOf (length log + 1) Outside) (caller_of (length log + 1) Outside) rows callers)
          (unfound j log kept h) refl;
    })
    h

pub callers_taken : (o : Origin) (j rows : List Row) → Each IsCallerRow rows → last_taken_of o (j ++ rows) ≡ last_taken_of o j
callers_taken Outside j rows callers = refl
callers_taken (Call c n) j rows callers = word_same IsCallerRow (taken_step c n) (taken_caller c n) None j rows callers
