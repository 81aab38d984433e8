-- Rows that speak of one entry at most: what a journal says of all others stays.
use Rattle.std.proofs.Common.{◌≡◌, ℕ, Bool, false, ◌&&◌, List, [], ◌∷◌, ◌++◌, Option, None, fold, is_some, refl, sym, ap, ◌∙◌, nat_eq}
use Rattle.std.specs.Cmp.{nat_eq_equiv}
use Rattle.std.specs.Cmp.Lexicographic.{nat_list_eq_equiv}
use Rattle.std.specs.List.{AllByRecursion as Each, list_any}
use Rattle.std.proofs.lemmas.Bool.{and_left}
use Rattle.std.proofs.lemmas.List.Folds.{list_any-append}
use Rattle.std.proofs.lemmas.List.Sums.{fold-append}
use Rattle.lang_base.specs.Texts.{same_text}
use Rattle.lang_core.specs.Origins.{is_call}
use Rattle.lang_core.specs.declared.ids.Origin.{Origin}
use Rattle.lang_core.specs.declared.ids.Origin.TheVariants.{Outside, Call}
use Rattle.lang_core.specs.declared.request.Request.{Request}
use Rattle.journal_rows.specs.Words.{asked_step, asked, taken_step, last_taken_of, request_step, request_now, struck_step, is_struck, answered_step, last_answered, mark_step, last_mark, is_about, comes_from}
use Rattle.journal_rows.specs.declared.callee.AnsweredRow.{AnsweredRow}
use Rattle.journal_rows.specs.declared.callee.AskedRow.{AskedRow}
use Rattle.journal_rows.specs.declared.callee.TookRow.{TookRow}
use Rattle.journal_rows.specs.declared.orders.About.{About}
use Rattle.journal_rows.specs.declared.orders.About.TheVariants.{Request as OfRequest, Post as OfPost, Program as OfProgram, Rules as OfRules}
use Rattle.journal_rows.specs.declared.row.Row.{Row}
use Rattle.journal_rows.specs.declared.row.Row.TheVariants.{Asked, Took, Acked, Answered, WasConfirmed, Ordered}
use Rattle.journal_rows.specs.declared.words.Mark.{Mark}
use Rattle.journal_rows.specs.declared.words.Mark.TheVariants.{Unsettled}
use Rattle.service_events.specs.Fits.{takes_request}
use Rattle.service_events.specs.State.{same_call_origin}
use Rattle.service_events.proofs.LogLemmas.{IsOther}
use Rattle.service_events.proofs.SearchLemmas.{or_none}

-- ---- rows of one entry

abbrev pub IsAboutEntry : ℕ → About → Type 0
IsAboutEntry id (OfRequest n) = n ≡ id
IsAboutEntry id about = Unit {0}

-- a row that speaks of no entry but that of this number and origin
abbrev pub IsOf : ℕ → Origin → Row → Type 0
IsOf id origin (Asked a) = a.id ≡ id
IsOf id origin (Took t) = origin ≡ Call t.caller t.number
IsOf id origin (Acked a) = origin ≡ Call a.caller a.number
IsOf id origin (Answered a) = a.id ≡ id
IsOf id origin (WasConfirmed c) = origin ≡ Call c.caller c.number
IsOf id origin (Ordered o) = IsAboutEntry id o.about
IsOf id origin row = Unit {0}

-- ---- what one such row does to a word on another

other_call : (caller : List ℕ) (number : ℕ) (o : Origin) (c : List ℕ) (n : ℕ) → o ≡ Call caller number → same_call_origin o (Call c n) ≡ false
    → (same_text caller c && nat_eq number n) ≡ false
other_call caller number o c n is h =
    ap (λ b. b && nat_eq number n) (nat_list_eq_equiv.symm caller c) ∙ ap (λ b. same_text c caller && b) (nat_eq_equiv.symm number n)
    ∙ ap (λ x. same_call_origin x (Call c n)) (sym is) ∙ h

other_id : (a id id' : ℕ) → a ≡ id → nat_eq id id' ≡ false → nat_eq a id' ≡ false
other_id a id id' is h = ap (λ k. nat_eq k id') is ∙ h

other_origin : (t : TookRow) (origin origin' : Origin) → origin ≡ Call t.caller t.number → same_call_origin origin origin' ≡ false → comes_from origin' t ≡ false
other_origin t origin Outside is h = refl
other_origin t origin (Call c n) is h = other_call t.caller t.number origin c n is h

other_about : (id id' : ℕ) (about : About) → IsAboutEntry id about → nat_eq id id' ≡ false → is_about id' about ≡ false
other_about id id' (OfRequest n) is h = other_id n id id' is h
other_about id id' (OfPost name) is h = refl
other_about id id' (OfProgram m) is h = refl
other_about id id' OfRules is h = refl

asked_other : (id : ℕ) (origin : Origin) (id' : ℕ) → nat_eq id id' ≡ false → (first : Option AskedRow) (row : Row) → IsOf id origin row → asked_step id' first row ≡ first
asked_other id origin id' h first (Asked a) of = rw (other_id a.id id id' of h) refl
asked_other id origin id' h first row of = refl

taken_other : (id : ℕ) (origin : Origin) (c : List ℕ) (n : ℕ) → same_call_origin origin (Call c n) ≡ false → (last : Option TookRow) (row : Row) → IsOf id origin row
    → taken_step c n last row ≡ last
taken_other id origin c n h last (Took t) of = rw (other_call t.caller t.number origin c n of h) refl
taken_other id origin c n h last row of = refl

request_other : (id : ℕ) (origin : Origin) (id' : ℕ) (origin' : Origin) → IsOther id origin id' origin' → (before : Request) (row : Row) → IsOf id origin row
    → request_step id' origin' before row ≡ before
request_other id origin id' origin' h before (Took t) of = rw (other_origin t origin origin' of h.call) refl
request_other id origin id' origin' h before (Ordered o) of = rw (other_about id id' o.about of h.number) refl
request_other id origin id' origin' h before row of = refl

struck_other : (id : ℕ) (origin : Origin) (id' : ℕ) → nat_eq id id' ≡ false → (before : Bool) (row : Row) → IsOf id origin row → struck_step id' before row ≡ before
struck_other id origin id' h before (Ordered o) of = rw (other_about id id' o.about of h) refl
struck_other id origin id' h before row of = refl

answered_other : (id : ℕ) (origin : Origin) (id' : ℕ) → nat_eq id id' ≡ false → (last : Option AnsweredRow) (row : Row) → IsOf id origin row
    → answered_step id' last row ≡ last
answered_other id origin id' h last (Answered a) of = rw (other_id a.id id id' of h) refl
answered_other id origin id' h last row of = refl

mark_other : (id : ℕ) (origin : Origin) (id' : ℕ) (c : List ℕ) (n : ℕ) → nat_eq id id' ≡ false → same_call_origin origin (Call c n) ≡ false → (mark : Mark) (row : Row)
    → IsOf id origin row → mark_step id' c n mark row ≡ mark
mark_other id origin id' c n h k mark (Answered a) of = rw (other_id a.id id id' of h) refl
mark_other id origin id' c n h k mark (Acked a) of = rw (other_call a.caller a.number origin c n of k) refl
mark_other id origin id' c n h k mark (WasConfirmed a) of = rw (other_call a.caller a.number origin c n of k) refl
mark_other id origin id' c n h k mark row of = refl

takes_other : (id : ℕ) (origin : Origin) (c : List ℕ) (n : ℕ) → is_call c n origin ≡ false → (row : Row) → IsOf id origin row → takes_request c n row ≡ false
takes_other id origin c n h (Took t) of =
    and_left (same_text t.caller c && nat_eq t.number n) (is_some t.desired) (ap (is_call c n) (sym of) ∙ h)
takes_other id origin c n h row of = refl

-- ---- words after such rows

fold_same : {S : Type 0} (P : Row → Type 0) (step : S → Row → S) → ((s : S) (row : Row) → P row → step s row ≡ s) → (rows : List Row) (s : S) → Each P rows
    → fold step s rows ≡ s
fold_same P step same [] s h = refl
fold_same P step same (row ∷ rows) s h = ap (λ x. fold step x rows) (same s row h.0) ∙ fold_same P step same rows s h.1

pub word_same : {S : Type 0} (P : Row → Type 0) (step : S → Row → S) → ((s : S) (row : Row) → P row → step s row ≡ s) → (start : S) (journal rows : List Row)
    → Each P rows → fold step start (journal ++ rows) ≡ fold step start journal
word_same P step same start journal rows h =
    fold-append step start journal rows ∙ fold_same P step same rows (fold step start journal) h

any_none : (P : Row → Type 0) (test : Row → Bool) → ((row : Row) → P row → test row ≡ false) → (rows : List Row) → Each P rows → list_any test rows ≡ false
any_none P test none [] h = refl
any_none P test none (row ∷ rows) h = rw (none row h.0) (any_none P test none rows h.1)

-- two journals say the same of how an entry was made, and of what is asked of it
pub record AsksSame (j j' : List Row) (id : ℕ) (origin : Origin) : Type 0 where
  pub made : asked id j' ≡ asked id j
  pub taken : last_taken_of origin j' ≡ last_taken_of origin j
  pub request : (first : Request) → request_now id origin first j' ≡ request_now id origin first j
  pub struck : is_struck id j' ≡ is_struck id j

-- two journals say the same of an entry
pub record SaysSame (j j' : List Row) (id : ℕ) (origin : Origin) : Type 0 where
  pub asks : AsksSame j j' id origin
  pub answered : last_answered id j' ≡ last_answered id j
  pub mark : (c : List ℕ) (n : ℕ) → origin ≡ Call c n → last_mark id c n j' ≡ last_mark id c n j

module _ (id : ℕ) (origin : Origin) (j rows : List Row) (of : Each (IsOf id origin) rows) where
  pub made_same : (id' : ℕ) → nat_eq id id' ≡ false → asked id' (j ++ rows) ≡ asked id' j
  made_same id' h = word_same (IsOf id origin) (asked_step id') (asked_other id origin id' h) None j rows of

  taken_same : (origin' : Origin) → same_call_origin origin origin' ≡ false → last_taken_of origin' (j ++ rows) ≡ last_taken_of origin' j
  taken_same Outside h = refl
  taken_same (Call c n) h = word_same (IsOf id origin) (taken_step c n) (taken_other id origin c n h) None j rows of

  mark_same : (id' : ℕ) (origin' : Origin) (c : List ℕ) (n : ℕ) → IsOther id origin id' origin' → origin' ≡ Call c n → last_mark id' c n (j ++ rows) ≡ last_mark id' c n j
  mark_same id' origin' c n h is =
      word_same (IsOf id origin) (mark_step id' c n) (mark_other id origin id' c n h.number (ap (same_call_origin origin) (sym is) ∙ h.call)) Unsettled j rows of

  -- of another entry nothing is said
  pub says_same : (id' : ℕ) (origin' : Origin) → IsOther id origin id' origin' → SaysSame j (j ++ rows) id' origin'
  says_same id' origin' h = record {
    asks = record {
      made = made_same id' h.number;
      taken = taken_same origin' h.call;
      request = λ first. word_same (IsOf id origin) (request_step id' origin') (request_other id origin id' origin' h) first j rows of;
      struck = word_same (IsOf id origin) (struck_step id') (struck_other id origin id' h.number) false j rows of;
    };
    answered = word_same (IsOf id origin) (answered_step id') (answered_other id origin id' h.number) None j rows of;
    mark = λ c n is. mark_same id' origin' c n h is;
  }

  pub calls_same : (c : List ℕ) (n : ℕ) → is_call c n origin ≡ false → list_any (takes_request c n) (j ++ rows) ≡ list_any (takes_request c n) j
  calls_same c n h =
      list_any-append (takes_request c n) j rows
      ∙ or_none (list_any (takes_request c n) j) (list_any (takes_request c n) rows) (any_none (IsOf id origin) (takes_request c n) (takes_other id origin c n h) rows of)
