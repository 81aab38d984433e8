-- Rows that may stand after those before them, and words that they leave as they were.
use Rattle.std.proofs.Common.{◌≡◌, List, [], ◌∷◌, ◌++◌, All, fold, refl, sym, ap, ◌∙◌, subst, append_assoc, append-nil}
use Rattle.std.proofs.lemmas.List.Elements.{All-nil, All-cons, All-head, All-tail}
use Rattle.std.proofs.lemmas.List.Sums.{fold-append}
use Rattle.journal_rows.specs.declared.row.Row.{Row}
use Rattle.journal_rows.specs.declared.row.Row.TheVariants.{Took, Sent, SawAck, Noted, SawAnswer, Confirmed, Ordered}
use Rattle.service_events.specs.Fits.{EachAfter}

-- ---- each of a list

abbrev pub Each : {X : Type 0} → (X → Type 0) → List X → Type 0
Each P [] = Unit {0}
Each P (x ∷ xs) = P x × Each P xs

pub each_append : {X : Type 0} (P : X → Type 0) (xs ys : List X) → Each P xs → Each P ys → Each P (xs ++ ys)
each_append P [] ys h k = k
each_append P (x ∷ xs) ys h k = (h.0, each_append P xs ys h.1 k)

pub each_front : {X : Type 0} (P : X → Type 0) (xs ys : List X) → Each P (xs ++ ys) → Each P xs
each_front P [] ys h = tt
each_front P (x ∷ xs) ys h = (h.0, each_front P xs ys h.1)

pub each_behind : {X : Type 0} (P : X → Type 0) (xs ys : List X) → Each P (xs ++ ys) → Each P ys
each_behind P [] ys h = h
each_behind P (x ∷ xs) ys h = each_behind P xs ys h.1

pub each_weaker : {X : Type 0} (P Q : X → Type 0) → ((x : X) → P x → Q x) → (xs : List X) → Each P xs → Each Q xs
each_weaker P Q w [] h = tt
each_weaker P Q w (x ∷ xs) h = (w x h.0, each_weaker P Q w xs h.1)

pub each_put : {X : Type 0} (P : X → Type 0) (xs : List X) (x y : X) (ys : List X) → Each P (xs ++ x ∷ ys) → P y → Each P (xs ++ y ∷ ys)
each_put P [] x y ys h p = (p, h.1)
each_put P (z ∷ xs) x y ys h p = (h.0, each_put P xs x y ys h.1 p)

pub each_mid : {X : Type 0} (P : X → Type 0) (xs : List X) (x : X) (ys : List X) → Each P (xs ++ x ∷ ys) → P x
each_mid P [] x ys h = h.0
each_mid P (z ∷ xs) x ys h = each_mid P xs x ys h.1

pub each_drop : {X : Type 0} (P : X → Type 0) (xs : List X) (x : X) (ys : List X) → Each P (xs ++ x ∷ ys) → Each P (xs ++ ys)
each_drop P xs x ys h = each_append P xs ys (each_front P xs (x ∷ ys) h) (each_behind P xs (x ∷ ys) h).1

pub each_of_all : {X : Type 0} (P : X → Type 0) (xs : List X) → All P xs → Each P xs
each_of_all P [] h = tt
each_of_all P (x ∷ xs) h = (All-head P x xs h, each_of_all P xs (All-tail P x xs h))

pub all_of_each : {X : Type 0} (P : X → Type 0) (xs : List X) → Each P xs → All P xs
all_of_each P [] h = All-nil P
all_of_each P (x ∷ xs) h = All-cons P x xs h.0 (all_of_each P xs h.1)

-- ---- rows that may stand after those before them

pub EachAfter-append : (Follows : List Row → Row → Type 0) (rows more before : List Row) → EachAfter Follows before rows
    → EachAfter Follows (before ++ rows) more → EachAfter Follows before (rows ++ more)
EachAfter-append Follows [] more before h f = (let P : List Row → Type 0 = λ j. EachAfter Follows j more in subst P (append-nil before) f)
EachAfter-append Follows (row ∷ rows) more before h f = (
  h.0,
  EachAfter-append Follows rows more (before ++ row ∷ []) h.1
      (let P : List Row → Type 0 = λ j. EachAfter Follows j more in subst P (sym (append_assoc before (row ∷ []) rows)) f),
)

-- those behind may stand after those before them
pub EachAfter-behind : (Follows : List Row → Row → Type 0) (rows more before : List Row) → EachAfter Follows before (rows ++ more)
    → EachAfter Follows (before ++ rows) more
EachAfter-behind Follows [] more before h = (let P : List Row → Type 0 = λ j. EachAfter Follows j more in subst P (sym (append-nil before)) h)
EachAfter-behind Follows (row ∷ rows) more before h =
    (let P : List Row → Type 0 = λ j. EachAfter Follows j more in
    subst P (append_assoc before (row ∷ []) rows) (EachAfter-behind Follows rows more (before ++ row ∷ []) h.1))

-- what holds at the start, and is kept by each row that may follow, holds at the end
pub go_on : (Follows : List Row → Row → Type 0) (Q : List Row → Type 0)
    → ((before : List Row) (row : Row) → Follows before row → Q before → Q (before ++ row ∷ []))
    → (rows before : List Row) → EachAfter Follows before rows → Q before → Q (before ++ rows)
go_on Follows Q step [] before h q = subst Q (sym (append-nil before)) q
go_on Follows Q step (row ∷ rows) before h q =
    subst Q (append_assoc before (row ∷ []) rows) (go_on Follows Q step rows (before ++ row ∷ []) h.1 (step before row h.0 q))

pub all_follow : (rows before : List Row) → EachAfter (λ _ _. Unit {0}) before rows
all_follow [] before = tt
all_follow (x ∷ xs) before = (tt, all_follow xs (before ++ x ∷ []))

-- rows of a kind may always follow
pub kind_follows : (Follows : List Row → Row → Type 0) (P : Row → Type 0) → ((before : List Row) (row : Row) → P row → Follows before row)
    → (rows before : List Row) → Each P rows → EachAfter Follows before rows
kind_follows Follows P may [] before h = tt
kind_follows Follows P may (row ∷ rows) before h = (may before row h.0, kind_follows Follows P may rows (before ++ row ∷ []) h.1)

-- ---- words that rows of a kind leave as they were

pub fold_same : {S : Type 0} (P : Row → Type 0) (step : S → Row → S) → ((s : S) (row : Row) → P row → step s row ≡ s)
    → (rows : List Row) (s : S) → Each P rows → fold step s rows ≡ s
fold_same P step same [] s h = refl
fold_same P step same (row ∷ rows) s h = ap (λ x. fold step x rows) (same s row h.0) ∙ fold_same P step same rows s h.1

pub word_same : {S : Type 0} (P : Row → Type 0) (step : S → Row → S) → ((s : S) (row : Row) → P row → step s row ≡ s)
    → (start : S) (journal rows : List Row) → Each P rows → fold step start (journal ++ rows) ≡ fold step start journal
word_same P step same start journal rows h = fold-append step start journal rows ∙ fold_same P step same rows (fold step start journal) h

-- ---- kinds of rows

-- it tells that a version of an own call was sent
abbrev pub IsSending : Row → Type 0
IsSending (Sent s) = Unit {0}
IsSending row = ⊥

-- it sends no version of an own call
abbrev pub IsUnsent : Row → Type 0
IsUnsent (Sent s) = ⊥
IsUnsent row = Unit {0}

-- it tells nothing that was seen of own calls
abbrev pub IsUnseen : Row → Type 0
IsUnseen (SawAck a) = ⊥
IsUnseen (Noted n) = ⊥
IsUnseen (SawAnswer a) = ⊥
IsUnseen (Confirmed c) = ⊥
IsUnseen row = Unit {0}

-- it takes no version of another service's call
abbrev pub IsUntaken : Row → Type 0
IsUntaken (Took t) = ⊥
IsUntaken row = Unit {0}

-- it is no order
abbrev pub IsUnordered : Row → Type 0
IsUnordered (Ordered o) = ⊥
IsUnordered row = Unit {0}

-- it changes no register
abbrev pub IsPlain : Row → Type 0
IsPlain (Sent s) = ⊥
IsPlain (SawAck a) = ⊥
IsPlain (Noted n) = ⊥
IsPlain (SawAnswer a) = ⊥
IsPlain row = Unit {0}

pub sending_unseen : (row : Row) → IsSending row → IsUnseen row
sending_unseen (Sent s) h = tt
sending_unseen row h = absurd h

pub sending_untaken : (row : Row) → IsSending row → IsUntaken row
sending_untaken (Sent s) h = tt
sending_untaken row h = absurd h

pub sending_unordered : (row : Row) → IsSending row → IsUnordered row
sending_unordered (Sent s) h = tt
sending_unordered row h = absurd h
