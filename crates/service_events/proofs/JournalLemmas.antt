-- What follows of a journal whose rows may stand after one another.
use Rattle.std.proofs.Common.{◌≡◌, ℕ, ◌+◌, ◌<◌, ◌≤◌, Bool, true, false, ◌&&◌, ◌||◌, cond, List, [], ◌∷◌, ◌++◌, Option, Some, None, IsSome, IfSome, IsSomeAnd, MatchOption, length, is_some, refl, sym, ap, ◌∙◌, subst, inl, inr, nat_eq, arith, append_assoc, append-nil, length-append, eqb-true}
use Rattle.std.specs.List.{list_any}
use Rattle.std.proofs.lemmas.Bool.{cases_Bool, or_parts}
use Rattle.std.proofs.lemmas.List.Folds.{list_any-append}
use Rattle.std.proofs.lemmas.List.Sums.{fold_push}
use Rattle.lang_core.specs.declared.ids.Origin.{Origin}
use Rattle.lang_core.specs.declared.ids.Origin.TheVariants.{Outside, Call}
use Rattle.lang_core.specs.declared.request.Request.{Request}
use Rattle.journal_rows.specs.Words.{first_asked, asked_step, asked, count_step, asked_count, taken_step, last_taken, request_step, request_now, struck_step, is_struck, struck_by, replaced_by, answered_step, last_answered, given_version, is_about, comes_from, or_before, is_version_of}
use Rattle.journal_rows.specs.declared.callee.AskedRow.{AskedRow}
use Rattle.journal_rows.specs.declared.callee.TookRow.{TookRow}
use Rattle.journal_rows.specs.declared.orders.About.{About}
use Rattle.journal_rows.specs.declared.orders.About.TheVariants.{Request as OfRequest, Post as OfPost, Program as OfProgram, Rules as OfRules}
use Rattle.journal_rows.specs.declared.orders.Command.{Command}
use Rattle.journal_rows.specs.declared.orders.Command.TheVariants.{Cancel, Restore, Replace, Create, Retry, Fold, Deploy, Correct, Rules}
use Rattle.journal_rows.specs.declared.orders.OrderedRow.{OrderedRow}
use Rattle.journal_rows.specs.declared.row.Row.{Row}
use Rattle.journal_rows.specs.declared.row.Row.TheVariants.{Asked, Took, Answered, Ordered}
use Rattle.service_events.specs.Fits.{EachAfter, AsksOn, AnswersOn, IsOrderOn, IsOrderAbout, takes_request}
use Rattle.service_events.proofs.SearchLemmas.{some_none}

-- what holds at the start, and is kept by each row that may follow, holds at the end
go_on : (Follows : List Row → Row → Type 0) (Q : List Row → Type 0)
    → (step : (before : List Row) (row : Row) → Follows before row → Q before → Q (before ++ row ∷ []))
    → (rows before : List Row) → EachAfter Follows before rows → Q before → Q (before ++ rows)
go_on Follows Q step [] before h q = subst Q (sym (append-nil before)) q
go_on Follows Q step (row ∷ rows) before h q =
    subst Q (append_assoc before (row ∷ []) rows) (go_on Follows Q step rows (before ++ row ∷ []) h.1 (step before row h.0 q))

all_follow : (rows before : List Row) → EachAfter (λ _ _. Unit {0}) before rows
all_follow [] before = tt
all_follow (x ∷ xs) before = (tt, all_follow xs (before ++ x ∷ []))

-- ---- which entries were made

abbrev IsMade : List Row → Type 0
IsMade j = (id : ℕ) → IfSome (asked id j) (λ _. id ≤ asked_count j)

made_more : (o : Option AskedRow) (id many : ℕ) → IfSome o (λ _. id ≤ many) → IfSome o (λ _. id ≤ many + 1)
made_more None id many h = tt
made_more (Some a) id many h = omega (arith, h)

if_any : {X : Type 0} (o : Option X) (P : Type 0) → P → IfSome o (λ _. P)
if_any None P p = tt
if_any (Some x) P p = p

made_stays : (before : List Row) (row : Row) → AsksOn before row → IsMade before → (id : ℕ)
    → IfSome (asked_step id (asked id before) row) (λ _. id ≤ count_step (asked_count before) row)
made_stays before (Asked a) may h id = elim (cases_Bool (nat_eq a.id id)) [
  | inl is ↦ rw is (let same = eqb-true a.id id is in if_any _ (id ≤ asked_count before + 1) (omega (arith, same, may)))
  | inr differs ↦ rw differs (made_more (asked id before) id (asked_count before) (h id))
]
made_stays before row may h id = h id

is_made : (j : List Row) → EachAfter AsksOn [] j → IsMade j
is_made j may = go_on AsksOn IsMade
    (λ before row f h id. rw (fold_push (asked_step id) None before row, fold_push count_step 0 before row) (made_stays before row f h id)) j [] may (λ id. tt)

none_made : (o : Option AskedRow) (id many : ℕ) → IfSome o (λ _. id ≤ many) → many < id → o ≡ None
none_made None id many h l = refl
none_made (Some a) id many h l = absurd (omega (arith, h, l))

-- no entry was made of a number above their count
pub not_made : (j : List Row) (id : ℕ) → EachAfter AsksOn [] j → asked_count j < id → asked id j ≡ None
not_made j id may above = none_made (asked id j) id (asked_count j) (is_made j may id) above

within : (o : Option AskedRow) (id many : ℕ) → IfSome o (λ _. id ≤ many) → IsSome o → id ≤ many
within None id many h some = cc
within (Some a) id many h some = h

pub made_within : (j : List Row) (id : ℕ) → EachAfter AsksOn [] j → IsSome (asked id j) → id ≤ asked_count j
made_within j id may some = within (asked id j) id (asked_count j) (is_made j may id) some

earlier_none : (b : Bool) (o : Option AskedRow) (a : AskedRow) → cond b (first_asked o a) o ≡ None → o ≡ None
earlier_none true None a e = refl
earlier_none true (Some x) a e = cc
earlier_none false o a e = e

earlier_made : (id : ℕ) (before : List Row) (row : Row) → asked id (before ++ row ∷ []) ≡ None → asked id before ≡ None
earlier_made id before row h = here row (rw (fold_push (asked_step id) None before row) at h)
  where
    here : (row : Row) → asked_step id (asked id before) row ≡ None → asked id before ≡ None
    here (Asked a) h = earlier_none (nat_eq a.id id) (asked id before) a h
    here row h = h

-- ---- nothing was ordered about an entry that wasn't made

and_none : {X : Type 0} (o : Option X) (P : X → Type 0) → IsSomeAnd o P → o ≡ None → ⊥
and_none None P h e = h
and_none (Some x) P h e = cc

order_struck : (b : Bool) (command : Command) (o : Option AskedRow) → IsOrderOn command o → o ≡ None → struck_by b command ≡ b
order_struck b (Cancel id) o h e = absurd (some_none o h e)
order_struck b (Restore id) o h e = absurd (some_none o h e)
order_struck b (Replace id m p q) o h e = refl
order_struck b (Create x y q) o h e = refl
order_struck b (Retry name) o h e = refl
order_struck b (Fold id) o h e = refl
order_struck b (Deploy p) o h e = refl
order_struck b (Correct k p) o h e = refl
order_struck b (Rules g) o h e = refl

order_request : (q : Request) (row : OrderedRow) (command : Command) (o : Option AskedRow) → IsOrderOn command o → o ≡ None → replaced_by q row command ≡ q
order_request q row (Cancel id) o h e = refl
order_request q row (Restore id) o h e = refl
order_request q row (Replace id m p b) o h e = absurd (and_none o (λ a. a.origin ≡ Outside) h e)
order_request q row (Create x y r) o h e = refl
order_request q row (Retry name) o h e = refl
order_request q row (Fold id) o h e = refl
order_request q row (Deploy p) o h e = refl
order_request q row (Correct k p) o h e = refl
order_request q row (Rules g) o h e = refl

struck_about : (id : ℕ) (b : Bool) (command : Command) (about : About) (before : List Row) → IsOrderAbout about command before → asked id before ≡ None
    → cond (is_about id about) (struck_by b command) b ≡ b
struck_about id b command (OfPost name) before h e = refl
struck_about id b command (OfProgram m) before h e = refl
struck_about id b command OfRules before h e = refl
struck_about id b command (OfRequest n) before h e = elim (cases_Bool (nat_eq n id)) [
  | inl is ↦ rw is (order_struck b command (asked id before) (subst (λ k. IsOrderOn command (asked k before)) (eqb-true n id is) h) e)
  | inr other ↦ rw other refl
]

request_about : (id : ℕ) (q : Request) (row : OrderedRow) (command : Command) (about : About) (before : List Row) → IsOrderAbout about command before
    → asked id before ≡ None → cond (is_about id about) (replaced_by q row command) q ≡ q
request_about id q row command (OfPost name) before h e = refl
request_about id q row command (OfProgram m) before h e = refl
request_about id q row command OfRules before h e = refl
request_about id q row command (OfRequest n) before h e = elim (cases_Bool (nat_eq n id)) [
  | inl is ↦ rw is (order_request q row command (asked id before) (subst (λ k. IsOrderOn command (asked k before)) (eqb-true n id is) h) e)
  | inr other ↦ rw other refl
]

struck_stays : (id : ℕ) (before : List Row) (row : Row) → AsksOn before row → asked id before ≡ None → (b : Bool) → struck_step id b row ≡ b
struck_stays id before (Ordered o) may none b = struck_about id b o.command o.about before may.0 none
struck_stays id before row may none b = refl

pub not_struck : (j : List Row) (id : ℕ) → EachAfter AsksOn [] j → asked id j ≡ None → is_struck id j ≡ false
not_struck j id may = go_on AsksOn (λ j. asked id j ≡ None → is_struck id j ≡ false)
    (λ before row f h none. rw (fold_push (struck_step id) false before row)
    (struck_stays id before row f (earlier_made id before row none) (is_struck id before) ∙ h (earlier_made id before row none))) j [] may (λ none. refl)

-- no row took its call with a request
abbrev pub IsUntaken : Origin → List Row → Type 0
IsUntaken Outside j = Unit {0}
IsUntaken (Call c n) j = list_any (takes_request c n) j ≡ false

earlier_untaken : (o : Origin) (before : List Row) (row : Row) → IsUntaken o (before ++ row ∷ []) → IsUntaken o before × IsUntaken o (row ∷ [])
earlier_untaken Outside before row h = (tt, tt)
earlier_untaken (Call c n) before row h =
    or_parts (list_any (takes_request c n) before) (list_any (takes_request c n) (row ∷ [])) (sym (list_any-append (takes_request c n) before (row ∷ [])) ∙ h)

no_request : (b : Bool) (q : Request) (desired : Option Request) → ((b && is_some desired) || false) ≡ false → cond b (or_before q desired) q ≡ q
no_request true q None h = refl
no_request true q (Some r) h = cc
no_request false q desired h = refl

took_nothing : (o : Origin) (q : Request) (t : TookRow) → IsUntaken o (Took t ∷ []) → cond (comes_from o t) (or_before q t.desired) q ≡ q
took_nothing Outside q t h = refl
took_nothing (Call c n) q t h = no_request (is_version_of c n t) q t.desired h

request_stays : (id : ℕ) (o : Origin) (before : List Row) (row : Row) → AsksOn before row → asked id before ≡ None → IsUntaken o (row ∷ []) → (q : Request)
    → request_step id o q row ≡ q
request_stays id o before (Took t) may none h q = took_nothing o q t h
request_stays id o before (Ordered r) may none h q = request_about id q r r.command r.about before may.0 none
request_stays id o before row may none h q = refl

pub not_asked_anew : (j : List Row) (id : ℕ) (o : Origin) (q : Request) → EachAfter AsksOn [] j → asked id j ≡ None → IsUntaken o j → request_now id o q j ≡ q
not_asked_anew j id o q may = go_on AsksOn (λ j. asked id j ≡ None → IsUntaken o j → request_now id o q j ≡ q)
    (λ before row f h none untaken. rw (fold_push (request_step id o) q before row)
    (let made = earlier_made id before row none in
    let parts = earlier_untaken o before row untaken in
    request_stays id o before row f made parts.1 (request_now id o q before) ∙ h made parts.0)) j [] may (λ none untaken. refl)

-- ---- an entry that wasn't made has no answer, and answer versions are no more than rows

no_answer_stays : (id : ℕ) (before : List Row) (row : Row) → AnswersOn before row → asked id before ≡ None → last_answered id before ≡ None
    → answered_step id (last_answered id before) row ≡ None
no_answer_stays id before (Answered a) may none h = elim (cases_Bool (nat_eq a.id id)) [
  | inl is ↦ absurd (and_none (asked a.id before) (λ made. made.origin ≡ a.origin) may.0 (ap (λ k. asked k before) (eqb-true a.id id is) ∙ none))
  | inr other ↦ rw other h
]
no_answer_stays id before row may none h = h

pub no_answer : (j : List Row) (id : ℕ) → EachAfter AnswersOn [] j → asked id j ≡ None → last_answered id j ≡ None
no_answer j id may = go_on AnswersOn (λ j. asked id j ≡ None → last_answered id j ≡ None)
    (λ before row f h none. rw (fold_push (answered_step id) None before row)
    (let made = earlier_made id before row none in no_answer_stays id before row f made (h made))) j [] may (λ none. refl)

abbrev IsFew : List Row → Type 0
IsFew j = (id : ℕ) → given_version (last_answered id j) ≤ length j

few_stays : (before : List Row) (row : Row) → AnswersOn before row → IsFew before → (id : ℕ) → given_version (answered_step id (last_answered id before) row) ≤ length before + 1
few_stays before (Answered a) may h id = elim (cases_Bool (nat_eq a.id id)) [
  | inl is ↦ rw is (let next = may.1 in let most = h a.id in omega (arith, next, most))
  | inr differs ↦ rw differs (let most = h id in omega (arith, most))
]
few_stays before row may h id = (let most = h id in omega (arith, most))

pub few_answers : (j : List Row) → EachAfter AnswersOn [] j → (id : ℕ) → given_version (last_answered id j) ≤ length j
few_answers j may = go_on AnswersOn IsFew
    (λ before row f h id. (let one : length (before ++ row ∷ []) ≡ length before + 1 = omega (arith, length-append before (row ∷ [])) in
    rw (fold_push (answered_step id) None before row, one) (few_stays before row f h id))) j [] may (λ id. omega arith)

-- ---- a call whose last version has a request was taken with one, and one that wasn't taken wasn't taken with one

abbrev pub IsTold : List ℕ → ℕ → List Row → Type 0
IsTold c n j =
    MatchOption (last_taken c n j) (list_any (takes_request c n) j ≡ false) (λ t. IsSome t.desired → list_any (takes_request c n) j ≡ true)

told_took : (v : Bool) (t : TookRow) (last : Option TookRow) (any : Bool) → MatchOption last (any ≡ false) (λ s. IsSome s.desired → any ≡ true)
    → MatchOption (cond v (Some t) last) ((any || ((v && is_some t.desired) || false)) ≡ false) (λ s. IsSome s.desired → (any || ((v && is_some t.desired) || false)) ≡ true)
told_took true t last any h = λ some. rw some (or_true any)
  where
    or_true : (b : Bool) → (b || (true || false)) ≡ true
    or_true true = refl
    or_true false = refl
told_took false t None any h = rw h refl
told_took false t (Some s) any h = λ some. rw (h some) refl

told_else : (last : Option TookRow) (any : Bool) → MatchOption last (any ≡ false) (λ s. IsSome s.desired → any ≡ true)
    → MatchOption last ((any || (false || false)) ≡ false) (λ s. IsSome s.desired → (any || (false || false)) ≡ true)
told_else None any h = rw h refl
told_else (Some s) any h = λ some. rw (h some) refl

told_stays : (c : List ℕ) (n : ℕ) (last : Option TookRow) (any : Bool) (row : Row) → MatchOption last (any ≡ false) (λ s. IsSome s.desired → any ≡ true)
    → MatchOption (taken_step c n last row) ((any || list_any (takes_request c n) (row ∷ [])) ≡ false) (λ s. IsSome s.desired → (any || list_any (takes_request c n) (row ∷ [])) ≡ true)
told_stays c n last any (Took t) h = told_took (is_version_of c n t) t last any h
told_stays c n last any row h = told_else last any h

is_told : (c : List ℕ) (n : ℕ) (j : List Row) → IsTold c n j
is_told c n j = go_on (λ _ _. Unit {0}) (IsTold c n)
    (λ before row _ h. rw (fold_push (taken_step c n) None before row, list_any-append (takes_request c n) before (row ∷ []))
    (told_stays c n (last_taken c n before) (list_any (takes_request c n) before) row h)) j [] (all_follow j []) refl

told_none : (c : List ℕ) (n : ℕ) (any : Bool) (last : Option TookRow) → MatchOption last (any ≡ false) (λ s. IsSome s.desired → any ≡ true) → last ≡ None → any ≡ false
told_none c n any None h e = h
told_none c n any (Some t) h e = cc

told_some : (any : Bool) (last : Option TookRow) (t : TookRow) → MatchOption last (any ≡ false) (λ s. IsSome s.desired → any ≡ true) → last ≡ Some t → IsSome t.desired
    → any ≡ true
told_some any None t h e some = cc
told_some any (Some s) t h e some = (let is : s ≡ t = cc in h (subst (λ (x : TookRow). IsSome x.desired) (sym is) some))

pub untaken : (c : List ℕ) (n : ℕ) (j : List Row) → last_taken c n j ≡ None → list_any (takes_request c n) j ≡ false
untaken c n j none = told_none c n (list_any (takes_request c n) j) (last_taken c n j) (is_told c n j) none

pub taken_with : (c : List ℕ) (n : ℕ) (j : List Row) (t : TookRow) → last_taken c n j ≡ Some t → IsSome t.desired → list_any (takes_request c n) j ≡ true
taken_with c n j t some desired = told_some (list_any (takes_request c n) j) (last_taken c n j) t (is_told c n j) some desired
