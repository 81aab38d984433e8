-- A search along the rows of a key.
use Rattle.std.proofs.Common.{◌≡◌, ℕ, Bool, true, false, ◌&&◌, cond, List, Option, Some, None, Bor, is_some, nat_eq, refl, sym, ap, ◌∙◌, arith}
use Rattle.std.proofs.lemmas.Bool.Decides.{nat_tests}
use Rattle.std.specs.Option.{option_copied}
use Rattle.lang_lists.specs.Keys.{text_key, call_key}
use Rattle.lang_lists.proofs.KeyLemmas.{text_other, call_other}
use Rattle.lang_lists.proofs.SearchLemmas.{IsQuiet}
use Rattle.lang_base.specs.Texts.{same_text}
use Rattle.lang_core.specs.Origins.{is_call}
use Rattle.lang_core.specs.declared.ids.Origin.{Origin}
use Rattle.lang_core.specs.declared.ids.Origin.TheVariants.{Outside, Call}
use Rattle.journal_rows.specs.declared.callee.AnsweredRow.{AnsweredRow}
use Rattle.journal_rows.specs.declared.callee.TookRow.{TookRow}
use Rattle.journal_rows.specs.declared.caller.NotedRow.{NotedRow}
use Rattle.journal_rows.specs.declared.orders.OrderedRow.{OrderedRow}
use Rattle.journal_rows.specs.declared.row.Row.{Row}
use Rattle.journal_rows.specs.declared.row.Row.TheVariants.{Took, Answered, Noted, Ordered}
use Rattle.journal_rows.specs.Keys.{origin_key, row_key}
use Rattle.journal_rows.specs.Words.{is_version_of, taken_step, announces, announced_step, gives, given_step, order_step}

not_chosen : {X : Type 0} (b : Bool) (x : X) (s : Option X) → b ≡ false → cond b (Some x) s ≡ s
not_chosen true x s h = cc
not_chosen false x s h = refl

chosen : {X : Type 0} (b : Bool) (x : X) (s : Option X) → is_some (cond b (Some x) None) ≡ true → cond b (Some x) s ≡ cond b (Some x) None
chosen true x s h = refl
chosen false x s h = cc

passed : {X : Type 0} (b : Bool) (x : X) (s : Option X) → is_some (cond b (Some x) None) ≡ false → cond b (Some x) s ≡ s
passed true x s h = cc
passed false x s h = refl

-- what is lent is there where it is
pub lent : {X : Type 0} (o : Option (Bor X)) (found : Option X) (b : Bool) → option_copied o ≡ found → is_some o ≡ b → is_some found ≡ b
lent None found b is there = sym (ap is_some is) ∙ there
lent (Some x) found b is there = sym (ap is_some is) ∙ there

-- ---- versions of a call

taken_stays : (caller : List ℕ) (number : ℕ) (s : Option TookRow) (row : Row) → nat_eq (call_key caller number) (row_key row) ≡ false → taken_step caller number s row ≡ s
taken_stays caller number s (Took t) h = not_chosen (is_version_of caller number t) t s (call_other caller t.caller number t.number h)
taken_stays caller number s row h = refl

pub taken_quiet : (caller : List ℕ) (number : ℕ) → IsQuiet row_key (taken_step caller number) (call_key caller number)
taken_quiet caller number = record { stays = taken_stays caller number }

pub taken_found : (caller : List ℕ) (number : ℕ) (s : Option TookRow) (row : Row) → is_some (taken_step caller number None row) ≡ true → taken_step caller number s row ≡ taken_step caller number None row
taken_found caller number s (Took t) h = chosen (is_version_of caller number t) t s h
taken_found caller number s row h = cc

pub taken_passed : (caller : List ℕ) (number : ℕ) (s : Option TookRow) (row : Row) → is_some (taken_step caller number None row) ≡ false → taken_step caller number s row ≡ s
taken_passed caller number s (Took t) h = passed (is_version_of caller number t) t s h
taken_passed caller number s row h = refl

-- ---- orders of a token

order_stays : (token : List ℕ) (s : Option OrderedRow) (row : Row) → nat_eq (text_key token) (row_key row) ≡ false → order_step token s row ≡ s
order_stays token s (Ordered o) h = not_chosen (same_text o.token token) o s (text_other token o.token h)
order_stays token s row h = refl

pub order_quiet : (token : List ℕ) → IsQuiet row_key (order_step token) (text_key token)
order_quiet token = record { stays = order_stays token }

pub order_found : (token : List ℕ) (s : Option OrderedRow) (row : Row) → is_some (order_step token None row) ≡ true → order_step token s row ≡ order_step token None row
order_found token s (Ordered o) h = chosen (same_text o.token token) o s h
order_found token s row h = cc

pub order_passed : (token : List ℕ) (s : Option OrderedRow) (row : Row) → is_some (order_step token None row) ≡ false → order_step token s row ≡ s
order_passed token s (Ordered o) h = passed (same_text o.token token) o s h
order_passed token s row h = refl

-- ---- tokens that announced an answer

not_both : (b d : Bool) → b ≡ false → (b && d) ≡ false
not_both true d h = cc
not_both false d h = refl

flipped : (m n : ℕ) → nat_eq m n ≡ false → nat_eq n m ≡ false
flipped m n h = grind (arith, nat_tests)

noted_stays : (number version : ℕ) (s : Option NotedRow) (row : Row) → nat_eq number (row_key row) ≡ false → announced_step number version s row ≡ s
noted_stays number version s (Noted n) h =
    not_chosen (announces number version n) n s (not_both (nat_eq n.number number) (nat_eq n.answer_version version) (flipped number n.number h))
noted_stays number version s row h = refl

pub noted_quiet : (number version : ℕ) → IsQuiet row_key (announced_step number version) number
noted_quiet number version = record { stays = noted_stays number version }

pub noted_passed : (number version : ℕ) (s : Option NotedRow) (row : Row) → is_some (announced_step number version None row) ≡ false → announced_step number version s row ≡ s
noted_passed number version s (Noted n) h = passed (announces number version n) n s h
noted_passed number version s row h = refl

-- ---- answers of a version

another_call : (caller : List ℕ) (number id : ℕ) (o : Origin) → nat_eq (call_key caller number) (origin_key id o) ≡ false → is_call caller number o ≡ false
another_call caller number id Outside h = refl
another_call caller number id (Call c n) h = call_other caller c number n h

given_stays : (caller : List ℕ) (number version : ℕ) (s : Option AnsweredRow) (row : Row) → nat_eq (call_key caller number) (row_key row) ≡ false → given_step caller number version s row ≡ s
given_stays caller number version s (Answered a) h =
    not_chosen (gives caller number version a) a s (not_both (is_call caller number a.origin) (nat_eq a.answer_version version) (another_call caller number a.id a.origin h))
given_stays caller number version s row h = refl

pub given_quiet : (caller : List ℕ) (number version : ℕ) → IsQuiet row_key (given_step caller number version) (call_key caller number)
given_quiet caller number version = record { stays = given_stays caller number version }

pub given_passed : (caller : List ℕ) (number version : ℕ) (s : Option AnsweredRow) (row : Row) → is_some (given_step caller number version None row) ≡ false
    → given_step caller number version s row ≡ s
given_passed caller number version s (Answered a) h = passed (gives caller number version a) a s h
given_passed caller number version s row h = refl
