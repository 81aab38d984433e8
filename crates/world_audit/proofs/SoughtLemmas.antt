-- A row that is sought has its key, and is found along the rows of that key.
use Rattle.std.proofs.Common.{◌≡◌, refl, sym, ap, ℕ, Bool, true, false, ◌&&◌, ◌||◌, List, [], ◌∷◌, fold, nat_eq, eq-eqb, eqb-true}
use Rattle.std.specs.List.{list_any}
use Rattle.lang_base.proofs.EqualLemmas.{equal-true}
use Rattle.lang_base.specs.Equal.{equal}
use Rattle.lang_base.specs.Texts.{same_text}
use Rattle.lang_core.specs.Origins.{is_call}
use Rattle.lang_core.specs.contracts.request.Response as response
use Rattle.lang_core.specs.declared.ids.Origin.{Origin}
use Rattle.lang_core.specs.declared.ids.Origin.TheVariants.{Outside, Call}
use Rattle.lang_core.specs.declared.request.Response.{Response}
use Rattle.lang_lists.specs.Keys.{call_key}
use Rattle.lang_lists.proofs.KeyLemmas.{call_other}
use Rattle.lang_lists.proofs.SearchLemmas.{IsQuiet}
use Rattle.journal_rows.specs.Keys.{row_key, origin_key}
use Rattle.journal_rows.specs.contracts.caller.SentRow as sent_row
use Rattle.journal_rows.specs.declared.callee.AnsweredRow.{AnsweredRow}
use Rattle.journal_rows.specs.declared.caller.AckHow.{AckHow}
use Rattle.journal_rows.specs.declared.caller.AckHow.TheVariants.{WithAnswer, ToPost}
use Rattle.journal_rows.specs.declared.caller.SentRow.{SentRow}
use Rattle.journal_rows.specs.declared.row.Row.{Row}
use Rattle.journal_rows.specs.declared.row.Row.TheVariants.{Acked, Answered, Sent, Confirmed}
use Rattle.world_audit.specs.Sought.{is_sought, key_of}
use Rattle.world_audit.specs.Conditions.{sends, acknowledges, is_answer, answers, gives, gives_any, confirms, acknowledges_so}
use Rattle.world_audit.specs.declared.sought.Sought.{Sought}
use Rattle.world_audit.specs.declared.sought.Sought.TheVariants.{Sent as SoughtSent, Acknowledged, Given as SoughtGiven, Answered as SoughtAnswered, Confirmed as SoughtConfirmed}

-- ---- what has another key says something else

unless_true : (b : Bool) → (b ≡ true → ⊥) → b ≡ false
unless_true true h = absurd (h refl)
unless_true false h = refl

apart : (m n : ℕ) → nat_eq m n ≡ false → m ≡ n → ⊥
apart m n differs is = let same : nat_eq m n ≡ true = eq-eqb m n is in cc

first_fails : (a b : Bool) → a ≡ false → (a && b) ≡ false
first_fails true b h = cc
first_fails false b h = refl

two_fail : (a b c : Bool) → (a && b) ≡ false → (a && (b && c)) ≡ false
two_fail true b c h = first_fails b c h
two_fail false b c h = refl

sent_other : (w s : SentRow) → nat_eq w.number s.number ≡ false → equal sent_row.the_row.coded s w ≡ false
sent_other w s differs =
    unless_true (equal sent_row.the_row.coded s w) (λ same. apart w.number s.number differs (ap (λ (r : SentRow). r.number) (sym (equal-true sent_row.the_row.coded s w same))))

origin_other : (caller : List ℕ) (number id : ℕ) (o : Origin) → nat_eq (call_key caller number) (origin_key id o) ≡ false → is_call caller number o ≡ false
origin_other caller number id Outside differs = refl
origin_other caller number id (Call c n) differs = call_other caller c number n differs

answer_other : (caller : List ℕ) (number av v : ℕ) (a : AnsweredRow) → nat_eq (call_key caller number) (origin_key a.id a.origin) ≡ false → is_answer caller number av v a ≡ false
answer_other caller number av v a differs =
    first_fails (is_call caller number a.origin) (nat_eq a.answer_version av && nat_eq a.version v) (origin_other caller number a.id a.origin differs)

number_other : (m n : ℕ) → nat_eq m n ≡ false → nat_eq n m ≡ false
number_other m n differs = unless_true (nat_eq n m) (λ same. apart m n differs (sym (eqb-true n m same)))

sends_other : (w : SentRow) (row : Row) → nat_eq w.number (row_key row) ≡ false → sends w row ≡ false
sends_other w (Sent s) differs = sent_other w s differs
sends_other w row differs = refl

acknowledges_other : (caller : List ℕ) (number v : ℕ) (row : Row) → nat_eq (call_key caller number) (row_key row) ≡ false → acknowledges caller number v row ≡ false
acknowledges_other caller number v (Acked a) differs =
    two_fail (same_text a.caller caller) (nat_eq a.number number) (nat_eq a.version v) (call_other caller a.caller number a.number differs)
acknowledges_other caller number v row differs = refl

answers_other : (caller : List ℕ) (number av v : ℕ) (row : Row) → nat_eq (call_key caller number) (row_key row) ≡ false → answers caller number av v row ≡ false
answers_other caller number av v (Answered a) differs = answer_other caller number av v a differs
answers_other caller number av v row differs = refl

gives_other : (caller : List ℕ) (number av v : ℕ) (r : Response) (row : Row) → nat_eq (call_key caller number) (row_key row) ≡ false → gives caller number av v r row ≡ false
gives_other caller number av v r (Answered a) differs =
    first_fails (is_answer caller number av v a) (equal response.the_row.coded a.response r) (answer_other caller number av v a differs)
gives_other caller number av v r row differs = refl

gives_any_other : (caller : List ℕ) (number av : ℕ) (row : Row) → nat_eq (call_key caller number) (row_key row) ≡ false → gives_any caller number av row ≡ false
gives_any_other caller number av (Answered a) differs =
    first_fails (is_call caller number a.origin) (nat_eq a.answer_version av) (origin_other caller number a.id a.origin differs)
gives_any_other caller number av row differs = refl

confirms_other : (number av : ℕ) (row : Row) → nat_eq number (row_key row) ≡ false → confirms number av row ≡ false
confirms_other number av (Confirmed c) differs = first_fails (nat_eq c.number number) (nat_eq c.answer_version av) (number_other number c.number differs)
confirms_other number av row differs = refl

acknowledges_so_other : (caller : List ℕ) (number v : ℕ) (how : AckHow) (row : Row) → nat_eq (call_key caller number) (row_key row) ≡ false → acknowledges_so caller number v how row ≡ false
acknowledges_so_other caller number v (WithAnswer av) row differs = answers_other caller number av v row differs
acknowledges_so_other caller number v ToPost row differs = acknowledges_other caller number v row differs

other_key : (w : Sought) (row : Row) → nat_eq (key_of w) (row_key row) ≡ false → is_sought w row ≡ false
other_key (SoughtSent dest took) row differs =
    sends_other (record { number = took.now.number; dest = dest.now; version = took.now.version; desired = took.now.desired }) row differs
other_key (Acknowledged caller seen) row differs = acknowledges_so_other caller.now seen.number seen.version seen.how row differs
other_key (SoughtGiven caller noted) row differs = gives_any_other caller.now noted.now.number noted.now.answer_version row differs
other_key (SoughtAnswered caller seen) row differs = gives_other caller.now seen.now.number seen.now.answer_version seen.now.version seen.now.response row differs
other_key (SoughtConfirmed noted) row differs = confirms_other noted.now.number noted.now.answer_version row differs

-- ---- whether some row says so, as a fold

abbrev pub or_sought : Sought → Bool → Row → Bool
or_sought w found row = found || is_sought w row

pub any_folds : (w : Sought) (rows : List Row) (found : Bool) → fold (or_sought w) found rows ≡ (found || list_any (is_sought w) rows)
any_folds w [] true = refl
any_folds w [] false = refl
any_folds w (row ∷ rows) true = any_folds w rows true
any_folds w (row ∷ rows) false = any_folds w rows (is_sought w row)

or_false : (b c : Bool) → c ≡ false → (b || c) ≡ b
or_false true c h = refl
or_false false c h = h

or_true : (b c : Bool) → c ≡ true → (b || c) ≡ true
or_true true c h = refl
or_true false c h = h

pub sought_passed : (w : Sought) (found : Bool) (row : Row) → is_sought w row ≡ false → or_sought w found row ≡ found
sought_passed w found row h = or_false found (is_sought w row) h

pub sought_found : (w : Sought) (found : Bool) (row : Row) → is_sought w row ≡ true → or_sought w found row ≡ true
sought_found w found row h = or_true found (is_sought w row) h

pub sought_quiet : (w : Sought) → IsQuiet row_key (or_sought w) (key_of w)
sought_quiet w = record { stays = λ found row differs. sought_passed w found row (other_key w row differs) }
