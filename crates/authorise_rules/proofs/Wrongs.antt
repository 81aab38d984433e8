-- A refusal stands at the first line that is wrong, and a text with such a line is refused there.
use Rattle.std.proofs.Common.{◌≡◌, ℕ, suc, ◌+◌, ◌≤◌, Bool, true, false, List, [], ◌∷◌, ◌++◌, length, Result, Ok, Err, inl, inr, refl, sym, ap, subst, ◌∙◌, nat_lt, nat_le, append-nil, arith}
use Rattle.std.specs.List.{list_all}
use Rattle.std.proofs.lemmas.Bool.{and_parts, leb-true}
use Rattle.authorise_rules.specs.Forms.{is_rule, rules_fit}
use Rattle.authorise_rules.specs.Reading.{and_then, read_of, rule_at, with_line, with_lines, with_rule}
use Rattle.authorise_rules.specs.Refusals.{IsWrong, Refuses, line_refused}
use Rattle.authorise_rules.specs.Spelled.{LinesSpell, is_passed_over, lines_of, words_of}
use Rattle.authorise_rules.specs.declared.refused.RulesRefused.{RulesRefused}
use Rattle.authorise_rules.specs.declared.refused.RulesRefused.TheVariants as refusal
use Rattle.authorise_rules.specs.declared.rule.Rule.{Rule}
use Rattle.authorise_rules.proofs.LineLemmas.{IsWrongAt, is_a_rule, only_full, rule_wrong, wrong_is, wrong_once}
use Rattle.authorise_rules.proofs.Lines.{ArePut, full_with, kept_with, line_put, lines_again, not_both, passed_with, put_join, room_by, then_err, then_is, then_ok, then_refused}

-- ---- what is refused is wrong

-- one line of this number is wrong, where so many rules stand before it
record LineIsWrong (n before : ℕ) (line : List ℕ) (why : RulesRefused) : Type 0 where
  counts : is_passed_over line ≡ false
  wrong : IsWrongAt n before (words_of line) why

same_err : (a b : RulesRefused) → ◌≡◌ {A = Result (List Rule) RulesRefused} (Err a) (Err b) → a ≡ b
same_err a b e = cc

full_is : (rules : List Rule) → rules_fit rules ≡ true → 256 ≤ length rules → length rules ≡ 256
full_is rules fit full =
    let parts = and_parts (nat_le (length rules) 256) (list_all is_rule rules) fit in
    let short = leb-true (length rules) 256 parts.0 in
    omega arith

kept_wrong : (rules : List Rule) (n : ℕ) (line : List ℕ) (why : RulesRefused) → rules_fit rules ≡ true → and_then (rule_at n (words_of line)) (with_rule rules n) ≡ Err why → IsWrongAt n (length rules) (words_of line) why
kept_wrong rules n line why fit e =
    elim (then_err (rule_at n (words_of line)) (with_rule rules n) why e) [
      | inl refused ↦ rule_wrong n (length rules) (words_of line) why refused
      | inr went ↦
          elim (room_by rules n went.read (nat_lt (length rules) 256) (Err why) refl went.gives) [
            | inl room ↦ absurd (not_both (rules ++ went.read ∷ []) why (Err why) room.1 refl)
            | inr full ↦
                wrong_is n (length rules) (words_of line) (refusal.TooMany n) why (sym (same_err why (refusal.TooMany n) full.1))
                (record { wrong = (is_a_rule n (words_of line) went.read went.is, full_is rules fit full.0); line = refl })
          ]
    ]

line_wrong : (t : Bool) (rules : List Rule) (n : ℕ) (line : List ℕ) (why : RulesRefused) → rules_fit rules ≡ true → is_passed_over line ≡ t → with_line rules n line ≡ Err why → LineIsWrong n (length rules) line why
line_wrong true rules n line why fit passed e = absurd (not_both rules why (with_line rules n line) (passed_with rules n line passed) e)
line_wrong false rules n line why fit counts e = record {
  counts = counts;
  wrong = kept_wrong rules n line why fit (sym (kept_with rules n line counts) ∙ e);
}

-- the first of these lines that is wrong, where the first has this number and these rules stand before it
record FirstWrong (before : List Rule) (n : ℕ) (lines : List (List ℕ)) (why : RulesRefused) : Type 0 where
  front : List (List ℕ)
  line : List ℕ
  back : List (List ℕ)
  is : lines ≡ front ++ (line ∷ back)
  after : List Rule
  put : ArePut front before after
  wrong : LineIsWrong (n + length front) (length after) line why

here : (before : List Rule) (n : ℕ) (line : List ℕ) (lines : List (List ℕ)) (why : RulesRefused) → rules_fit before ≡ true → LineIsWrong n (length before) line why → FirstWrong before n (line ∷ lines) why
here before n line lines why fit wrong =
    let at : n + 0 ≡ n = omega arith in
    let P : ℕ → Type 0 = λ m. LineIsWrong m (length before) line why in
    record {
      front = [];
      line = line;
      back = lines;
      is = refl;
      after = before;
      put = record { more = []; is = sym (append-nil before); spelled = refl; fit = fit };
      wrong = subst P (sym at) wrong;
    }

further : (before middle : List Rule) (n : ℕ) (line : List ℕ) (lines : List (List ℕ)) (why : RulesRefused) → ArePut (line ∷ []) before middle → FirstWrong middle (n + 1) lines why → FirstWrong before n (line ∷ lines) why
further before middle n line lines why first later =
    let at : (n + 1) + length later.front ≡ n + suc (length later.front) = omega arith in
    let P : ℕ → Type 0 = λ m. LineIsWrong m (length later.after) later.line why in
    record {
      front = line ∷ later.front;
      line = later.line;
      back = later.back;
      is = ap (λ ls. line ∷ ls) later.is;
      after = later.after;
      put = put_join line later.front before middle later.after first later.put;
      wrong = subst P at later.wrong;
    }

lines_wrong : (lines : List (List ℕ)) (before : List Rule) (n : ℕ) (why : RulesRefused) → rules_fit before ≡ true → with_lines before n lines ≡ Err why → FirstWrong before n lines why
lines_wrong [] before n why fit e = absurd (not_both before why (Ok before) refl e)
lines_wrong (line ∷ lines) before n why fit e =
    elim (then_err (with_line before n line) (λ more. with_lines more (n + 1) lines) why e) [
      | inl refused ↦ here before n line lines why fit (line_wrong (is_passed_over line) before n line why fit refl refused)
      | inr went ↦ (
          let first = line_put (is_passed_over line) line before went.read n fit refl went.is in
          further before went.read n line lines why first (lines_wrong lines went.read (n + 1) why first.fit went.gives))
    ]

pub refused_first : (text : List ℕ) (why : RulesRefused) → read_of text ≡ Err why → Refuses text why
refused_first text why e =
    let first = lines_wrong (lines_of text) [] 1 why refl e in
    let place : 1 + length first.front ≡ length first.front + 1 = omega arith in
    record {
      front = first.front;
      line = first.line;
      back = first.back;
      is = first.is;
      rules = first.after;
      before = (let P : List Rule → Type 0 = λ rs. LinesSpell first.front rs in subst P (sym first.put.is) first.put.spelled);
      fit = first.put.fit;
      counts = first.wrong.counts;
      wrong = first.wrong.wrong.wrong;
      number = first.wrong.wrong.line ∙ place;
    }

-- ---- what is wrong is refused

wrong_refused : (rules : List Rule) (n : ℕ) (line : List ℕ) (why : RulesRefused) (r : Result Rule RulesRefused) → rule_at n (words_of line) ≡ r → IsWrong (length rules) (words_of line) why → line_refused why ≡ n → and_then r (with_rule rules n) ≡ Err why
wrong_refused rules n line why (Err this) e wrong place =
    let is = rule_wrong n (length rules) (words_of line) this e in
    ap Err (wrong_once (length rules) (words_of line) this why is.wrong wrong (is.line ∙ sym place))
wrong_refused rules n line why (Ok rule) e wrong place =
    let full = only_full (length rules) (words_of line) why (is_a_rule n (words_of line) rule e) wrong in
    full_with rules n rule full.0 ∙ ap (λ m. Err (refusal.TooMany m)) (sym place) ∙ ap Err full.1

line_refused_so : (rules : List Rule) (n : ℕ) (line : List ℕ) (why : RulesRefused) → is_passed_over line ≡ false → IsWrong (length rules) (words_of line) why → line_refused why ≡ n → with_line rules n line ≡ Err why
line_refused_so rules n line why counts wrong place =
    kept_with rules n line counts ∙ wrong_refused rules n line why (rule_at n (words_of line)) refl wrong place

same_rules : (a b : List Rule) → ◌≡◌ {A = Result (List Rule) RulesRefused} (Ok a) (Ok b) → a ≡ b
same_rules a b e = cc

from_zero : (n : ℕ) → n ≡ n + 0
from_zero n = omega arith

one_more : (n m : ℕ) → (n + 1) + m ≡ n + suc m
one_more n m = omega arith

lines_append : (front more : List (List ℕ)) (before after : List Rule) (n : ℕ) → with_lines before n front ≡ Ok after → with_lines before n (front ++ more) ≡ with_lines after (n + length front) more
lines_append [] more before after n e = ap (λ rs. with_lines rs n more) (same_rules before after e) ∙ ap (λ m. with_lines after m more) (from_zero n)
lines_append (line ∷ front) more before after n e =
    let went = then_ok (with_line before n line) (λ rules. with_lines rules (n + 1) front) after e in
    then_is (with_line before n line) went.read (λ rules. with_lines rules (n + 1) (front ++ more)) went.is
    ∙ lines_append front more went.read after (n + 1) went.gives ∙ ap (λ m. with_lines after m more) (one_more n (length front))

pub first_refused : (text : List ℕ) (why : RulesRefused) → Refuses text why → read_of text ≡ Err why
first_refused text why r =
    let parts = and_parts (nat_le (length r.rules) 256) (list_all is_rule r.rules) r.fit in
    let front = lines_again r.front r.rules [] 1 r.before parts.1 (leb-true (length r.rules) 256 parts.0) in
    let place : length r.front + 1 ≡ 1 + length r.front = omega arith in
    ap (λ ls. with_lines [] 1 ls) r.is ∙ lines_append r.front (r.line ∷ r.back) [] r.rules 1 front
    ∙ then_refused (with_line r.rules (1 + length r.front) r.line) why (λ more. with_lines more ((1 + length r.front) + 1) r.back)
    (line_refused_so r.rules (1 + length r.front) r.line why r.counts r.wrong (r.number ∙ place))
