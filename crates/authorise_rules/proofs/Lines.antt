-- The lines of a text: those that spell rules are read as them, and nothing else is.
use Rattle.std.proofs.Common.{◌≡◌, ◌⊎◌, ℕ, ◌+◌, ◌<◌, ◌≤◌, Bool, true, false, not, cond, List, [], ◌∷◌, ◌++◌, length, map, Result, Ok, Err, inl, inr, refl, sym, ap, subst, ◌∙◌, nat_lt, nat_le, append_assoc, append-nil, length-append, arith}
use Rattle.std.specs.List.{filter, list_all}
use Rattle.std.proofs.lemmas.Bool.{and_parts, cond-true, cond-false, le-ltb, leb-true, lt-ltb, ltb-true, ltb-false, not_from_false, not_from_true}
use Rattle.authorise_rules.specs.Forms.{is_rule, rules_fit}
use Rattle.authorise_rules.specs.Reading.{and_then, read_of, rule_at, with_line, with_lines, with_rule}
use Rattle.authorise_rules.specs.Spelled.{LinesSpell, Spells, is_passed_over, lines_of, rule_words, words_of, worded}
use Rattle.authorise_rules.specs.declared.refused.RulesRefused.{RulesRefused}
use Rattle.authorise_rules.specs.declared.refused.RulesRefused.TheVariants as refusal
use Rattle.authorise_rules.specs.declared.rule.Rule.{Rule}
use Rattle.authorise_rules.proofs.FormLemmas.{fit_more}
use Rattle.authorise_rules.proofs.LineLemmas.{rule_again, rule_read}

same_ok : {X : Type 0} (x y : X) → ◌≡◌ {A = Result X RulesRefused} (Ok x) (Ok y) → x ≡ y
same_ok x y e = cc

pub not_both : {X : Type 0} (x : X) (why : RulesRefused) (r : Result X RulesRefused) → r ≡ Ok x → r ≡ Err why → ⊥
not_both {X = X} x why r ok err = let e : ◌≡◌ {A = Result X RulesRefused} (Ok x) (Err why) = sym ok ∙ err in cc

-- ---- going on

pub then_is : {X Y : Type 0} (r : Result X RulesRefused) (x : X) (next : X → Result Y RulesRefused) → r ≡ Ok x → and_then r next ≡ next x
then_is r x next e = rw e refl

pub then_refused : {X Y : Type 0} (r : Result X RulesRefused) (why : RulesRefused) (next : X → Result Y RulesRefused) → r ≡ Err why → and_then r next ≡ Err why
then_refused r why next e = rw e refl

-- what was read, and how it went on
pub record Then {X Y : Type 0} (r : Result X RulesRefused) (next : X → Result Y RulesRefused) (end : Result Y RulesRefused) : Type 0 where
  pub read : X
  pub is : r ≡ Ok read
  pub gives : next read ≡ end

pub then_ok : {X Y : Type 0} (r : Result X RulesRefused) (next : X → Result Y RulesRefused) (y : Y) → and_then r next ≡ Ok y → Then r next (Ok y)
then_ok (Ok x) next y e = record { read = x; is = refl; gives = e }
then_ok (Err why) next y e = absurd cc

pub then_err : {X Y : Type 0} (r : Result X RulesRefused) (next : X → Result Y RulesRefused) (why : RulesRefused) → and_then r next ≡ Err why → (r ≡ Err why) ⊎ Then r next (Err why)
then_err (Ok x) next why e = inr (record { read = x; is = refl; gives = e })
then_err (Err this) next why e = let is : this ≡ why = cc in inl (ap Err is)

-- ---- one line

pub passed_with : (rules : List Rule) (n : ℕ) (line : List ℕ) → is_passed_over line ≡ true → with_line rules n line ≡ Ok rules
passed_with rules n line e = cond-true (is_passed_over line) (Ok rules) (and_then (rule_at n (words_of line)) (with_rule rules n)) e

pub kept_with : (rules : List Rule) (n : ℕ) (line : List ℕ) → is_passed_over line ≡ false → with_line rules n line ≡ and_then (rule_at n (words_of line)) (with_rule rules n)
kept_with rules n line e = cond-false (is_passed_over line) (Ok rules) (and_then (rule_at n (words_of line)) (with_rule rules n)) e

kept_lines : List (List ℕ) → List (List ℕ)
kept_lines lines = filter (λ line. not (is_passed_over line)) lines

passed_worded : (line : List ℕ) (lines : List (List ℕ)) → is_passed_over line ≡ true → worded (line ∷ lines) ≡ worded lines
unfolding kept_lines
passed_worded line lines e = ap (map words_of) (cond-false (not (is_passed_over line)) (line ∷ kept_lines lines) (kept_lines lines) (not_from_true (is_passed_over line) e))

pub kept_worded : (line : List ℕ) (lines : List (List ℕ)) → is_passed_over line ≡ false → worded (line ∷ lines) ≡ words_of line ∷ worded lines
unfolding kept_lines
kept_worded line lines e = ap (map words_of) (cond-true (not (is_passed_over line)) (line ∷ kept_lines lines) (kept_lines lines) (not_from_false (is_passed_over line) e))

room_with : (rules : List Rule) (n : ℕ) (rule : Rule) → length rules < 256 → with_rule rules n rule ≡ Ok (rules ++ rule ∷ [])
room_with rules n rule room = cond-true (nat_lt (length rules) 256) (Ok (rules ++ rule ∷ [])) (Err (refusal.TooMany n)) (lt-ltb (length rules) 256 room)

pub full_with : (rules : List Rule) (n : ℕ) (rule : Rule) → length rules ≡ 256 → with_rule rules n rule ≡ Err (refusal.TooMany n)
full_with rules n rule full = cond-false (nat_lt (length rules) 256) (Ok (rules ++ rule ∷ [])) (Err (refusal.TooMany n)) (le-ltb (length rules) 256 (omega arith))

-- a rule was put last, or there was no room for it
pub room_by : (rules : List Rule) (n : ℕ) (rule : Rule) (t : Bool) (end : Result (List Rule) RulesRefused) → nat_lt (length rules) 256 ≡ t → cond t (Ok (rules ++ rule ∷ [])) (Err (refusal.TooMany n)) ≡ end → ((length rules < 256) × (end ≡ Ok (rules ++ rule ∷ []))) ⊎ ((256 ≤ length rules) × (end ≡ Err (refusal.TooMany n)))
room_by rules n rule true end t e = inl (ltb-true (length rules) 256 t, sym e)
room_by rules n rule false end t e = inr (ltb-false (length rules) 256 t, sym e)

-- ---- what is spelled is read

few : (before rules : List Rule) (rule : Rule) → length (before ++ (rule ∷ rules)) ≤ 256 → length before < 256
few before rules rule small = omega (arith, length-append before (rule ∷ rules))

regroup : (before rules : List Rule) (rule : Rule) → (before ++ rule ∷ []) ++ rules ≡ before ++ (rule ∷ rules)
regroup before rules rule = append_assoc before (rule ∷ []) rules

-- these lines are read as the rules that they spell, whatever stands before them
abbrev IsReadAgain : List (List ℕ) → Type 0
IsReadAgain lines = (rules before : List Rule) (n : ℕ) → LinesSpell lines rules → list_all is_rule rules ≡ true → length (before ++ rules) ≤ 256 → with_lines before n lines ≡ Ok (before ++ rules)

kept_again : (line : List ℕ) (lines : List (List ℕ)) (rules before : List Rule) (n : ℕ) → is_passed_over line ≡ false → words_of line ∷ worded lines ≡ map rule_words rules → list_all is_rule rules ≡ true → length (before ++ rules) ≤ 256 → IsReadAgain lines → with_lines before n (line ∷ lines) ≡ Ok (before ++ rules)
kept_again line lines [] before n counts spelled all small again = absurd cc
kept_again line lines (r ∷ rules) before n counts spelled all small again =
    let first : words_of line ≡ rule_words r = cc in
    let rest : worded lines ≡ map rule_words rules = cc in
    let parts = and_parts (is_rule r) (list_all is_rule rules) all in
    let read : rule_at n (words_of line) ≡ Ok r = ap (λ ws. rule_at n ws) first ∙ rule_again n r parts.0 in
    let put : with_line before n line ≡ Ok (before ++ r ∷ []) =
    kept_with before n line counts ∙ then_is (rule_at n (words_of line)) r (with_rule before n) read ∙ room_with before n r (few before rules r small) in
    let groups = regroup before rules r in
    let short : length ((before ++ r ∷ []) ++ rules) ≤ 256 = subst (λ (rs : List Rule). length rs ≤ 256) (sym groups) small in
    then_is (with_line before n line) (before ++ r ∷ []) (λ more. with_lines more (n + 1) lines) put
    ∙ again rules (before ++ r ∷ []) (n + 1) rest parts.1 short ∙ ap Ok groups

line_again : (t : Bool) (line : List ℕ) (lines : List (List ℕ)) → is_passed_over line ≡ t → IsReadAgain lines → IsReadAgain (line ∷ lines)
line_again true line lines passed again rules before n spelled all small =
    then_is (with_line before n line) before (λ more. with_lines more (n + 1) lines) (passed_with before n line passed)
    ∙ again rules before (n + 1) (sym (passed_worded line lines passed) ∙ spelled) all small
line_again false line lines counts again rules before n spelled all small =
    kept_again line lines rules before n counts (sym (kept_worded line lines counts) ∙ spelled) all small again

pub lines_again : (lines : List (List ℕ)) → IsReadAgain lines
lines_again [] [] before n spelled all small = ap Ok (sym (append-nil before))
lines_again [] (r ∷ rules) before n spelled all small = absurd cc
lines_again (line ∷ lines) rules before n spelled all small =
    line_again (is_passed_over line) line lines refl (λ rs b m s a f. lines_again lines rs b m s a f) rules before n spelled all small

-- a text is read as the rules that it spells
pub read_only : (text : List ℕ) (rules : List Rule) → rules_fit rules ≡ true → Spells text rules → read_of text ≡ Ok rules
read_only text rules fit spelled =
    let parts = and_parts (nat_le (length rules) 256) (list_all is_rule rules) fit in
    lines_again (lines_of text) rules [] 1 spelled parts.1 (leb-true (length rules) 256 parts.0)

pub one_spelled : (text : List ℕ) (p q : List Rule) → rules_fit p ≡ true → rules_fit q ≡ true → Spells text p → Spells text q → p ≡ q
one_spelled text p q pf qf ps qs = same_ok p q (sym (read_only text p pf ps) ∙ read_only text q qf qs)

-- ---- what is read is spelled

by_line : (t : Bool) (line : List ℕ) (xs ys : List (List ℕ)) → is_passed_over line ≡ t → worded (xs ++ ys) ≡ worded xs ++ worded ys → worded ((line ∷ xs) ++ ys) ≡ worded (line ∷ xs) ++ worded ys
by_line true line xs ys passed e = passed_worded line (xs ++ ys) passed ∙ e ∙ ap (λ ws. ws ++ worded ys) (sym (passed_worded line xs passed))
by_line false line xs ys counts e =
    kept_worded line (xs ++ ys) counts ∙ ap (λ ws. words_of line ∷ ws) e ∙ ap (λ ws. ws ++ worded ys) (sym (kept_worded line xs counts))

words_both : (first rest : List Rule) → map rule_words (first ++ rest) ≡ map rule_words first ++ map rule_words rest
words_both [] rest = refl
words_both (r ∷ first) rest = ap (λ ws. rule_words r ∷ ws) (words_both first rest)

both_are : (a b : List (List (List ℕ))) (first rest : List Rule) → a ≡ map rule_words first → b ≡ map rule_words rest → a ++ b ≡ map rule_words (first ++ rest)
both_are a b first rest ea eb = ap (λ ws. ws ++ b) ea ∙ ap (λ ws. map rule_words first ++ ws) eb ∙ sym (words_both first rest)

worded_append : (xs ys : List (List ℕ)) → worded (xs ++ ys) ≡ worded xs ++ worded ys
worded_append [] ys = refl
worded_append (line ∷ xs) ys = by_line (is_passed_over line) line xs ys refl (worded_append xs ys)

-- lines were read, and what they spell was put behind what stood before
pub record ArePut (lines : List (List ℕ)) (before after : List Rule) : Type 0 where
  pub more : List Rule
  pub is : after ≡ before ++ more
  pub spelled : LinesSpell lines more
  pub fit : rules_fit after ≡ true

kept_put : (line : List ℕ) (rules after : List Rule) (n : ℕ) → rules_fit rules ≡ true → is_passed_over line ≡ false → and_then (rule_at n (words_of line)) (with_rule rules n) ≡ Ok after → ArePut (line ∷ []) rules after
kept_put line rules after n fit counts e =
    let went = then_ok (rule_at n (words_of line)) (with_rule rules n) after e in
    let rule = went.read in
    let are = rule_read n (words_of line) rule went.is in
    elim (room_by rules n rule (nat_lt (length rules) 256) (Ok after) refl went.gives) [
      | inl room ↦ (
          let is : after ≡ rules ++ rule ∷ [] = same_ok after (rules ++ rule ∷ []) room.1 in
          let P : List Rule → Type 0 = λ rs. rules_fit rs ≡ true in
          record {
            more = rule ∷ [];
            is = is;
            spelled = kept_worded line [] counts ∙ ap (λ ws. ws ∷ []) are.words_are;
            fit = subst P (sym is) (fit_more rules rule fit room.0 are.fit);
          })
      | inr full ↦ absurd (not_both after (refusal.TooMany n) (Ok after) refl full.1)
    ]

pub line_put : (t : Bool) (line : List ℕ) (rules after : List Rule) (n : ℕ) → rules_fit rules ≡ true → is_passed_over line ≡ t → with_line rules n line ≡ Ok after → ArePut (line ∷ []) rules after
line_put true line rules after n fit passed e =
    let is : after ≡ rules = same_ok after rules (sym e ∙ passed_with rules n line passed) in
    let P : List Rule → Type 0 = λ rs. rules_fit rs ≡ true in
    record { more = []; is = is ∙ sym (append-nil rules); spelled = passed_worded line [] passed; fit = subst P (sym is) fit }
line_put false line rules after n fit counts e = kept_put line rules after n fit counts (sym (kept_with rules n line counts) ∙ e)

joined : (line : List ℕ) (lines : List (List ℕ)) (first rest : List Rule) → LinesSpell (line ∷ []) first → LinesSpell lines rest → LinesSpell (line ∷ lines) (first ++ rest)
joined line lines first rest f r = worded_append (line ∷ []) lines ∙ both_are (worded (line ∷ [])) (worded lines) first rest f r

pub put_join : (line : List ℕ) (lines : List (List ℕ)) (before middle after : List Rule) → ArePut (line ∷ []) before middle → ArePut lines middle after → ArePut (line ∷ lines) before after
put_join line lines before middle after first rest = record {
  more = first.more ++ rest.more;
  is = rest.is ∙ ap (λ rs. rs ++ rest.more) first.is ∙ append_assoc before first.more rest.more;
  spelled = joined line lines first.more rest.more first.spelled rest.spelled;
  fit = rest.fit;
}

pub lines_put : (lines : List (List ℕ)) (before after : List Rule) (n : ℕ) → rules_fit before ≡ true → with_lines before n lines ≡ Ok after → ArePut lines before after
lines_put [] before after n fit e =
    let is : after ≡ before = same_ok after before (sym e) in
    let P : List Rule → Type 0 = λ rs. rules_fit rs ≡ true in
    record { more = []; is = is ∙ sym (append-nil before); spelled = refl; fit = subst P (sym is) fit }
lines_put (line ∷ lines) before after n fit e =
    let went = then_ok (with_line before n line) (λ more. with_lines more (n + 1) lines) after e in
    let first = line_put (is_passed_over line) line before went.read n fit refl went.is in
    put_join line lines before went.read after first (lines_put lines went.read after (n + 1) first.fit went.gives)

pub read_spells : (text : List ℕ) (rules : List Rule) → read_of text ≡ Ok rules → Spells text rules
read_spells text rules e =
    let put = lines_put (lines_of text) [] rules 1 refl e in
    let P : List Rule → Type 0 = λ rs. Spells text rs in
    subst P (sym put.is) put.spelled
