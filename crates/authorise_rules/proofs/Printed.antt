-- What is printed of rules spells them.
use Rattle.std.proofs.Common.{◌≡◌, ℕ, Bool, true, false, not, ◌&&◌, List, [], ◌∷◌, ◌++◌, Ok, codes, nat_eq, nat_le, eqb, length, refl, ap, ◌∙◌, append_assoc, arith}
use Rattle.std.specs.List.{join_with_byte, list_all, onto_first, slice_split, starts_with}
use Rattle.std.proofs.lemmas.Bool.{and_from, and_parts, cond-true, cond-false, eq-eqb, not-true}
use Rattle.std.proofs.lemmas.Bool.Decides.{nat_tests}
use Rattle.lang_base.specs.Characters.{is_visible}
use Rattle.lang_base.specs.Texts.{same_text}
use Rattle.lang_tree.specs.Forms.{is_path}
use Rattle.lang_core.specs.Names.{is_name, is_name_byte}
use Rattle.repair_messages.specs.declared.kinds.Kind.TheVariants.{Create, Replace, Delete, ReplaceResponse, Retry, Fold, Deploy, Correct, Rules}
use Rattle.authorise_rules.specs.Forms.{is_rule, rules_fit, senders_fit, users_fit}
use Rattle.authorise_rules.specs.Reading.{read_of}
use Rattle.authorise_rules.specs.Spelled.{Spells, is_passed_over, kinds_word, lines_of, rule_line, rule_words, senders_word, text_of, users_word, verb_word, words_of, worded}
use Rattle.authorise_rules.specs.declared.rule.Kinds.{Kinds}
use Rattle.authorise_rules.specs.declared.rule.Kinds.TheVariants as kinds
use Rattle.authorise_rules.specs.declared.rule.Rule.{Rule}
use Rattle.authorise_rules.specs.declared.rule.Senders.{Senders}
use Rattle.authorise_rules.specs.declared.rule.Senders.TheVariants as senders
use Rattle.authorise_rules.specs.declared.rule.Users.{Users}
use Rattle.authorise_rules.specs.declared.rule.Users.TheVariants as users
use Rattle.authorise_rules.specs.declared.rule.Verb.{Verb}
use Rattle.authorise_rules.specs.declared.rule.Verb.TheVariants.{Allow, Deny}
use Rattle.authorise_rules.proofs.Lines.{kept_worded, read_only}

-- ---- cutting what was joined

-- the text lacks a byte
abbrev lacks_byte : ℕ → List ℕ → Bool
lacks_byte c text = list_all (λ b. not (eqb b c)) text

abbrev cut : ℕ → List ℕ → List (List ℕ)
cut c text = slice_split (λ b. eqb b c) text

cut_word : (c : ℕ) (word more : List ℕ) → lacks_byte c word ≡ true → cut c (word ++ (c ∷ more)) ≡ word ∷ cut c more
cut_word c [] more free = cond-true (eqb c c) ([] ∷ cut c more) (onto_first c (cut c more)) (eq-eqb c c refl)
cut_word c (b ∷ word) more free =
    let parts = and_parts (not (eqb b c)) (lacks_byte c word) free in
    cond-false (eqb b c) ([] ∷ cut c (word ++ (c ∷ more))) (onto_first b (cut c (word ++ (c ∷ more)))) (not-true (eqb b c) parts.0)
    ∙ ap (onto_first b) (cut_word c word more parts.1)

cut_last : (c : ℕ) (word : List ℕ) → lacks_byte c word ≡ true → cut c word ≡ word ∷ []
cut_last c [] free = refl
cut_last c (b ∷ word) free =
    let parts = and_parts (not (eqb b c)) (lacks_byte c word) free in
    cond-false (eqb b c) ([] ∷ cut c word) (onto_first b (cut c word)) (not-true (eqb b c) parts.0) ∙ ap (onto_first b) (cut_last c word parts.1)

cut_joined : (c : ℕ) (word : List ℕ) (words : List (List ℕ)) → list_all (lacks_byte c) (word ∷ words) ≡ true → cut c (join_with_byte c (word ∷ words)) ≡ word ∷ words
cut_joined c word [] free = cut_last c word (and_parts (lacks_byte c word) true free).0
cut_joined c word (next ∷ words) free =
    let parts = and_parts (lacks_byte c word) (list_all (lacks_byte c) (next ∷ words)) free in
    cut_word c word (join_with_byte c (next ∷ words)) parts.0 ∙ ap (λ ws. word ∷ ws) (cut_joined c next words parts.1)

-- ---- bytes that words lack

all_by : {X : Type 0} (p q : X → Bool) → ((x : X) → p x ≡ true → q x ≡ true) → (xs : List X) → list_all p xs ≡ true → list_all q xs ≡ true
all_by p q each [] all = refl
all_by p q each (x ∷ xs) all =
    let parts = and_parts (p x) (list_all p xs) all in
    and_from (q x) (list_all q xs) (each x parts.0) (all_by p q each xs parts.1)

all_both : {X : Type 0} (p : X → Bool) (xs ys : List X) → list_all p xs ≡ true → list_all p ys ≡ true → list_all p (xs ++ ys) ≡ true
all_both p [] ys all more = more
all_both p (x ∷ xs) ys all more =
    let parts = and_parts (p x) (list_all p xs) all in
    and_from (p x) (list_all p (xs ++ ys)) parts.0 (all_both p xs ys parts.1 more)

no_space : (b : ℕ) → is_visible b ≡ true → not (eqb b 32) ≡ true
no_space b is = grind (arith, nat_tests)

no_feed : (b : ℕ) → is_visible b ≡ true → not (eqb b 10) ≡ true
no_feed b is = grind (arith, nat_tests)

name_visible : (b : ℕ) → is_name_byte b ≡ true → is_visible b ≡ true
name_visible b is = grind (arith, nat_tests)

-- ---- the words of a rule are visible

abbrev are_visible : List ℕ → Bool
are_visible word = list_all is_visible word

verb_visible : (verb : Verb) → are_visible (verb_word verb) ≡ true
verb_visible Allow = refl
verb_visible Deny = refl

kinds_visible : (kind : Kinds) → are_visible (kinds_word kind) ≡ true
kinds_visible kinds.Any = refl
kinds_visible (kinds.Only Create) = refl
kinds_visible (kinds.Only Replace) = refl
kinds_visible (kinds.Only Delete) = refl
kinds_visible (kinds.Only ReplaceResponse) = refl
kinds_visible (kinds.Only Retry) = refl
kinds_visible (kinds.Only Fold) = refl
kinds_visible (kinds.Only Deploy) = refl
kinds_visible (kinds.Only Correct) = refl
kinds_visible (kinds.Only Rules) = refl

senders_visible : (s : Senders) → senders_fit s ≡ true → are_visible (senders_word s) ≡ true
senders_visible senders.Any fit = refl
senders_visible senders.Console fit = refl
senders_visible (senders.Only name) fit =
    let parts = and_parts (is_name name && not (same_text name (codes "any"))) (not (same_text name (codes "console"))) fit in
    let front = and_parts (is_name name) (not (same_text name (codes "any"))) parts.0 in
    let bytes = and_parts (not (nat_eq (length name) 0) && nat_le (length name) 32) (list_all is_name_byte name) front.0 in
    all_by is_name_byte is_visible name_visible name bytes.1

users_visible : (u : Users) → users_fit u ≡ true → are_visible (users_word u) ≡ true
users_visible users.Any fit = refl
users_visible users.Same fit = refl
users_visible (users.Only user) fit = (and_parts (not (nat_eq (length user) 0) && nat_le (length user) 64) (are_visible user) fit).1

abbrev is_path_front : List ℕ → Bool
is_path_front path = starts_with nat_eq path (codes "/") && nat_le (length path) 1024

path_visible : (path : List ℕ) → is_path path ≡ true → are_visible path ≡ true
path_visible path is = (and_parts (is_path_front path) (are_visible path) is).1

five : (a b c d e : Bool) → a ≡ true → b ≡ true → c ≡ true → d ≡ true → e ≡ true → (a && (b && (c && (d && (e && true))))) ≡ true
five a b c d e ia ib ic id ie = rw (ia, ib, ic, id, ie) refl

words_visible : (r : Rule) → is_rule r ≡ true → list_all are_visible (rule_words r) ≡ true
words_visible r is =
    let parts = and_parts (senders_fit r.from && users_fit r.who) (is_path r.prefix) is in
    let front = and_parts (senders_fit r.from) (users_fit r.who) parts.0 in
    five (are_visible (verb_word r.verb)) (are_visible (kinds_word r.kind)) (are_visible (senders_word r.from)) (are_visible (users_word r.who)) (are_visible r.prefix)
    (verb_visible r.verb) (kinds_visible r.kind) (senders_visible r.from front.0) (users_visible r.who front.1) (path_visible r.prefix parts.1)

-- ---- lines

line_words : (r : Rule) → is_rule r ≡ true → words_of (rule_line r) ≡ rule_words r
line_words r is =
    cut_joined 32 (verb_word r.verb) (kinds_word r.kind ∷ senders_word r.from ∷ users_word r.who ∷ r.prefix ∷ [])
    (all_by are_visible (lacks_byte 32) (λ word seen. all_by is_visible (λ b. not (eqb b 32)) no_space word seen) (rule_words r) (words_visible r is))

joined_feeds : (words : List (List ℕ)) → list_all are_visible words ≡ true → lacks_byte 10 (join_with_byte 32 words) ≡ true
joined_feeds [] seen = refl
joined_feeds (word ∷ []) seen = all_by is_visible (λ b. not (eqb b 10)) no_feed word (and_parts (are_visible word) true seen).0
joined_feeds (word ∷ next ∷ words) seen =
    let parts = and_parts (are_visible word) (list_all are_visible (next ∷ words)) seen in
    all_both (λ b. not (eqb b 10)) word (32 ∷ join_with_byte 32 (next ∷ words)) (all_by is_visible (λ b. not (eqb b 10)) no_feed word parts.0) (joined_feeds (next ∷ words) parts.1)

begins : (verb : Verb) (more : List ℕ) → is_passed_over (verb_word verb ++ more) ≡ false
begins Allow more = refl
begins Deny more = refl

line_counts : (r : Rule) → is_passed_over (rule_line r) ≡ false
line_counts r = begins r.verb (32 ∷ join_with_byte 32 (kinds_word r.kind ∷ senders_word r.from ∷ users_word r.who ∷ r.prefix ∷ []))

-- ---- texts

first_line : (r : Rule) (rules : List Rule) → is_rule r ≡ true → lines_of (text_of (r ∷ rules)) ≡ rule_line r ∷ lines_of (text_of rules)
first_line r rules is =
    ap lines_of (append_assoc (rule_line r) (codes "\n") (text_of rules)) ∙ cut_word 10 (rule_line r) (text_of rules) (joined_feeds (rule_words r) (words_visible r is))

all_spelled : (rules : List Rule) → list_all is_rule rules ≡ true → Spells (text_of rules) rules
all_spelled [] all = refl
all_spelled (r ∷ rules) all =
    let parts = and_parts (is_rule r) (list_all is_rule rules) all in
    ap worded (first_line r rules parts.0) ∙ kept_worded (rule_line r) (lines_of (text_of rules)) (line_counts r)
    ∙ ap (λ ws. ws ∷ worded (lines_of (text_of rules))) (line_words r parts.0) ∙ ap (λ ws. rule_words r ∷ ws) (all_spelled rules parts.1)

pub printed_spells : (rules : List Rule) → rules_fit rules ≡ true → Spells (text_of rules) rules
printed_spells rules fit = all_spelled rules (and_parts (nat_le (length rules) 256) (list_all is_rule rules) fit).1

pub printed_again : (rules : List Rule) → rules_fit rules ≡ true → read_of (text_of rules) ≡ Ok rules
printed_again rules fit = read_only (text_of rules) rules fit (printed_spells rules fit)
