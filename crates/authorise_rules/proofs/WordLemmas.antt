-- What each part of a rule is read as: its own word alone is read as it.
use Rattle.std.proofs.lemmas.List.{take-append-drop}
use Rattle.std.proofs.Common.{◌≡◌, ℕ, Bool, true, false, not, ◌&&◌, cond, List, ◌++◌, Option, Some, None, codes, nat_eq, take, drop, refl, sym, ap, subst, ◌∙◌}
use Rattle.std.specs.List.{starts_with}
use Rattle.std.proofs.lemmas.Bool.{and_from, and_parts, cond-true, not-true, not_from_false}
use Rattle.std.specs.Cmp.Lexicographic.{bytes_decides}
use Rattle.lang_base.specs.Texts.{same_text}
use Rattle.lang_tree.specs.Forms.{is_path}
use Rattle.lang_core.specs.Names.{is_name, is_who}
use Rattle.repair_messages.specs.declared.kinds.Kind.TheVariants.{Create, Replace, Delete, ReplaceResponse, Retry, Fold, Deploy, Correct, Rules}
use Rattle.authorise_rules.specs.Forms.{senders_fit, users_fit}
use Rattle.authorise_rules.specs.Reading.{behind_is, kinds_named, path_named, senders_named, user_named, users_named, verb_named}
use Rattle.authorise_rules.specs.Spelled.{kinds_word, senders_word, users_word, verb_word}
use Rattle.authorise_rules.specs.declared.rule.Kinds.{Kinds}
use Rattle.authorise_rules.specs.declared.rule.Kinds.TheVariants as kinds
use Rattle.authorise_rules.specs.declared.rule.Senders.{Senders}
use Rattle.authorise_rules.specs.declared.rule.Senders.TheVariants as senders
use Rattle.authorise_rules.specs.declared.rule.Users.{Users}
use Rattle.authorise_rules.specs.declared.rule.Users.TheVariants as users
use Rattle.authorise_rules.specs.declared.rule.Verb.{Verb}
use Rattle.authorise_rules.specs.declared.rule.Verb.TheVariants.{Allow, Deny}

text_is : (a b : List ℕ) → same_text a b ≡ true → a ≡ b
text_is a b e = (bytes_decides a b).0 e

-- what is read of a word is read of this text, or by what stands behind it
by_test : {X : Type 0} (P : X → Type 0) (t : Bool) (x : X) (rest : Option X) (y : X) → (t ≡ true → P x) → (rest ≡ Some y → P y) → cond t (Some x) rest ≡ Some y → P y
by_test P true x rest y here other e = let is : x ≡ y = cc in subst P is (here refl)
by_test P false x rest y here other e = other e

-- ---- verbs

pub verb_again : (verb : Verb) → verb_named (verb_word verb) ≡ Some verb
verb_again Allow = refl
verb_again Deny = refl

pub verb_read : (word : List ℕ) (verb : Verb) → verb_named word ≡ Some verb → word ≡ verb_word verb
verb_read word verb e =
    let P : Verb → Type 0 = λ v. word ≡ verb_word v in
    by_test P (same_text word (codes "allow")) Allow (cond (same_text word (codes "deny")) (Some Deny) None) verb (text_is word (codes "allow"))
    (by_test P (same_text word (codes "deny")) Deny None verb (text_is word (codes "deny")) (λ n. absurd cc)) e

-- ---- kinds

pub kinds_again : (kind : Kinds) → kinds_named (kinds_word kind) ≡ Some kind
kinds_again kinds.Any = refl
kinds_again (kinds.Only Create) = refl
kinds_again (kinds.Only Replace) = refl
kinds_again (kinds.Only Delete) = refl
kinds_again (kinds.Only ReplaceResponse) = refl
kinds_again (kinds.Only Retry) = refl
kinds_again (kinds.Only Fold) = refl
kinds_again (kinds.Only Deploy) = refl
kinds_again (kinds.Only Correct) = refl
kinds_again (kinds.Only Rules) = refl

pub kinds_read : (word : List ℕ) (kind : Kinds) → kinds_named word ≡ Some kind → word ≡ kinds_word kind
kinds_read word kind e =
    let P : Kinds → Type 0 = λ k. word ≡ kinds_word k in
    by_test P (same_text word (codes "any")) kinds.Any _ kind (text_is word (codes "any"))
    (by_test P (same_text word (codes "create")) (kinds.Only Create) _ kind (text_is word (codes "create"))
    (by_test P (same_text word (codes "replace")) (kinds.Only Replace) _ kind (text_is word (codes "replace"))
    (by_test P (same_text word (codes "delete")) (kinds.Only Delete) _ kind (text_is word (codes "delete"))
    (by_test P (same_text word (codes "replace_response")) (kinds.Only ReplaceResponse) _ kind (text_is word (codes "replace_response"))
    (by_test P (same_text word (codes "retry")) (kinds.Only Retry) _ kind (text_is word (codes "retry"))
    (by_test P (same_text word (codes "fold")) (kinds.Only Fold) _ kind (text_is word (codes "fold"))
    (by_test P (same_text word (codes "deploy")) (kinds.Only Deploy) _ kind (text_is word (codes "deploy"))
    (by_test P (same_text word (codes "correct")) (kinds.Only Correct) _ kind (text_is word (codes "correct"))
    (by_test P (same_text word (codes "rules")) (kinds.Only Rules) _ kind (text_is word (codes "rules")) (λ n. absurd cc)))))))))) e

-- ---- senders

third : {X : Type 0} (a c n : Bool) (x y z o : X) → a ≡ false → c ≡ false → n ≡ true → cond a x (cond c y (cond n z o)) ≡ z
third a c n x y z o ea ec en = rw (ea, ec, en) refl

pub senders_again : (s : Senders) → senders_fit s ≡ true → senders_named (senders_word s) ≡ Some s
senders_again senders.Any fit = refl
senders_again senders.Console fit = refl
senders_again (senders.Only name) fit =
    let parts = and_parts (is_name name && not (same_text name (codes "any"))) (not (same_text name (codes "console"))) fit in
    let front = and_parts (is_name name) (not (same_text name (codes "any"))) parts.0 in
    third (same_text name (codes "any")) (same_text name (codes "console")) (is_name name) (Some senders.Any) (Some senders.Console) (Some (senders.Only name)) None
    (not-true (same_text name (codes "any")) front.1) (not-true (same_text name (codes "console")) parts.1) front.0

sender_by : (word : List ℕ) (a c n : Bool) (s : Senders) → same_text word (codes "any") ≡ a → same_text word (codes "console") ≡ c → is_name word ≡ n → cond a (Some senders.Any) (cond c (Some senders.Console) (cond n (Some (senders.Only word)) None)) ≡ Some s → (word ≡ senders_word s) × (senders_fit s ≡ true)
sender_by word true c n s ea ec en e =
    let P : Senders → Type 0 = λ v. (word ≡ senders_word v) × (senders_fit v ≡ true) in
    let is : senders.Any ≡ s = cc in
    subst P is (text_is word (codes "any") ea, refl)
sender_by word false true n s ea ec en e =
    let P : Senders → Type 0 = λ v. (word ≡ senders_word v) × (senders_fit v ≡ true) in
    let is : senders.Console ≡ s = cc in
    subst P is (text_is word (codes "console") ec, refl)
sender_by word false false true s ea ec en e =
    let P : Senders → Type 0 = λ v. (word ≡ senders_word v) × (senders_fit v ≡ true) in
    let is : senders.Only word ≡ s = cc in
    let apart = and_from (is_name word) (not (same_text word (codes "any"))) en (not_from_false (same_text word (codes "any")) ea) in
    subst P is (refl, and_from (is_name word && not (same_text word (codes "any"))) (not (same_text word (codes "console"))) apart (not_from_false (same_text word (codes "console")) ec))
sender_by word false false false s ea ec en e = absurd cc

pub senders_read : (word : List ℕ) (s : Senders) → senders_named word ≡ Some s → (word ≡ senders_word s) × (senders_fit s ≡ true)
senders_read word s e = sender_by word (same_text word (codes "any")) (same_text word (codes "console")) (is_name word) s refl refl refl e

-- ---- users

pub users_again : (u : Users) → users_fit u ≡ true → users_named (users_word u) ≡ Some u
users_again users.Any fit = refl
users_again users.Same fit = refl
users_again (users.Only user) fit = cond-true (is_who user) (Some (users.Only user)) None fit

user_by : (word user : List ℕ) (w : Bool) (u : Users) → word ≡ codes "is:" ++ user → is_who user ≡ w → cond w (Some (users.Only user)) None ≡ Some u → (word ≡ users_word u) × (users_fit u ≡ true)
user_by word user true u is ew e =
    let P : Users → Type 0 = λ v. (word ≡ users_word v) × (users_fit v ≡ true) in
    let same : users.Only user ≡ u = cc in
    subst P same (is, ew)
user_by word user false u is ew e = absurd cc

behind_by : (word : List ℕ) (b : Bool) (u : Users) → starts_with nat_eq word (codes "is:") ≡ b → user_named (cond b (Some (drop 3 word)) None) ≡ Some u → (word ≡ users_word u) × (users_fit u ≡ true)
behind_by word true u eb e =
    let front : codes "is:" ≡ take 3 word = text_is (codes "is:") (take 3 word) eb in
    let is : word ≡ codes "is:" ++ drop 3 word = sym (take-append-drop 3 word) ∙ ap (λ f. f ++ drop 3 word) (sym front) in
    user_by word (drop 3 word) (is_who (drop 3 word)) u is refl e
behind_by word false u eb e = absurd cc

users_by : (word : List ℕ) (a s : Bool) (u : Users) → same_text word (codes "any") ≡ a → same_text word (codes "same") ≡ s → cond a (Some users.Any) (cond s (Some users.Same) (user_named (behind_is word))) ≡ Some u → (word ≡ users_word u) × (users_fit u ≡ true)
users_by word true s u ea es e =
    let P : Users → Type 0 = λ v. (word ≡ users_word v) × (users_fit v ≡ true) in
    let is : users.Any ≡ u = cc in
    subst P is (text_is word (codes "any") ea, refl)
users_by word false true u ea es e =
    let P : Users → Type 0 = λ v. (word ≡ users_word v) × (users_fit v ≡ true) in
    let is : users.Same ≡ u = cc in
    subst P is (text_is word (codes "same") es, refl)
users_by word false false u ea es e = behind_by word (starts_with nat_eq word (codes "is:")) u refl e

pub users_read : (word : List ℕ) (u : Users) → users_named word ≡ Some u → (word ≡ users_word u) × (users_fit u ≡ true)
users_read word u e = users_by word (same_text word (codes "any")) (same_text word (codes "same")) u refl refl e

-- ---- paths

pub path_again : (path : List ℕ) → is_path path ≡ true → path_named path ≡ Some path
path_again path is = cond-true (is_path path) (Some path) None is

path_by : (word path : List ℕ) (p : Bool) → is_path word ≡ p → cond p (Some word) None ≡ Some path → (word ≡ path) × (is_path path ≡ true)
path_by word path true ep e =
    let P : List ℕ → Type 0 = λ v. (word ≡ v) × (is_path v ≡ true) in
    let is : word ≡ path = cc in
    subst P is (refl, ep)
path_by word path false ep e = absurd cc

pub path_read : (word path : List ℕ) → path_named word ≡ Some path → (word ≡ path) × (is_path path ≡ true)
path_read word path e = path_by word path (is_path word) refl e
