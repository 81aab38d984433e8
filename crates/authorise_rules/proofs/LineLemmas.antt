-- What the words of a line are read as: the words of a rule alone are read as it, and others are refused for what is wrong
-- with them.
use Rattle.std.proofs.Common.{◌≡◌, ◌⊎◌, ℕ, true, ◌&&◌, List, [], ◌∷◌, Option, Some, None, Result, Ok, Err, inl, inr, refl, sym, ap, subst, ◌∙◌}
use Rattle.std.proofs.lemmas.Bool.{and_from, and_parts}
use Rattle.lang_tree.specs.Forms.{is_path}
use Rattle.authorise_rules.specs.Forms.{is_rule, senders_fit, users_fit}
use Rattle.authorise_rules.specs.Reading.{Fields, all_three, fields_of, kinds_named, path_named, rule_after, rule_at, rule_behind, senders_named, users_named, verb_named, wanted}
use Rattle.authorise_rules.specs.Refusals.{AreRule, HasKind, HasVerb, IsWrong, line_refused}
use Rattle.authorise_rules.specs.Spelled.{kinds_word, rule_words, senders_word, users_word, verb_word}
use Rattle.authorise_rules.specs.declared.refused.RulesRefused.{RulesRefused}
use Rattle.authorise_rules.specs.declared.refused.RulesRefused.TheVariants as refusal
use Rattle.authorise_rules.specs.declared.rule.Kinds.{Kinds}
use Rattle.authorise_rules.specs.declared.rule.Rule.{Rule}
use Rattle.authorise_rules.specs.declared.rule.Senders.{Senders}
use Rattle.authorise_rules.specs.declared.rule.Users.{Users}
use Rattle.authorise_rules.specs.declared.rule.Verb.{Verb}
use Rattle.authorise_rules.proofs.WordLemmas.{kinds_again, kinds_read, path_again, path_read, senders_again, senders_read, users_again, users_read, verb_again, verb_read}

-- ---- a part that is wanted

wanted_is : {X Y : Type 0} (why : RulesRefused) (o : Option X) (x : X) (next : X → Result Y RulesRefused) → o ≡ Some x → wanted why o next ≡ next x
wanted_is why o x next e = rw e refl

-- how it went on
record WentOn {X Y : Type 0} (o : Option X) (next : X → Result Y RulesRefused) (r : Result Y RulesRefused) : Type 0 where
  part : X
  is : o ≡ Some part
  gives : next part ≡ r

wanted_ok : {X Y : Type 0} (why : RulesRefused) (o : Option X) (next : X → Result Y RulesRefused) (y : Y) → wanted why o next ≡ Ok y → WentOn o next (Ok y)
wanted_ok why None next y e = absurd cc
wanted_ok why (Some x) next y e = record { part = x; is = refl; gives = e }

wanted_err : {X Y : Type 0} (first : RulesRefused) (o : Option X) (next : X → Result Y RulesRefused) (why : RulesRefused) → wanted first o next ≡ Err why → ((o ≡ None) × (first ≡ why)) ⊎ WentOn o next (Err why)
wanted_err first None next why e = let is : first ≡ why = cc in inl (refl, is)
wanted_err first (Some x) next why e = inr (record { part = x; is = refl; gives = e })

-- ---- the last three parts

three : (a : Option Senders) (b : Option Users) (c : Option (List ℕ)) (x : Senders) (y : Users) (z : List ℕ) → a ≡ Some x → b ≡ Some y → c ≡ Some z → all_three a b c ≡ Some (x, y, z)
three a b c x y z ea eb ec = rw (ea, eb, ec) refl

some_same : (f g : Fields) → Some f ≡ Some g → f ≡ g
some_same f g e = cc

three_read : (a : Option Senders) (b : Option Users) (c : Option (List ℕ)) (f : Fields) → all_three a b c ≡ Some f → (a ≡ Some f.0) × (b ≡ Some f.1) × (c ≡ Some f.2)
three_read (Some x) (Some y) (Some z) f e =
    let is = some_same (x, y, z) f e in
    (ap (λ (g : Fields). Some g.0) is, ap (λ (g : Fields). Some g.1) is, ap (λ (g : Fields). Some g.2) is)
three_read (Some x) (Some y) None f e = absurd cc
three_read (Some x) None c f e = absurd cc
three_read None b c f e = absurd cc

fields_again : (r : Rule) → is_rule r ≡ true → fields_of (senders_word r.from ∷ users_word r.who ∷ r.prefix ∷ []) ≡ Some (r.from, r.who, r.prefix)
fields_again r is =
    let parts = and_parts (senders_fit r.from && users_fit r.who) (is_path r.prefix) is in
    let front = and_parts (senders_fit r.from) (users_fit r.who) parts.0 in
    three (senders_named (senders_word r.from)) (users_named (users_word r.who)) (path_named r.prefix) r.from r.who r.prefix
    (senders_again r.from front.0) (users_again r.who front.1) (path_again r.prefix parts.1)

record AreFields (words : List (List ℕ)) (f : Fields) : Type 0 where
  words_are : words ≡ senders_word f.0 ∷ users_word f.1 ∷ f.2 ∷ []
  fit : (senders_fit f.0 && users_fit f.1 && is_path f.2) ≡ true

fields_read : (words : List (List ℕ)) (f : Fields) → fields_of words ≡ Some f → AreFields words f
fields_read [] f e = absurd cc
fields_read (a ∷ []) f e = absurd cc
fields_read (a ∷ b ∷ []) f e = absurd cc
fields_read (a ∷ b ∷ c ∷ []) f e =
    let parts = three_read (senders_named a) (users_named b) (path_named c) f e in
    let from = senders_read a f.0 parts.0 in
    let who = users_read b f.1 parts.1 in
    let prefix = path_read c f.2 parts.2 in
    let first : a ≡ senders_word f.0 = from.0 in
    let second : b ≡ users_word f.1 = who.0 in
    let last : c ≡ f.2 = prefix.0 in
    record {
      words_are = cc;
      fit = and_from (senders_fit f.0 && users_fit f.1) (is_path f.2) (and_from (senders_fit f.0) (users_fit f.1) from.1 who.1) prefix.1;
    }
fields_read (a ∷ b ∷ c ∷ d ∷ more) f e = absurd cc

-- ---- whole lines

pub rule_again : (n : ℕ) (r : Rule) → is_rule r ≡ true → rule_at n (rule_words r) ≡ Ok r
rule_again n r is =
    wanted_is (refusal.BadVerb n) (verb_named (verb_word r.verb)) r.verb (λ verb. rule_after n verb (kinds_word r.kind ∷ senders_word r.from ∷ users_word r.who ∷ r.prefix ∷ [])) (verb_again r.verb)
    ∙ wanted_is (refusal.BadKind n) (kinds_named (kinds_word r.kind)) r.kind (λ kind. rule_behind n r.verb kind (senders_word r.from ∷ users_word r.who ∷ r.prefix ∷ [])) (kinds_again r.kind)
    ∙ wanted_is (refusal.BadField n) (fields_of (senders_word r.from ∷ users_word r.who ∷ r.prefix ∷ [])) (r.from, r.who, r.prefix)
    (λ f. Ok (record { verb = r.verb; kind = r.kind; from = f.0; who = f.1; prefix = f.2 })) (fields_again r is)

-- the words are this rule's
pub record AreOf (words : List (List ℕ)) (r : Rule) : Type 0 where
  pub words_are : words ≡ rule_words r
  pub fit : is_rule r ≡ true

made_of : (words : List (List ℕ)) (r s : Rule) → r ≡ s → AreOf words r → AreOf words s
made_of words r s e are = let P : Rule → Type 0 = λ v. AreOf words v in subst P e are

same_ok : (r s : Rule) → ◌≡◌ {A = Result Rule RulesRefused} (Ok r) (Ok s) → r ≡ s
same_ok r s e = cc

built : Verb → Kinds → Fields → Rule
built verb kind f = record { verb = verb; kind = kind; from = f.0; who = f.1; prefix = f.2 }

rule_built : (word second : List ℕ) (words : List (List ℕ)) (verb : Verb) (kind : Kinds) (f : Fields) → word ≡ verb_word verb → second ≡ kinds_word kind → AreFields words f → AreOf (word ∷ second ∷ words) (built verb kind f)
unfolding built
rule_built word second words verb kind f first next are =
    let rest = are.words_are in
    record { words_are = cc; fit = are.fit }

pub rule_read : (n : ℕ) (words : List (List ℕ)) (r : Rule) → rule_at n words ≡ Ok r → AreOf words r
unfolding built
rule_read n [] r e = absurd cc
rule_read n (word ∷ []) r e =
    let verb = wanted_ok (refusal.BadVerb n) (verb_named word) (λ verb. rule_after n verb []) r e in
    let none : Err (refusal.BadField n) ≡ Ok r = verb.gives in
    absurd cc
rule_read n (word ∷ second ∷ words) r e =
    let verb = wanted_ok (refusal.BadVerb n) (verb_named word) (λ verb. rule_after n verb (second ∷ words)) r e in
    let kind = wanted_ok (refusal.BadKind n) (kinds_named second) (λ kind. rule_behind n verb.part kind words) r verb.gives in
    let fields = wanted_ok (refusal.BadField n) (fields_of words) (λ f. Ok (built verb.part kind.part f)) r kind.gives in
    made_of (word ∷ second ∷ words) (built verb.part kind.part fields.part) r (same_ok (built verb.part kind.part fields.part) r fields.gives)
    (rule_built word second words verb.part kind.part fields.part (verb_read word verb.part verb.is) (kinds_read second kind.part kind.is) (fields_read words fields.part fields.is))

pub read_form : (n : ℕ) (words : List (List ℕ)) (r : Rule) → rule_at n words ≡ Ok r → is_rule r ≡ true
read_form n words r e = (rule_read n words r e).fit

-- ---- lines that are refused

pub is_a_rule : (n : ℕ) (words : List (List ℕ)) (r : Rule) → rule_at n words ≡ Ok r → AreRule words
is_a_rule n words r e = let are = rule_read n words r e in (r, are.fit, are.words_are)

not_both : {X : Type 0} (x : X) (why : RulesRefused) (r : Result X RulesRefused) → r ≡ Ok x → r ≡ Err why → ⊥
not_both {X = X} x why r ok err = let e : ◌≡◌ {A = Result X RulesRefused} (Ok x) (Err why) = sym ok ∙ err in cc

no_rule : (n : ℕ) (words : List (List ℕ)) (why : RulesRefused) → rule_at n words ≡ Err why → ¬ AreRule words
no_rule n words why e is =
    let read : rule_at n words ≡ Ok is.0 = ap (λ ws. rule_at n ws) is.2 ∙ rule_again n is.0 is.1 in
    not_both is.0 why (rule_at n words) read e

no_verb : (word : List ℕ) (words : List (List ℕ)) → verb_named word ≡ None → ¬ HasVerb (word ∷ words)
no_verb word words none has =
    let some : verb_named word ≡ Some has.0 = ap verb_named has.1 ∙ verb_again has.0 in
    let e : Some has.0 ≡ None = sym some ∙ none in
    cc

no_kind : (word second : List ℕ) (words : List (List ℕ)) → kinds_named second ≡ None → ¬ HasKind (word ∷ second ∷ words)
no_kind word second words none has =
    let some : kinds_named second ≡ Some has.0 = ap kinds_named has.1 ∙ kinds_again has.0 in
    let e : Some has.0 ≡ None = sym some ∙ none in
    cc

-- what is wrong with the words of a line of this number
pub record IsWrongAt (n before : ℕ) (words : List (List ℕ)) (why : RulesRefused) : Type 0 where
  pub wrong : IsWrong before words why
  pub line : line_refused why ≡ n

pub wrong_is : (n before : ℕ) (words : List (List ℕ)) (this why : RulesRefused) → this ≡ why → IsWrongAt n before words this → IsWrongAt n before words why
wrong_is n before words this why e is = let P : RulesRefused → Type 0 = λ v. IsWrongAt n before words v in subst P e is

same_err : {X : Type 0} (a b : RulesRefused) → ◌≡◌ {A = Result X RulesRefused} (Err a) (Err b) → a ≡ b
same_err a b e = cc

fields_wrong : (n before : ℕ) (word second : List ℕ) (words : List (List ℕ)) (verb : Verb) (kind : Kinds) (why : RulesRefused) → rule_at n (word ∷ second ∷ words) ≡ Err why → verb_named word ≡ Some verb → kinds_named second ≡ Some kind → rule_behind n verb kind words ≡ Err why → IsWrongAt n before (word ∷ second ∷ words) why
fields_wrong n before word second words verb kind why e is_verb is_kind behind =
    elim (wanted_err (refusal.BadField n) (fields_of words) (λ f. Ok (record { verb = verb; kind = kind; from = f.0; who = f.1; prefix = f.2 })) why behind) [
      | inl none ↦
          wrong_is n before (word ∷ second ∷ words) (refusal.BadField n) why none.1
          (record { wrong = ((verb, verb_read word verb is_verb), (kind, kinds_read second kind is_kind), no_rule n (word ∷ second ∷ words) why e); line = refl })
      | inr went ↦ (let e = went.gives in absurd cc)
    ]

kind_wrong : (n before : ℕ) (word : List ℕ) (words : List (List ℕ)) (verb : Verb) (why : RulesRefused) → rule_at n (word ∷ words) ≡ Err why → verb_named word ≡ Some verb → rule_after n verb words ≡ Err why → IsWrongAt n before (word ∷ words) why
kind_wrong n before word [] verb why e is after =
    let this : refusal.BadField n ≡ why = same_err {X = Rule} (refusal.BadField n) why after in
    wrong_is n before (word ∷ []) (refusal.BadField n) why this
    (record { wrong = ((verb, verb_read word verb is), tt, no_rule n (word ∷ []) why e); line = refl })
kind_wrong n before word (second ∷ words) verb why e is after =
    elim (wanted_err (refusal.BadKind n) (kinds_named second) (λ kind. rule_behind n verb kind words) why after) [
      | inl none ↦
          wrong_is n before (word ∷ second ∷ words) (refusal.BadKind n) why none.1
          (record { wrong = ((verb, verb_read word verb is), no_kind word second words none.0); line = refl })
      | inr went ↦ fields_wrong n before word second words verb went.part why e is went.is went.gives
    ]

pub rule_wrong : (n before : ℕ) (words : List (List ℕ)) (why : RulesRefused) → rule_at n words ≡ Err why → IsWrongAt n before words why
rule_wrong n before [] why e =
    wrong_is n before [] (refusal.BadVerb n) why (same_err {X = Rule} (refusal.BadVerb n) why e) (record { wrong = λ h. h; line = refl })
rule_wrong n before (word ∷ words) why e =
    elim (wanted_err (refusal.BadVerb n) (verb_named word) (λ verb. rule_after n verb words) why e) [
      | inl none ↦
          wrong_is n before (word ∷ words) (refusal.BadVerb n) why none.1 (record { wrong = no_verb word words none.0; line = refl })
      | inr went ↦ kind_wrong n before word words went.part why e went.is went.gives
    ]

-- ---- a line is wrong in one way

rule_verb : (words : List (List ℕ)) → AreRule words → HasVerb words
rule_verb [] is = let e = is.2 in absurd cc
rule_verb (word ∷ words) is = let e = is.2 in let first : word ≡ verb_word is.0.verb = cc in (is.0.verb, first)

rule_kind : (words : List (List ℕ)) → AreRule words → HasKind words
rule_kind [] is = tt
rule_kind (word ∷ []) is = tt
rule_kind (word ∷ second ∷ words) is = let e = is.2 in let next : second ≡ kinds_word is.0.kind = cc in (is.0.kind, next)

-- the ways in their order: each but the first goes with what the ones before it lack
pub wrong_once : (before : ℕ) (words : List (List ℕ)) (p q : RulesRefused) → IsWrong before words p → IsWrong before words q → line_refused p ≡ line_refused q → p ≡ q
wrong_once before words refusal.NoMemory q wp wq e = absurd wp
wrong_once before words p refusal.NoMemory wp wq e = absurd wq
wrong_once before words (refusal.BadVerb m) (refusal.BadVerb n) wp wq e = ap refusal.BadVerb e
wrong_once before words (refusal.BadVerb m) (refusal.BadKind n) wp wq e = absurd (wp wq.0)
wrong_once before words (refusal.BadVerb m) (refusal.BadField n) wp wq e = absurd (wp wq.0)
wrong_once before words (refusal.BadVerb m) (refusal.TooMany n) wp wq e = absurd (wp (rule_verb words wq.0))
wrong_once before words (refusal.BadKind m) (refusal.BadVerb n) wp wq e = absurd (wq wp.0)
wrong_once before words (refusal.BadKind m) (refusal.BadKind n) wp wq e = ap refusal.BadKind e
wrong_once before words (refusal.BadKind m) (refusal.BadField n) wp wq e = absurd (wp.1 wq.1)
wrong_once before words (refusal.BadKind m) (refusal.TooMany n) wp wq e = absurd (wp.1 (rule_kind words wq.0))
wrong_once before words (refusal.BadField m) (refusal.BadVerb n) wp wq e = absurd (wq wp.0)
wrong_once before words (refusal.BadField m) (refusal.BadKind n) wp wq e = absurd (wq.1 wp.1)
wrong_once before words (refusal.BadField m) (refusal.BadField n) wp wq e = ap refusal.BadField e
wrong_once before words (refusal.BadField m) (refusal.TooMany n) wp wq e = absurd (wp.2 wq.0)
wrong_once before words (refusal.TooMany m) (refusal.BadVerb n) wp wq e = absurd (wq (rule_verb words wp.0))
wrong_once before words (refusal.TooMany m) (refusal.BadKind n) wp wq e = absurd (wq.1 (rule_kind words wp.0))
wrong_once before words (refusal.TooMany m) (refusal.BadField n) wp wq e = absurd (wq.2 wp.0)
wrong_once before words (refusal.TooMany m) (refusal.TooMany n) wp wq e = ap refusal.TooMany e

-- a rule's words are wrong only where the rule is one too many
pub only_full : (before : ℕ) (words : List (List ℕ)) (why : RulesRefused) → AreRule words → IsWrong before words why → (before ≡ 256) × (refusal.TooMany (line_refused why) ≡ why)
only_full before words refusal.NoMemory is wrong = absurd wrong
only_full before words (refusal.BadVerb n) is wrong = absurd (wrong (rule_verb words is))
only_full before words (refusal.BadKind n) is wrong = absurd (wrong.1 (rule_kind words is))
only_full before words (refusal.BadField n) is wrong = absurd (wrong.2 is)
only_full before words (refusal.TooMany n) is wrong = (wrong.1, refl)
