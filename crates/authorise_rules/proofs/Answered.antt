-- What an answer says of its text, where memory sufficed.
use Rattle.std.proofs.Common.{◌≡◌, ℕ, true, List, Result, Ok, Err, subst}
use Rattle.lang_base.specs.Memory.{Unless}
use Rattle.authorise_rules.specs.Forms.{rules_fit}
use Rattle.authorise_rules.specs.Reading.{Answers, is_memory, read_of}
use Rattle.authorise_rules.specs.Refusals.{Refuses}
use Rattle.authorise_rules.specs.Spelled.{Spells}
use Rattle.authorise_rules.specs.declared.refused.RulesRefused.{RulesRefused}
use Rattle.authorise_rules.specs.declared.refused.RulesRefused.TheVariants as refusal
use Rattle.authorise_rules.specs.declared.rule.Rule.{Rule}
use Rattle.authorise_rules.proofs.Lines.{read_only, read_spells}
use Rattle.authorise_rules.proofs.Wrongs.{first_refused, refused_first}

pub found_spells : (text : List ℕ) (rules : List Rule) → read_of text ≡ Ok rules → Spells text rules
found_spells text rules e = read_spells text rules e

pub only_answer : (answer : Result (List Rule) RulesRefused) (text : List ℕ) (rules : List Rule) → Answers answer (read_of text) → rules_fit rules ≡ true → Spells text rules → Answers answer (Ok rules)
only_answer answer text rules a fit spelled =
    let P : Result (List Rule) RulesRefused → Type 0 = λ r. Answers answer r in
    subst P (read_only text rules fit spelled) a

pub refused_answer : (answer : Result (List Rule) RulesRefused) (text : List ℕ) (why : RulesRefused) → Answers answer (read_of text) → Refuses text why → Answers answer (Err why)
refused_answer answer text why a refuses =
    let P : Result (List Rule) RulesRefused → Type 0 = λ r. Answers answer r in
    subst P (first_refused text why refuses) a

pub first_wrong : (text : List ℕ) (why : RulesRefused) → Answers {X = List Rule} (Err why) (read_of text) → Unless (is_memory why) (Refuses text why) (Unit {0})
first_wrong text refusal.NoMemory a = tt
first_wrong text (refusal.BadVerb n) a = refused_first text (refusal.BadVerb n) a
first_wrong text (refusal.BadKind n) a = refused_first text (refusal.BadKind n) a
first_wrong text (refusal.BadField n) a = refused_first text (refusal.BadField n) a
first_wrong text (refusal.TooMany n) a = refused_first text (refusal.TooMany n) a
