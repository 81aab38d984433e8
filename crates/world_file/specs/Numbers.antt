-- What is told of a refusal.
use Rattle.std.specs.Prelude.{ℕ, List, ◌++◌, codes, decimal}
use Rattle.handler_lang.specs.Numbers.{refusal_number as program_number}
use Rattle.authorise_rules.specs.Reading.{refusal_number as rules_number}
use Rattle.authorise_rules.specs.Refusals.{line_refused}
use Rattle.order_texts.specs.Texts.{place_refused}
use Rattle.world_file.specs.Fields.{field_word}
use Rattle.world_file.specs.declared.refused.WorldRefused.{WorldRefused}
use Rattle.world_file.specs.declared.refused.WorldRefused.TheVariants as refusal

abbrev pub refusal_number : WorldRefused → ℕ
refusal_number refusal.NoMemory = 0
refusal_number refusal.NotJson = 1
refusal_number (refusal.Missing field) = 2
refusal_number (refusal.BadField field) = 3
refusal_number (refusal.Twice name) = 4
refusal_number refusal.TooMany = 5
refusal_number (refusal.Program name refused) = 6
refusal_number (refusal.Rules name refused) = 7

-- the refusal's number, and what it is about, each behind a space
abbrev pub refusal_text : WorldRefused → List ℕ
refusal_text refusal.NoMemory = codes "0"
refusal_text refusal.NotJson = codes "1"
refusal_text (refusal.Missing field) = codes "2 " ++ field_word field
refusal_text (refusal.BadField field) = codes "3 " ++ field_word field
refusal_text (refusal.Twice name) = codes "4 " ++ name
refusal_text refusal.TooMany = codes "5"
refusal_text (refusal.Program name refused) =
    codes "6 " ++ (name ++ (codes " " ++ (decimal (program_number refused) ++ (codes " " ++ decimal (place_refused refused)))))
refusal_text (refusal.Rules name refused) =
    codes "7 " ++ (name ++ (codes " " ++ (decimal (rules_number refused) ++ (codes " " ++ decimal (line_refused refused)))))
