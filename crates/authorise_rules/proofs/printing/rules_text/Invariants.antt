use Rattle.std.proofs.Common.{◌≡◌, take}
use Rattle.std.specs.String.{string_bytes}
use Rattle.authorise_rules.specs.Spelled.{text_of}
use Rattle.authorise_rules.proofs.printing.rules_text.Given as goal

abbrev pub invariant-loop-rule : goal.invariant-loop-rule
invariant-loop-rule l = string_bytes l.text ≡ text_of (take l.rule-index l.rules)
