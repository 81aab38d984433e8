-- The forms of rules and of their parts.
use Rattle.std.specs.Prelude.{ℕ, Bool, true, ◌&&◌, not, List, nat_le, length, codes}
use Rattle.std.specs.List.{list_all}
use Rattle.lang_base.specs.Texts.{same_text}
use Rattle.lang_tree.specs.Forms.{is_path}
use Rattle.lang_core.specs.Names.{is_name, is_who}
use Rattle.authorise_rules.specs.declared.rule.Rule.{Rule}
use Rattle.authorise_rules.specs.declared.rule.Senders.{Senders}
use Rattle.authorise_rules.specs.declared.rule.Senders.TheVariants as senders
use Rattle.authorise_rules.specs.declared.rule.Users.{Users}
use Rattle.authorise_rules.specs.declared.rule.Users.TheVariants as users

-- a service that rules can name: one that isn't named by a word with a meaning of its own
abbrev pub is_sender_name : List ℕ → Bool
is_sender_name name = is_name name && not (same_text name (codes "any")) && not (same_text name (codes "console"))

abbrev pub senders_fit : Senders → Bool
senders_fit senders.Any = true
senders_fit senders.Console = true
senders_fit (senders.Only name) = is_sender_name name

abbrev pub users_fit : Users → Bool
users_fit users.Any = true
users_fit users.Same = true
users_fit (users.Only user) = is_who user

-- each part of a rule is of its form
abbrev pub is_rule : Rule → Bool
is_rule r = senders_fit r.from && users_fit r.who && is_path r.prefix

-- at most 256 rules
abbrev pub rules_fit : List Rule → Bool
rules_fit rules = nat_le (length rules) 256 && list_all is_rule rules
