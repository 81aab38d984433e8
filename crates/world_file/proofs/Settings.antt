-- Two settings with the same fields are the same.
use Rattle.std.proofs.Common.{◌≡◌, ℕ, List, Option, refl}
use Rattle.authorise_rules.specs.Given.{GivenRules}
use Rattle.lang_core.specs.contracts.setting.Setting.{the_row}
use Rattle.lang_core.specs.declared.setting.Setting.{Setting}
use Rattle.world_file.specs.Peers.{others}
use Rattle.world_file.specs.Worlds.{Member, member_name, setup_of}

pub same_setting : (a b : Setting) → a.me ≡ b.me → a.peers ≡ b.peers → a.program ≡ b.program → a.weight ≡ b.weight → a ≡ b
same_setting a b me peers program weight = the_row.coded.inj a b (cc)

-- a service among others, by its parts
pub set_up_is : (setting : Setting) (rules : GivenRules) (secret console door : List ℕ) (workers : ℕ) (keep : Option ℕ) (names : List (List ℕ)) (m : Member) → setting.me ≡ member_name m → setting.peers ≡ others (member_name m) names → setting.program ≡ m.program
    → setting.weight ≡ m.fields.weight → rules ≡ m.rules → secret ≡ m.fields.secret → console ≡ m.fields.console → door ≡ m.fields.door → workers ≡ m.fields.workers → keep ≡ m.fields.keep
    → record { setting = setting; rules = rules; secret = secret; console = console; door = door; workers = workers; keep = keep } ≡ setup_of names m
set_up_is setting rules secret console door workers keep names m me peers program weight allows first second address count kept =
    let same : setting ≡ (setup_of names m).setting = same_setting setting (setup_of names m).setting me peers program weight in
    rw (same, allows, first, second, address, count, kept) refl
