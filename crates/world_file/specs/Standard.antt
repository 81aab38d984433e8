-- The worlds that come with the program, as an operator would write them.
use Rattle.std.specs.Prelude.{ℕ, List, [], ◌∷◌, Option, Some, None, Ok, Err, if◌then◌else◌, codes, map}
use Rattle.lang_base.specs.Texts.{same_text}
use Rattle.world_file.specs.declared.setup.Setup.{Setup}
use Rattle.world_file.specs.Fields.{Fields, Read}
use Rattle.world_file.specs.Programs.{askbot_text, bank_text, dpaste_text, notes_text, oauth_text, shop_text}
use Rattle.world_file.specs.Worlds.{Outcome, joined, members_behind}

-- what a world file would say of a service with this program at this door, which allows every repair
abbrev pub standard : List ℕ → List ℕ → List ℕ → Fields
standard name program door = record {
  name = name;
  program = program;
  rules = codes "allow any any any /";
  secret = codes "s";
  console = codes "c";
  door = door;
  workers = 4;
  weight = 1000000000;
  keep = None;
}

-- a service that keeps notes
abbrev pub notes : List Fields
notes = standard (codes "notes") notes_text (codes "127.0.0.1:8101") ∷ []

-- a shop, and the bank at which what it sells is paid
abbrev pub shops : List Fields
shops =
    standard (codes "shop") shop_text (codes "127.0.0.1:8101")
    ∷ standard (codes "bank") bank_text (codes "127.0.0.1:8102") ∷ []

-- a service that knows users, one that keeps their questions, and one at which these are pasted
abbrev pub posts : List Fields
posts =
    standard (codes "oauth") oauth_text (codes "127.0.0.1:8101")
    ∷ standard (codes "askbot") askbot_text (codes "127.0.0.1:8102")
    ∷ standard (codes "dpaste") dpaste_text (codes "127.0.0.1:8103") ∷ []

abbrev pub good : Fields → Read Fields
good fields = Ok fields

-- the world of services with these fields, where they spell one
abbrev pub world_where : Outcome (List Setup) → Option (List Setup)
world_where (Ok world) = Some world
world_where (Err refused) = None

abbrev pub world_of_fields : List Fields → Option (List Setup)
world_of_fields services = world_where (joined (members_behind [] (map good services)))

-- the world that comes with the program under this word
unfoldable pub built_in : List ℕ → Option (List Setup)
built_in word =
    if same_text word (codes "@notes") then world_of_fields notes
    else (if same_text word (codes "@shops") then world_of_fields shops
    else (if same_text word (codes "@posts") then world_of_fields posts
    else None))
