-- The world `@posts` is there, and its services have these names.
use Rattle.std.proofs.Common.{◌≡◌, ℕ, true, false, List, [], ◌∷◌, ◌++◌, map, Option, Some, None, IsSome, option_map, Result, Ok, Err, is_ok, refl, ap, sym, subst, ◌∙◌, codes}
use Rattle.lang_tree.specs.declared.program.Route.{Route}
use Rattle.handler_lang.specs.Reading.{read_of}
use Rattle.handler_lang.specs.declared.refused.ProgramRefused.{ProgramRefused}
use Rattle.authorise_rules.specs.Given.{GivenRules, given_of as rules_of}
use Rattle.authorise_rules.specs.declared.refused.RulesRefused.{RulesRefused}
use Rattle.world_file.specs.Fields.{Fields}
use Rattle.world_file.specs.Programs.{askbot_text, dpaste_text, oauth_text}
use Rattle.world_file.specs.Standard.{built_in, good, posts, standard, world_of_fields, world_where}
use Rattle.world_file.specs.Worlds.{Member, Outcome, is_taken, joined, member_name, member_of, members_behind, name_of, setup_of, with_member, with_program, with_rules, world_with}
use Rattle.world_file.specs.declared.setup.Setup.{Setup}
use Rattle.aire_top.proofs.ProgramsThere.{askbot_there, dpaste_there, oauth_there, rules_there}

names_same : (names : List (List ℕ)) (members : List Member) → map name_of (map (setup_of names) members) ≡ map member_name members
names_same names [] = refl
names_same names (m ∷ members) = ap (λ (more : List (List ℕ)). member_name m ∷ more) (names_same names members)

-- ---- a service

-- it is read, and has the name of its fields
record IsRead (earlier : List Member) (fields : Fields) : Type 0 where
  member : Member
  read : member_of earlier (Ok fields) ≡ Ok member
  named : member_name member ≡ fields.name

rules_good : (fields : Fields) (routes : List Route) (rules : Result GivenRules RulesRefused) → is_ok rules ≡ true → (m : Member) × (with_rules fields routes rules ≡ Ok m) × (member_name m ≡ fields.name)
rules_good fields routes (Ok rules) h = (record { fields = fields; program = routes; rules = rules }, refl, refl)
rules_good fields routes (Err why) h = cc

program_good : (fields : Fields) (program : Result (List Route) ProgramRefused) → is_ok program ≡ true → is_ok (rules_of fields.rules) ≡ true → (m : Member) × (with_program fields program ≡ Ok m) × (member_name m ≡ fields.name)
program_good fields (Ok routes) h rules = rules_good fields routes (rules_of fields.rules) rules
program_good fields (Err why) h rules = cc

is_read : (earlier : List Member) (fields : Fields) → is_taken earlier fields.name ≡ false → is_ok (read_of fields.program) ≡ true → is_ok (rules_of fields.rules) ≡ true → IsRead earlier fields
is_read earlier fields free program rules =
    let m = program_good fields (read_of fields.program) program rules in
    record { member = m.0; read = rw free m.1; named = m.2 }

-- ---- services behind one another

read_on : (earlier : List Member) (fields : Fields) (more : List Fields) (members : List Member) (r : IsRead earlier fields) → members_behind (earlier ++ r.member ∷ []) (map good more) ≡ Ok members → members_behind earlier (map good (fields ∷ more)) ≡ Ok members
read_on earlier fields more members r rest =
    let next : List Member → Outcome (List Member) = λ now. members_behind now (map good more) in
    ap (λ (o : Outcome Member). with_member earlier o next) r.read ∙ rest

world_is : (services : List Fields) (members : List Member) → members_behind [] (map good services) ≡ Ok members → world_of_fields services ≡ Some (world_with members)
world_is services members read = ap (λ (o : Outcome (List Member)). world_where (joined o)) read

-- ---- the world

abbrev oauth : Fields
oauth = standard (codes "oauth") oauth_text (codes "127.0.0.1:8101")

abbrev askbot : Fields
askbot = standard (codes "askbot") askbot_text (codes "127.0.0.1:8102")

abbrev dpaste : Fields
dpaste = standard (codes "dpaste") dpaste_text (codes "127.0.0.1:8103")

oauth_read : IsRead [] oauth
oauth_read = is_read [] oauth refl oauth_there rules_there

askbot_read : IsRead (oauth_read.member ∷ []) askbot
askbot_read = is_read (oauth_read.member ∷ []) askbot (rw oauth_read.named refl) askbot_there rules_there

dpaste_read : IsRead (oauth_read.member ∷ askbot_read.member ∷ []) dpaste
dpaste_read = is_read (oauth_read.member ∷ askbot_read.member ∷ []) dpaste (rw (oauth_read.named, askbot_read.named) refl) dpaste_there rules_there

abbrev posts_members : List Member
posts_members = oauth_read.member ∷ askbot_read.member ∷ dpaste_read.member ∷ []

posts_world : world_of_fields posts ≡ Some (world_with posts_members)
posts_world =
    let last = read_on (oauth_read.member ∷ askbot_read.member ∷ []) dpaste [] posts_members dpaste_read refl in
    let second = read_on (oauth_read.member ∷ []) askbot (dpaste ∷ []) posts_members askbot_read last in
    world_is posts posts_members (read_on [] oauth (askbot ∷ dpaste ∷ []) posts_members oauth_read second)

-- ---- under its word

posts_there : built_in (codes "@posts") ≡ Some (world_with posts_members)
unfolding built_in
posts_there = posts_world

same_world : (world other : List Setup) (o : Option (List Setup)) → o ≡ Some world → o ≡ Some other → world ≡ other
same_world world other o is also = let e : Some world ≡ Some other = sym is ∙ also in cc

pub posts_named : (setups : List Setup) → built_in (codes "@posts") ≡ Some setups → map name_of setups ≡ codes "oauth" ∷ codes "askbot" ∷ codes "dpaste" ∷ []
posts_named setups is =
    let N : List Setup → Type 0 = λ world. map name_of world ≡ codes "oauth" ∷ codes "askbot" ∷ codes "dpaste" ∷ [] in
    subst N (same_world (world_with posts_members) setups (built_in (codes "@posts")) posts_there is)
    (names_same (map member_name posts_members) posts_members ∙ rw (oauth_read.named, askbot_read.named, dpaste_read.named) refl)

-- what is the world of that word is there
pub is_there : {X : Type 0} (f : X → List Setup) (o : Option X) → option_map f o ≡ built_in (codes "@posts") → IsSome o
is_there f None told = let e : None ≡ Some (world_with posts_members) = told ∙ posts_there in cc
is_there f (Some x) told = refl
