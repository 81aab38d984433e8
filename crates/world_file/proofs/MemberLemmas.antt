-- Services that are read one after another, and the world that they make.
use Rattle.std.proofs.Common.{◌≡◌, ℕ, Bool, true, false, ◌||◌, List, [], ◌∷◌, ◌++◌, map, All, Result, Ok, Err, refl, sym, ap, ◌∙◌, subst}
use Rattle.std.specs.List.{AllByRecursion, IsDistinct}
use Rattle.std.proofs.lemmas.List.Elements.{All-cons, All-nil}
use Rattle.lang_base.specs.Texts.{same_text}
use Rattle.lang_tree.specs.declared.program.Route.{Route}
use Rattle.authorise_rules.specs.Given.{GivenRules, given_of}
use Rattle.authorise_rules.specs.declared.refused.RulesRefused.{RulesRefused}
use Rattle.handler_lang.specs.Reading.{read_of}
use Rattle.handler_lang.specs.declared.refused.ProgramRefused.{ProgramRefused}
use Rattle.world_file.specs.Fields.{Fields, Read}
use Rattle.world_file.specs.Worlds.{IsAmong, KnowEachOther, Member, Outcome, is_taken, joined, member_name, member_of, members_behind, name_of, setup_of, with_member, with_program, with_rules, world_with}
use Rattle.world_file.specs.declared.refused.WorldRefused.TheVariants.{Twice}
use Rattle.world_file.specs.declared.setup.Setup.{Setup}

-- ---- no two services have one name

apart_more : (x y : List ℕ) (ys : List (List ℕ)) → AllByRecursion (λ z. same_text x z ≡ false) ys → same_text x y ≡ false → AllByRecursion (λ z. same_text x z ≡ false) (ys ++ y ∷ [])
apart_more x y [] all differs = (differs, all)
apart_more x y (z ∷ ys) all differs = (all.0, apart_more x y ys all.1 differs)

both_false : (a b : Bool) → (a || b) ≡ false → (a ≡ false) × (b ≡ false)
both_false true b e = cc
both_false false b e = (refl, e)

-- a name that none of these is, behind them
distinct_more : (members : List Member) (m : Member) → IsDistinct same_text (map member_name members) → is_taken members (member_name m) ≡ false → IsDistinct same_text (map member_name (members ++ m ∷ []))
unfolding IsDistinct
distinct_more [] m apart free = (tt, tt)
distinct_more (first ∷ members) m apart free =
    let parts = both_false (same_text (member_name first) (member_name m)) (is_taken members (member_name m)) free in
    let N : List (List ℕ) → Type 0 = λ names. AllByRecursion (λ z. same_text (member_name first) z ≡ false) names in
    (subst N (sym (map_more members m)) (apart_more (member_name first) (member_name m) (map member_name members) apart.0 parts.0), distinct_more members m apart.1 parts.1)
  where
    map_more : (ms : List Member) (m : Member) → map member_name (ms ++ m ∷ []) ≡ map member_name ms ++ member_name m ∷ []
    map_more [] m = refl
    map_more (x ∷ ms) m = ap (λ (names : List (List ℕ)). member_name x ∷ names) (map_more ms m)

-- the name of a service that was read is free
by_rules : (fields : Fields) (routes : List Route) (rules : Result GivenRules RulesRefused) (m : Member) → with_rules fields routes rules ≡ Ok m → m.fields ≡ fields
by_rules fields routes (Ok rules) m e = let same : ◌≡◌ {A = Member} (record { fields = fields; program = routes; rules = rules }) m = cc in sym (ap (λ (x : Member). x.fields) same)
by_rules fields routes (Err refused) m e = cc

by_program : (fields : Fields) (program : Result (List Route) ProgramRefused) (m : Member) → with_program fields program ≡ Ok m → m.fields ≡ fields
by_program fields (Ok routes) m e = by_rules fields routes (given_of fields.rules) m e
by_program fields (Err refused) m e = cc

by_name : (taken : Bool) (earlier : List Member) (fields : Fields) (m : Member) → is_taken earlier fields.name ≡ taken → member_of earlier (Ok fields) ≡ Ok m → is_taken earlier (member_name m) ≡ false
by_name true earlier fields m e is = let no : member_of earlier (Ok fields) ≡ Err (Twice fields.name) = rw e refl in cc
by_name false earlier fields m e is =
    let there : with_program fields (read_of fields.program) ≡ Ok m = rw e at is in
    ap (λ (f : Fields). is_taken earlier f.name) (by_program fields (read_of fields.program) m there) ∙ e

name_free : (earlier : List Member) (read : Read Fields) (m : Member) → member_of earlier read ≡ Ok m → is_taken earlier (member_name m) ≡ false
name_free earlier (Ok fields) m is = by_name (is_taken earlier fields.name) earlier fields m refl is
name_free earlier (Err fault) m is = cc

going_on : (earlier members : List Member) (o : Outcome Member) (next : List Member → Outcome (List Member)) → ((m : Member) → o ≡ Ok m → is_taken earlier (member_name m) ≡ false) → IsDistinct same_text (map member_name earlier) → with_member earlier o next ≡ Ok members
    → ((now : List Member) → IsDistinct same_text (map member_name now) → next now ≡ Ok members → IsDistinct same_text (map member_name members)) → IsDistinct same_text (map member_name members)
going_on earlier members (Ok m) next free apart is rest = rest (earlier ++ m ∷ []) (distinct_more earlier m apart (free m refl)) is
going_on earlier members (Err refused) next free apart is rest = cc

behind_apart : (reads : List (Read Fields)) (earlier members : List Member) → IsDistinct same_text (map member_name earlier) → members_behind earlier reads ≡ Ok members → IsDistinct same_text (map member_name members)
behind_apart [] earlier members apart is = let same : earlier ≡ members = cc in let D : List Member → Type 0 = λ ms. IsDistinct same_text (map member_name ms) in subst D same apart
behind_apart (read ∷ more) earlier members apart is =
    going_on earlier members (member_of earlier read) (λ now. members_behind now more) (name_free earlier read) apart is (λ now h. behind_apart more now members h)

-- ---- each has the others as its peers

names_same : (names : List (List ℕ)) (members : List Member) → map name_of (map (setup_of names) members) ≡ map member_name members
names_same names [] = refl
names_same names (m ∷ members) = ap (λ (more : List (List ℕ)). member_name m ∷ more) (names_same names members)

all_among : (names : List (List ℕ)) (members : List Member) → All (IsAmong names) (map (setup_of names) members)
all_among names [] = All-nil (IsAmong names)
all_among names (m ∷ members) = All-cons (IsAmong names) (setup_of names m) (map (setup_of names) members) refl (all_among names members)

members_know : (members : List Member) → IsDistinct same_text (map member_name members) → KnowEachOther (world_with members)
members_know members apart =
    let names = map member_name members in
    let same = sym (names_same names members) in
    let D : List (List ℕ) → Type 0 = λ ns. IsDistinct same_text ns in
    let A : List (List ℕ) → Type 0 = λ ns. All (IsAmong ns) (world_with members) in
    record { apart = subst D same apart; peers = subst A same (all_among names members) }

-- the services of a world know each other
joined_know : (reads : List (Read Fields)) (o : Outcome (List Member)) (world : List Setup) → members_behind [] reads ≡ o → joined o ≡ Ok world → KnowEachOther world
unfolding IsDistinct
joined_know reads (Ok members) world is made =
    let same : world_with members ≡ world = cc in subst KnowEachOther same (members_know members (behind_apart reads [] members tt is))
joined_know reads (Err refused) world is made = cc

pub reads_know : (reads : List (Read Fields)) (world : List Setup) → joined (members_behind [] reads) ≡ Ok world → KnowEachOther world
reads_know reads world made = joined_know reads (members_behind [] reads) world refl made
