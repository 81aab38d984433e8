use Rattle.std.proofs.Common.{◌≡◌, ◌∙◌, List, ℕ, None, Err, IfErr, option_map, ap, sym, subst}
use Rattle.std.proofs.lemmas.List.{append-nil}
use Rattle.std.specs.Option.{ForSome}
use Rattle.world_file.specs.Standard.{built_in}
use Rattle.world_file.proofs.Standards.{built_in_knows}
use Rattle.aire_top.specs.Causes.{what_of}
use Rattle.aire_top.specs.Endings.{Asked}
use Rattle.aire_top.specs.Top.{Is, Loaded, WorldOrRefusal}
use Rattle.aire_top.proofs.Worlds.{other_path, other_told, standard_path}
use Rattle.aire_top.proofs.loading.load_world.Goals as goal

pub returns-in-Ok-None-clause-refused : goal.returns-in-Ok-None-clause-refused
returns-in-Ok-None-clause-refused g c =
    let none : built_in c.args.word.now ≡ None = sym c.in-Ok-None.ensures ∙ ap (option_map _) c.in-Ok-None.field-0-is in
    let same = other_told (g.F.Files.loads c.args.files.now).files c.args.word.now none in
    let P : Loaded WorldOrRefusal → Type 0 = λ told. IfErr c.load_file.result (λ why. ForSome (what_of why) (λ what. Is told (Err what))) in
    subst P (sym same) c.load_file.ensures.refused

pub returns-in-Ok-None-clause-asked : goal.returns-in-Ok-None-clause-asked
returns-in-Ok-None-clause-asked g c = λ other.
    let none : built_in c.args.word.now ≡ None = sym c.in-Ok-None.ensures ∙ ap (option_map _) c.in-Ok-None.field-0-is in
    let P : List (List ℕ) → Type 0 = λ paths. Asked (g.F.Files.loads c.args.files.now) (g.F.Files.loads c.load_file.new.files) paths in
    subst P (sym (other_path c.args.word.now none)) (c.load_file.ensures.asked other)

pub returns-in-Ok-Some-clause-asked : goal.returns-in-Ok-Some-clause-asked
returns-in-Ok-Some-clause-asked g c = λ _.
    let some = sym c.in-Ok-Some.ensures ∙ ap (option_map _) c.in-Ok-Some.field-0-is in
    let P : List (List ℕ) → Type 0 = λ paths. Asked (g.F.Files.loads c.args.files.now) (g.F.Files.loads c.args.files.now) paths in
    subst P (sym (standard_path c.args.word.now _ some)) (sym (append-nil _))

pub returns-in-Ok-Some-clause-together : goal.returns-in-Ok-Some-clause-together
returns-in-Ok-Some-clause-together g c =
    let some = sym c.in-Ok-Some.ensures ∙ ap (option_map _) c.in-Ok-Some.field-0-is in
    built_in_knows c.args.word.now c.in-Ok-Some.setups.items some
