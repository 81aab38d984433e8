-- What is known of a world that is loaded.
use Rattle.std.proofs.Common.{◌≡◌, ℕ, ◌<◌, ◌≤◌, List, [], ◌∷◌, length, Option, Some, None, option_map, Ok, Err, true, false, nat_lt, refl, ap, sym, ◌∙◌, rules, tests, codes}
use Rattle.std.specs.Option.{ForSome}
use Rattle.world_file.specs.Standard.{built_in}
use Rattle.world_file.specs.Worlds.{world_of}
use Rattle.world_file.specs.declared.setup.Setup.{Setup}
use Rattle.aire_top.specs.Top.{Is, WorldOrRefusal, file_world, path_unless, world_from, world_or, world_path, world_told, world_within}

within-short : (bytes : List ℕ) → length bytes ≤ 4194304 → world_within bytes ≡ world_from (world_of bytes)
within-short bytes short = let e : nat_lt 4194304 (length bytes) ≡ false = search (tests, rules) in rw e refl

within-long : (bytes : List ℕ) → 4194304 < length bytes → world_within bytes ≡ Err (codes "8")
within-long bytes long = let e : nat_lt 4194304 (length bytes) ≡ true = search (tests, rules) in rw e refl

-- a file whose bytes are these
pub file_is : (files : Option (List ℕ → Option (List ℕ))) (path bytes : List ℕ) (world : WorldOrRefusal) → ForSome files (λ at. at path ≡ Some bytes) → world_within bytes ≡ world → Is (file_world files path) world
file_is None path bytes world file is = λ there e. cc
file_is (Some at) path bytes world file is = λ there e.
    let stands : at path ≡ Some bytes = file at refl in
    let told : option_map world_within (at path) ≡ there = cc in
    sym told ∙ ap (option_map world_within) stands ∙ ap Some is

-- a file of at most so many bytes
pub short_file : (files : Option (List ℕ → Option (List ℕ))) (path bytes : List ℕ) (world : WorldOrRefusal) → ForSome files (λ at. at path ≡ Some bytes) → length bytes ≤ 4194304 → world_from (world_of bytes) ≡ world → Is (file_world files path) world
short_file files path bytes world file short is = file_is files path bytes world file (within-short bytes short ∙ is)

-- a file that is too long
pub long_file : (files : Option (List ℕ → Option (List ℕ))) (path : List ℕ) → ForSome files (λ at. (bytes : List ℕ) × (at path ≡ Some bytes) × (4194304 < length bytes)) → Is (file_world files path) (Err (codes "8"))
long_file None path longer = λ there e. cc
long_file (Some at) path longer =
    let l = longer at refl in
    file_is (Some at) path l.0 (Err (codes "8")) (λ other e. let same : at ≡ other = cc in ap (λ (f : List ℕ → Option (List ℕ)). f path) (sym same) ∙ l.1) (within-long l.0 l.2)

-- a world that comes with the program, and one that doesn't
pub standard_told : (files : Option (List ℕ → Option (List ℕ))) (word : List ℕ) (setups : List Setup) → built_in word ≡ Some setups → Is (world_told files word) (Ok setups)
standard_told files word setups h = λ there e.
    let told : world_told files word ≡ Some (Some (Ok setups)) = ap (λ (o : Option (List Setup)). world_or o (file_world files word)) h in
    let same : Some (Some (Ok setups)) ≡ Some there = sym told ∙ e in
    cc

-- where none of that name comes with the program, its path is the word; else there is none
pub other_path : (word : List ℕ) → built_in word ≡ None → world_path word ≡ word ∷ []
other_path word h = ap (λ (o : Option (List Setup)). path_unless o word) h

pub standard_path : (word : List ℕ) (setups : List Setup) → built_in word ≡ Some setups → world_path word ≡ []
standard_path word setups h = ap (λ (o : Option (List Setup)). path_unless o word) h

pub other_told : (files : Option (List ℕ → Option (List ℕ))) (word : List ℕ) → built_in word ≡ None → world_told files word ≡ file_world files word
other_told files word h = ap (λ (o : Option (List Setup)). world_or o (file_world files word)) h
