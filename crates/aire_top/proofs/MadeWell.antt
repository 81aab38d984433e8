-- A script that is made comes to its end: its words alone decide whether it is made, and no line of it is refused.
use Rattle.std.proofs.Common.{◌≡◌, ◌⊎◌, ◌∙◌, ℕ, ◌≤◌, List, inl, inr, ap, subst, map}
use Rattle.io_edge.specs.Edge.{WriteFails, Writes}
use Rattle.command_ends.specs.Ends.{StatusOf}
use Rattle.service_events.specs.State.{me}
use Rattle.world_events.specs.Worlds.{World}
use Rattle.script_make.specs.Making.{made_script}
use Rattle.aire_top.proofs.WorldsThere.{posts_named}
use Rattle.aire_top.specs.Endings.{Answer, LacksMemory, Outside, standing}
use Rattle.aire_top.specs.Making.{IsGoodMake, IsPostsWorld, MakeEnds, MadeRefused, ScriptTold, SeedEnds, WordsEnd, make_misfit}
use Rattle.aire_top.proofs.FreshLaws.{fresh_names}
use Rattle.aire_top.proofs.MadeRuns.{made_unrefused, posts_names}
use Rattle.aire_top.proofs.Runs.{some_none}

-- ---- no line is refused

names_are : (world : World) → IsPostsWorld world → map me world.services ≡ posts_names
names_are world posts = ap (λ (w : World). map me w.services) posts.2 ∙ fresh_names posts.0 ∙ posts_named posts.0 posts.1

no_refusal : (seed n : ℕ) (world : World) (before now : Writes) (ans : Answer) → n ≤ 50000 → IsPostsWorld world → MadeRefused world (made_script seed n) before now ans → ⊥
no_refusal seed n world before now ans most posts refused =
    some_none (refused.p).refused (refused.line, refused.number) (made_unrefused seed n world refused.p most (names_are world posts) refused.run) refused.at_line

seed_by : (seed n : ℕ) (world : World) (before now : Writes) (ans : Answer) → n ≤ 50000 → IsPostsWorld world → ScriptTold world (made_script seed n) n before now ans → SeedEnds seed n before now ans
seed_by seed n world before now ans most posts (inl has) = inl (world, posts, has)
seed_by seed n world before now ans most posts (inr (inl refused)) = absurd (no_refusal seed n world before now ans most posts refused)
seed_by seed n world before now ans most posts (inr (inr lacks)) = inr lacks

-- a script that was made of a seed, and run in a world of `@posts`
pub seed_ends : (seed n : ℕ) (world : World) (bytes : List ℕ) (before now : Writes) (ans : Answer) → n ≤ 50000 → IsPostsWorld world → bytes ≡ made_script seed n → ScriptTold world bytes n before now ans → SeedEnds seed n before now ans
seed_ends seed n world bytes before now ans most posts is told =
    let T : List ℕ → Type 0 = λ script. ScriptTold world script n before now ans in seed_by seed n world before now ans most posts (subst T is told)

-- ---- a good making ends well

lacks_well : (before now : Writes) (ans : Answer) → LacksMemory before now ans → (ans.status ≡ 0) ⊎ (ans.status ≡ 6)
lacks_well before now ans lacks = inr (ap (λ (a : Answer). a.status) lacks.answered)

print_well : (before now : Writes) (line : List ℕ) (status : ℕ) (world : World) (ans : Answer) → ¬ (WriteFails before now) → ans ≡ standing status world → StatusOf before now line status → (ans.status ≡ 0) ⊎ (ans.status ≡ 6)
print_well before now line status world ans writes is (inl whole) = inl (ap (λ (a : Answer). a.status) is ∙ whole.0)
print_well before now line status world ans writes is (inr short) = absurd (writes (short.1).1)

seed_well : (seed n : ℕ) (before now : Writes) (ans : Answer) → ¬ (WriteFails before now) → SeedEnds seed n before now ans → (ans.status ≡ 0) ⊎ (ans.status ≡ 6)
seed_well seed n before now ans writes (inl (world, posts, has)) = print_well before now _ has.prints.0 (has.p).world ans writes has.prints.1 has.prints.2
seed_well seed n before now ans writes (inr lacks) = lacks_well before now ans lacks

words_well : (words : List (List ℕ)) (before now : Outside) (ans : Answer) → IsGoodMake words before now → WordsEnd words before.writes now.writes ans → (ans.status ≡ 0) ⊎ (ans.status ≡ 6)
words_well words before now ans good (inl (seed, n, asked, ends)) = seed_well seed n before.writes now.writes ans good.writes ends
words_well words before now ans good (inr (inl misused)) = absurd (some_none (make_misfit words) misused.place good.fit misused.at_word)
words_well words before now ans good (inr (inr lacks)) = lacks_well before.writes now.writes ans lacks

pub made_well : (words : List (List ℕ)) (before now : Outside) (ans : Answer) → IsGoodMake words before now → MakeEnds words before now ans → (ans.status ≡ 0) ⊎ (ans.status ≡ 6)
made_well words before now ans good ends = words_well words before now ans good ends.ended
