-- Calls lead down no deeper than there are services.
use Rattle.std.proofs.Common.{◌≡◌, ◌≤◌, ◌<◌, ℕ, zero, suc, ◌+◌, Bool, true, false, ◌||◌, cond, List, [], ◌∷◌, ◌++◌, length, inl, inr, sym, ap, ◌∙◌, subst, arith}
use Rattle.std.specs.List.{AllByRecursion}
use Rattle.std.proofs.lemmas.Bool.{cases_Bool}
use Rattle.std.proofs.lemmas.List.Folds.{list_any-append}
use Rattle.lang_base.specs.Texts.{same_text}
use Rattle.lang_core.specs.declared.request.Request.{Request}
use Rattle.lang_core.specs.declared.request.Response.{Response}
use Rattle.lang_core.specs.declared.trace.CallMade.{CallMade}
use Rattle.handler_chains.specs.Onward.{IsOnward, chain_behind, is_among}
use Rattle.execution.specs.Executions.{Act, History, survives}
use Rattle.execution.specs.Together.{AreServed, IsLegalTogether, name_of}
use Rattle.one_world.specs.Trees.{AreCalled, Trees, none, tree, calls_of}
use Rattle.one_world.proofs.Facts.{Lawful, callee_serves, callee_there, dead_numbers, lawful, onward}
use Rattle.one_world.proofs.Fresh.{nothing_called}
use Rattle.one_world.proofs.Lists.{Has, same_self}

-- no tree is higher
abbrev pub Low : Trees → ℕ → Type 0
Low none depth = Unit {0}
Low (tree h a below behind) zero = ⊥
Low (tree h a below behind) (suc depth) = Low below depth × Low behind (suc depth)

-- how many services aren't in a chain
abbrev pub left_by : List (List ℕ) → List History → ℕ
left_by chain [] = 0
left_by chain (h ∷ world) = cond (is_among (name_of h) chain) (left_by chain world) (suc (left_by chain world))

more_among : (name : List ℕ) (chain : List (List ℕ)) (last : List ℕ) → is_among name (chain ++ last ∷ []) ≡ (is_among name chain || (same_text last name || false))
more_among name chain last = list_any-append (λ n. same_text n name) chain (last ∷ [])

left_step : (b c d : Bool) (m n : ℕ) → c ≡ (b || (d || false)) → m ≤ n → cond c m (suc m) ≤ cond b n (suc n)
left_step true c d m n e le = subst (λ x. cond x m (suc m) ≤ n) (sym e) le
left_step false c true m n e le = subst (λ x. cond x m (suc m) ≤ suc n) (sym e) (omega (arith, le))
left_step false c false m n e le = subst (λ x. cond x m (suc m) ≤ suc n) (sym e) (omega (arith, le))

left_less : (b c d : Bool) (m n : ℕ) → c ≡ (b || (d || false)) → m < n → cond c m (suc m) < cond b n (suc n)
left_less true c d m n e lt = subst (λ x. cond x m (suc m) < n) (sym e) lt
left_less false c true m n e lt = subst (λ x. cond x m (suc m) < suc n) (sym e) (omega (arith, lt))
left_less false c false m n e lt = subst (λ x. cond x m (suc m) < suc n) (sym e) (omega (arith, lt))

left_here : (b c d : Bool) (m n : ℕ) → c ≡ (b || (d || false)) → b ≡ false → d ≡ true → m ≤ n → cond c m (suc m) < cond b n (suc n)
left_here true c d m n e f g le = absurd cc
left_here false c true m n e f g le = subst (λ x. cond x m (suc m) < suc n) (sym e) (omega (arith, le))
left_here false c false m n e f g le = absurd cc

left_fewer : (chain : List (List ℕ)) (last : List ℕ) (world : List History) → left_by (chain ++ last ∷ []) world ≤ left_by chain world
left_fewer chain last [] = omega arith
left_fewer chain last (h ∷ world) =
    left_step (is_among (name_of h) chain) (is_among (name_of h) (chain ++ last ∷ [])) (same_text last (name_of h)) (left_by (chain ++ last ∷ []) world) (left_by chain world)
    (more_among (name_of h) chain last) (left_fewer chain last world)

-- one fewer behind a service that isn't in the chain
pub left_behind : (chain : List (List ℕ)) (h : History) (world : List History) → Has h world → is_among (name_of h) chain ≡ false
    → left_by (chain ++ name_of h ∷ []) world < left_by chain world
left_behind chain h [] there fresh = absurd there
left_behind chain h (g ∷ world) (inl e) fresh =
    left_here (is_among (name_of g) chain) (is_among (name_of g) (chain ++ name_of h ∷ [])) (same_text (name_of h) (name_of g)) (left_by (chain ++ name_of h ∷ []) world) (left_by chain world)
    (more_among (name_of g) chain (name_of h)) (subst (λ (k : History). is_among (name_of k) chain ≡ false) e fresh)
    (subst (λ (k : History). same_text (name_of h) (name_of k) ≡ true) e (same_self (name_of h))) (left_fewer chain (name_of h) world)
left_behind chain h (g ∷ world) (inr there) fresh =
    left_less (is_among (name_of g) chain) (is_among (name_of g) (chain ++ name_of h ∷ [])) (same_text (name_of h) (name_of g)) (left_by (chain ++ name_of h ∷ []) world) (left_by chain world)
    (more_among (name_of g) chain (name_of h)) (left_behind chain h world there fresh)

left_all_by : (b : Bool) (m n : ℕ) → m ≤ n → cond b m (suc m) ≤ suc n
left_all_by true m n le = omega (arith, le)
left_all_by false m n le = omega (arith, le)

pub left_all : (chain : List (List ℕ)) (world : List History) → left_by chain world ≤ length world
left_all chain [] = omega arith
left_all chain (h ∷ world) =
    let step = left_all_by (is_among (name_of h) chain) (left_by chain world) (length world) (left_all chain world) in
    step

module _ (world : List History) (legal : IsLegalTogether world) where
  low_dead : (t : Trees) (h : History) (a : Act) (depth : ℕ) → Lawful world h a → AreCalled t world (name_of h) a.numbers (calls_of a) → survives a ≡ false → Low t depth
  low_dead t h a depth law called dead =
      subst (λ x. Low x depth) (sym (nothing_called t world (name_of h) a.numbers (calls_of a) called (dead_numbers world h a law dead))) tt

  pub called_low : (t : Trees) (name : List ℕ) (peers : List (List ℕ)) (q : Request) (ns : List ℕ) (cs : List CallMade) (rs : List Response) (depth : ℕ)
      → AreCalled t world name ns cs → AllByRecursion (IsOnward name peers q) cs → AreServed world name ns cs rs → left_by (chain_behind name q) world ≤ depth → Low t depth
  called_low none name peers q ns cs rs depth called onwards served le = tt
  called_low (tree h a below behind) name peers q [] cs rs depth called onwards served le = absurd called
  called_low (tree h a below behind) name peers q (n ∷ ns) [] rs depth called onwards served le = absurd called
  called_low (tree h a below behind) name peers q (n ∷ ns) (c ∷ cs) [] depth called onwards served le = absurd served
  called_low (tree h a below behind) name peers q (n ∷ ns) (c ∷ cs) (r ∷ rs) zero called onwards served le =
      let there = callee_there world name n c h a called.0 in
      let fresh : is_among (name_of h) (chain_behind name q) ≡ false = subst (λ d. is_among d (chain_behind name q) ≡ false) (sym there.named) onwards.0.fresh in
      let less = left_behind (chain_behind name q) h world there.world_has fresh in
      absurd (omega (arith, less, le))
  called_low (tree h a below behind) name peers q (n ∷ ns) (c ∷ cs) (r ∷ rs) (suc depth) called onwards served le =
      let there = callee_there world name n c h a called.0 in
      let serves = callee_serves world name n c r h a called.0 served.0 in
      let law = lawful world legal h there.world_has a there.logged in
      let fresh : is_among (name_of h) (chain_behind name q) ≡ false = subst (λ d. is_among d (chain_behind name q) ≡ false) (sym there.named) onwards.0.fresh in
      let less = left_behind (chain_behind name q) h world there.world_has fresh in
      let chains : chain_behind (name_of h) a.request ≡ chain_behind name q ++ name_of h ∷ [] =
      ap (λ (x : Request). x.chain ++ name_of h ∷ []) serves.request ∙ ap (λ xs. xs ++ name_of h ∷ []) onwards.0.chain in
      let bound : left_by (chain_behind (name_of h) a.request) world ≤ depth =
      subst (λ xs. left_by xs world ≤ depth) (sym chains) (omega (arith, less, le)) in
      let under : Low below depth = elim (cases_Bool (survives a)) [
        | inl alive ↦ called_low below (name_of h) h.setting.peers a.request a.numbers (calls_of a) a.answers depth called.1 (onward world h a law alive) (law.served alive) bound
        | inr dead ↦ low_dead below h a depth law called.1 dead
      ] in
      (under, called_low behind name peers q ns cs rs (suc depth) called.2 onwards.1 served.1 le)
