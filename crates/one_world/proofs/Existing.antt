-- In a legal execution all that a root called is there.
use Rattle.std.proofs.Common.{◌≡◌, ◌≤◌, ◌<◌, ℕ, zero, suc, Bool, true, false, List, [], ◌∷◌, ◌++◌, Option, Some, None, IsSomeAnd, find, filter, length, inl, inr, refl, sym, ap, ◌∙◌, subst, arith}
use Rattle.std.specs.List.{AllByRecursion}
use Rattle.std.proofs.lemmas.Bool.{cases_Bool}
use Rattle.lang_core.specs.declared.ids.RequestId.{RequestId}
use Rattle.lang_core.specs.declared.request.Request.{Request}
use Rattle.lang_core.specs.declared.request.Response.{Response}
use Rattle.lang_core.specs.declared.trace.CallMade.{CallMade}
use Rattle.handler_chains.specs.Onward.{IsOnward, chain_behind, is_among}
use Rattle.execution.specs.Executions.{Act, History, survives}
use Rattle.execution.specs.Together.{AreServed, IsLegalTogether, IsOne, Serves, comes_from, history_in, name_of}
use Rattle.one_world.specs.Certificates.{AllRoots}
use Rattle.one_world.specs.Trees.{AreCalled, AreRoots, IsCallee, Trees, calls_of, none, tree}
use Rattle.one_world.proofs.Facts.{Lawful, callee_serves, callee_there, dead_calls, dead_numbers, lawful, onward}
use Rattle.one_world.proofs.Lists.{Has}
use Rattle.one_world.proofs.Low.{left_all, left_behind, left_by}
use Rattle.one_world.proofs.OneRun.{root_at}

one_found : {X : Type 0} (P : X → Type 0) (p : X → Bool) (xs : List X) → IsOne P (filter p xs) → (x : X) × (find p xs ≡ Some x)
one_found P p [] one = absurd one
one_found P p (y ∷ ys) one = elim (cases_Bool (p y)) [
  | inl is ↦ (y, rw is refl)
  | inr other ↦ (let there = one_found P p ys (rw other at one) in (there.0, rw other there.1))
]

-- the request of a call that is served
record HasCallee (world : List History) (caller : List ℕ) (n : ℕ) (c : CallMade) : Type 0 where
  h : History
  a : Act
  callee : IsCallee world caller n c h a

callee_by : (world : List History) (caller : List ℕ) (n : ℕ) (c : CallMade) (r : Response) (o : Option History) → history_in c.dest world ≡ o
    → IsSomeAnd o (λ h. IsOne (Serves c r) (filter (comes_from caller n) h.acts)) → HasCallee world caller n c
callee_by world caller n c r None e served = absurd served
callee_by world caller n c r (Some h) e served =
    let there = one_found (Serves c r) (comes_from caller n) h.acts served in
    record { h = h; a = there.0; callee = record { served = e; called = there.1 } }

module _ (world : List History) (legal : IsLegalTogether world) where
  -- all that a request called is there
  abbrev IsThere : History → Act → Type 0
  IsThere h a = (t : Trees) × AreCalled t world (name_of h) a.numbers (calls_of a)

  dead_there : (h : History) (a : Act) → Lawful world h a → survives a ≡ false → IsThere h a
  dead_there h a law dead = (
    none,
    subst (λ ns. AreCalled none world (name_of h) ns (calls_of a)) (sym (dead_numbers world h a law dead))
        (subst (λ cs. AreCalled none world (name_of h) [] cs) (sym (dead_calls world h a law dead)) tt),
  )

  -- where the same holds of all whose chain leaves fewer services
  calls_there : (name : List ℕ) (peers : List (List ℕ)) (q : Request)
      → ((h : History) (a : Act) → Has h world → Has a h.acts → survives a ≡ true → left_by (chain_behind (name_of h) a.request) world < left_by (chain_behind name q) world → IsThere h a)
      → (ns : List ℕ) (cs : List CallMade) (rs : List Response) → AllByRecursion (IsOnward name peers q) cs → AreServed world name ns cs rs
      → (t : Trees) × AreCalled t world name ns cs
  calls_there name peers q deeper [] [] rs onwards served = (none, tt)
  calls_there name peers q deeper [] (c ∷ cs) rs onwards served = absurd served
  calls_there name peers q deeper (n ∷ ns) [] rs onwards served = absurd served
  calls_there name peers q deeper (n ∷ ns) (c ∷ cs) [] onwards served = absurd served
  calls_there name peers q deeper (n ∷ ns) (c ∷ cs) (r ∷ rs) onwards served =
      let f = callee_by world name n c r (history_in c.dest world) refl served.0 in
      let there = callee_there world name n c f.h f.a f.callee in
      let serves = callee_serves world name n c r f.h f.a f.callee served.0 in
      let law = lawful world legal f.h there.world_has f.a there.logged in
      let fresh : is_among (name_of f.h) (chain_behind name q) ≡ false = subst (λ d. is_among d (chain_behind name q) ≡ false) (sym there.named) onwards.0.fresh in
      let chains : chain_behind (name_of f.h) f.a.request ≡ chain_behind name q ++ name_of f.h ∷ [] =
      ap (λ (x : Request). x.chain ++ name_of f.h ∷ []) serves.request ∙ ap (λ xs. xs ++ name_of f.h ∷ []) onwards.0.chain in
      let less : left_by (chain_behind (name_of f.h) f.a.request) world < left_by (chain_behind name q) world =
      subst (λ xs. left_by xs world < left_by (chain_behind name q) world) (sym chains) (left_behind (chain_behind name q) f.h world there.world_has fresh) in
      let under : IsThere f.h f.a = elim (cases_Bool (survives f.a)) [
        | inl alive ↦ deeper f.h f.a there.world_has there.logged alive less
        | inr dead ↦ dead_there f.h f.a law dead
      ] in
      let later = calls_there name peers q deeper ns cs rs onwards.1 served.1 in
      (tree f.h f.a under.0 later.0, (f.callee, under.1, later.1))

  all_there : (depth : ℕ) (h : History) (a : Act) → Has h world → Has a h.acts → survives a ≡ true → left_by (chain_behind (name_of h) a.request) world ≤ depth → IsThere h a
  all_there zero h a there logged alive le =
      let law = lawful world legal h there a logged in
      calls_there (name_of h) h.setting.peers a.request (λ g b in_world in_log lives less. absurd (omega (arith, less, le)))
      a.numbers (calls_of a) a.answers (onward world h a law alive) (law.served alive)
  all_there (suc depth) h a there logged alive le =
      let law = lawful world legal h there a logged in
      calls_there (name_of h) h.setting.peers a.request (λ g b in_world in_log lives less. all_there depth g b in_world in_log lives (omega (arith, less, le)))
      a.numbers (calls_of a) a.answers (onward world h a law alive) (law.served alive)

  -- roots have their trees
  pub roots_there : (order : List RequestId) → AllRoots world order → (t : Trees) × AreRoots t world order
  roots_there [] roots = (none, tt)
  roots_there (i ∷ order) roots =
      let h = roots.0.0 in
      let a = roots.0.1 in
      let at = root_at world i h a roots.0.2 in
      let under = all_there (length world) h a at.there at.logged roots.0.2.alive (left_all (chain_behind (name_of h) a.request) world) in
      let later = roots_there order roots.1 in
      (tree h a under.0 later.0, (roots.0.2, under.1, later.1))
