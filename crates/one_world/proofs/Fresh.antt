-- Below a request stands none of its own service: what it calls never comes back to those that wait.
use Rattle.std.proofs.Common.{◌≡◌, ℕ, Bool, true, false, ◌||◌, cond, List, [], ◌∷◌, ◌++◌, refl, sym, ap, ◌∙◌, subst, nat_eq}
use Rattle.std.specs.List.{AllByRecursion}
use Rattle.std.proofs.lemmas.List.Folds.{list_any-append}
use Rattle.lang_base.specs.Texts.{same_text}
use Rattle.lang_core.specs.declared.ids.RequestId.{RequestId}
use Rattle.lang_core.specs.declared.request.Request.{Request}
use Rattle.lang_core.specs.declared.request.Response.{Response}
use Rattle.lang_core.specs.declared.trace.CallMade.{CallMade}
use Rattle.handler_chains.specs.Onward.{IsOnward, chain_behind, is_among}
use Rattle.handler_chains.proofs.Finding.{text_is}
use Rattle.execution.specs.Executions.{Act, History, survives}
use Rattle.execution.specs.Together.{AreServed, IsLegalTogether, name_of}
use Rattle.one_world.specs.Certificates.{numbers_at}
use Rattle.one_world.specs.Trees.{AreCalled, AreRoots, Trees, none, tree, call_order, calls_of, id_of}
use Rattle.one_world.proofs.Facts.{Lawful, callee_serves, callee_there, dead_numbers, lawful, onward}
use Rattle.one_world.proofs.Lists.{apart_same, numbers_append, numbers_here, numbers_there, same_apart, has_found}

-- none of these is of the service of this name
abbrev pub NoneAt : List ℕ → Trees → Type 0
NoneAt name none = Unit {0}
NoneAt name (tree h a below behind) = ¬ (name_of h ≡ name) × NoneAt name below × NoneAt name behind

-- none is of a service that is named here
abbrev pub Avoids : List (List ℕ) → Trees → Type 0
Avoids chain none = Unit {0}
Avoids chain (tree h a below behind) = (is_among (name_of h) chain ≡ false) × Avoids chain below × Avoids chain behind

-- below each stands none of its own service
abbrev pub Fresh : Trees → Type 0
Fresh none = Unit {0}
Fresh (tree h a below behind) = NoneAt (name_of h) below × Fresh below × Fresh behind

last_of_two : (a b : Bool) → (a || (b || false)) ≡ false → (a ≡ false) × (b ≡ false)
last_of_two true b h = absurd cc
last_of_two false true h = absurd cc
last_of_two false false h = (refl, refl)

-- what avoids a longer chain avoids its front, and its last
pub avoids_front : (t : Trees) (chain : List (List ℕ)) (name : List ℕ) → Avoids (chain ++ name ∷ []) t → Avoids chain t × NoneAt name t
avoids_front none chain name h = (tt, tt)
avoids_front (tree g a below behind) chain name h =
    let parts = last_of_two (is_among (name_of g) chain) (same_text name (name_of g)) (sym (list_any-append (λ n. same_text n (name_of g)) chain (name ∷ [])) ∙ h.0) in
    let under = avoids_front below chain name h.1 in
    let later = avoids_front behind chain name h.2 in
    ((parts.0, under.0, later.0), (apart_same name (name_of g) parts.1, under.1, later.1))

-- nothing was called where there are no calls
pub nothing_called : (t : Trees) (world : List History) (caller : List ℕ) (ns : List ℕ) (cs : List CallMade) → AreCalled t world caller ns cs
    → ns ≡ [] → t ≡ none
nothing_called none world caller ns cs called e = refl
nothing_called (tree h a below behind) world caller [] cs called e = absurd called
nothing_called (tree h a below behind) world caller (n ∷ ns) cs called e = absurd cc

module _ (world : List History) (legal : IsLegalTogether world) where
  -- what doesn't survive called nothing
  below_avoids : (t : Trees) (alive : Bool) (h : History) (a : Act) → Lawful world h a → AreCalled t world (name_of h) a.numbers (calls_of a) → survives a ≡ alive
      → (survives a ≡ true → Avoids (chain_behind (name_of h) a.request) t × Fresh t) → Avoids (chain_behind (name_of h) a.request) t × Fresh t
  below_avoids t true h a law called is so = so is
  below_avoids t false h a law called is so =
      subst (λ x. Avoids (chain_behind (name_of h) a.request) x × Fresh x) (sym (nothing_called t world (name_of h) a.numbers (calls_of a) called (dead_numbers world h a law is))) (tt, tt)

  -- what a request called avoids its service and all that wait for it
  pub called_avoid : (t : Trees) (name : List ℕ) (peers : List (List ℕ)) (q : Request) (ns : List ℕ) (cs : List CallMade) (rs : List Response)
      → AreCalled t world name ns cs → AllByRecursion (IsOnward name peers q) cs → AreServed world name ns cs rs
      → Avoids (chain_behind name q) t × Fresh t
  called_avoid none name peers q ns cs rs called onwards served = (tt, tt)
  called_avoid (tree h a below behind) name peers q [] cs rs called onwards served = absurd called
  called_avoid (tree h a below behind) name peers q (n ∷ ns) [] rs called onwards served = absurd called
  called_avoid (tree h a below behind) name peers q (n ∷ ns) (c ∷ cs) [] called onwards served = absurd served
  called_avoid (tree h a below behind) name peers q (n ∷ ns) (c ∷ cs) (r ∷ rs) called onwards served =
      let there = callee_there world name n c h a called.0 in
      let serves = callee_serves world name n c r h a called.0 served.0 in
      let law = lawful world legal h there.world_has a there.logged in
      let later = called_avoid behind name peers q ns cs rs called.2 onwards.1 served.1 in
      let chains : chain_behind (name_of h) a.request ≡ chain_behind name q ++ name_of h ∷ [] =
      ap (λ (x : Request). x.chain ++ name_of h ∷ []) serves.request ∙ ap (λ xs. xs ++ name_of h ∷ []) onwards.0.chain in
      let under = below_avoids below (survives a) h a law called.1 refl
      (λ alive. called_avoid below (name_of h) h.setting.peers a.request a.numbers (calls_of a) a.answers called.1 (onward world h a law alive) (law.served alive)) in
      let front = avoids_front below (chain_behind name q) (name_of h) (subst (λ xs. Avoids xs below) chains under.0) in
      let fresh : is_among (name_of h) (chain_behind name q) ≡ false = subst (λ d. is_among d (chain_behind name q) ≡ false) (sym there.named) onwards.0.fresh in
      ((fresh, front.0, later.0), (front.1, under.1, later.1))

  -- below a root stands none of its service
  pub roots_fresh : (t : Trees) (order : List RequestId) → AreRoots t world order → Fresh t
  roots_fresh none order roots = tt
  roots_fresh (tree h a below behind) [] roots = absurd roots
  roots_fresh (tree h a below behind) (id ∷ order) roots =
      let there = has_found (λ (g : History). same_text (name_of g) id.service) world h roots.0.served in
      let logged = has_found (λ (b : Act). nat_eq b.id id.number) h.acts a roots.0.logged in
      let law = lawful world legal h there.0 a logged.0 in
      let under = called_avoid below (name_of h) h.setting.peers a.request a.numbers (calls_of a) a.answers roots.1 (onward world h a law roots.0.alive) (law.served roots.0.alive) in
      ((avoids_front below a.request.chain (name_of h) under.0).1, under.1, roots_fresh behind order roots.2)

-- ---- call order, and the order in which requests end

-- those that survive in the order in which they end
abbrev pub end_order : Trees → List RequestId
end_order none = []
end_order (tree h a below behind) = cond (survives a) (end_order below ++ id_of h a ∷ end_order behind) (end_order behind)

none_by : (b : Bool) (name : List ℕ) (i : RequestId) (xs ys : List RequestId) → ¬ (i.service ≡ name) → numbers_at name xs ≡ [] → numbers_at name ys ≡ []
    → numbers_at name (cond b (i ∷ (xs ++ ys)) ys) ≡ []
none_by true name i xs ys isnt e f =
    numbers_there name i (xs ++ ys) (same_apart i.service name isnt) ∙ numbers_append name xs ys ∙ ap (λ ns. ns ++ numbers_at name ys) e ∙ f
none_by false name i xs ys isnt e f = f

none_ends : (b : Bool) (name : List ℕ) (i : RequestId) (xs ys : List RequestId) → ¬ (i.service ≡ name) → numbers_at name xs ≡ [] → numbers_at name ys ≡ []
    → numbers_at name (cond b (xs ++ i ∷ ys) ys) ≡ []
none_ends true name i xs ys isnt e f =
    numbers_append name xs (i ∷ ys) ∙ ap (λ ns. ns ++ numbers_at name (i ∷ ys)) e ∙ numbers_there name i ys (same_apart i.service name isnt) ∙ f
none_ends false name i xs ys isnt e f = f

pub none_called : (t : Trees) (name : List ℕ) → NoneAt name t → numbers_at name (call_order t) ≡ []
none_called none name h = refl
none_called (tree h a below behind) name isnt =
    none_by (survives a) name (id_of h a) (call_order below) (call_order behind) isnt.0 (none_called below name isnt.1) (none_called behind name isnt.2)

pub none_ended : (t : Trees) (name : List ℕ) → NoneAt name t → numbers_at name (end_order t) ≡ []
none_ended none name h = refl
none_ended (tree h a below behind) name isnt =
    none_ends (survives a) name (id_of h a) (end_order below) (end_order behind) isnt.0 (none_ended below name isnt.1) (none_ended behind name isnt.2)

-- a request before what it calls, or behind it, where none of that is of this service
moved_here : (name : List ℕ) (i : RequestId) (xs ys us vs : List RequestId) → same_text i.service name ≡ true → numbers_at name xs ≡ [] → numbers_at name us ≡ []
    → numbers_at name ys ≡ numbers_at name vs → numbers_at name (i ∷ (xs ++ ys)) ≡ numbers_at name (us ++ i ∷ vs)
moved_here name i xs ys us vs is e f later =
    numbers_here name i (xs ++ ys) is
    ∙ ap (λ ns. i.number ∷ ns) (numbers_append name xs ys ∙ ap (λ ns. ns ++ numbers_at name ys) e ∙ later)
    ∙ sym (numbers_append name us (i ∷ vs) ∙ ap (λ ns. ns ++ numbers_at name (i ∷ vs)) f ∙ numbers_here name i vs is)

moved_there : (name : List ℕ) (i : RequestId) (xs ys us vs : List RequestId) → same_text i.service name ≡ false → numbers_at name xs ≡ numbers_at name us
    → numbers_at name ys ≡ numbers_at name vs → numbers_at name (i ∷ (xs ++ ys)) ≡ numbers_at name (us ++ i ∷ vs)
moved_there name i xs ys us vs isnt under later =
    numbers_there name i (xs ++ ys) isnt
    ∙ numbers_append name xs ys
    ∙ ap (λ ns. ns ++ numbers_at name ys) under ∙ ap (λ ns. numbers_at name us ++ ns) (later ∙ sym (numbers_there name i vs isnt))
    ∙ sym (numbers_append name us (i ∷ vs))

same_by : (b : Bool) (name : List ℕ) (i : RequestId) (xs ys us vs : List RequestId) → numbers_at name (i ∷ (xs ++ ys)) ≡ numbers_at name (us ++ i ∷ vs)
    → numbers_at name ys ≡ numbers_at name vs → numbers_at name (cond b (i ∷ (xs ++ ys)) ys) ≡ numbers_at name (cond b (us ++ i ∷ vs) vs)
same_by true name i xs ys us vs e f = e
same_by false name i xs ys us vs e f = f

moved : (b : Bool) (name : List ℕ) (h : History) (a : Act) (below behind : Trees) → same_text (name_of h) name ≡ b → NoneAt (name_of h) below
    → numbers_at name (call_order below) ≡ numbers_at name (end_order below) → numbers_at name (call_order behind) ≡ numbers_at name (end_order behind)
    → numbers_at name (id_of h a ∷ (call_order below ++ call_order behind)) ≡ numbers_at name (end_order below ++ id_of h a ∷ end_order behind)
moved true name h a below behind is isnt under later =
    let clear : NoneAt name below = subst (λ n. NoneAt n below) (text_is (name_of h) name is) isnt in
    moved_here name (id_of h a) (call_order below) (call_order behind) (end_order below) (end_order behind) is
    (none_called below name clear) (none_ended below name clear) later
moved false name h a below behind is isnt under later =
    moved_there name (id_of h a) (call_order below) (call_order behind) (end_order below) (end_order behind) is under later

-- at each service the two orders are the same
pub same_orders : (t : Trees) (name : List ℕ) → Fresh t → numbers_at name (call_order t) ≡ numbers_at name (end_order t)
same_orders none name fresh = refl
same_orders (tree h a below behind) name fresh =
    let under = same_orders below name fresh.1 in
    let later = same_orders behind name fresh.2 in
    same_by (survives a) name (id_of h a) (call_order below) (call_order behind) (end_order below) (end_order behind)
    (moved (same_text (name_of h) name) name h a below behind refl fresh.0 under later) later
