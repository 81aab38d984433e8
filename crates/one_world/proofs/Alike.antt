-- Roots have one tree: who called whom is told once.
use Rattle.std.proofs.Common.{◌≡◌, ℕ, List, [], ◌∷◌, Option, Some, refl, sym, ◌∙◌, subst}
use Rattle.lang_core.specs.declared.ids.RequestId.{RequestId}
use Rattle.lang_core.specs.declared.trace.CallMade.{CallMade}
use Rattle.execution.specs.Executions.{Act, History}
use Rattle.execution.specs.Together.{name_of}
use Rattle.one_world.specs.Trees.{AreCalled, AreRoots, Trees, act_in, callee_in, calls_of, none, tree}

pub both_some : {X : Type 0} (o : Option X) (x y : X) → o ≡ Some x → o ≡ Some y → x ≡ y
both_some o x y e f = (let both : Some x ≡ Some y = sym e ∙ f in cc)

tree_is : (h g : History) (a b : Act) (t u v w : Trees) → h ≡ g → a ≡ b → t ≡ u → v ≡ w → tree h a t v ≡ tree g b u w
tree_is h g a b t u v w e f i j = cc

pub called_alike : (t u : Trees) (world : List History) (caller : List ℕ) (ns : List ℕ) (cs : List CallMade) → AreCalled t world caller ns cs → AreCalled u world caller ns cs → t ≡ u
called_alike none none world caller ns cs p q = refl
called_alike none (tree g b under later) world caller [] [] p q = absurd q
called_alike none (tree g b under later) world caller [] (c ∷ cs) p q = absurd p
called_alike none (tree g b under later) world caller (n ∷ ns) cs p q = absurd p
called_alike (tree h a below behind) none world caller [] cs p q = absurd p
called_alike (tree h a below behind) none world caller (n ∷ ns) [] p q = absurd p
called_alike (tree h a below behind) none world caller (n ∷ ns) (c ∷ cs) p q = absurd q
called_alike (tree h a below behind) (tree g b under later) world caller [] cs p q = absurd p
called_alike (tree h a below behind) (tree g b under later) world caller (n ∷ ns) [] p q = absurd p
called_alike (tree h a below behind) (tree g b under later) world caller (n ∷ ns) (c ∷ cs) p q =
    let same : h ≡ g = both_some _ h g p.0.served q.0.served in
    let found : callee_in caller n h.acts ≡ Some b = subst (λ (k : History). callee_in caller n k.acts ≡ Some b) (sym same) q.0.called in
    let one : a ≡ b = both_some _ a b p.0.called found in
    let mine : AreCalled under world (name_of h) a.numbers (calls_of a) =
    subst (λ (k : History). AreCalled under world (name_of k) a.numbers (calls_of a)) (sym same)
    (subst (λ (x : Act). AreCalled under world (name_of g) x.numbers (calls_of x)) (sym one) q.1) in
    tree_is h g a b below under behind later same one (called_alike below under world (name_of h) a.numbers (calls_of a) p.1 mine) (called_alike behind later world caller ns cs p.2 q.2)

pub roots_alike : (t u : Trees) (world : List History) (order : List RequestId) → AreRoots t world order → AreRoots u world order → t ≡ u
roots_alike none none world order p q = refl
roots_alike none (tree g b under later) world [] p q = absurd q
roots_alike none (tree g b under later) world (i ∷ order) p q = absurd p
roots_alike (tree h a below behind) none world [] p q = absurd p
roots_alike (tree h a below behind) none world (i ∷ order) p q = absurd q
roots_alike (tree h a below behind) (tree g b under later) world [] p q = absurd p
roots_alike (tree h a below behind) (tree g b under later) world (i ∷ order) p q =
    let same : h ≡ g = both_some _ h g p.0.served q.0.served in
    let found : act_in i.number h.acts ≡ Some b = subst (λ (k : History). act_in i.number k.acts ≡ Some b) (sym same) q.0.logged in
    let one : a ≡ b = both_some _ a b p.0.logged found in
    let mine : AreCalled under world (name_of h) a.numbers (calls_of a) =
    subst (λ (k : History). AreCalled under world (name_of k) a.numbers (calls_of a)) (sym same)
    (subst (λ (x : Act). AreCalled under world (name_of g) x.numbers (calls_of x)) (sym one) q.1) in
    tree_is h g a b below under behind later same one (called_alike below under world (name_of h) a.numbers (calls_of a) p.1 mine) (roots_alike behind later world order p.2 q.2)
