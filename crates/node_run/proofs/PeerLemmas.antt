-- A name more among those under which something is kept, and what is kept of it.
use Rattle.std.proofs.Common.{◌≡◌, ◌++◌, ◌∷◌, ℕ, Bool, true, List, [], All, Option, Some, IsSomeAnd, find, sym, ap, ◌∙◌, subst}
use Rattle.std.proofs.lemmas.List.{map_push}
use Rattle.std.proofs.lemmas.List.Elements.{All-push}
use Rattle.wire_fields.specs.Named.{with_one}
use Rattle.wire_fields.specs.declared.named.Named.{Named}
use Rattle.world_file.specs.declared.setup.Setup.{Setup}
use Rattle.node_run.specs.Peers.{has_name, names_of, IsToldBy}

pub named_more : (added : Bool) (old new : List (Named (List ℕ))) (name peer value : List ℕ) → new ≡ with_one added old name value → name ≡ peer → added ≡ true
    → names_of new ≡ names_of old ++ peer ∷ []
named_more added old new name peer value is same done =
    let one : Named (List ℕ) = record { name = name; value = value } in
    ap names_of (is ∙ ap (λ (b : Bool). with_one b old name value) done) ∙ (map_push (λ (n : Named (List ℕ)). n.name) old one ∙ ap (λ (last : List ℕ). names_of old ++ last ∷ []) same)

-- it is what the setup of that name has
pub told_more : (what : Setup → List ℕ) (known : List Setup) (setup : Setup) (added : Bool) (old new : List (Named (List ℕ))) (name peer value : List ℕ)
    → find (has_name peer) known ≡ Some setup → new ≡ with_one added old name value → name ≡ peer → value ≡ what setup → added ≡ true
    → All (IsToldBy what known) old → All (IsToldBy what known) new
told_more what known setup added old new name peer value found is same told done before =
    let one : Named (List ℕ) = record { name = name; value = value } in
    let named : find (has_name name) known ≡ Some setup = ap (λ (n : List ℕ). find (has_name n) known) same ∙ found in
    let so : IsToldBy what known one = subst (λ (o : Option Setup). IsSomeAnd o (λ (s : Setup). value ≡ what s)) (sym named) told in
    subst (All (IsToldBy what known)) (sym (is ∙ ap (λ (b : Bool). with_one b old name value) done)) (All-push (IsToldBy what known) old one before so)
