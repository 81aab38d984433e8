-- A desk more.
use Rattle.std.proofs.Common.{◌≡◌, ◌++◌, ◌∷◌, ◌+◌, ℕ, zero, suc, List, [], All, Some, map, slice_get, take, subst, arith}
use Rattle.std.proofs.lemmas.List.Elements.{All-push}
use Rattle.world_file.specs.declared.setup.Setup.{Setup}
use Rattle.node_core.specs.declared.nodes.Node.{Node}
use Rattle.node_workers.specs.declared.desk.Desk.{Desk}
use Rattle.node_run.specs.Peers.{node_at, setup_at, KnowsPeers}

-- with one more, whose part is the one of its place, the parts are those of one place more
parts_suc : {A B : Type 0} (part : A → B) (xs : List A) (ys : List B) (place : ℕ) (x : A) → map part xs ≡ take place ys → slice_get ys place ≡ Some (part x)
    → map part (xs ++ x ∷ []) ≡ take (suc place) ys
parts_suc part [] [] place x same is = cc
parts_suc part [] (y ∷ ys) zero x same is = cc
parts_suc part [] (y ∷ ys) (suc place) x same is = cc
parts_suc part (z ∷ zs) [] place x same is = cc
parts_suc part (z ∷ zs) (y ∷ ys) zero x same is = cc
parts_suc part (z ∷ zs) (y ∷ ys) (suc place) x same is =
    let first : part z ≡ y = cc in
    let before : map part zs ≡ take place ys = cc in
    let more = parts_suc part zs ys place x before is in cc

parts_more : {A B : Type 0} (part : A → B) (xs : List A) (ys : List B) (place : ℕ) (x : A) → map part xs ≡ take place ys → slice_get ys place ≡ Some (part x)
    → map part (xs ++ x ∷ []) ≡ take (place + 1) ys
parts_more part xs ys place x same is =
    let P : ℕ → Type 0 = λ n. map part (xs ++ x ∷ []) ≡ take n ys in
    let next : suc place ≡ place + 1 = omega arith in
    subst P next (parts_suc part xs ys place x same is)

module _ {R Q : Type 0} where
  -- its node is the one of its place
  pub nodes_more : (desks : List (Desk R Q)) (nodes : List (Node R)) (place : ℕ) (desk : Desk R Q) → map node_at desks ≡ take place nodes
      → slice_get nodes place ≡ Some (node_at desk) → map node_at (desks ++ desk ∷ []) ≡ take (place + 1) nodes
  nodes_more desks nodes place desk same is = parts_more node_at desks nodes place desk same is

  -- and so is its setup
  pub setups_more : (desks : List (Desk R Q)) (here : List Setup) (place : ℕ) (desk : Desk R Q) → map setup_at desks ≡ take place here
      → slice_get here place ≡ Some (setup_at desk) → map setup_at (desks ++ desk ∷ []) ≡ take (place + 1) here
  setups_more desks here place desk same is = parts_more setup_at desks here place desk same is

  -- it knows its peers
  pub peers_more : (known : List Setup) (desks : List (Desk R Q)) (desk : Desk R Q) → All (KnowsPeers known) desks → KnowsPeers known desk
      → All (KnowsPeers known) (desks ++ desk ∷ [])
  peers_more known desks desk all one = All-push (KnowsPeers known) desks desk all one
