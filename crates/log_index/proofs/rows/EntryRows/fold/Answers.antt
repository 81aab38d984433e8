use Rattle.std.proofs.Common.{◌≡◌, drop, take, length, refl, sym, ap, ◌∙◌, arith}
use Rattle.std.proofs.lemmas.List.{drop-map, length-map, take-map}
use Rattle.versioned_rows.specs.declared.places.PlaceWrites.{PlaceWrites}
use Rattle.log_index.specs.Rows.{KeptWrites, rows_made, texts_of, writes_of}
use Rattle.log_index.proofs.EditLemmas.{as_many, fewer_placed}
use Rattle.log_index.proofs.PlaceLemmas.{rows_are, rows_behind, texts_same}
use Rattle.log_index.proofs.rows.EntryRows.fold.Goals as goal

pub fold_first-requires-clause-within : goal.fold_first-requires-clause-within
fold_first-requires-clause-within c =
    let writes = ap length (ap (λ (k : KeptWrites). k.writes) c.self.view_is) in
    let many = length-map c.self.inside.versions.versions (λ (p : PlaceWrites). p.writes) in
    let within = c.requires.within in
    omega arith

pub fold_first-requires-clause-texts : goal.fold_first-requires-clause-texts
fold_first-requires-clause-texts c =
    c.requires.texts ∙ ap (λ (k : KeptWrites). texts_of (take c.args.n k.writes)) (sym c.self.view_is) ∙ texts_same c.args.n c.self.inside.versions.versions

pub forget_first-requires : goal.forget_first-requires
forget_first-requires c =
    let writes = ap length (ap (λ (k : KeptWrites). k.writes) c.self.view_is) in
    let n = length-map c.self.inside.versions.versions (λ (p : PlaceWrites). p.writes) in
    let many = as_many c.self.inside.order.labels c.self.inside.versions.versions c.self.invariant in
    let within = c.requires.within in
    omega arith

-- the rows before the places that are left
based : (c : goal.After-forget_first) → c.fold_first.new.self.base ≡ rows_made c.args.self.now.base (take c.args.n c.args.self.now.writes)
based c =
    let ps = c.self.inside.versions.versions in
    let base = c.self.inside.versions.base in
    c.fold_first.ensures.base ∙ rows_are base (take c.args.n ps) ∙ ap (rows_made base) (sym (take-map (λ (p : PlaceWrites). p.writes) c.args.n ps))
    ∙ ap (λ (k : KeptWrites). rows_made k.base (take c.args.n k.writes)) c.self.view_is

-- what they wrote
wrote : (c : goal.After-forget_first) → writes_of c.fold_first.new.self.versions ≡ drop c.args.n c.args.self.now.writes
wrote c =
    ap writes_of c.fold_first.ensures.versions ∙ sym (drop-map (λ (p : PlaceWrites). p.writes) c.args.n c.self.inside.versions.versions)
    ∙ ap (drop c.args.n) (ap (λ (k : KeptWrites). k.writes) c.self.view_is)

pub invariant_of-self : goal.invariant_of-self
invariant_of-self c =
    fewer_placed c.self.inside.order.labels c.self.inside.versions.versions c.self.invariant c.args.n c.forget_first.new.self.labels c.fold_first.new.self.versions
    c.forget_first.ensures.labels c.fold_first.ensures.versions

pub returns-clause-base : goal.returns-clause-base
returns-clause-base c = based c

pub returns-clause-writes : goal.returns-clause-writes
returns-clause-writes c = wrote c

pub returns-clause-rows : goal.returns-clause-rows
returns-clause-rows c = λ place.
    let now = c.args.self.now in
    ap (λ b. rows_made b (take place (writes_of c.fold_first.new.self.versions))) (based c) ∙ ap (λ w. rows_made (rows_made now.base (take c.args.n now.writes)) (take place w)) (wrote c)
    ∙ rows_behind now.base (rows_made now.base (take c.args.n now.writes)) now.writes c.args.n place refl
