use Rattle.std.proofs.Common.{length, sym, take, ap, ◌∙◌, arith}
use Rattle.std.proofs.lemmas.List.{length-map}
use Rattle.std.proofs.lemmas.Result.{IfOk-weaker}
use Rattle.versioned_rows.specs.declared.places.PlaceWrites.{PlaceWrites}
use Rattle.log_index.specs.Rows.{KeptWrites, texts_of}
use Rattle.log_index.proofs.PlaceLemmas.{texts_same}
use Rattle.log_index.proofs.rows.EntryRows.first_texts.Goals as goal

pub first_texts-requires : goal.first_texts-requires
first_texts-requires c =
    let writes = ap length (ap (λ (k : KeptWrites). k.writes) c.self.view_is) in
    let many = length-map c.self.inside.versions.versions (λ (p : PlaceWrites). p.writes) in
    let within = c.requires in
    omega arith

pub returns : goal.returns
returns c =
    IfOk-weaker c.first_texts.result _ _
    (λ texts h. h ∙ sym (texts_same c.args.n c.self.inside.versions.versions) ∙ ap (λ (k : KeptWrites). texts_of (take c.args.n k.writes)) c.self.view_is) c.first_texts.ensures
