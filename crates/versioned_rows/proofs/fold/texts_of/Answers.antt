use Rattle.std.proofs.Common.{◌≡◌, ◌<◌, ◌++◌, ◌∙◌, length, map, take, sym, ap, arith}
use Rattle.lang_core.specs.declared.writes.Write.{Write}
use Rattle.versioned_rows.specs.Places.{texts_of}
use Rattle.versioned_rows.proofs.FoldLemmas.{texts_more}
use Rattle.versioned_rows.proofs.fold.texts_of.Goals as goal

pub loop-place-preserved : goal.loop-place-preserved
loop-place-preserved c =
    let ps = c.args.places.now in
    let i = c.loop-place.place-index in
    let p = c.place-item.result in
    let lt : i < length ps = omega arith in
    let wrote : c.as_slice.result.now ≡ p.writes = c.as_slice.ensures.items in
    c.in_ok-add_texts.ensures.ok ∙ ap (λ l. l ++ map (λ (w : Write). w.text) c.as_slice.result.now) c.loop-place.invariant
    ∙ ap (λ ws. texts_of (take i ps) ++ map (λ (w : Write). w.text) ws) wrote ∙ sym (texts_more ps i p lt c.place-item.is)
