use Rattle.std.proofs.Common.{◌≡◌, ◌<◌, ◌∙◌, true, false, length, get_or, refl, sym, ap, subst, inl, inr, arith}
use Rattle.std.proofs.lemmas.Bool.{cases_lt}
use Rattle.std.proofs.lemmas.List.{get_or_default}
use Rattle.request_log.specs.declared.entry.Entry.{Entry}
use Rattle.local_repair.specs.Held.{IsAnswered}
use Rattle.local_repair.proofs.current.place_of_changed.Goals as goal

pub loop-place-init : goal.loop-place-init
loop-place-init g c = c.requires.checked

pub loop-place-preserved : goal.loop-place-preserved
loop-place-preserved g c = λ q lt d.
    let es = c.args.entries.now in
    let place = c.loop-place.place in
    let e = c.index-entries-place.result in
    let P : Entry → Type 0 = IsAnswered (g.S.Slots.consumed_of c.args.slots.now) in
    let le = c.requires.within in
    let inside = c.loop-place-test.true in
    let within : place < length es = omega arith in
    elim (cases_lt q place) [
      | inl less ↦ c.loop-place.invariant q less d
      | inr more ↦ (let same : place ≡ q = omega arith in
          subst P (c.entry.ensures ∙ c.index-entries-place.is ∙ get_or_default es place e d within ∙ ap (λ n. get_or es n d) same) (c.if-not-is_answered.ensures.0 refl))
    ]

pub returns-then-not-is_answered : goal.returns-then-not-is_answered
returns-then-not-is_answered g c =
    let es = c.args.entries.now in
    let place = c.loop-place.place in
    let e = c.index-entries-place.result in
    let P : Entry → Type 0 = IsAnswered (g.S.Slots.consumed_of c.args.slots.now) in
    let le = c.requires.within in
    let inside = c.loop-place-test.true in
    let within : place < length es = omega arith in (
      inside,
      record {
        within = within;
        before = c.loop-place.invariant;
        stale = λ d answered. let never : false ≡ true = c.if-not-is_answered.ensures.1 (subst P (get_or_default es place d e within ∙ sym c.index-entries-place.is ∙ sym c.entry.ensures) answered) in cc;
      },
    )
