use Rattle.std.proofs.Common.{◌≡◌, ◌∙◌, sym, ap, refl, ◌<◌, Bool, true, false, length, arith}
use Rattle.std.proofs.lemmas.List.{get_or_read}
use Rattle.lang_lists.proofs.halves.count_front.Goals as goal

fails : (a b : Bool) → (a ≡ true → b ≡ true) → b ≡ false → a ≡ false
fails true b h e = let t = h refl in cc
fails false b h e = refl

pub loop-low-preserved-then-is_front : goal.loop-low-preserved-then-is_front
loop-low-preserved-then-is_front g c =
    let items = c.args.items.now in
    let m = c.probe-middle.result in
    let lt : m < length items = omega arith in
    let read = get_or_read items m c.index-items-middle.result lt c.index-items-middle.is in
    record {
      within = c.loop-low.invariant.within;
      ends = omega arith;
      parted = λ p computes rises.
          let is = computes _ _ (m, lt, sym (read c.index-items-middle.result)) c.is_front.ensures in (
            λ k d from below. rises k m d (omega arith) lt (ap p (sym (read d)) ∙ sym is ∙ c.if-is_front.true),
            (c.loop-low.invariant.parted p computes rises).1,
          );
    }

pub loop-low-preserved : goal.loop-low-preserved
loop-low-preserved g c =
    let items = c.args.items.now in
    let m = c.probe-middle.result in
    let lt : m < length items = omega arith in
    let read = get_or_read items m c.index-items-middle.result lt c.index-items-middle.is in
    record {
      within = omega arith;
      ends = omega arith;
      parted = λ p computes rises.
          let is = computes _ _ (m, lt, sym (read c.index-items-middle.result)) c.is_front.ensures in (
            (c.loop-low.invariant.parted p computes rises).0,
            λ k d from inside. fails _ _ (rises m k d from inside) (ap p (sym (read d)) ∙ sym is ∙ c.if-is_front.false),
          );
    }

pub returns-clause-parted : goal.returns-clause-parted
returns-clause-parted g c = λ p computes rises.
    let parts = c.loop-low.invariant.parted p computes rises in
    (parts.0, λ k d from inside. parts.1 k d (omega arith) inside)
