use Rattle.std.proofs.Common.{◌≡◌, ℕ, false, List, [], ◌∷◌, ◌++◌, Option, arith, refl, sym, ap, subst, ◌∙◌}
use Rattle.io_edge.specs.Edge.{Took}
use Rattle.io_edge.proofs.Pieces.{took_more, took_none}
use Rattle.http_front.specs.Ends.{ends_head}
use Rattle.http_front.specs.Reading.{taken_byte}
use Rattle.http_front.proofs.EndLemmas.{begun_more, nothing_ended, cut_short, too_long, unended_more}
use Rattle.http_front.proofs.TakenLemmas.{up_to_more}
use Rattle.http_front.proofs.reading.read_head.Goals as goal

pub loop-source-init : goal.loop-source-init
loop-source-init g c =
    let none = c.new-head.ensures.items in
    record {
      took = rw none (took_none (g.S.Source.reads c.args.source.now) (g.S.Source.reads c.args.source.now) refl);
      unended = nothing_ended c.new-head.result.items none;
      within = omega (arith, c.new-head.ensures.len);
      begun = rw none refl;
      whole = refl;
      beside = refl;
      counted = omega arith;
    }

pub returns-in_default-clause-head : goal.returns-in_default-clause-head
returns-in_default-clause-head g c = λ _.
    cut_short (g.S.Source.reads c.args.source.now) (g.S.Source.reads c.loop-source.source) (g.S.Source.reads c.read_byte.new.source) c.loop-source.head.items c.len-in_default.result
    c.loop-source.invariant.took
    (subst (λ (byte : Option ℕ). Took (g.S.Source.reads c.loop-source.source) (g.S.Source.reads c.read_byte.new.source) (taken_byte byte)) c.in_default.is c.in_ok-byte.ensures.took)
    (c.in_ok-byte.ensures.end c.in_default.is)
    (omega arith)
    c.loop-source.invariant.unended
    (omega arith)

pub returns-clause-head : goal.returns-clause-head
returns-clause-head g c = λ _.
    too_long (g.S.Source.reads c.args.source.now) (g.S.Source.reads c.loop-source.source) c.loop-source.head.items
    c.loop-source.invariant.took (omega arith) c.loop-source.invariant.unended

pub loop-source-preserved : goal.loop-source-preserved
loop-source-preserved g c =
    let first = g.S.Source.reads c.args.source.now in
    let before = g.S.Source.reads c.loop-source.source in
    let now = g.S.Source.reads c.read_byte.new.source in
    let head = c.loop-source.head.items in
    let byte = c.in-Some.byte in
    let taken : Took before now (byte ∷ []) = subst (λ (b : Option ℕ). Took before now (taken_byte b)) c.in-Some.is c.in_ok-byte.ensures.took in
    let P : List ℕ → Type 0 = λ xs. Took first now xs in
    let more : c.push.new.self.items ≡ head ++ byte ∷ [] = c.in_ok-push.ensures.items in
    let quiet : ends_head c.push.new.self.items ≡ false = ap ends_head (sym c.deref.ensures.value) ∙ sym c.ends_head.ensures ∙ c.if-ends_head.false in
    record {
      took = subst P (sym more) (took_more first before now head (byte ∷ []) c.loop-source.invariant.took taken);
      unended = unended_more head byte c.push.new.self.items more c.loop-source.invariant.unended quiet;
      within = omega (arith, c.in_ok-push.ensures.len);
      begun = begun_more c.loop-source.begun c.has_begun-begun.result byte head c.push.new.self.items c.loop-source.invariant.begun c.has_begun-begun.ensures more;
      whole = c.read_byte.ensures.whole ∙ c.loop-source.invariant.whole;
      beside = c.read_byte.ensures.beside ∙ c.loop-source.invariant.beside;
      counted = omega arith;
    }

pub ends_head-requires : goal.ends_head-requires
ends_head-requires g c =
    begun_more c.loop-source.begun c.has_begun-begun.result c.in-Some.byte c.loop-source.head.items c.deref.result.now
    c.loop-source.invariant.begun c.has_begun-begun.ensures (c.deref.ensures.value ∙ c.in_ok-push.ensures.items)

pub returns-in_err-byte-clause-taken : goal.returns-in_err-byte-clause-taken
returns-in_err-byte-clause-taken g c =
    up_to_more 16384 (g.S.Source.reads c.args.source.now) (g.S.Source.reads c.loop-source.source) (g.S.Source.reads c.read_byte.new.source) c.loop-source.head.items 1
    c.loop-source.invariant.took c.read_byte.ensures.taken (omega arith)

pub returns-in_err-push-clause-taken : goal.returns-in_err-push-clause-taken
returns-in_err-push-clause-taken g c =
    up_to_more 16384 (g.S.Source.reads c.args.source.now) (g.S.Source.reads c.loop-source.source) (g.S.Source.reads c.read_byte.new.source) c.loop-source.head.items 1
    c.loop-source.invariant.took c.read_byte.ensures.taken (omega arith)

pub returns-then-ends_head-clause-taken : goal.returns-then-ends_head-clause-taken
returns-then-ends_head-clause-taken g c =
    up_to_more 16384 (g.S.Source.reads c.args.source.now) (g.S.Source.reads c.loop-source.source) (g.S.Source.reads c.read_byte.new.source) c.loop-source.head.items 1
    c.loop-source.invariant.took c.read_byte.ensures.taken (omega arith)
