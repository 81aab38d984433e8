use Rattle.std.proofs.Common.{◌≡◌, lit<, refl, arith}
use Rattle.std.proofs.lemmas.Iterator.Splits.{YieldsList-from_str_split}
use Rattle.std.specs.Str.Iter.{split_steps}
use Rattle.std.specs.Str.Pattern.{FindsChar}
use Rattle.lang_values.proofs.PatternLemmas.{part_differs, part_matched, parts_ended, parts_over}
use Rattle.lang_values.proofs.paths.segments_match.Goals as goal

pub loop-segment-init : goal.loop-segment-init
loop-segment-init c = record {
  rest = _;
  come = YieldsList-from_str_split 47 c.args.pattern.now (lit< tt) c.split-parts.ensures.text c.split-parts.ensures.has_more c.split-parts.ensures.pattern;
  same = refl;
}

pub returns-in_default : goal.returns-in_default
returns-in_default c =
    parts_ended (split_steps FindsChar (λ a b. b ≡ a)) c.loop-segment.parts c.next.new.self (λ x. x.now) c.args.segments.now c.loop-segment.segment-index c.args.pattern _ c.next.result c.loop-segment-test.true c.loop-segment.invariant c.next.ensures.steps c.in_default.is

pub returns-then-not-segment_matches : goal.returns-then-not-segment_matches
returns-then-not-segment_matches c =
    part_differs (split_steps FindsChar (λ a b. b ≡ a)) c.loop-segment.parts c.next.new.self (λ x. x.now) c.args.segments.now c.loop-segment.segment-index _ _ c.next.result c.in-Some.part c.segment_matches.result c.loop-segment-test.true c.loop-segment.invariant c.next.ensures.steps c.in-Some.is c.segment_matches.ensures c.if-not-segment_matches.true

pub loop-segment-preserved : goal.loop-segment-preserved
loop-segment-preserved c =
    part_matched (split_steps FindsChar (λ a b. b ≡ a)) c.loop-segment.parts c.next.new.self (λ x. x.now) c.args.segments.now c.loop-segment.segment-index _ _ c.next.result c.in-Some.part c.segment_matches.result c.loop-segment-test.true c.loop-segment.invariant c.next.ensures.steps c.in-Some.is c.segment_matches.ensures c.if-not-segment_matches.false

pub returns : goal.returns
returns c =
    parts_over (split_steps FindsChar (λ a b. b ≡ a)) c.loop-segment.parts c.next-2.new.self (λ x. x.now) c.args.segments.now c.loop-segment.segment-index _ c.next-2.result c.is_none.result (omega (arith, c.loop-segment-test.false)) c.loop-segment.invariant c.next-2.ensures.steps c.is_none.ensures
