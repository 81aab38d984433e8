use Rattle.std.proofs.Common.{◌≡◌, ◌∙◌, ◌==◌, lit<, List, ℕ, length, ap, arith}
use Rattle.std.specs.Prelude.{◌||◌, codes}
use Rattle.std.specs.List.{slice_split}
use Rattle.std.specs.Str.Iter.{split_has_more, split_pattern, split_steps, split_text}
use Rattle.std.specs.Str.Pattern.{FindsChar}
use Rattle.std.proofs.lemmas.Iterator.Consumers.{YieldsList-end, YieldsList-turn}
use Rattle.std.proofs.lemmas.Iterator.Splits.{YieldsList-from_str_split}
use Rattle.std.proofs.lemmas.List.{length_push, map-id}
use Rattle.lang_base.specs.Texts.{same_text}
use Rattle.lang_values.specs.Paths.{segments_match}
use Rattle.lang_values.proofs.PatternLemmas.{part_differs, part_matched, parts_ended, parts_over}
use Rattle.lang_values.proofs.paths.path_matches.Goals as goal

pub loop-segment-init : goal.loop-segment-init
loop-segment-init c = record {
  rest = _;
  come = YieldsList-from_str_split 47 c.args.pattern.now (lit< tt) c.split-pieces.ensures.text c.split-pieces.ensures.has_more c.split-pieces.ensures.pattern;
  same = ap (segments_match (slice_split (λ b. b == 47) c.args.pattern.now)) (map-id (slice_split (λ b. b == 47) c.args.path.now));
}

pub returns-in_default : goal.returns-in_default
returns-in_default c =
    let from = c.into_iter-segment-iterator.ensures.into_iter_gives in
    let t = YieldsList-turn
    (YieldsList-from_str_split 47 c.args.path.now (lit< tt) (ap split_text from ∙ c.split-segment-items.ensures.text) (ap split_has_more from ∙ c.split-segment-items.ensures.has_more) (ap split_pattern from ∙ c.split-segment-items.ensures.pattern))
    c.loop-segment.yielded _ c.loop-segment.yielded_by _ _ c.in-Some.segment c.in-Some.is c.next.ensures.steps in
    parts_ended (split_steps FindsChar (λ a b. b ≡ a)) c.loop-segment.pieces c.next-in-loop-segment.new.self (λ x. x) (slice_split (λ b. b == 47) c.args.path.now) (length c.loop-segment.yielded) c.in-Some.segment.now _
    c.next-in-loop-segment.result t.0 c.loop-segment.invariant c.next-in-loop-segment.ensures.steps c.in_default.is

pub returns-then-not-segment_matches : goal.returns-then-not-segment_matches
returns-then-not-segment_matches c =
    let from = c.into_iter-segment-iterator.ensures.into_iter_gives in
    let t = YieldsList-turn
    (YieldsList-from_str_split 47 c.args.path.now (lit< tt) (ap split_text from ∙ c.split-segment-items.ensures.text) (ap split_has_more from ∙ c.split-segment-items.ensures.has_more) (ap split_pattern from ∙ c.split-segment-items.ensures.pattern))
    c.loop-segment.yielded _ c.loop-segment.yielded_by _ _ c.in-Some.segment c.in-Some.is c.next.ensures.steps in
    part_differs (split_steps FindsChar (λ a b. b ≡ a)) c.loop-segment.pieces c.next-in-loop-segment.new.self (λ x. x) (slice_split (λ b. b == 47) c.args.path.now) (length c.loop-segment.yielded) c.in-Some.segment.now _
    c.next-in-loop-segment.result c.in-Some-next.part c.segment_matches.result t.0 c.loop-segment.invariant c.next-in-loop-segment.ensures.steps c.in-Some-next.is
    (c.segment_matches.ensures ∙ ap (λ (q : List ℕ). same_text c.in-Some-next.part.now (codes "*") || same_text c.in-Some-next.part.now q) t.1) c.if-not-segment_matches.true

pub loop-segment-preserved : goal.loop-segment-preserved
loop-segment-preserved c =
    let from = c.into_iter-segment-iterator.ensures.into_iter_gives in
    let t = YieldsList-turn
    (YieldsList-from_str_split 47 c.args.path.now (lit< tt) (ap split_text from ∙ c.split-segment-items.ensures.text) (ap split_has_more from ∙ c.split-segment-items.ensures.has_more) (ap split_pattern from ∙ c.split-segment-items.ensures.pattern))
    c.loop-segment.yielded _ c.loop-segment.yielded_by _ _ c.in-Some.segment c.in-Some.is c.next.ensures.steps in
    rw (length_push c.loop-segment.yielded c.in-Some.segment)
    (part_matched (split_steps FindsChar (λ a b. b ≡ a)) c.loop-segment.pieces c.next-in-loop-segment.new.self (λ x. x) (slice_split (λ b. b == 47) c.args.path.now) (length c.loop-segment.yielded) c.in-Some.segment.now _
    c.next-in-loop-segment.result c.in-Some-next.part c.segment_matches.result t.0 c.loop-segment.invariant c.next-in-loop-segment.ensures.steps c.in-Some-next.is
    (c.segment_matches.ensures ∙ ap (λ (q : List ℕ). same_text c.in-Some-next.part.now (codes "*") || same_text c.in-Some-next.part.now q) t.1) c.if-not-segment_matches.false)

pub returns : goal.returns
returns c =
    let from = c.into_iter-segment-iterator.ensures.into_iter_gives in
    let t = YieldsList-end
    (YieldsList-from_str_split 47 c.args.path.now (lit< tt) (ap split_text from ∙ c.split-segment-items.ensures.text) (ap split_has_more from ∙ c.split-segment-items.ensures.has_more) (ap split_pattern from ∙ c.split-segment-items.ensures.pattern))
    c.loop-segment.yielded _ c.loop-segment.yielded_by _ _ c.in-None.is c.next.ensures.steps in
    parts_over (split_steps FindsChar (λ a b. b ≡ a)) c.loop-segment.pieces c.next-2.new.self (λ x. x) (slice_split (λ b. b == 47) c.args.path.now) (length c.loop-segment.yielded) _
    c.next-2.result c.is_none.result (omega (arith, t.1)) c.loop-segment.invariant c.next-2.ensures.steps c.is_none.ensures
