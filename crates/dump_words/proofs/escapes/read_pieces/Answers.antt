use Rattle.std.proofs.Common.{rules, ◌∙◌}
use Rattle.std.specs.String.{string_bytes}
use Rattle.dump_words.specs.Escapes.{unescaped}
use Rattle.dump_words.proofs.EscapeLemmas.{piece_last, piece_more, piece_none, piece_shorter}
use Rattle.dump_words.proofs.escapes.read_pieces.Goals as goal

pub returns-in_default-cut_escape : goal.returns-in_default-cut_escape
returns-in_default-cut_escape c =
    piece_none c.args.in_key (string_bytes c.loop-front.text) c.loop-front.rest.now c.in-Some.front.now c.in-Some.behind.now (unescaped c.args.in_key c.args.body.now) c.loop-front.invariant.whole c.in-Some.ensures c.in_default-cut_escape.ensures

pub loop-front-smaller : goal.loop-front-smaller
loop-front-smaller c =
    piece_shorter c.args.in_key c.loop-front.rest.now c.in-Some.front.now c.in-Some.behind.now c.in-Some-cut_escape.byte.now c.in-Some-cut_escape.more.now c.in-Some.ensures c.in-Some-cut_escape.ensures

pub loop-front-preserved : goal.loop-front-preserved
loop-front-preserved c = record {
  text = search rules;
  whole = piece_more c.args.in_key (string_bytes c.loop-front.text) (string_bytes c.push_str.new.self) (string_bytes c.push_str-in-Some.new.self) c.loop-front.rest.now c.in-Some.front.now c.in-Some.behind.now c.in-Some-cut_escape.byte.now c.in-Some-cut_escape.more.now (unescaped c.args.in_key c.args.body.now) c.loop-front.invariant.whole c.in-Some.ensures c.in-Some-cut_escape.ensures c.in_ok-push_str.ensures.bytes c.in_ok-push_str-2.ensures.bytes;
}

pub returns : goal.returns
returns c =
    piece_last c.args.in_key (string_bytes c.loop-front.text) c.in_ok-shared.field-0 c.loop-front.rest.now (unescaped c.args.in_key c.args.body.now) c.loop-front.invariant.whole c.in_default.ensures (c.in_ok-shared.ensures ∙ c.in_ok-push_str-3.ensures.bytes)
