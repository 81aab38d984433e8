use Rattle.std.proofs.Common.{◌≡◌, length}
use Rattle.std.specs.Str.{IsUtf8}
use Rattle.std.specs.String.{string_bytes}
use Rattle.dump_words.specs.Escapes.{glued, unescaped}
use Rattle.dump_words.proofs.escapes.read_pieces.Given as goal

abbrev pub invariant-loop-front : goal.invariant-loop-front
invariant-loop-front l = record {
  text : IsUtf8 l.rest;
  whole : glued (string_bytes l.text) (unescaped l.in_key l.rest) ≡ unescaped l.in_key l.body;
}

abbrev pub decreases-loop-front : goal.decreases-loop-front
decreases-loop-front l = length l.rest
