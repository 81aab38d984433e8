use Rattle.std.proofs.Common.{◌≡◌, ◌++◌, Some, map, drop}
use Rattle.std.specs.List.{list_all}
use Rattle.lang_core.specs.Names.{is_name}
use Rattle.dump_words.specs.Parts.{where_good}
use Rattle.dump_words.proofs.parts.names_of.Given as goal

abbrev pub invariant-loop-piece : goal.invariant-loop-piece
invariant-loop-piece l =
    where_good (list_all is_name (map (λ x. x.now) (drop l.piece-index l.pieces))) (Some (l.names ++ map (λ x. x.now) (drop l.piece-index l.pieces)))
    ≡ where_good (list_all is_name (map (λ x. x.now) l.fn.pieces)) (Some (map (λ x. x.now) l.fn.pieces))
