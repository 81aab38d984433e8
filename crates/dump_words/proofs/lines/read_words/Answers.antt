use Rattle.std.specs.Option.{option_map}
use Rattle.dump_words.proofs.WordLemmas.{no_word}
use Rattle.dump_words.proofs.lines.read_words.Goals as goal

pub returns-in_default : goal.returns-in_default
returns-in_default c =
    no_word c.args.word.now (option_map (λ x. x.now) c.args.rest) c.in_default.not-service c.in_default.not-peers c.in_default.not-program c.in_default.not-entry c.in_default.not-under
    c.in_default.not-call c.in_default.not-answer c.in_default.not-reply c.in_default.not-row c.in_default.not-end
