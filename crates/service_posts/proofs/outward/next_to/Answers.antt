use Rattle.std.proofs.Common.{◌∙◌, ◌+◌, drop, sym, ap}
use Rattle.std.specs.Option.{option_or}
use Rattle.service_posts.specs.Walks.{calls_in, first_to, is_to}
use Rattle.service_posts.proofs.OutwardLemmas.{first_of_both}
use Rattle.service_posts.proofs.outward.next_to.Goals as goal

pub returns-in-Some : goal.returns-in-Some
returns-in-Some c =
    let registers = c.args.registers.now.list in
    let dest = c.args.dest.now in
    let behind = drop (c.args.at.call + 1) c.args.numbers.now in
    let rest = calls_in (drop (c.args.at.entry + 1) c.args.entries.now) in
    sym (first_of_both (is_to registers dest) behind rest ∙ ap (λ o. option_or o (first_to registers dest rest))
    (sym (sym c.in-Some.is ∙ c.first_to.ensures ∙ ap (first_to registers dest) c.behind.ensures)))

pub returns-in-None : goal.returns-in-None
returns-in-None c =
    let registers = c.args.registers.now.list in
    let dest = c.args.dest.now in
    let behind = drop (c.args.at.call + 1) c.args.numbers.now in
    let rest = calls_in (drop (c.args.at.entry + 1) c.args.entries.now) in
    c.first_from.ensures
    ∙ sym (first_of_both (is_to registers dest) behind rest ∙ ap (λ o. option_or o (first_to registers dest rest))
    (sym (sym c.in-None.is ∙ c.first_to.ensures ∙ ap (first_to registers dest) c.behind.ensures)))
