use Rattle.std.proofs.Common.{◌∙◌, take, sym, ap}
use Rattle.std.specs.Option.{option_or}
use Rattle.request_log.specs.Folded.{whole}
use Rattle.service_posts.specs.Walks.{calls_in, is_to, last_to}
use Rattle.service_posts.proofs.OutwardLemmas.{last_of_both}
use Rattle.service_posts.proofs.outward.previous_to.Goals as goal

pub returns-in-Some : goal.returns-in-Some
returns-in-Some c =
    let registers = c.args.registers.now.list in
    let dest = c.args.dest.now in
    let ahead = take c.args.at.call c.args.numbers.now in
    let front = calls_in (whole c.args.folded.now (take c.args.at.entry c.args.entries.now)) in
    sym (last_of_both (is_to registers dest) front ahead ∙ ap (λ o. option_or o (last_to registers dest front))
    (sym (sym c.in-Some.is ∙ c.last_to.ensures ∙ ap (last_to registers dest) c.ahead_of.ensures)))

pub returns-in-None : goal.returns-in-None
returns-in-None c =
    let registers = c.args.registers.now.list in
    let dest = c.args.dest.now in
    let ahead = take c.args.at.call c.args.numbers.now in
    let front = calls_in (whole c.args.folded.now (take c.args.at.entry c.args.entries.now)) in
    c.last_among.ensures
    ∙ sym (last_of_both (is_to registers dest) front ahead ∙ ap (λ o. option_or o (last_to registers dest front))
    (sym (sym c.in-None.is ∙ c.last_to.ensures ∙ ap (last_to registers dest) c.ahead_of.ensures)))
