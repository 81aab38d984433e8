use Rattle.std.proofs.Common.{◌∙◌, ap, fold}
use Rattle.service_parts.specs.Parts.{kept}
use Rattle.service_posts.specs.Walks.{calls_in, seen}
use Rattle.service_posts.proofs.WalkLemmas.{next_is, previous_is, start_walk, whole_same}
use Rattle.service_posts.proofs.beside.neighbours_among.Goals as goal

pub returns-clause-before : goal.returns-clause-before
returns-clause-before c =
    let s = kept c.args.parts.now in
    next_is s c.args.dest.now c.args.number c.seen_log-walk.result
    (c.seen_log-walk.ensures ∙ ap (λ es. fold (seen s.registers c.args.dest.now c.args.number) start_walk (calls_in es)) (whole_same c.log.ensures.folded c.log.ensures.entries))

pub returns-clause-after : goal.returns-clause-after
returns-clause-after c =
    let s = kept c.args.parts.now in
    previous_is s c.args.dest.now c.args.number c.seen_log-walk.result
    (c.seen_log-walk.ensures ∙ ap (λ es. fold (seen s.registers c.args.dest.now c.args.number) start_walk (calls_in es)) (whole_same c.log.ensures.folded c.log.ensures.entries))
