use Rattle.std.proofs.Common.{◌∙◌, None}
use Rattle.service_posts.specs.Walks.{is_to}
use Rattle.service_posts.proofs.OutwardLemmas.{last_by_fold}
use Rattle.service_posts.proofs.outward.last_to.Goals as goal

pub returns : goal.returns
returns c = c.later_to.ensures ∙ last_by_fold (is_to c.args.registers.now.list c.args.dest.now) None c.args.numbers.now
