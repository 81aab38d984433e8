use Rattle.std.proofs.Common.{◌∙◌, codes, sym}
use Rattle.world_file.proofs.Standards.{built_in_knows}
use Rattle.aire_top.proofs.WorldsThere.{is_there}
use Rattle.aire_top.proofs.making.posts.Goals as goal

pub there-requires : goal.there-requires
there-requires c = is_there _ _ c.in_ok-world.ensures

pub returns-clause-together : goal.returns-clause-together
returns-clause-together c = built_in_knows (codes "@posts") _ (sym c.in_ok-world.ensures ∙ c.there.ensures)
