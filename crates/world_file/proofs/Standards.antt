-- The services of a world that comes with the program know each other.
use Rattle.std.proofs.Common.{◌≡◌, ℕ, Bool, true, false, cond, List, [], Some, None, Ok, Err, ap, codes, map}
use Rattle.lang_base.specs.Texts.{same_text}
use Rattle.world_file.specs.Fields.{Fields}
use Rattle.world_file.specs.Standard.{built_in, good, notes, posts, shops, world_of_fields, world_where}
use Rattle.world_file.specs.Worlds.{KnowEachOther, Outcome, joined, members_behind}
use Rattle.world_file.specs.declared.setup.Setup.{Setup}
use Rattle.world_file.proofs.MemberLemmas.{reads_know}

where_known : (o : Outcome (List Setup)) (world : List Setup) → world_where o ≡ Some world → o ≡ Ok world
where_known (Ok found) world h = let same : found ≡ world = cc in ap Ok same
where_known (Err refused) world h = cc

fields_know : (services : List Fields) (world : List Setup) → world_of_fields services ≡ Some world → KnowEachOther world
fields_know services world h = reads_know (map good services) world (where_known (joined (members_behind [] (map good services))) world h)

by_words : (a b c : Bool) (world : List Setup) → cond a (world_of_fields notes) (cond b (world_of_fields shops) (cond c (world_of_fields posts) None)) ≡ Some world → KnowEachOther world
by_words true b c world h = fields_know notes world h
by_words false true c world h = fields_know shops world h
by_words false false true world h = fields_know posts world h
by_words false false false world h = cc

pub built_in_knows : (word : List ℕ) (world : List Setup) → built_in word ≡ Some world → KnowEachOther world
unfolding built_in
built_in_knows word world h = by_words (same_text word (codes "@notes")) (same_text word (codes "@shops")) (same_text word (codes "@posts")) world h
