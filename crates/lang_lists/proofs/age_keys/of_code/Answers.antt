use Rattle.std.proofs.Common.{◌∙◌}
use Rattle.lang_lists.proofs.AgeLemmas.{ends_rise, of_code_range}
use Rattle.lang_lists.proofs.age_keys.of_code.Goals as goal

pub part-requires-clause-start : goal.part-requires-clause-start
part-requires-clause-start c =
    ends_rise c.args.keys.now c.requires c.args.code c.count_below-start.result c.count_to-end.result c.count_below-start.ensures.parted c.count_to-end.ensures.parted c.count_below-start.ensures.within

pub returns : goal.returns
returns c =
    let le = ends_rise c.args.keys.now c.requires c.args.code c.count_below-start.result c.count_to-end.result c.count_below-start.ensures.parted c.count_to-end.ensures.parted c.count_below-start.ensures.within in
    c.part.ensures
    ∙ of_code_range c.args.keys.now c.requires c.args.code c.count_below-start.result c.count_to-end.result c.count_below-start.ensures.parted c.count_to-end.ensures.parted le c.count_to-end.ensures.within
