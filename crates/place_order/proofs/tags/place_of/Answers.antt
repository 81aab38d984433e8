use Rattle.std.proofs.Common.{◌≡◌, ◌<◌, nat_lt, arith, length, rules}
use Rattle.place_order.specs.Labels.{place_in}
use Rattle.place_order.specs.Tags.{tag_of}
use Rattle.place_order.proofs.TagLemmas.{stands, has_tag, parted_by_tags, place_by_tags}
use Rattle.place_order.proofs.tags.place_of.Goals as goal

pub count_front-requires : goal.count_front-requires
count_front-requires c = λ x there.
    let known : x.now < length c.args.tags.now = has_tag c.args.labels.now c.args.tags.now c.requires.tagged x.now there in
    search rules

pub returns-clause-place : goal.returns-clause-place
returns-clause-place c =
    let labels = c.args.labels.now in
    let tags = c.args.tags.now in
    place_by_tags labels tags c.requires.tagged c.args.label c.count_front.result c.requires.there
    (c.count_front.ensures.parted (λ l. nat_lt (tag_of tags l) (tag_of tags c.args.label)) (λ x r there e. search rules) (parted_by_tags labels tags c.requires.tagged (tag_of tags c.args.label)))

pub returns-clause-within : goal.returns-clause-within
returns-clause-within c =
    let is : c.count_front.result ≡ place_in c.args.labels.now c.args.label = returns-clause-place c in
    let within = (stands c.args.labels.now c.args.tags.now c.requires.tagged c.args.label c.requires.there).0 in
    omega arith
