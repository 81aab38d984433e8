use Rattle.std.proofs.Common.{◌≡◌, length, arith, cond, Result, Ok, Err, IsOk, is_ok}
use Rattle.std.specs.List.{insert}
use Rattle.place_order.proofs.TagLemmas.{tagged_more}
use Rattle.place_order.proofs.order.put_label.Goals as goal

where_ok : {A B X : Type 0} (r : Result A B) (x a b : X) → IsOk r → x ≡ cond (is_ok r) a b → x ≡ a
where_ok (Ok _) x a b ok is = is
where_ok (Err _) x a b ok is = cc

pub returns-clause-tagged : goal.returns-clause-tagged
returns-clause-tagged c =
    let tagged = rw c.deref.ensures.value at c.tag_for-tag.ensures.tagged in
    let between = rw c.deref.ensures.value at c.tag_for-tag.ensures.between in
    let label : c.len-label.result ≡ length c.tag_for-tag.new.tags.items = omega arith in
    let put : c.insert.new.self.items ≡ insert c.args.labels.now.items c.args.at c.len-label.result = where_ok c.insert.result _ _ _ (c.insert.ensures.succeeds c.requires.label_place) c.insert.ensures.items in
    rw (put, c.push_reserved.ensures.items, label)
    (tagged_more c.args.labels.now.items c.tag_for-tag.new.tags.items tagged c.args.at c.tag_for-tag.result c.requires.at between c.requires.few)
