use Rattle.std.proofs.Common.{ℕ, List, None, map, sym, ap, ◌∙◌, subst}
use Rattle.std.specs.List.{All, Contains}
use Rattle.std.proofs.lemmas.List.Elements.{All-filter}
use Rattle.dependency_index.specs.Numbers.{with_numbers}
use Rattle.dependency_index.specs.Reads.{is_at, is_between, is_scan_of, label_of, readers}
use Rattle.dependency_index.specs.declared.reads.ReadKind.TheVariants.{Key}
use Rattle.dependency_index.proofs.IndexLemmas.{labels_all}
use Rattle.log_index.specs.Marks.{is_marked, places_behind}
use Rattle.log_index.proofs.BehindLemmas.{marked_after}
use Rattle.log_index.proofs.behind.mark_write.Goals as goal

pub readers_between-requires-clause-labels : goal.readers_between-requires-clause-labels
readers_between-requires-clause-labels c =
    let P : List ℕ → Type 0 = λ l. All (Contains l) (map label_of c.args.index.now.reads) in
    subst P (sym c.order-order.ensures) c.requires.noted.known

pub put_behind-requires-clause-there : goal.put_behind-requires-clause-there
put_behind-requires-clause-there c =
    let t = c.args.write.now.table in
    let k = c.args.write.now.key in
    let noted = c.args.index.now.reads in
    let labels = c.args.places.now.labels in
    let Q : List ℕ → Type 0 = λ l. All (Contains labels) l in
    subst Q (sym (c.as_slice.ensures ∙ c.in_ok-readers.ensures))
    (All-filter (is_between c.order-order.result.now.labels c.label_at-from.result None) (Contains labels) (readers t k noted)
    (labels_all (is_at Key t k) (Contains labels) noted c.requires.noted.known))

pub put_behind-requires-2-clause-there : goal.put_behind-requires-2-clause-there
put_behind-requires-2-clause-there c =
    let labels = c.args.places.now.labels in
    let Q : List ℕ → Type 0 = λ l. All (Contains labels) l in
    subst Q (sym (c.as_slice-2.ensures ∙ c.in_ok-scanners.ensures))
    (labels_all (is_scan_of c.args.write.now.table c.args.write.now.key) (Contains labels) c.args.index.now.reads c.requires.noted.known)

pub returns-clause-ok : goal.returns-clause-ok
returns-clause-ok c = λ q.
    let labels = c.args.places.now.labels in
    ap (is_marked q) (c.put_behind-2.ensures.items ∙ ap (with_numbers (places_behind labels c.args.place c.as_slice-2.result.now)) c.put_behind.ensures.items)
    ∙ marked_after labels c.requires.noted.apart c.args.index.now.reads c.requires.noted.known c.order-order.result.now.labels c.args.marks.now.items
    c.as_slice.result.now c.as_slice-2.result.now c.args.place c.label_at-from.result c.args.write.now c.order-order.ensures c.label_at-from.ensures.place
    (c.as_slice.ensures ∙ c.in_ok-readers.ensures) (c.as_slice-2.ensures ∙ c.in_ok-scanners.ensures) q
