use Rattle.std.proofs.Common.{◌≡◌, ◌≤◌, ◌<◌, ◌-◌, ℕ, List, length, map, sym, ap, ◌∙◌, subst, get_or, nat_eq, arith}
use Rattle.std.specs.Option.{option_copied}
use Rattle.std.specs.List.{find}
use Rattle.std.proofs.lemmas.List.{map-id}
use Rattle.lang_core.specs.Rows.{get}
use Rattle.place_order.specs.Rising.{IsRising}
use Rattle.versioned_rows.specs.Places.{label_of, writers, is_written}
use Rattle.versioned_rows.specs.Versions.{base_cells, rows_before_label}
use Rattle.key_labels.proofs.RisingLemmas.{rising_kept, known_at}
use Rattle.versioned_rows.proofs.BaseLemmas.{ordered_base}
use Rattle.versioned_rows.proofs.GetLemmas.{get_nothing, get_found, text_of}
use Rattle.versioned_rows.proofs.versions.Versions.text_of_row.Goals as goal

pub count_before-n-requires-clause-rising : goal.count_before-n-requires-clause-rising
count_before-n-requires-clause-rising c =
    let r = c.args.row.now in
    rw (map-id, c.labels-own.ensures, c.requires.held.labels) (rising_kept label_of c.args.order.now.labels (λ p. is_written r.table r.key p.writes) c.args.self.now.versions c.requires.rising)

pub find_place-requires-clause-label : goal.find_place-requires-clause-label
find_place-requires-clause-label c =
    let t = c.args.row.now.table in
    let k = c.args.row.now.key in
    let own = c.labels-own.result.now in
    let versions = c.args.self.now.versions in
    let labels : own ≡ writers t k versions = c.labels-own.ensures ∙ c.requires.held.labels in
    let within : c.count_before-n.result ≤ length own = c.count_before-n.ensures.within in
    let inside : c.count_before-n.result - 1 < length own = grind (arith, c.if-n-eq0.false) in
    let P : List ℕ → Type 0 = λ ls. IsRising c.args.order.now.labels ls in
    known_at c.args.order.now.labels own (c.count_before-n.result - 1) (subst P (sym labels) (rising_kept label_of c.args.order.now.labels (λ p. is_written t k p.writes) versions c.requires.rising)) inside

pub returns-then-n-eq0 : goal.returns-then-n-eq0
returns-then-n-eq0 c =
    let t = c.args.row.now.table in
    let k = c.args.row.now.key in
    let order = c.args.order.now.labels in
    let ps = c.self.inside.places.items in
    let rows = c.self.inside.rows.items in
    let same : c.args.self.now.versions ≡ ps = sym (ap (λ v. v.versions) c.self.view_is) in
    let labels : c.labels-own.result.now ≡ writers t k ps = c.labels-own.ensures ∙ c.requires.held.labels ∙ ap (writers t k) same in
    let rising : IsRising order (map label_of ps) = rw same at c.requires.rising in
    let seen = ap (rows_before_label order c.args.label) c.self.view_is in
    c.base.ensures ∙ c.requires.held.base ∙ ap (λ v. get v.base t k) (sym c.self.view_is)
    ∙ sym (get_nothing order c.args.label (base_cells rows) ps t k (ordered_base rows c.self.invariant.0.ordered) c.self.invariant.0.writes rising c.labels-own.result.now c.count_before-n.result labels c.count_before-n.ensures.count c.if-n-eq0.true)
    ∙ ap (λ cells. get cells t k) seen

pub returns-in-None : goal.returns-in-None
returns-in-None c =
    let t = c.args.row.now.table in
    let k = c.args.row.now.key in
    let order = c.args.order.now.labels in
    let ps = c.self.inside.places.items in
    let rows = c.self.inside.rows.items in
    let own = c.labels-own.result.now in
    let n = c.count_before-n.result in
    let same : c.args.self.now.versions ≡ ps = sym (ap (λ v. v.versions) c.self.view_is) in
    let labels : own ≡ writers t k ps = c.labels-own.ensures ∙ c.requires.held.labels ∙ ap (writers t k) same in
    let rising : IsRising order (map label_of ps) = rw same at c.requires.rising in
    let read = get_found order c.args.label (base_cells rows) ps t k (ordered_base rows c.self.invariant.0.ordered) c.self.invariant.0.writes rising own n labels c.count_before-n.ensures.count c.count_before-n.ensures.within c.if-n-eq0.false in
    let last = get_or own (n - 1) 0 in
    let seen = ap (rows_before_label order c.args.label) c.self.view_is in
    let f = ap option_copied c.in-None.is in
    sym (read ∙ ap (λ qs. text_of t k (find (λ p. nat_eq (label_of p) last) qs)) (sym c.deref.ensures.value)
    ∙ ap (text_of t k) (sym c.find_place.ensures ∙ f))
    ∙ ap (λ cells. get cells t k) seen

pub returns-in-Some : goal.returns-in-Some
returns-in-Some c =
    let t = c.args.row.now.table in
    let k = c.args.row.now.key in
    let order = c.args.order.now.labels in
    let ps = c.self.inside.places.items in
    let rows = c.self.inside.rows.items in
    let own = c.labels-own.result.now in
    let n = c.count_before-n.result in
    let same : c.args.self.now.versions ≡ ps = sym (ap (λ v. v.versions) c.self.view_is) in
    let labels : own ≡ writers t k ps = c.labels-own.ensures ∙ c.requires.held.labels ∙ ap (writers t k) same in
    let rising : IsRising order (map label_of ps) = rw same at c.requires.rising in
    let read = get_found order c.args.label (base_cells rows) ps t k (ordered_base rows c.self.invariant.0.ordered) c.self.invariant.0.writes rising own n labels c.count_before-n.ensures.count c.count_before-n.ensures.within c.if-n-eq0.false in
    let last = get_or own (n - 1) 0 in
    let seen = ap (rows_before_label order c.args.label) c.self.view_is in
    let f = ap option_copied c.in-Some.is in
    let told = rw (c.table.ensures, c.key.ensures) at c.text_at.ensures in
    told ∙ sym (read ∙ ap (λ qs. text_of t k (find (λ p. nat_eq (label_of p) last) qs)) (sym c.deref.ensures.value)
    ∙ ap (text_of t k) (sym c.find_place.ensures ∙ f))
    ∙ ap (λ cells. get cells t k) seen
