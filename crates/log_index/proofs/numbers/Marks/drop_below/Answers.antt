use Rattle.std.proofs.Common.{◌≡◌, ◌+◌, ℕ, List, drop, length, sym, ap, ◌∙◌, subst, arith}
use Rattle.std.proofs.lemmas.List.{drop-drop, length-drop}
use Rattle.log_index.specs.Marks.{is_marked, AreMarks, Marked}
use Rattle.log_index.proofs.MarkLemmas.{drop_are, left_at}
use Rattle.log_index.proofs.numbers.Marks.drop_below.Goals as goal

pub close_up-gone-requires : goal.close_up-gone-requires
close_up-gone-requires c =
    let seen = ap length (ap (λ (k : Marked). k.items) c.self.view_is) in
    let within = rw c.as_slice.ensures at c.seek_number-below.ensures.within.within in
    let long = length-drop c.self.inside.gone c.self.inside.numbers.items in
    let inside = c.self.invariant in
    omega arith

-- what is left is what stood behind those that went
left : (gone below : ℕ) (all shown new : List ℕ) (now : ℕ) → drop gone all ≡ shown → drop now new ≡ drop (gone + below) all → drop now new ≡ drop below shown
left gone below all shown new now seen is = is ∙ sym (drop-drop below gone all) ∙ ap (drop below) seen

pub returns-clause-each : goal.returns-clause-each
returns-clause-each c = λ q.
    ap (is_marked q) (left c.self.inside.gone c.seek_number-below.result.0 c.self.inside.numbers.items c.args.self.now.items c.close_up-gone.new.numbers.items c.close_up-gone.result
    (ap (λ (k : Marked). k.items) c.self.view_is) c.close_up-gone.ensures.items)
    ∙ left_at q c.args.place c.seek_number-below.result.0 c.seek_number-below.result.1 c.args.self.now.items
    (rw c.as_slice.ensures at c.seek_number-below.ensures.below) (rw c.as_slice.ensures at c.seek_number-below.ensures.above)
    (rw c.as_slice.ensures at c.seek_number-below.ensures.within) (λ t. rw c.as_slice.ensures at c.seek_number-below.ensures.here t c.args.place)

pub returns-clause-marks : goal.returns-clause-marks
returns-clause-marks c = λ count are.
    let P : List ℕ → Type 0 = λ l. AreMarks count l in
    subst P (sym (left c.self.inside.gone c.seek_number-below.result.0 c.self.inside.numbers.items c.args.self.now.items c.close_up-gone.new.numbers.items c.close_up-gone.result
    (ap (λ (k : Marked). k.items) c.self.view_is) c.close_up-gone.ensures.items))
    (drop_are count c.seek_number-below.result.0 c.args.self.now.items are)
