use Rattle.std.proofs.Common.{◌≡◌, ◌+◌, ◌||◌, ℕ, List, nat_eq, map, sym, ap, ◌∙◌, subst, arith, eq-eqb, refl}
use Rattle.std.proofs.lemmas.Bool.{ne_eqb}
use Rattle.log_index.specs.Marks.{is_marked, shifted, AreMarks}
use Rattle.dependency_index.proofs.NumberLemmas.{member_put}
use Rattle.log_index.proofs.MarkLemmas.{few_marks, moved_are, put_are, put_fits, shift_before, shift_behind, shift_here}
use Rattle.log_index.proofs.numbers.Marks.insert.Goals as goal

pub shift-requires : goal.shift-requires
shift-requires c = few_marks c.args.count c.args.self.now.items c.requires.few c.requires.marks

pub put-requires-clause-rising : goal.put-requires-clause-rising
put-requires-clause-rising c = (moved_are c.args.count c.args.place c.args.self.now.items c.shift.new.self.items c.requires.marks c.shift.ensures.items).rising

pub put-requires-clause-fits : goal.put-requires-clause-fits
put-requires-clause-fits c =
    let within = c.requires.within in
    let room = c.requires.room in
    let more = c.shift.ensures.spots in
    put_fits (c.args.count + 1) c.args.place _ c.shift.new.self.items (omega arith) (moved_are c.args.count c.args.place c.args.self.now.items c.shift.new.self.items c.requires.marks c.shift.ensures.items) (omega arith)

pub returns-then-marked-clause-marks : goal.returns-then-marked-clause-marks
returns-then-marked-clause-marks c =
    let within = c.requires.within in
    let P : List ℕ → Type 0 = λ l. AreMarks (c.args.count + 1) l in
    subst P (sym c.put.ensures.items) (put_are (c.args.count + 1) c.args.place c.shift.new.self.items (omega arith) (moved_are c.args.count c.args.place c.args.self.now.items c.shift.new.self.items c.requires.marks c.shift.ensures.items))

put_at : (c : goal.After-put) (q : ℕ) → is_marked q c.put.new.self.items ≡ (nat_eq q c.args.place || is_marked q (map (shifted c.args.place) c.args.self.now.items))
put_at c q =
    ap (is_marked q) c.put.ensures.items ∙ member_put q c.args.place c.shift.new.self.items
    ∙ ap (λ l. nat_eq q c.args.place || is_marked q l) c.shift.ensures.items

pub returns-then-marked-clause-here : goal.returns-then-marked-clause-here
returns-then-marked-clause-here c =
    put_at c c.args.place ∙ ap (λ b. b || is_marked c.args.place (map (shifted c.args.place) c.args.self.now.items)) (eq-eqb c.args.place c.args.place refl) ∙ sym c.if-marked.true

pub returns-then-marked-clause-before : goal.returns-then-marked-clause-before
returns-then-marked-clause-before c = λ q lt.
    put_at c q ∙ ap (λ b. b || is_marked q (map (shifted c.args.place) c.args.self.now.items)) (ne_eqb q c.args.place (λ e. omega arith))
    ∙ shift_before c.args.place q c.args.self.now.items lt

pub returns-then-marked-clause-behind : goal.returns-then-marked-clause-behind
returns-then-marked-clause-behind c = λ q le.
    put_at c (q + 1) ∙ ap (λ b. b || is_marked (q + 1) (map (shifted c.args.place) c.args.self.now.items)) (ne_eqb (q + 1) c.args.place (λ e. omega arith))
    ∙ shift_behind c.args.place q c.args.self.now.items le

pub returns-else-marked-clause-marks : goal.returns-else-marked-clause-marks
returns-else-marked-clause-marks c = moved_are c.args.count c.args.place c.args.self.now.items c.shift.new.self.items c.requires.marks c.shift.ensures.items

pub returns-else-marked-clause-here : goal.returns-else-marked-clause-here
returns-else-marked-clause-here c =
    ap (is_marked c.args.place) c.shift.ensures.items ∙ shift_here c.args.place c.args.self.now.items ∙ sym c.if-marked.false

pub returns-else-marked-clause-before : goal.returns-else-marked-clause-before
returns-else-marked-clause-before c = λ q lt. ap (is_marked q) c.shift.ensures.items ∙ shift_before c.args.place q c.args.self.now.items lt

pub returns-else-marked-clause-behind : goal.returns-else-marked-clause-behind
returns-else-marked-clause-behind c = λ q le. ap (is_marked (q + 1)) c.shift.ensures.items ∙ shift_behind c.args.place q c.args.self.now.items le
