use Rattle.std.proofs.Common.{◌-◌, ◌+◌, ◌≤◌, ℕ, List, sym, ap, ◌∙◌, subst}
use Rattle.std.specs.List.{All}
use Rattle.log_index.specs.Marks.{is_marked, AreMarks}
use Rattle.log_index.proofs.MarkLemmas.{all_above, lower_are, lower_behind, not_above}
use Rattle.log_index.proofs.numbers.Marks.fold.Goals as goal

-- those that are left stand behind
above : (c : goal.After-lower) → All (λ q. c.args.n ≤ q) c.drop_below.new.self.items
above c = all_above c.args.n c.args.self.now.items c.drop_below.new.self.items c.drop_below.ensures.each

pub returns-clause-marks : goal.returns-clause-marks
returns-clause-marks c =
    let P : List ℕ → Type 0 = λ l. AreMarks (c.args.count - c.args.n) l in
    subst P (sym c.lower.ensures.items) (lower_are c.args.n c.args.count c.drop_below.new.self.items (above c) (c.drop_below.ensures.marks c.args.count c.requires.marks))

pub returns-clause-each : goal.returns-clause-each
returns-clause-each c = λ q.
    ap (is_marked q) c.lower.ensures.items ∙ lower_behind c.args.n q c.drop_below.new.self.items (above c) ∙ c.drop_below.ensures.each (c.args.n + q)
    ∙ not_above c.args.n q (is_marked (c.args.n + q) c.args.self.now.items)
