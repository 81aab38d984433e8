use Rattle.std.proofs.Common.{List, ℕ, map, sym, ap, ◌∙◌, subst, arith}
use Rattle.log_index.specs.Marks.{shifted, AreMarks}
use Rattle.log_index.proofs.MarkLemmas.{spliced}
use Rattle.log_index.proofs.numbers.shift_marks.Goals as goal

pub shift_all-requires : goal.shift_all-requires
shift_all-requires c =
    let P : List ℕ → Type 0 = λ l. AreMarks 100000 l in
    subst P (sym c.deref_mut.ensures.value) c.requires

pub returns-clause-items : goal.returns-clause-items
returns-clause-items c =
    spliced (shifted c.args.place) c.args.marks.now.items c.shift_all.new.marks _ (c.shift_all.ensures ∙ ap (map (shifted c.args.place)) c.deref_mut.ensures.value)
    (let ok = c.args.marks.now.ok in omega arith)
