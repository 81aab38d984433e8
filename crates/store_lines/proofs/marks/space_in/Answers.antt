use Rattle.std.proofs.Common.{List, ℕ, take, length, subst, sym, arith, ◌≤◌, ◌∙◌}
use Rattle.std.proofs.lemmas.List.{take_more, take_all}
use Rattle.store_lines.specs.Lines.{Lacks}
use Rattle.store_lines.proofs.TextLemmas.{lacks_append}
use Rattle.store_lines.proofs.marks.space_in.Goals as goal

pub loop-i-preserved : goal.loop-i-preserved
loop-i-preserved c =
    let line = c.args.line.now in
    let i = c.loop-i.i in
    subst (λ (l : List ℕ). Lacks 32 l) (sym (take_more line i 0 c.loop-i-test.true)) (lacks_append 32 (take i line) _ c.loop-i.invariant (c.if-b-eq-SPACE.false, tt))

pub returns-clause-front : goal.returns-clause-front
returns-clause-front c =
    let line = c.args.line.now in
    let past : length line ≤ c.loop-i.i = c.loop-i-test.false in
    subst (λ (l : List ℕ). Lacks 32 l) (take_all c.loop-i.i line past ∙ sym (take_all (length line) line (omega arith))) c.loop-i.invariant
