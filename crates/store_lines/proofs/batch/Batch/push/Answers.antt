use Rattle.std.proofs.Common.{rules, ◌≡◌, ◌++◌, [], ◌∷◌, true, ◌∙◌, ap, List, ℕ}
use Rattle.store_lines.proofs.WholeLemmas.{pushed}
use Rattle.store_lines.proofs.batch.Batch.push.Goals as goal

pub invariant_of-self-2 : goal.invariant_of-self-2
invariant_of-self-2 c =
    let yes : c.is_line.result ≡ true = search rules in
    let is : c.push.new.self.items ≡ (c.self.inside.bytes.items ++ c.args.line.now) ++ 10 ∷ [] = search rules in
    let p = pushed c.self.inside.bytes.items c.args.line.now c.push.new.self.items c.self.invariant.0 c.self.invariant.1 (c.is_line.ensures.yes yes) is in
    (p.encoded, p.lines)

pub returns-clause-ok : goal.returns-clause-ok
returns-clause-ok c =
    let yes : c.is_line.result ≡ true = search rules in
    let is : c.push.new.self.items ≡ (c.self.inside.bytes.items ++ c.args.line.now) ++ 10 ∷ [] = search rules in
    let p = pushed c.self.inside.bytes.items c.args.line.now c.push.new.self.items c.self.invariant.0 c.self.invariant.1 (c.is_line.ensures.yes yes) is in
    (p.records ∙ ap (λ (l : List (List ℕ)). l ++ c.args.line.now ∷ []) c.self.view_is, c.is_line.ensures.yes yes)
