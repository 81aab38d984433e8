use Rattle.std.proofs.Common.{◌≡◌, ◌∷◌, ◌++◌, [], ℕ, List, sym, ap, ◌∙◌, subst}
use Rattle.std.specs.List.{concat}
use Rattle.number_blocks.specs.Blocks.{AreBlocks}
use Rattle.number_blocks.proofs.BlockLemmas.{push_blocks, push_items}
use Rattle.number_blocks.proofs.parts.push_block.Goals as goal

pub returns-clause-blocks : goal.returns-clause-blocks
returns-clause-blocks c =
    let bs = c.args.blocks.now.items in
    let x = c.args.number in
    let blocks : c.push_reserved.new.self.items ≡ bs ++ (x ∷ []) ∷ [] =
    c.push_reserved.ensures.items ∙ ap (λ l. l ++ c.in_ok-block.block ∷ []) c.ready.ensures.blocks ∙ ap (λ b. bs ++ b ∷ []) c.in_ok-block.ensures in
    let starts = c.push_reserved-2.ensures.items ∙ ap (λ l. l ++ c.args.len ∷ []) c.ready.ensures.starts in
    let P : List (List ℕ) → Type 0 = λ l. AreBlocks l c.push_reserved-2.new.self.items in
    let Q : List ℕ → Type 0 = λ l. AreBlocks (bs ++ (x ∷ []) ∷ []) l in
    subst P (sym blocks) (subst Q (sym starts) (push_blocks bs c.args.starts.now.items c.args.len x c.requires.blocks c.requires.len))

pub returns-clause-ok : goal.returns-clause-ok
returns-clause-ok c =
    let bs = c.args.blocks.now.items in
    let x = c.args.number in
    ap concat (c.push_reserved.ensures.items ∙ ap (λ l. l ++ c.in_ok-block.block ∷ []) c.ready.ensures.blocks ∙ ap (λ b. bs ++ b ∷ []) c.in_ok-block.ensures) ∙ push_items bs (x ∷ [])
