use Rattle.std.proofs.Common.{length, ap, ◌∙◌, arith}
use Rattle.number_blocks.specs.Blocks.{start_of, KeptBlocks}
use Rattle.number_blocks.proofs.BlockLemmas.{as_many, begins_at}
use Rattle.number_blocks.proofs.blocks.Blocks.start.Goals as goal

pub index-requires : goal.index-requires
index-requires c =
    let seen = ap length (ap (λ (k : KeptBlocks). k.blocks) c.self.view_is) in
    let many = as_many c.self.inside.blocks.items c.self.inside.starts.items c.self.invariant.0 in
    let ok = c.self.inside.starts.ok.0 in
    let within = c.requires in
    omega (arith, seen, many, ok, within)

pub returns : goal.returns
returns c =
    let seen = ap length (ap (λ (k : KeptBlocks). k.blocks) c.self.view_is) in
    let within = c.requires in
    begins_at c.self.inside.blocks.items c.self.inside.starts.items c.args.block c.index.result.now c.self.invariant.0 (omega (arith, seen, within)) c.index.ensures
    ∙ ap (start_of c.args.block) (ap (λ (k : KeptBlocks). k.blocks) c.self.view_is)
