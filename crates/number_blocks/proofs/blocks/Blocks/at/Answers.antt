use Rattle.std.proofs.Common.{◌≡◌, ◌<◌, ◌+◌, ◌-◌, [], ℕ, List, length, get_or, sym, ap, ◌∙◌, arith}
use Rattle.std.specs.List.{concat}
use Rattle.std.proofs.lemmas.List.{get_or_read}
use Rattle.number_blocks.specs.Blocks.{start_of, KeptBlocks}
use Rattle.number_blocks.proofs.BlockLemmas.{as_many, begins_at, number_at, told_in}
use Rattle.number_blocks.proofs.blocks.Blocks.at.Goals as goal

pub index-requires-2 : goal.index-requires-2
index-requires-2 c =
    let bs = c.self.inside.blocks.items in
    let starts = c.self.inside.starts.items in
    let place = c.args.place in
    let block = c.block_of-block.result in
    let are = c.self.invariant.0 in
    let seen = ap length (ap (λ (k : KeptBlocks). k.items) c.self.view_is) in
    let lt = c.requires in
    let s = told_in bs starts c.deref.result.now place block are c.deref.ensures.value (omega (arith, seen, lt)) c.block_of-block.ensures in
    let within = s.within in
    let many = as_many bs starts are in
    let ok = c.self.inside.starts.ok.0 in
    omega (arith, within, many, ok)

pub overflow_sub-result : goal.overflow_sub-result
overflow_sub-result c =
    let bs = c.self.inside.blocks.items in
    let starts = c.self.inside.starts.items in
    let place = c.args.place in
    let block = c.block_of-block.result in
    let are = c.self.invariant.0 in
    let seen = ap length (ap (λ (k : KeptBlocks). k.items) c.self.view_is) in
    let lt = c.requires in
    let s = told_in bs starts c.deref.result.now place block are c.deref.ensures.value (omega (arith, seen, lt)) c.block_of-block.ensures in
    let from = s.from in
    let begins = begins_at bs starts block c.index-2.result.now are s.within c.index-2.ensures in
    omega (arith, from, begins)

pub bounds-as_slice-place : goal.bounds-as_slice-place
bounds-as_slice-place c =
    let bs = c.self.inside.blocks.items in
    let starts = c.self.inside.starts.items in
    let place = c.args.place in
    let block = c.block_of-block.result in
    let are = c.self.invariant.0 in
    let seen = ap length (ap (λ (k : KeptBlocks). k.items) c.self.view_is) in
    let lt = c.requires in
    let s = told_in bs starts c.deref.result.now place block are c.deref.ensures.value (omega (arith, seen, lt)) c.block_of-block.ensures in
    let inside = s.inside (omega (arith, seen, lt)) in
    let from = s.from in
    let begins = begins_at bs starts block c.index-2.result.now are s.within c.index-2.ensures in
    let long = ap length (c.as_slice.ensures ∙ get_or_read bs block c.index.result.now s.within c.index.ensures []) in
    omega (arith, inside, from, begins, long)

pub returns : goal.returns
returns c =
    let bs = c.self.inside.blocks.items in
    let starts = c.self.inside.starts.items in
    let place = c.args.place in
    let block = c.block_of-block.result in
    let are = c.self.invariant.0 in
    let seen = ap length (ap (λ (k : KeptBlocks). k.items) c.self.view_is) in
    let lt = c.requires in
    let s = told_in bs starts c.deref.result.now place block are c.deref.ensures.value (omega (arith, seen, lt)) c.block_of-block.ensures in
    let inside = s.inside (omega (arith, seen, lt)) in
    let from = s.from in
    let begins = begins_at bs starts block c.index-2.result.now are s.within c.index-2.ensures in
    let there : start_of block bs + (place - start_of block bs) ≡ place = omega (arith, from) in
    ap (λ l. get_or l (place - c.index-2.result.now) 0) (c.as_slice.ensures ∙ get_or_read bs block c.index.result.now s.within c.index.ensures [])
    ∙ ap (λ k. get_or (get_or bs block []) (place - k) 0) begins
    ∙ sym (number_at bs block (place - start_of block bs) 0 s.within (omega (arith, inside, from)))
    ∙ ap (λ i. get_or (concat bs) i 0) there
    ∙ ap (λ l. get_or l place 0) (ap (λ (k : KeptBlocks). k.items) c.self.view_is)
