use Rattle.std.proofs.Common.{◌≡◌, ◌+◌, ◌-◌, ◌++◌, [], ℕ, suc, List, length, get_or, map, set, take, drop, sym, ap, ◌∙◌, subst, arith}
use Rattle.std.specs.List.{concat, insert}
use Rattle.std.proofs.lemmas.List.{get_or_read}
use Rattle.number_blocks.specs.Blocks.{start_of, AreBlocks}
use Rattle.number_blocks.proofs.BlockLemmas.{as_many, begins_at, few_starts, put_blocks, put_items}
use Rattle.number_blocks.proofs.parts.put_in.Goals as goal

pub index-requires : goal.index-requires
index-requires c =
    let within = c.requires.stands.within in
    let many = as_many c.args.blocks.now.items c.args.starts.now.items c.requires.blocks in
    let ok = c.args.starts.now.ok.0 in
    omega (arith, within, many, ok)

pub overflow_sub-at : goal.overflow_sub-at
overflow_sub-at c =
    let from = c.requires.stands.from in
    let begins = begins_at c.args.blocks.now.items c.args.starts.now.items c.args.block c.index.result.now c.requires.blocks c.requires.stands.within c.index.ensures in
    omega (arith, from, begins)

pub insert-requires : goal.insert-requires
insert-requires c =
    let bs = c.args.blocks.now.items in
    let s = c.requires.stands in
    let from = s.from in
    let to = s.to in
    let begins = begins_at bs c.args.starts.now.items c.args.block c.index.result.now c.requires.blocks s.within c.index.ensures in
    let long = ap length (get_or_read bs c.args.block c.index_mut.result.now s.within c.index_mut.ensures.value []) in
    omega (arith, from, to, begins, long)

pub raise-requires-clause-within : goal.raise-requires-clause-within
raise-requires-clause-within c =
    let within = c.requires.stands.within in
    let many = as_many c.args.blocks.now.items c.args.starts.now.items c.requires.blocks in
    omega (arith, within, many)

pub raise-requires-clause-few : goal.raise-requires-clause-few
raise-requires-clause-few c = few_starts c.args.blocks.now.items c.args.starts.now.items 4294967296 c.requires.blocks c.requires.few

pub returns-clause-blocks : goal.returns-clause-blocks
returns-clause-blocks c =
    let bs = c.args.blocks.now.items in
    let starts = c.args.starts.now.items in
    let s = c.requires.stands in
    let at = c.args.place - start_of c.args.block bs in
    let begins = begins_at bs starts c.args.block c.index.result.now c.requires.blocks s.within c.index.ensures in
    let read = get_or_read bs c.args.block c.index_mut.result.now s.within c.index_mut.ensures.value [] in
    let new : c.insert.new.self ≡ insert (get_or bs c.args.block []) at c.args.number =
    c.in_ok-insert.ensures.ok ∙ ap (λ l. insert l (c.args.place - c.index.result.now) c.args.number) read ∙ ap (λ k. insert (get_or bs c.args.block []) (c.args.place - k) c.args.number) begins in
    let next : c.args.block + 1 ≡ suc c.args.block = omega arith in
    let after = c.raise.ensures ∙ ap (λ n. take n starts ++ map (λ k. k + 1) (drop n starts)) next in
    let P : List ℕ → Type 0 = λ l. AreBlocks (set bs c.args.block l) c.raise.new.starts.items in
    subst P (sym new) (put_blocks bs starts c.args.place c.args.block c.args.number c.requires.blocks s c.raise.new.starts.items after)

pub returns-clause-ok : goal.returns-clause-ok
returns-clause-ok c =
    let bs = c.args.blocks.now.items in
    let starts = c.args.starts.now.items in
    let s = c.requires.stands in
    let at = c.args.place - start_of c.args.block bs in
    let begins = begins_at bs starts c.args.block c.index.result.now c.requires.blocks s.within c.index.ensures in
    let read = get_or_read bs c.args.block c.index_mut.result.now s.within c.index_mut.ensures.value [] in
    let new : c.insert.new.self ≡ insert (get_or bs c.args.block []) at c.args.number =
    c.in_ok-insert.ensures.ok ∙ ap (λ l. insert l (c.args.place - c.index.result.now) c.args.number) read ∙ ap (λ k. insert (get_or bs c.args.block []) (c.args.place - k) c.args.number) begins in
    ap (λ l. concat (set bs c.args.block l)) new ∙ put_items bs starts c.args.place c.args.block c.args.number c.requires.blocks s
