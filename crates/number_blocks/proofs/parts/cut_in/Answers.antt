use Rattle.std.proofs.Common.{◌≡◌, ◌+◌, suc, [], length, get_or, set, take, drop, ap, ◌∙◌, arith}
use Rattle.std.specs.List.{insert}
use Rattle.std.proofs.lemmas.List.{get_or_read}
use Rattle.number_blocks.proofs.BlockLemmas.{as_many, begins_at, cut_blocks, cut_same, next_start, ok_is, start_within}
use Rattle.number_blocks.proofs.parts.cut_in.Goals as goal

pub index-requires : goal.index-requires
index-requires c =
    let within = c.requires.within in
    let many = as_many c.args.blocks.now.items c.args.starts.now.items c.requires.blocks in
    let ok = c.args.starts.now.ok.0 in
    omega (arith, within, many, ok)

pub overflow_add-start : goal.overflow_add-start
overflow_add-start c =
    let bs = c.args.blocks.now.items in
    let begins = begins_at bs c.args.starts.now.items c.args.block c.index.result.now c.requires.blocks c.requires.within c.index.ensures in
    let next = next_start bs c.args.block c.requires.within in
    let all = start_within bs (suc c.args.block) in
    let less = c.requires.less in
    let few = c.requires.few in
    omega (arith, begins, next, all, less, few)

pub insert-requires : goal.insert-requires
insert-requires c =
    let within = c.requires.within in
    let many = as_many c.args.blocks.now.items c.args.starts.now.items c.requires.blocks in
    let ok = c.args.starts.now.ok.0 in
    omega (arith, within, many, ok)

pub returns-clause-blocks : goal.returns-clause-blocks
returns-clause-blocks c =
    let bs = c.args.blocks.now.items in
    let starts = c.args.starts.now.items in
    let block = c.args.block in
    let half = c.args.half in
    let next : block + 1 ≡ suc block = omega arith in
    let read = get_or_read bs block c.index_mut.result.now c.requires.within c.index_mut.ensures.value [] in
    let front = c.cut.ensures ∙ ap (take half) read in
    let put : c.insert-2.new.self.items ≡ insert (set bs block (take half (get_or bs block []))) (suc block) (drop half (get_or bs block [])) =
    ok_is c.insert-2.result _ _ _ (c.insert-2.ensures.succeeds c.requires.room) c.insert-2.ensures.items
    ∙ ap (λ i. insert (set bs block c.cut.new.self) i c.args.back) next ∙ ap (λ l. insert (set bs block l) (suc block) c.args.back) front
    ∙ ap (λ l. insert (set bs block (take half (get_or bs block []))) (suc block) l) c.requires.back in
    let after = ok_is c.insert.result _ _ _ (c.insert.ensures.succeeds c.requires.start) c.insert.ensures.items ∙ ap (λ i. insert starts i (c.index.result.now + half)) next in
    let begins = ap (λ n. n + half) (begins_at bs starts block c.index.result.now c.requires.blocks c.requires.within c.index.ensures) in
    cut_blocks bs starts block half c.requires.blocks c.requires.within c.requires.less c.insert-2.new.self.items c.insert.new.self.items (c.index.result.now + half) c.requires.half put begins after

pub returns-clause-items : goal.returns-clause-items
returns-clause-items c =
    let bs = c.args.blocks.now.items in
    let starts = c.args.starts.now.items in
    let block = c.args.block in
    let half = c.args.half in
    let next : block + 1 ≡ suc block = omega arith in
    let read = get_or_read bs block c.index_mut.result.now c.requires.within c.index_mut.ensures.value [] in
    let front = c.cut.ensures ∙ ap (take half) read in
    let put : c.insert-2.new.self.items ≡ insert (set bs block (take half (get_or bs block []))) (suc block) (drop half (get_or bs block [])) =
    ok_is c.insert-2.result _ _ _ (c.insert-2.ensures.succeeds c.requires.room) c.insert-2.ensures.items
    ∙ ap (λ i. insert (set bs block c.cut.new.self) i c.args.back) next ∙ ap (λ l. insert (set bs block l) (suc block) c.args.back) front
    ∙ ap (λ l. insert (set bs block (take half (get_or bs block []))) (suc block) l) c.requires.back in
    cut_same bs starts block half c.requires.blocks c.requires.within c.requires.less c.insert-2.new.self.items put
