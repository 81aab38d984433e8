use Rattle.std.proofs.Common.{ℕ, ◌≡◌, ◌+◌, ◌<◌, length, set, get_or, ap, ◌∙◌, arith, vec_len, take_at, drop}
use Rattle.std.specs.List.{insert}
use Rattle.lang_lists.specs.Ends.{raised}
use Rattle.lang_lists.proofs.InsertLemmas.{ends_fit, lasts_fit, linked_between, ok_is, threaded_key, threaded_bucket}
use Rattle.lang_lists.proofs.hash_chains.link_between.Goals as goal

pub raise-requires : goal.raise-requires
raise-requires c = rw c.deref_mut.ensures.value (λ i lt. let fits = ends_fit c.args.keys.now.items c.args.before.now.items c.args.last.now c.requires.linked i lt in omega (arith, c.deref.ensures.len))

pub raise-requires-2 : goal.raise-requires-2
raise-requires-2 c i lt = let fits = lasts_fit c.args.keys.now.items c.args.before.now.items c.args.last.now c.requires.linked i lt in omega (arith, c.deref.ensures.len)

pub returns-then-behind-len-clause-linked : goal.returns-then-behind-len-clause-linked
returns-then-behind-len-clause-linked c =
    let keys = c.args.keys.now.items in
    let before = c.args.before.now.items in
    let last = c.args.last.now in
    let front = c.part-front.result.0 in
    let behind = c.part-front.result.1 in
    let ends = c.raise.new.ends in
    let lasts = c.raise-2.new.ends in
    let lent = c.deref_mut.ensures.value in
    let long = c.raise.ensures.len ∙ ap length lent in
    let each : (i : ℕ) → i < length before → get_or ends i 0 ≡ raised c.args.at (get_or before i 0) = rw (lent, c.narrow-here.ensures) at c.raise.ensures.each in
    let parted = rw c.deref.ensures.value at c.part-front.ensures in
    let put_key : c.insert.new.self.items ≡ insert keys c.args.at c.args.key = ok_is c.insert.result _ _ _ (c.insert.ensures.succeeds c.requires.keys) c.insert.ensures.items in
    let put_end : c.insert-2.new.self.items ≡ insert ends c.args.at front = ok_is c.insert-2.result _ _ _ (c.insert-2.ensures.succeeds c.requires.before) c.insert-2.ensures.items
    ∙ ap (λ e. insert e c.args.at front) (take_at ends (drop (length ends) before) (vec_len c.args.before.now) (c.raise.ensures.len ∙ c.deref_mut.ensures.len)) in
    let long_keys : vec_len c.insert.new.self ≡ vec_len c.args.keys.now + 1 = ok_is c.insert.result _ _ _ (c.insert.ensures.succeeds c.requires.keys) c.insert.ensures.len in
    let is = c.bucket_of-bucket.ensures.bucket in
    let each_last : (b : ℕ) → b < length last → get_or lasts b 0 ≡ raised c.args.at (get_or last b 0) = rw c.narrow-here.ensures at c.raise-2.ensures.each in
    let inside : c.args.at < length keys = omega (arith, c.requires.within, ap length c.deref.ensures.value, c.deref.ensures.len) in
    let t = threaded_key keys before last c.requires.linked c.args.at c.args.key c.bucket_of-bucket.result front behind inside is parted ends lasts long each c.raise-2.ensures.len each_last (omega (arith, c.len.ensures, c.if-behind-len.true)) in
    rw (put_key, put_end, c.narrow-here.ensures) (linked_between keys before last c.requires.linked c.args.at c.args.key c.bucket_of-bucket.result front behind inside is parted (set (insert ends c.args.at front) behind (c.args.at + 1)) lasts t)

pub returns-else-behind-len-clause-linked : goal.returns-else-behind-len-clause-linked
returns-else-behind-len-clause-linked c =
    let keys = c.args.keys.now.items in
    let before = c.args.before.now.items in
    let last = c.args.last.now in
    let front = c.part-front.result.0 in
    let behind = c.part-front.result.1 in
    let ends = c.raise.new.ends in
    let lasts = c.raise-2.new.ends in
    let lent = c.deref_mut.ensures.value in
    let long = c.raise.ensures.len ∙ ap length lent in
    let each : (i : ℕ) → i < length before → get_or ends i 0 ≡ raised c.args.at (get_or before i 0) = rw (lent, c.narrow-here.ensures) at c.raise.ensures.each in
    let parted = rw c.deref.ensures.value at c.part-front.ensures in
    let put_key : c.insert.new.self.items ≡ insert keys c.args.at c.args.key = ok_is c.insert.result _ _ _ (c.insert.ensures.succeeds c.requires.keys) c.insert.ensures.items in
    let put_end : c.insert-2.new.self.items ≡ insert ends c.args.at front = ok_is c.insert-2.result _ _ _ (c.insert-2.ensures.succeeds c.requires.before) c.insert-2.ensures.items
    ∙ ap (λ e. insert e c.args.at front) (take_at ends (drop (length ends) before) (vec_len c.args.before.now) (c.raise.ensures.len ∙ c.deref_mut.ensures.len)) in
    let long_keys : vec_len c.insert.new.self ≡ vec_len c.args.keys.now + 1 = ok_is c.insert.result _ _ _ (c.insert.ensures.succeeds c.requires.keys) c.insert.ensures.len in
    let is = c.bucket_of-bucket.ensures.bucket in
    let each_last : (b : ℕ) → b < length last → get_or lasts b 0 ≡ raised c.args.at (get_or last b 0) = rw c.narrow-here.ensures at c.raise-2.ensures.each in
    let inside : c.args.at < length keys = omega (arith, c.requires.within, ap length c.deref.ensures.value, c.deref.ensures.len) in
    let t = threaded_bucket keys before last c.requires.linked c.args.at c.args.key c.bucket_of-bucket.result front behind inside is parted ends lasts long each c.raise-2.ensures.len each_last c.bucket_of-bucket.ensures.within (omega (arith, c.len.ensures, c.if-behind-len.false)) in
    rw (put_key, put_end, c.narrow-here.ensures) (linked_between keys before last c.requires.linked c.args.at c.args.key c.bucket_of-bucket.result front behind inside is parted (insert ends c.args.at front) (set lasts c.bucket_of-bucket.result (c.args.at + 1)) t)
