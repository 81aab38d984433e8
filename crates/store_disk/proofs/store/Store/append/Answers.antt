use Rattle.std.proofs.Common.{rules, ◌≡◌, ◌+◌, ◌-◌, ◌<◌, ◌^◌, length, [], sym, ◌∙◌, ap, arith, refl}
use Rattle.std.specs.Prelude.{IsTrue}
use Rattle.std.proofs.lemmas.Bool.Decides.{nat_tests}
use Rattle.store_disk.proofs.RestLemmas.{append_told, append_torn, appended, appended_none, appended_read, encode_none, stays_told}
use Rattle.store_disk.proofs.store.Store.append.Goals as goal

pub returns-in_err-write_at-clause-crash : goal.returns-in_err-write_at-clause-crash
returns-in_err-write_at-clause-crash g c = λ clean f left.
    let bytes = c.bytes-bytes.result.now in
    let fits : length bytes < c.args.self.now.len - c.args.self.now.used = omega (arith, c.saturating_sub.ensures) in
    let mixing : IsTrue (g.D.Disk.is_mixing c.args.self.now.disk) = search rules in
    let below : c.args.self.now.used + length bytes < 2 ^ 64 = omega (arith, fits) in
    let follows = c.write_at.ensures.mixed mixing below in
    append_torn g.D.Disk.seen g.D.Disk.may_leave c.args.self.now c.write_at.new.self bytes c.args.batch.now (c.requires.at_rest clean) c.bytes-bytes.ensures.bytes c.bytes-bytes.ensures.lines fits follows f left

pub returns-in_err-write_at-clause-told : goal.returns-in_err-write_at-clause-told
returns-in_err-write_at-clause-told g c = λ clean pieces more read next f left.
    let bytes = c.bytes-bytes.result.now in
    let fits : length bytes < c.args.self.now.len - c.args.self.now.used = omega (arith, c.saturating_sub.ensures) in
    let mixing : IsTrue (g.D.Disk.is_mixing c.args.self.now.disk) = search rules in
    let below : c.args.self.now.used + length bytes < 2 ^ 64 = omega (arith, fits) in
    let follows = c.write_at.ensures.mixed mixing below in
    append_told g.D.Disk.seen g.D.Disk.may_leave c.args.self.now c.write_at.new.self bytes c.args.batch.now (c.requires.at_rest clean) c.bytes-bytes.ensures.bytes c.bytes-bytes.ensures.lines fits follows pieces more read next f left

pub returns-in_err-sync-clause-crash : goal.returns-in_err-sync-clause-crash
returns-in_err-sync-clause-crash g c = λ clean f left.
    let bytes = c.bytes-bytes.result.now in
    let fits : length bytes < c.args.self.now.len - c.args.self.now.used = omega (arith, c.saturating_sub.ensures) in
    let mixing : IsTrue (g.D.Disk.is_mixing c.args.self.now.disk) = search rules in
    let below : c.args.self.now.used + length bytes < 2 ^ 64 = omega (arith, fits) in
    let follows = c.write_at.ensures.mixed mixing below in
    append_torn g.D.Disk.seen g.D.Disk.may_leave c.args.self.now c.write_at.new.self bytes c.args.batch.now (c.requires.at_rest clean) c.bytes-bytes.ensures.bytes c.bytes-bytes.ensures.lines fits follows f (c.sync.ensures.crash f left)

pub returns-in_err-sync-clause-told : goal.returns-in_err-sync-clause-told
returns-in_err-sync-clause-told g c = λ clean pieces more read next f left.
    let bytes = c.bytes-bytes.result.now in
    let fits : length bytes < c.args.self.now.len - c.args.self.now.used = omega (arith, c.saturating_sub.ensures) in
    let mixing : IsTrue (g.D.Disk.is_mixing c.args.self.now.disk) = search rules in
    let below : c.args.self.now.used + length bytes < 2 ^ 64 = omega (arith, fits) in
    let follows = c.write_at.ensures.mixed mixing below in
    append_told g.D.Disk.seen g.D.Disk.may_leave c.args.self.now c.write_at.new.self bytes c.args.batch.now (c.requires.at_rest clean) c.bytes-bytes.ensures.bytes c.bytes-bytes.ensures.lines fits follows pieces more read next f (c.sync.ensures.crash f left)

pub returns-clause-crash : goal.returns-clause-crash
returns-clause-crash g c = λ clean f left.
    let bytes = c.bytes-bytes.result.now in
    let fits : length bytes < c.args.self.now.len - c.args.self.now.used = omega (arith, c.saturating_sub.ensures) in
    let mixing : IsTrue (g.D.Disk.is_mixing c.args.self.now.disk) = search rules in
    let below : c.args.self.now.used + length bytes < 2 ^ 64 = omega (arith, fits) in
    let follows = c.write_at.ensures.mixed mixing below in
    append_torn g.D.Disk.seen g.D.Disk.may_leave c.args.self.now c.write_at.new.self bytes c.args.batch.now (c.requires.at_rest clean) c.bytes-bytes.ensures.bytes c.bytes-bytes.ensures.lines fits follows f (c.sync.ensures.crash f left)

pub returns-clause-told : goal.returns-clause-told
returns-clause-told g c = λ clean pieces more read next f left.
    let bytes = c.bytes-bytes.result.now in
    let fits : length bytes < c.args.self.now.len - c.args.self.now.used = omega (arith, c.saturating_sub.ensures) in
    let mixing : IsTrue (g.D.Disk.is_mixing c.args.self.now.disk) = search rules in
    let below : c.args.self.now.used + length bytes < 2 ^ 64 = omega (arith, fits) in
    let follows = c.write_at.ensures.mixed mixing below in
    append_told g.D.Disk.seen g.D.Disk.may_leave c.args.self.now c.write_at.new.self bytes c.args.batch.now (c.requires.at_rest clean) c.bytes-bytes.ensures.bytes c.bytes-bytes.ensures.lines fits follows pieces more read next f (c.sync.ensures.crash f left)

pub returns-clause-appended : goal.returns-clause-appended
returns-clause-appended g c = λ clean.
    let bytes = c.bytes-bytes.result.now in
    let fits : length bytes < c.args.self.now.len - c.args.self.now.used = omega (arith, c.saturating_sub.ensures) in
    let some : 0 < length bytes = grind (arith, nat_tests) in
    let made = appended g.D.Disk.seen g.D.Disk.may_leave c.args.self.now c.write_at.new.self c.sync.new.self bytes c.args.batch.now (c.requires.at_rest clean) c.bytes-bytes.ensures.bytes c.bytes-bytes.ensures.lines fits
    c.write_at.ensures.others (c.in_ok-write_at.ensures.written some) c.in_ok-sync.ensures.durable c.sync.ensures.seen in
    made

pub returns-clause-read : goal.returns-clause-read
returns-clause-read g c = λ clean pieces more read next.
    let bytes = c.bytes-bytes.result.now in
    let fits : length bytes < c.args.self.now.len - c.args.self.now.used = omega (arith, c.saturating_sub.ensures) in
    let some : 0 < length bytes = grind (arith, nat_tests) in
    let made = appended g.D.Disk.seen g.D.Disk.may_leave c.args.self.now c.write_at.new.self c.sync.new.self bytes c.args.batch.now (c.requires.at_rest clean) c.bytes-bytes.ensures.bytes c.bytes-bytes.ensures.lines fits
    c.write_at.ensures.others (c.in_ok-write_at.ensures.written some) c.in_ok-sync.ensures.durable c.sync.ensures.seen in
    appended_read g.D.Disk.seen g.D.Disk.may_leave c.args.self.now _ pieces more c.args.batch.now (c.requires.at_rest clean) made.0 refl made.1 read next

pub returns-then-is_empty-clause-appended : goal.returns-then-is_empty-clause-appended
returns-then-is_empty-clause-appended g c = λ clean.
    let none : length c.bytes-bytes.result.now ≡ 0 = grind (arith, nat_tests) in
    let no_more : c.args.batch.now ≡ [] = encode_none c.args.batch.now (ap length (sym c.bytes-bytes.ensures.bytes) ∙ none) in
    appended_none g.D.Disk.seen g.D.Disk.may_leave c.args.self.now c.args.batch.now (c.requires.at_rest clean) no_more

pub returns-then-is_empty-clause-read : goal.returns-then-is_empty-clause-read
returns-then-is_empty-clause-read g c = λ clean pieces more read next.
    let none : length c.bytes-bytes.result.now ≡ 0 = grind (arith, nat_tests) in
    let no_more : c.args.batch.now ≡ [] = encode_none c.args.batch.now (ap length (sym c.bytes-bytes.ensures.bytes) ∙ none) in
    let made = appended_none g.D.Disk.seen g.D.Disk.may_leave c.args.self.now c.args.batch.now (c.requires.at_rest clean) no_more in
    appended_read g.D.Disk.seen g.D.Disk.may_leave c.args.self.now c.args.self.now pieces more c.args.batch.now (c.requires.at_rest clean) made.0 refl made.1 read next

pub returns-then-is_empty-clause-told : goal.returns-then-is_empty-clause-told
returns-then-is_empty-clause-told g c = λ clean pieces more read next. stays_told g.D.Disk.seen g.D.Disk.may_leave c.args.self.now pieces more (c.requires.at_rest clean) read
