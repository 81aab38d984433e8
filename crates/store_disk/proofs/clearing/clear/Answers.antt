use Rattle.std.proofs.Common.{rules, ◌≡◌, ◌+◌, ◌-◌, ◌<◌, ◌^◌, length, [], ◌∷◌, refl, ◌∙◌, ap, arith}
use Rattle.std.specs.Prelude.{IsTrue}
use Rattle.std.proofs.lemmas.Bool.Decides.{nat_tests}
use Rattle.store_disk.proofs.RestLemmas.{at_end, byte_made, byte_told, byte_torn, tail_made, tail_told, tail_torn, zeros_for}
use Rattle.store_disk.proofs.clearing.clear.Goals as goal

pub returns-in_err-write_at-clause-crash : goal.returns-in_err-write_at-clause-crash
returns-in_err-write_at-clause-crash g c = λ clean f left.
    let is = c.requires.found (search rules) in
    let none : c.args.len - c.args.used ≡ 0 = grind (arith, nat_tests) in
    let all = at_end g.D.Disk.seen g.D.Disk.may_leave c.args.disk.now c.args.used c.args.len is none in
    byte_torn g.D.Disk.seen g.D.Disk.may_leave c.args.disk.now c.args.used c.args.len is c.write_at.new.self all c.write_at.ensures.crash f left

pub returns-in_err-write_at-clause-told : goal.returns-in_err-write_at-clause-told
returns-in_err-write_at-clause-told g c = λ clean pieces read f left.
    let is = c.requires.found (search rules) in
    let none : c.args.len - c.args.used ≡ 0 = grind (arith, nat_tests) in
    let all = at_end g.D.Disk.seen g.D.Disk.may_leave c.args.disk.now c.args.used c.args.len is none in
    byte_told g.D.Disk.seen g.D.Disk.may_leave c.args.disk.now c.args.used c.args.len is c.write_at.new.self all c.write_at.ensures.crash pieces read f left

pub returns-in_err-sync-clause-crash : goal.returns-in_err-sync-clause-crash
returns-in_err-sync-clause-crash g c = λ clean f left.
    let is = c.requires.found (search rules) in
    let none : c.args.len - c.args.used ≡ 0 = grind (arith, nat_tests) in
    let all = at_end g.D.Disk.seen g.D.Disk.may_leave c.args.disk.now c.args.used c.args.len is none in
    byte_torn g.D.Disk.seen g.D.Disk.may_leave c.args.disk.now c.args.used c.args.len is c.write_at.new.self all c.write_at.ensures.crash f (c.sync.ensures.crash f left)

pub returns-in_err-sync-clause-told : goal.returns-in_err-sync-clause-told
returns-in_err-sync-clause-told g c = λ clean pieces read f left.
    let is = c.requires.found (search rules) in
    let none : c.args.len - c.args.used ≡ 0 = grind (arith, nat_tests) in
    let all = at_end g.D.Disk.seen g.D.Disk.may_leave c.args.disk.now c.args.used c.args.len is none in
    byte_told g.D.Disk.seen g.D.Disk.may_leave c.args.disk.now c.args.used c.args.len is c.write_at.new.self all c.write_at.ensures.crash pieces read f (c.sync.ensures.crash f left)

pub returns-then-left-eq0-clause-crash : goal.returns-then-left-eq0-clause-crash
returns-then-left-eq0-clause-crash g c = λ clean f left.
    let is = c.requires.found (search rules) in
    let none : c.args.len - c.args.used ≡ 0 = grind (arith, nat_tests) in
    let all = at_end g.D.Disk.seen g.D.Disk.may_leave c.args.disk.now c.args.used c.args.len is none in
    byte_torn g.D.Disk.seen g.D.Disk.may_leave c.args.disk.now c.args.used c.args.len is c.write_at.new.self all c.write_at.ensures.crash f (c.sync.ensures.crash f left)

pub returns-then-left-eq0-clause-told : goal.returns-then-left-eq0-clause-told
returns-then-left-eq0-clause-told g c = λ clean pieces read f left.
    let is = c.requires.found (search rules) in
    let none : c.args.len - c.args.used ≡ 0 = grind (arith, nat_tests) in
    let all = at_end g.D.Disk.seen g.D.Disk.may_leave c.args.disk.now c.args.used c.args.len is none in
    byte_told g.D.Disk.seen g.D.Disk.may_leave c.args.disk.now c.args.used c.args.len is c.write_at.new.self all c.write_at.ensures.crash pieces read f (c.sync.ensures.crash f left)

pub returns-then-left-eq0-clause-at_rest : goal.returns-then-left-eq0-clause-at_rest
returns-then-left-eq0-clause-at_rest g c = λ clean.
    let is = c.requires.found (search rules) in
    let none : c.args.len - c.args.used ≡ 0 = grind (arith, nat_tests) in
    let all = at_end g.D.Disk.seen g.D.Disk.may_leave c.args.disk.now c.args.used c.args.len is none in
    byte_made g.D.Disk.seen g.D.Disk.may_leave c.args.disk.now c.args.used c.args.len is c.write_at.new.self c.sync.new.self (0 ∷ []) all refl c.write_at.ensures.others (c.in_ok-write_at.ensures.written (omega arith)) c.in_ok-sync.ensures.durable c.sync.ensures.seen

pub returns-in_err-write_at-2-clause-crash : goal.returns-in_err-write_at-2-clause-crash
returns-in_err-write_at-2-clause-crash g c = λ clean f left.
    let is = c.requires.found (search rules) in
    let zeros = c.deref.result.now in
    let room : c.args.used < c.args.len = grind (arith, nat_tests) in
    let long : length zeros ≡ c.args.len - c.args.used = ap length c.deref.ensures.value ∙ c.in_ok-zeros.ensures.1 ∙ c.saturating_sub-left.ensures in
    let are = zeros_for g.D.Disk.seen g.D.Disk.may_leave c.args.disk.now c.args.used c.args.len is zeros _ (c.deref.ensures.value ∙ c.in_ok-zeros.ensures.0) c.saturating_sub-left.ensures in
    let mixing : IsTrue (g.D.Disk.is_mixing c.args.disk.now) = search rules in
    let below : c.args.used + length zeros < 2 ^ 64 = omega (arith, long, room) in
    let follows = c.write_at-2.ensures.mixed mixing below in
    tail_torn g.D.Disk.seen g.D.Disk.may_leave c.args.disk.now c.args.used c.args.len is c.write_at-2.new.self zeros are follows f left

pub returns-in_err-write_at-2-clause-told : goal.returns-in_err-write_at-2-clause-told
returns-in_err-write_at-2-clause-told g c = λ clean pieces read f left.
    let is = c.requires.found (search rules) in
    let zeros = c.deref.result.now in
    let room : c.args.used < c.args.len = grind (arith, nat_tests) in
    let long : length zeros ≡ c.args.len - c.args.used = ap length c.deref.ensures.value ∙ c.in_ok-zeros.ensures.1 ∙ c.saturating_sub-left.ensures in
    let are = zeros_for g.D.Disk.seen g.D.Disk.may_leave c.args.disk.now c.args.used c.args.len is zeros _ (c.deref.ensures.value ∙ c.in_ok-zeros.ensures.0) c.saturating_sub-left.ensures in
    let mixing : IsTrue (g.D.Disk.is_mixing c.args.disk.now) = search rules in
    let below : c.args.used + length zeros < 2 ^ 64 = omega (arith, long, room) in
    let follows = c.write_at-2.ensures.mixed mixing below in
    tail_told g.D.Disk.seen g.D.Disk.may_leave c.args.disk.now c.args.used c.args.len is c.write_at-2.new.self zeros are follows pieces read f left

pub returns-in_err-sync-2-clause-crash : goal.returns-in_err-sync-2-clause-crash
returns-in_err-sync-2-clause-crash g c = λ clean f left.
    let is = c.requires.found (search rules) in
    let zeros = c.deref.result.now in
    let room : c.args.used < c.args.len = grind (arith, nat_tests) in
    let long : length zeros ≡ c.args.len - c.args.used = ap length c.deref.ensures.value ∙ c.in_ok-zeros.ensures.1 ∙ c.saturating_sub-left.ensures in
    let are = zeros_for g.D.Disk.seen g.D.Disk.may_leave c.args.disk.now c.args.used c.args.len is zeros _ (c.deref.ensures.value ∙ c.in_ok-zeros.ensures.0) c.saturating_sub-left.ensures in
    let mixing : IsTrue (g.D.Disk.is_mixing c.args.disk.now) = search rules in
    let below : c.args.used + length zeros < 2 ^ 64 = omega (arith, long, room) in
    let follows = c.write_at-2.ensures.mixed mixing below in
    tail_torn g.D.Disk.seen g.D.Disk.may_leave c.args.disk.now c.args.used c.args.len is c.write_at-2.new.self zeros are follows f (c.sync-2.ensures.crash f left)

pub returns-in_err-sync-2-clause-told : goal.returns-in_err-sync-2-clause-told
returns-in_err-sync-2-clause-told g c = λ clean pieces read f left.
    let is = c.requires.found (search rules) in
    let zeros = c.deref.result.now in
    let room : c.args.used < c.args.len = grind (arith, nat_tests) in
    let long : length zeros ≡ c.args.len - c.args.used = ap length c.deref.ensures.value ∙ c.in_ok-zeros.ensures.1 ∙ c.saturating_sub-left.ensures in
    let are = zeros_for g.D.Disk.seen g.D.Disk.may_leave c.args.disk.now c.args.used c.args.len is zeros _ (c.deref.ensures.value ∙ c.in_ok-zeros.ensures.0) c.saturating_sub-left.ensures in
    let mixing : IsTrue (g.D.Disk.is_mixing c.args.disk.now) = search rules in
    let below : c.args.used + length zeros < 2 ^ 64 = omega (arith, long, room) in
    let follows = c.write_at-2.ensures.mixed mixing below in
    tail_told g.D.Disk.seen g.D.Disk.may_leave c.args.disk.now c.args.used c.args.len is c.write_at-2.new.self zeros are follows pieces read f (c.sync-2.ensures.crash f left)

pub returns-clause-crash : goal.returns-clause-crash
returns-clause-crash g c = λ clean f left.
    let is = c.requires.found (search rules) in
    let zeros = c.deref.result.now in
    let room : c.args.used < c.args.len = grind (arith, nat_tests) in
    let long : length zeros ≡ c.args.len - c.args.used = ap length c.deref.ensures.value ∙ c.in_ok-zeros.ensures.1 ∙ c.saturating_sub-left.ensures in
    let are = zeros_for g.D.Disk.seen g.D.Disk.may_leave c.args.disk.now c.args.used c.args.len is zeros _ (c.deref.ensures.value ∙ c.in_ok-zeros.ensures.0) c.saturating_sub-left.ensures in
    let mixing : IsTrue (g.D.Disk.is_mixing c.args.disk.now) = search rules in
    let below : c.args.used + length zeros < 2 ^ 64 = omega (arith, long, room) in
    let follows = c.write_at-2.ensures.mixed mixing below in
    tail_torn g.D.Disk.seen g.D.Disk.may_leave c.args.disk.now c.args.used c.args.len is c.write_at-2.new.self zeros are follows f (c.sync-2.ensures.crash f left)

pub returns-clause-told : goal.returns-clause-told
returns-clause-told g c = λ clean pieces read f left.
    let is = c.requires.found (search rules) in
    let zeros = c.deref.result.now in
    let room : c.args.used < c.args.len = grind (arith, nat_tests) in
    let long : length zeros ≡ c.args.len - c.args.used = ap length c.deref.ensures.value ∙ c.in_ok-zeros.ensures.1 ∙ c.saturating_sub-left.ensures in
    let are = zeros_for g.D.Disk.seen g.D.Disk.may_leave c.args.disk.now c.args.used c.args.len is zeros _ (c.deref.ensures.value ∙ c.in_ok-zeros.ensures.0) c.saturating_sub-left.ensures in
    let mixing : IsTrue (g.D.Disk.is_mixing c.args.disk.now) = search rules in
    let below : c.args.used + length zeros < 2 ^ 64 = omega (arith, long, room) in
    let follows = c.write_at-2.ensures.mixed mixing below in
    tail_told g.D.Disk.seen g.D.Disk.may_leave c.args.disk.now c.args.used c.args.len is c.write_at-2.new.self zeros are follows pieces read f (c.sync-2.ensures.crash f left)

pub returns-clause-at_rest : goal.returns-clause-at_rest
returns-clause-at_rest g c = λ clean.
    let is = c.requires.found (search rules) in
    let zeros = c.deref.result.now in
    let room : c.args.used < c.args.len = grind (arith, nat_tests) in
    let long : length zeros ≡ c.args.len - c.args.used = ap length c.deref.ensures.value ∙ c.in_ok-zeros.ensures.1 ∙ c.saturating_sub-left.ensures in
    let are = zeros_for g.D.Disk.seen g.D.Disk.may_leave c.args.disk.now c.args.used c.args.len is zeros _ (c.deref.ensures.value ∙ c.in_ok-zeros.ensures.0) c.saturating_sub-left.ensures in
    tail_made g.D.Disk.seen g.D.Disk.may_leave c.args.disk.now c.args.used c.args.len is c.write_at-2.new.self c.sync-2.new.self zeros room are c.write_at-2.ensures.others (c.in_ok-write_at-2.ensures.written (omega (arith, long, room))) c.in_ok-sync-2.ensures.durable c.sync-2.ensures.seen
