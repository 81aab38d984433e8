use Rattle.std.proofs.Common.{◌≡◌, ◌+◌, ℕ, length, replicate, subst, sym, ◌∙◌, ap, arith}
use Rattle.store_disk.specs.State.{IsAtRest}
use Rattle.store_disk.proofs.RestLemmas.{grow_told, grow_torn, grown, rest_read}
use Rattle.store_disk.proofs.store.Store.grow.Goals as goal

pub returns-in_err-write_at-clause-crash : goal.returns-in_err-write_at-clause-crash
returns-in_err-write_at-clause-crash g c = λ clean f left.
    grow_torn g.D.Disk.seen g.D.Disk.may_leave c.args.self.now c.write_at.new.self (length c.deref.result.now) (c.requires.at_rest clean) c.write_at.ensures.crash f left

pub returns-in_err-sync-clause-crash : goal.returns-in_err-sync-clause-crash
returns-in_err-sync-clause-crash g c = λ clean f left.
    grow_torn g.D.Disk.seen g.D.Disk.may_leave c.args.self.now c.write_at.new.self (length c.deref.result.now) (c.requires.at_rest clean) c.write_at.ensures.crash f (c.sync.ensures.crash f left)

pub returns-clause-crash : goal.returns-clause-crash
returns-clause-crash g c = λ clean f left.
    grow_torn g.D.Disk.seen g.D.Disk.may_leave c.args.self.now c.write_at.new.self (length c.deref.result.now) (c.requires.at_rest clean) c.write_at.ensures.crash f (c.sync.ensures.crash f left)

pub returns-clause-grown : goal.returns-clause-grown
returns-clause-grown g c = λ clean.
    let zeros = c.deref.result.now in
    let size : length zeros ≡ c.args.by = ap length c.deref.ensures.value ∙ c.in_ok-zeros.ensures.1 in
    let are : zeros ≡ replicate (length zeros) 0 = c.deref.ensures.value ∙ c.in_ok-zeros.ensures.0 ∙ ap (λ (k : ℕ). replicate {A = ℕ} k 0) (sym size) in
    let len : c.args.self.now.len + length zeros ≡ c.args.self.now.len + c.args.by = ap (λ (k : ℕ). c.args.self.now.len + k) size in
    let made = grown g.D.Disk.seen g.D.Disk.may_leave c.args.self.now c.write_at.new.self c.sync.new.self zeros (c.requires.at_rest clean) are
    c.write_at.ensures.others (c.in_ok-write_at.ensures.written (omega (arith, size, c.requires.some))) c.in_ok-sync.ensures.durable c.sync.ensures.seen in
    (subst (λ (k : ℕ). IsAtRest g.D.Disk.seen g.D.Disk.may_leave (record { disk = c.sync.new.self; used = c.args.self.now.used; len = k })) len made.0, made.1)

pub returns-in_err-write_at-clause-told : goal.returns-in_err-write_at-clause-told
returns-in_err-write_at-clause-told g c = λ clean pieces read f left.
    grow_told g.D.Disk.seen g.D.Disk.may_leave c.args.self.now c.write_at.new.self (length c.deref.result.now) (c.requires.at_rest clean) c.write_at.ensures.crash pieces read f left

pub returns-in_err-sync-clause-told : goal.returns-in_err-sync-clause-told
returns-in_err-sync-clause-told g c = λ clean pieces read f left.
    grow_told g.D.Disk.seen g.D.Disk.may_leave c.args.self.now c.write_at.new.self (length c.deref.result.now) (c.requires.at_rest clean) c.write_at.ensures.crash pieces read f (c.sync.ensures.crash f left)

pub returns-clause-told : goal.returns-clause-told
returns-clause-told g c = λ clean pieces read f left.
    grow_told g.D.Disk.seen g.D.Disk.may_leave c.args.self.now c.write_at.new.self (length c.deref.result.now) (c.requires.at_rest clean) c.write_at.ensures.crash pieces read f (c.sync.ensures.crash f left)

pub returns-clause-read : goal.returns-clause-read
returns-clause-read g c = λ clean pieces lines long.
    let zeros = c.deref.result.now in
    let size : length zeros ≡ c.args.by = ap length c.deref.ensures.value ∙ c.in_ok-zeros.ensures.1 in
    let are : zeros ≡ replicate (length zeros) 0 = c.deref.ensures.value ∙ c.in_ok-zeros.ensures.0 ∙ ap (λ (k : ℕ). replicate {A = ℕ} k 0) (sym size) in
    let len : c.args.self.now.len + length zeros ≡ c.args.self.now.len + c.args.by = ap (λ (k : ℕ). c.args.self.now.len + k) size in
    let made = grown g.D.Disk.seen g.D.Disk.may_leave c.args.self.now c.write_at.new.self c.sync.new.self zeros (c.requires.at_rest clean) are
    c.write_at.ensures.others (c.in_ok-write_at.ensures.written (omega (arith, size, c.requires.some))) c.in_ok-sync.ensures.durable c.sync.ensures.seen in
    let rest = subst (λ (k : ℕ). IsAtRest g.D.Disk.seen g.D.Disk.may_leave (record { disk = c.sync.new.self; used = c.args.self.now.used; len = k })) len made.0 in
    rest_read g.D.Disk.seen g.D.Disk.may_leave (record { disk = c.sync.new.self; used = c.args.self.now.used; len = c.args.self.now.len + c.args.by }) pieces rest (made.1 ∙ lines) long
