use Rattle.std.proofs.Common.{◌≡◌, ◌+◌, ◌-◌, ◌≤◌, List, ℕ, Bool, false, drop, length, sym, ◌∙◌, ap, subst, arith}
use Rattle.std.specs.Prelude.{IsTrue}
use Rattle.std.proofs.lemmas.Result.{IfOk-weaker}
use Rattle.store_lines.specs.Readings.{IsAhead, Misses, is_broken}
use Rattle.store_disk.specs.State.{IsReading, place}
use Rattle.store_disk.proofs.ReadLemmas.{misses_not}
use Rattle.store_disk.proofs.reader.Reader.tells_more.Goals as goal

pub returns-clause-no : goal.returns-clause-no
returns-clause-no g c =
    let old = c.args.self.now in
    let file = g.D.Disk.seen old.disk in
    let between = g.D.Disk.seen c.goes_on_broken.new.disk in
    let same : between ≡ file = c.goes_on_broken.ensures.seen in
    let used = old.at + old.start in
    let after = c.has_mark_ahead.new.disk in
    IfOk-weaker c.has_mark_ahead.result
    (λ (is : Bool). IsTrue (g.D.Disk.is_clean after) → old.len ≡ length between → is ≡ false → IsAhead c.args.lines (c.args.trusted - used) (drop used between) → ⊥)
    (λ (is : Bool). IsTrue (g.D.Disk.is_clean after) → IsReading g.D.Disk.seen old → is ≡ false → Misses c.args.lines c.args.trusted (place old) file → ⊥)
    (λ is none clean reading no.
    let whole : is_broken (drop used file) ≡ false = sym (c.in_ok-goes_on_broken.ensures.broken (c.has_mark_ahead.ensures.clean clean) reading.len) ∙ c.if-branch.false in
    let long : c.args.trusted ≤ length file = omega (arith, c.if-self-trusted.false, reading.len) in
    misses_not c.args.lines c.args.trusted used file
    (λ ahead. none clean (reading.len ∙ ap length (sym same)) no (subst (λ (l : List ℕ). IsAhead c.args.lines (c.args.trusted - used) (drop used l)) (sym same) ahead))
    whole long)
    c.has_mark_ahead.ensures.no
