use Rattle.std.proofs.Common.{inl, refl, ◌∙◌}
use Rattle.audit_command.proofs.telling.refused.Goals as goal

pub returns-in-Ok : goal.returns-in-Ok
returns-in-Ok g c =
    let told = rw (c.line-line.ensures, c.number-number.ensures) at c.in-Ok.ensures.ok in
    let e = c.as_str.ensures.value ∙ told in
    inl (refl, rw e at c.write_last.ensures.ends)
