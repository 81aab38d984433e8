use Rattle.std.proofs.Common.{◌≡◌, Bool, true, false, refl, sym}
use Rattle.std.specs.Str.{is_utf8}
use Rattle.std.proofs.lemmas.Str.{is_utf8-from_IsUtf8, IsUtf8-from_is_utf8}
use Rattle.http_front.proofs.texts.is_utf8.Goals as goal

not_so : (decided : Bool) → (decided ≡ true → ⊥) → false ≡ decided
not_so true never = absurd (never refl)
not_so false never = refl

pub returns-in-Ok-clause-test : goal.returns-in-Ok-clause-test
returns-in-Ok-clause-test c = sym (is_utf8-from_IsUtf8 c.args.bytes.now c.in-Ok.ensures.cases.1)

pub returns-in-Err-clause-test : goal.returns-in-Err-clause-test
returns-in-Err-clause-test c =
    not_so (is_utf8 c.args.bytes.now) (λ yes. c.in-Err.ensures.cases.0 (IsUtf8-from_is_utf8 c.args.bytes.now yes))
