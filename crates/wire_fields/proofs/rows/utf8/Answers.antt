use Rattle.std.proofs.Common.{◌≡◌, ℕ, List, Bool, true, false, Some, None, if◌then◌else◌, refl, ap}
use Rattle.std.specs.Str.{is_utf8}
use Rattle.std.proofs.lemmas.Str.{is_utf8-from_IsUtf8, IsUtf8-from_is_utf8}
use Rattle.wire_fields.proofs.rows.utf8.Goals as goal

is_text : (decided : Bool) (bytes text : List ℕ) → decided ≡ true → text ≡ bytes → Some text ≡ (if decided then Some bytes else None)
is_text decided bytes text holds same = rw holds (ap (λ (t : List ℕ). Some t) same)

is_none : (decided : Bool) (bytes : List ℕ) → (decided ≡ true → ⊥) → None ≡ (if decided then Some bytes else None)
is_none true bytes never = absurd (never refl)
is_none false bytes never = refl

pub returns-in-Ok : goal.returns-in-Ok
returns-in-Ok c =
    is_text (is_utf8 c.args.bytes.now) c.args.bytes.now c.in-Ok.text.now
    (is_utf8-from_IsUtf8 c.args.bytes.now c.in-Ok.ensures.cases.1) c.in-Ok.ensures.cases.0

pub returns-in-Err : goal.returns-in-Err
returns-in-Err c =
    is_none (is_utf8 c.args.bytes.now) c.args.bytes.now
    (λ holds. c.in-Err.ensures.cases.0 (IsUtf8-from_is_utf8 c.args.bytes.now holds))
