-- Tests that refuse nothing.
use Rattle.std.proofs.Common.{◌≡◌, Bool, true, Option, None, refl}
use Rattle.http_front.specs.declared.header.AireHeader.{AireHeader}
use Rattle.wire_fields.specs.Fits.{bad_unless}
use Rattle.wire_fields.specs.Rows.{first_of}
use Rattle.wire_fields.specs.declared.refused.WireRefused.{WireRefused}

pub first_of_none : (first second : Option WireRefused) → first ≡ None → second ≡ None → first_of first second ≡ None
first_of_none first second a b = rw (a, b) refl

pub fits : (header : AireHeader) (b : Bool) → b ≡ true → bad_unless header b ≡ None
fits header b is = rw is refl
