-- Equality as a test, of any type whose values have a code.
use Rattle.std.specs.Prelude.{Bool, true, false, ◌&&◌, nat_eq}
use base.Stored.{Coded, Gv, gnil, gnum, gcons}

abbrev pub equal_codes : Gv → Gv → Bool
equal_codes gnil gnil = true
equal_codes (gnum m) (gnum n) = nat_eq m n
equal_codes (gcons a b) (gcons c d) = equal_codes a c && equal_codes b d
equal_codes _ _ = false

-- whether two values are equal
unfoldable pub equal : {X : Type 0} → Coded X → X → X → Bool
equal c x y = equal_codes (c.code x) (c.code y)
