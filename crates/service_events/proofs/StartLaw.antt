-- A service without rows fits its journal, whatever its rules are, and each repair in it was allowed, as there is none.
use Rattle.std.proofs.Common.{◌≡◌, true, false, ℕ, ◌<◌, refl, arith, []}
use Rattle.lang_core.specs.declared.setting.Setting.{Setting}
use Rattle.authorise_rules.specs.Given.{GivenRules}
use Rattle.service_events.specs.State.{fresh}
use Rattle.service_events.specs.Allowed.{IsAllowed}
use Rattle.service_events.specs.Fits.{Fits}

below_none : (k : ℕ) → k < 0 → ⊥
below_none k h = omega (arith, h)

false_is_not_true : false ≡ true → ⊥
false_is_not_true h = cc

pub fits_start : (setting : Setting) (rules : GivenRules) → Fits (fresh setting rules)
fits_start setting rules =
    record {
      sent = record { rows = tt; registers = λ n. refl; count = refl; numbered = tt };
      seen = record { rows = tt; registers = λ n. tt; answered = λ n told. absurd (false_is_not_true told); heard = λ n. omega arith; told = λ n. omega arith };
      taken = tt;
      asked = record {
        rows = tt;
        count = refl;
        distinct = tt;
        entries = λ n. refl;
        calls = λ c n. (λ t. t, λ t. t);
        now = λ k d h. absurd (below_none k h);
      };
      runs = λ k d h. absurd (below_none k h);
      answered = record { rows = tt; entries = λ k d h. absurd (below_none k h) };
      replies = record { rows = tt; entries = λ k d h. absurd (below_none k h); others = λ k d h. absurd (below_none k h); rising = tt };
      places = record { calls = λ k d h. absurd (below_none k h); once = λ n. refl };
      flights = record { numbered = λ k d h. absurd (below_none k h); others = λ i j d h w. absurd (below_none j w); untaken = λ k d h. absurd (below_none k h) };
      orders = tt;
      horizon = record { within = omega arith; last = refl; each = λ k d h. absurd (below_none k h); replayed = record { traces = []; replay = refl } };
      programs = record {
        rows = tt;
        rules = refl;
        newest = refl;
        current = record { there = refl; stands = refl };
        past = λ k d h. absurd (below_none k h);
        entries = λ k d h. absurd (below_none k h);
        flights = λ k d h. absurd (below_none k h);
      };
    }

pub allowed_start : (setting : Setting) (rules : GivenRules) → IsAllowed (fresh setting rules)
allowed_start setting rules = tt
