-- The program that a request runs under, and the one that its record was made under.
use Rattle.std.specs.Prelude.{Option, Some, None, refl}
use Rattle.std.specs.Coded.{Coded, code_by, coded×}
use Rattle.lang_programs.specs.Numbered.{Numbered, numbered_code}

-- its program, and the one that its record was made under
pub record Under : Type 0 where
  pub now : Numbered
  pub ran : Numbered

-- by which a proof tells two of them apart
abbrev pub under_code : Coded Under
under_code =
    code_by (Numbered × Numbered) (coded× numbered_code numbered_code) (λ u. (u.now, u.ran)) (λ p. record { now = p.0; ran = p.1 }) (λ _. refl)

-- both are this one
abbrev pub under_of : Numbered → Under
under_of p = record { now = p; ran = p }

-- it ran under its program
abbrev pub settled : Under → Under
settled u = under_of u.now

-- another program is its own; its record stays
abbrev pub corrected_under : Numbered → Under → Under
corrected_under m u = record u { now = m }

-- the program of the record, which is the request's own where none is kept beside it
abbrev pub ran_or : Numbered → Option Numbered → Numbered
ran_or now None = now
ran_or now (Some ran) = ran
