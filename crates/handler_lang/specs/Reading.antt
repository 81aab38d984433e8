-- Which program a text is read as, or which refusal stands where.
use Rattle.std.specs.Prelude.{◌≡◌, ℕ, ◌-◌, Bool, true, false, List, [], ◌∷◌, length, drop, Result, Ok, Err, nat_lt, if◌then◌else◌}
use Rattle.lang_base.specs.Memory.{Unless, lacks}
use Rattle.lang_tokens.specs.Lexing.{lex, places, tokens}
use Rattle.lang_tree.specs.declared.program.Route.{Route}
use Rattle.lang_reader.specs.declared.stop.Cause.{Cause}
use Rattle.lang_reader.specs.declared.stop.Cause.TheVariants as cause
use Rattle.lang_reader.specs.declared.stop.Stop.{Stop}
use Rattle.lang_reader.specs.Readers.{program_of}
use Rattle.handler_lang.specs.declared.refused.ProgramRefused.{ProgramRefused}
use Rattle.handler_lang.specs.declared.refused.ProgramRefused.TheVariants as refusal

-- the refusal with this cause, at this byte
abbrev pub refusal_at : Cause → ℕ → ProgramRefused
refusal_at cause.Unexpected at = refusal.Unexpected at
refusal_at cause.BadString at = refusal.BadString at
refusal_at cause.BadNumber at = refusal.BadNumber at
refusal_at cause.BadPattern at = refusal.BadPattern at
refusal_at cause.TooDeep at = refusal.TooDeep at

-- the first of these places, or the text's end
abbrev pub first_or : ℕ → List ℕ → ℕ
first_or total [] = total
first_or total (at ∷ more) = at

-- the place of a token in a text of so many bytes, by how many tokens are left with it
abbrev pub place_left : ℕ → List ℕ → ℕ → ℕ
place_left total ats left = first_or total (drop (length ats - left) ats)

abbrev pub placed : ℕ → List ℕ → Result (List Route) Stop → Result (List Route) ProgramRefused
placed total ats (Ok routes) = Ok routes
placed total ats (Err s) = Err (refusal_at s.cause (place_left total ats s.left))

-- the program that a text of at most 65,536 bytes spells, or why it spells none and at which byte
abbrev pub read_of : List ℕ → Result (List Route) ProgramRefused
read_of text =
    if nat_lt 65536 (length text) then Err (refusal.TooLong 65536)
    else placed (length text) (places (lex text)) (program_of (tokens (lex text)))

abbrev pub is_memory : ProgramRefused → Bool
is_memory refusal.NoMemory = true
is_memory refused = false

-- what a function answered is the program or the refusal, unless memory is wanting
abbrev pub Answers : Result (List Route) ProgramRefused → Result (List Route) ProgramRefused → Type 0
Answers answer read = Unless (lacks is_memory answer) (read ≡ answer) (Unit {0})
