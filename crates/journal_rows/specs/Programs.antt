-- What a journal says of programs and rules. Each word is a fold over the rows.
use Rattle.std.specs.Prelude.{ℕ, suc, zero, ◌+◌, Bool, true, false, ◌&&◌, if◌then◌else◌, List, [], ◌∷◌, ◌++◌, Option, None, fold, nat_eq, nat_le, slice_get}
use Rattle.lang_tree.specs.declared.program.Route.{Route}
use Rattle.lang_programs.specs.Numbered.{Numbered}
use Rattle.authorise_rules.specs.Given.{GivenRules}
use Rattle.journal_rows.specs.declared.orders.About.{About}
use Rattle.journal_rows.specs.declared.orders.About.TheVariants.{Program as OfProgram}
use Rattle.journal_rows.specs.declared.orders.Command.{Command}
use Rattle.journal_rows.specs.declared.orders.Command.TheVariants.{Deploy, Correct, Rules}
use Rattle.journal_rows.specs.declared.row.Row.{Row}
use Rattle.journal_rows.specs.declared.row.Row.TheVariants.{Ordered}

-- ---- programs and their numbers

abbrev pub with_brought : List (List Route) → Command → List (List Route)
with_brought programs (Deploy p) = programs ++ p ∷ []
with_brought programs (Correct k p) = programs ++ p ∷ []
with_brought programs command = programs

abbrev pub brought_step : List (List Route) → Row → List (List Route)
brought_step programs (Ordered o) = with_brought programs o.command
brought_step programs row = programs

-- a service's programs in the order of their numbers, from 1: the one that it began with, and each that an order brought
abbrev pub programs : List Route → List Row → List (List Route)
programs first journal = fold brought_step (first ∷ []) journal

abbrev pub counted : ℕ → Command → ℕ
counted count (Deploy p) = count + 1
counted count (Correct k p) = count + 1
counted count command = count

abbrev pub program_step : ℕ → Row → ℕ
program_step count (Ordered o) = counted count o.command
program_step count row = count

-- how many programs there are
abbrev pub program_count : List Row → ℕ
program_count journal = fold program_step 1 journal

-- a number that there is
abbrev pub is_number : ℕ → List Row → Bool
is_number n journal = nat_le 1 n && nat_le n (program_count journal)

-- the one of this number, counted from 1
abbrev pub by_number : {A : Type 0} → ℕ → List A → Option A
by_number zero list = None
by_number (suc n) list = slice_get list n

-- the program of a number
abbrev pub program_at : List Route → ℕ → List Row → Option (List Route)
program_at first n journal = by_number n (programs first journal)

-- ---- what stands in a program's place

-- the number of the program that an order brought
abbrev pub number_about : ℕ → About → ℕ
number_about other (OfProgram m) = m
number_about other about = other

abbrev pub moved : ℕ → About → Command → ℕ
moved n about (Correct k p) = if nat_eq n k then number_about n about else n
moved n about command = n

abbrev pub move_step : ℕ → Row → ℕ
move_step n (Ordered o) = moved n o.about o.command
move_step n row = n

-- the number that stands in the place of this one after these rows: each correction of it puts the number that it brought there
abbrev pub program_now : ℕ → List Row → ℕ
program_now n journal = fold move_step n journal

abbrev pub corrects : ℕ → Command → Bool
corrects n (Correct k p) = nat_eq n k
corrects n command = false

abbrev pub replaced_step : ℕ → Bool → Row → Bool
replaced_step n before (Ordered o) = if corrects n o.command then true else before
replaced_step n before row = before

-- a correction put another number in the place of this one
abbrev pub is_replaced : ℕ → List Row → Bool
is_replaced n journal = fold (replaced_step n) false journal

-- ---- the newest program

abbrev pub newer : Numbered → About → Command → Numbered
newer newest about (Deploy p) = record { number = number_about newest.number about; program = p }
newer newest about (Correct k p) =
    if nat_eq newest.number k then record { number = number_about newest.number about; program = p } else newest
newer newest about command = newest

abbrev pub newest_step : Numbered → Row → Numbered
newest_step newest (Ordered o) = newer newest o.about o.command
newest_step newest row = newest

-- the program under which what comes then runs: the last that was deployed, or what was put in its place
abbrev pub newest_now : List Route → List Row → Numbered
newest_now first journal = fold newest_step (record { number = 1; program = first }) journal

-- ---- rules

abbrev pub ruled : GivenRules → Command → GivenRules
ruled rules (Rules g) = g
ruled rules command = rules

abbrev pub rules_step : GivenRules → Row → GivenRules
rules_step rules (Ordered o) = ruled rules o.command
rules_step rules row = rules

-- the rules that stand after these rows, where these stood first
abbrev pub rules_now : GivenRules → List Row → GivenRules
rules_now began journal = fold rules_step began journal
