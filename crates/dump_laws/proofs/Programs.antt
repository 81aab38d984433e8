-- The programs of a service: its first and those that orders brought, each found by its number.
use Rattle.std.proofs.Common.{◌≡◌, ℕ, zero, suc, ◌-◌, Bool, true, false, cond, nat_eq, nat_lt, List, [], ◌∷◌, Some, None, fold, slice_get, refl, sym, ap, ◌∙◌, subst, arith, eq-eqb, eqb-true}
use Rattle.std.proofs.lemmas.Bool.{ltb-true}
use Rattle.std.specs.Prelude.{All}
use Rattle.std.specs.List.{AllByRecursion}
use Rattle.std.proofs.lemmas.List.{take-append-drop}
use Rattle.std.proofs.lemmas.List.Elements.{All-append, All-weaker, recursion_from_All}
use Rattle.lang_tree.specs.Depths.{routes_fit}
use Rattle.lang_core.specs.HandedOn.{Route}
use Rattle.request_log.specs.declared.entry.Entry.{Entry}
use Rattle.journal_rows.specs.Programs.{brought_step, by_number, programs, with_brought}
use Rattle.journal_rows.specs.declared.orders.Command.{Command}
use Rattle.journal_rows.specs.declared.orders.Command.TheVariants.{Deploy, Correct}
use Rattle.journal_rows.specs.declared.row.Row.{Row}
use Rattle.journal_rows.specs.declared.row.Row.TheVariants.{Ordered}
use Rattle.service_events.specs.Fits.{Fits, IsThere, IsUnder, WasUnder}
use Rattle.service_events.specs.State.{Kept, folded, unfolded}
use Rattle.dump_tables.specs.Programs.{later_at, numbered}
use Rattle.dump_laws.specs.Dumped.{brought_programs}
use Rattle.dump_laws.specs.Forms.{IsProgram, IsWritten}

-- ---- the first, and those behind it

command_more : (first : List Route) (ps : List (List Route)) (command : Command) → with_brought (first ∷ ps) command ≡ first ∷ with_brought ps command
command_more first ps (Deploy p) = refl
command_more first ps (Correct k p) = refl
command_more first ps command = refl

row_more : (first : List Route) (ps : List (List Route)) (row : Row) → brought_step (first ∷ ps) row ≡ first ∷ brought_step ps row
row_more first ps (Ordered o) = command_more first ps o.command
row_more first ps row = refl

brought_more : (first : List Route) (ps : List (List Route)) (journal : List Row) → fold brought_step (first ∷ ps) journal ≡ first ∷ fold brought_step ps journal
brought_more first ps [] = refl
brought_more first ps (row ∷ journal) =
    ap (λ (qs : List (List Route)). fold brought_step qs journal) (row_more first ps row) ∙ brought_more first (brought_step ps row) journal

pub programs_are : (s : Kept) → programs s.setting.program s.journal ≡ s.setting.program ∷ brought_programs s
programs_are s = brought_more s.setting.program [] s.journal

-- ---- by their numbers

no_by : (b : Bool) → (b ≡ true → ⊥) → b ≡ false
no_by true fails = absurd (fails refl)
no_by false fails = refl

numbered_so : (n : ℕ) (first : List Route) (later : List (List Route)) (p : List Route) → by_number n (first ∷ later) ≡ Some p → numbered n (record { first = first; later = later }) ≡ Some p
numbered_so zero first later p h = absurd cc
numbered_so (suc zero) first later p h =
    let one : nat_eq (suc zero) 1 ≡ true = eq-eqb (suc zero) 1 refl in
    ap (λ (b : Bool). cond b (Some first) (later_at (suc zero) later)) one ∙ h
numbered_so (suc (suc n)) first later p h =
    let m = suc (suc n) in
    let other : nat_eq m 1 ≡ false = no_by (nat_eq m 1) (λ yes. absurd (omega (arith, eqb-true m 1 yes))) in
    let behind : nat_lt m 2 ≡ false = no_by (nat_lt m 2) (λ yes. absurd (omega (arith, ltb-true m 2 yes))) in
    let place : m - 2 ≡ n = omega arith in
    ap (λ (b : Bool). cond b (Some first) (later_at m later)) other
    ∙ ap (λ (b : Bool). cond b None (slice_get later (m - 2))) behind
    ∙ ap (λ (k : ℕ). slice_get later k) place
    ∙ h

pub there_numbered : (s : Kept) (n : ℕ) (p : List Route) → by_number n (programs s.setting.program s.journal) ≡ Some p
    → numbered n (record { first = s.setting.program; later = brought_programs s }) ≡ Some p
there_numbered s n p h = numbered_so n s.setting.program (brought_programs s) p (ap (by_number n) (sym (programs_are s)) ∙ h)

got : (ps : List (List Route)) (k : ℕ) (p : List Route) → slice_get ps k ≡ Some p → AllByRecursion IsProgram ps → IsProgram p
got [] k p h all = absurd cc
got (q ∷ ps) zero p h all = (let same : q ≡ p = cc in subst IsProgram same all.0)
got (q ∷ ps) (suc k) p h all = got ps k p h all.1

program_of : (n : ℕ) (ps : List (List Route)) (p : List Route) → by_number n ps ≡ Some p → AllByRecursion IsProgram ps → IsProgram p
program_of zero ps p h all = absurd cc
program_of (suc n) ps p h all = got ps n p h all

-- ---- of entries

-- the program of an entry is the service's of its number
abbrev pub HasItsProgram : Kept → Entry → Type 0
HasItsProgram s e = IsThere s.setting.program s.journal e.under.now

pub each_there : (s : Kept) → Fits s → AllByRecursion (HasItsProgram s) s.entries
each_there s fits =
    let first = s.setting.program in
    let past = All-weaker (WasUnder first s.journal) (HasItsProgram s) (λ e was. was.there) (folded s) fits.programs.past in
    let rest = All-weaker (IsUnder first s.journal) (HasItsProgram s) (λ e is. is.now.there) (unfolded s) fits.programs.entries in
    let Each : List Entry → Type 0 = λ es. All (HasItsProgram s) es in
    recursion_from_All (HasItsProgram s) s.entries
    (subst Each (take-append-drop s.horizon s.entries) (All-append (HasItsProgram s) (folded s) (unfolded s) past rest))

-- its parts are of the language's form
abbrev pub HasFormed : Entry → Type 0
HasFormed e = routes_fit e.under.now.program ≡ true

formed_by : (s : Kept) (entries : List Entry) → AllByRecursion IsProgram (programs s.setting.program s.journal) → AllByRecursion (HasItsProgram s) entries → AllByRecursion HasFormed entries
formed_by s [] all there = tt
formed_by s (e ∷ entries) all there =
    ((program_of e.under.now.number (programs s.setting.program s.journal) e.under.now.program there.0 all).formed, formed_by s entries all there.1)

pub each_formed : (s : Kept) → Fits s → IsWritten s → AllByRecursion HasFormed s.entries
each_formed s fits written = formed_by s s.entries written.programs (each_there s fits)
