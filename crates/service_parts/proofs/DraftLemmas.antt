-- Rows that are drafted one after another.
use Rattle.std.proofs.Common.{◌≡◌, ◌∙◌, sym, ap, refl, ℕ, zero, suc, ◌+◌, ◌<◌, List, [], ◌∷◌, ◌++◌, length, get_or, slice_get, drop, Option, Some, None, is_some, option_map, add-one, drop-cons, append_assoc}
use Rattle.std.proofs.lemmas.List.{append-nil}
use Rattle.std.proofs.lemmas.Option.{slice_get_within, get_or_from_slice_get}
use Rattle.lang_core.specs.declared.trace.CallMade.{CallMade}
use Rattle.journal_rows.specs.declared.row.Row.{Row}
use Rattle.call_registers.specs.Overlays.{numbered_from, put_all}
use Rattle.call_registers.specs.Registers.{next_number}
use Rattle.call_registers.specs.declared.register.Register.{Register}
use Rattle.service_events.specs.State.{Kept}
use Rattle.service_events.specs.Calls.{after_row, after_rows, noted, deleted, all_deleted}
use Rattle.service_parts.specs.Drafts.{TellNoCall}

-- ---- a draft without rows

pub nothing_drafted : (s : Kept) (rows : List Row) (changed added : List Register) → rows ≡ [] → changed ≡ [] → added ≡ []
    → (record s { journal = s.journal ++ rows; registers = put_all changed s.registers ++ numbered_from (next_number s.registers) added }) ≡ s
nothing_drafted s rows changed added r c a =
    ap (λ (l : List Row). record s { journal = s.journal ++ l; registers = put_all changed s.registers ++ numbered_from (next_number s.registers) added }) r
    ∙ ap (λ (l : List Row). record s { journal = l; registers = put_all changed s.registers ++ numbered_from (next_number s.registers) added }) (append-nil s.journal)
    ∙ ap (λ (l : List Register). record s { registers = put_all l s.registers ++ numbered_from (next_number s.registers) added }) c
    ∙ ap (λ (l : List Register). record s { registers = s.registers ++ numbered_from (next_number s.registers) l }) a
    ∙ ap (λ (l : List Register). record s { registers = l }) (append-nil s.registers)

-- ---- a number that is there

pub there_mapped : {X : Type 0} (f : Register → Register) (g : X → Register) (found : Option Register) (o : Option X) → found ≡ option_map f (option_map g o) → is_some o ≡ is_some found
there_mapped f g found None h = sym (ap is_some h)
there_mapped f g found (Some r) h = sym (ap is_some h)

-- ---- rows one by one

pub after_more : (at i : ℕ) (registers : List Register) (rows : List Row) (row : Row) → i < length rows → row ≡ get_or rows i row → after_rows at registers (drop i rows) ≡ after_rows (at + 1) (after_row at registers row) (drop (i + 1) rows)
after_more at i registers rows row w is =
    ap (after_rows at registers) (drop-cons rows i row w ∙ ap (λ x. x ∷ drop (suc i) rows) (sym is))
    ∙ ap (λ n. after_rows (at + 1) (after_row at registers row) (drop n rows)) (sym (add-one i))

-- drafted behind what is drafted, they are noted
pub noted_more : (s : Kept) (drafted more : List Row) (registers after : List Register) (first : ℕ) → first ≡ length (s.journal ++ drafted) → after ≡ after_rows first registers more
    → (record s { journal = s.journal ++ (drafted ++ more); registers = after }) ≡ noted more (record s { journal = s.journal ++ drafted; registers = registers })
noted_more s drafted more registers after first e h =
    ap (λ j. record s { journal = j; registers = after }) (sym (append_assoc s.journal drafted more))
    ∙ ap (λ r. record s { journal = (s.journal ++ drafted) ++ more; registers = r }) (h ∙ ap (λ n. after_rows n registers more) e)

-- ---- deletions one by one

none_behind : (i : ℕ) (calls : List CallMade) → slice_get calls i ≡ None → drop i calls ≡ []
none_behind zero [] h = refl
none_behind (suc i) [] h = refl
none_behind zero (c ∷ calls) h = cc
none_behind (suc i) (c ∷ calls) h = none_behind i calls h

no_calls : (registers : List Register) (numbers : List ℕ) → all_deleted registers numbers [] ≡ []
no_calls registers [] = refl
no_calls registers (n ∷ ns) = refl

-- where no call is left, no deletion is
pub none_left : (registers : List Register) (rows : List Row) (i : ℕ) (numbers : List ℕ) (calls : List CallMade) → slice_get calls i ≡ None → rows ≡ rows ++ all_deleted registers (drop i numbers) (drop i calls)
none_left registers rows i numbers calls h =
    sym (append-nil rows)
    ∙ ap (λ l. rows ++ l) (sym (ap (all_deleted registers (drop i numbers)) (none_behind i calls h) ∙ no_calls registers (drop i numbers)))

pub deleted_more : (registers : List Register) (rows more : List Row) (i : ℕ) (numbers : List ℕ) (calls : List CallMade) (c : CallMade) → i < length numbers → slice_get calls i ≡ Some c → more ≡ rows ++ deleted registers (get_or numbers i 0) c ∷ []
    → more ++ all_deleted registers (drop (i + 1) numbers) (drop (i + 1) calls) ≡ rows ++ all_deleted registers (drop i numbers) (drop i calls)
deleted_more registers rows more i numbers calls c w are e =
    sym (ap (λ l. rows ++ all_deleted registers l (drop i calls)) (drop-cons numbers i 0 w)
    ∙ ap (λ l. rows ++ all_deleted registers (get_or numbers i 0 ∷ drop (suc i) numbers) l) (drop-cons calls i c (slice_get_within calls i c are) ∙ ap (λ x. x ∷ drop (suc i) calls) (get_or_from_slice_get calls i c c are))
    ∙ sym (append_assoc rows (deleted registers (get_or numbers i 0) c ∷ []) (all_deleted registers (drop (suc i) numbers) (drop (suc i) calls)))
    ∙ ap (λ l. l ++ all_deleted registers (drop (suc i) numbers) (drop (suc i) calls)) (sym e)
    ∙ ap (λ k. more ++ all_deleted registers (drop k numbers) (drop k calls)) (sym (add-one i)))

-- ---- rows that tell of no call

-- they are noted where they come last
pub noted_last : (now s : Kept) (rows journal : List Row) → now ≡ s → journal ≡ now.journal ++ rows → TellNoCall rows → record now { journal = journal } ≡ noted rows s
noted_last now s rows journal same is none =
    ap (λ j. record now { journal = j }) is
    ∙ ap (λ rs. record now { journal = now.journal ++ rows; registers = rs }) (sym (none (length now.journal) now.registers))
    ∙ ap (noted rows) same
