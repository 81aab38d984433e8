-- Entries that stand already.
use Rattle.std.proofs.Common.{◌≡◌, Bool, true, false, ◌||◌, List, [], ◌∷◌, nat_eq, refl, sym, ap, ◌∙◌}
use Rattle.std.specs.List.{list_any}
use Rattle.dump_tables.specs.declared.dump.DumpEntry.{DumpEntry}
use Rattle.dump_words.specs.declared.line.EntryLine.{EntryLine}
use Rattle.dump_reader.specs.Reading.{comes_from, is_entered}

or_swap : (a b c d : Bool) → ((a || b) || (c || d)) ≡ ((a || c) || (b || d))
or_swap true b c d = refl
or_swap false true true d = refl
or_swap false true false d = refl
or_swap false false c d = refl

-- one of two tests holds somewhere where one of them does
any_of_two : {X : Type 0} (p q : X → Bool) (xs : List X) → (list_any p xs || list_any q xs) ≡ list_any (λ x. p x || q x) xs
any_of_two p q [] = refl
any_of_two p q (x ∷ xs) = or_swap (p x) (list_any p xs) (q x) (list_any q xs) ∙ ap (λ rest. (p x || q x) || rest) (any_of_two p q xs)

-- an entry is there already where its number is, or its call
pub entered_by : (line : EntryLine) (entries : List DumpEntry) → is_entered line entries ≡ (list_any (λ e. nat_eq e.id line.id) entries || list_any (comes_from line.origin) entries)
entered_by line entries = sym (any_of_two (λ e. nat_eq e.id line.id) (comes_from line.origin) entries)
