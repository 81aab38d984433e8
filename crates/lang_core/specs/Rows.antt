-- Rows: what they hold at a key and under a prefix, and what writes make of them.
use Rattle.std.specs.Prelude.{ℕ, ◌+◌, Bool, ◌&&◌, ◌||◌, List, [], ◌∷◌, Option, Some, None, if◌then◌else◌, nat_lt, length, filter, fold}
use Rattle.std.specs.Option.{option_map, option_map_or}
use Rattle.std.specs.List.{find}
use Rattle.lang_tree.specs.HandedOn.{same_text, begins_with}
use Rattle.lang_core.specs.Places.{Place, place_of, same_place, set_in, unset_in}
use Rattle.lang_core.specs.declared.cells.Cell.{Cell}
use Rattle.lang_core.specs.declared.writes.Write.{Write}

abbrev pub cell_place : Cell → Place
cell_place c = place_of c.table c.key

abbrev pub write_place : Write → Place
write_place w = place_of w.table w.key

-- the text at a key of a table, if there is one
abbrev pub get : List Cell → List ℕ → List ℕ → Option (List ℕ)
get cells t k = option_map (λ (c : Cell). c.text) (find (λ c. same_place (cell_place c) (place_of t k)) cells)

-- the key is of this table and begins with the prefix
abbrev pub is_beneath : List ℕ → List ℕ → Cell → Bool
is_beneath t prefix c = same_text c.table t && begins_with prefix c.key

-- the bytes of a cell's key and text
abbrev pub cell_size : Cell → ℕ
cell_size c = length c.key + length c.text

-- more than a scan may hold
abbrev pub is_over : ℕ → ℕ → Bool
is_over cells bytes = nat_lt 1000 cells || nat_lt 262144 bytes

-- the front of these cells, up to the one with which a scan holds too much, where it holds so many cells and bytes
abbrev pub kept_from : ℕ → ℕ → List Cell → List Cell
kept_from n bytes [] = []
kept_from n bytes (c ∷ cs) =
    c ∷ (if is_over (n + 1) (bytes + cell_size c) then [] else kept_from (n + 1) (bytes + cell_size c) cs)

-- the cells of a table under a prefix, in order, up to the one that is too much
abbrev pub scan : List Cell → List ℕ → List ℕ → List Cell
scan cells t prefix = kept_from 0 0 (filter (is_beneath t prefix) cells)

abbrev pub with_text : List ℕ → List ℕ → Option (List ℕ) → List Cell → List Cell
with_text t k None cells = unset_in cell_place (place_of t k) cells
with_text t k (Some x) cells = set_in cell_place (record { table = t; key = k; text = x }) cells

-- the rows after a write
abbrev pub after_write : List Cell → Write → List Cell
after_write cells w = with_text w.table w.key w.text cells

-- the rows after writes
abbrev pub apply : List Cell → List Write → List Cell
apply cells writes = fold after_write cells writes

-- what stands at a key after writes, where this stood there before: the text of the write at that place, or nothing
-- where that write has none
abbrev pub written : List Write → List ℕ → List ℕ → Option (List ℕ) → Option (List ℕ)
written writes t k before =
    option_map_or (λ (w : Write). w.text) (find (λ w. same_place (write_place w) (place_of t k)) writes) before
