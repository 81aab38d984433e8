-- Where reads looked, and which labels read a key or scan it.
use Rattle.std.specs.Prelude.{ℕ, Bool, true, false, ◌&&◌, not, List, ◌∷◌, ◌++◌, Option, nat_lt, map, filter}
use Rattle.std.specs.List.{list_any}
use Rattle.lang_base.specs.Texts.{same_text, begins_with}
use Rattle.lang_core.specs.Places.{Place, place_of, same_place}
use Rattle.lang_core.specs.declared.trace.Read.{Read}
use Rattle.lang_core.specs.declared.trace.Read.TheVariants as read
use Rattle.key_labels.specs.HandedOn.{place_in, is_before}
use Rattle.dependency_index.specs.declared.reads.ReadAt.{ReadAt}
use Rattle.dependency_index.specs.declared.reads.ReadKind.{ReadKind}
use Rattle.dependency_index.specs.declared.reads.ReadKind.TheVariants.{Key, Scan}
use Rattle.dependency_index.specs.declared.noted.Noted.{Noted}

-- where a read looked, whatever it found
abbrev pub read_at : Read → ReadAt
read_at (read.Key t k found) = record { kind = Key; table = t; key = k }
read_at (read.Scan t p found) = record { kind = Scan; table = t; key = p }

abbrev pub is_kind : ReadKind → ReadKind → Bool
is_kind Key Key = true
is_kind Scan Scan = true
is_kind _ _ = false

abbrev pub read_place : ReadAt → Place
read_place r = place_of r.table r.key

-- the read is of this kind, and of this key or prefix
abbrev pub is_at : ReadKind → List ℕ → List ℕ → ReadAt → Bool
is_at kind t k r = is_kind kind r.kind && same_place (read_place r) (place_of t k)

-- the read is a scan whose prefix begins the key
abbrev pub is_scan_of : List ℕ → List ℕ → ReadAt → Bool
is_scan_of t k r = is_kind Scan r.kind && (same_text r.table t && begins_with r.key k)

abbrev pub label_of : Noted → ℕ
label_of n = n.label

-- the labels of which a read passes the test
abbrev pub labels_with : (ReadAt → Bool) → List Noted → List ℕ
labels_with test noted = map label_of (filter (λ n. list_any test n.reads) noted)

-- the labels that read the key
abbrev pub readers : List ℕ → List ℕ → List Noted → List ℕ
readers t k noted = labels_with (is_at Key t k) noted

-- the labels that scan under a prefix of the key
abbrev pub scanners : List ℕ → List ℕ → List Noted → List ℕ
scanners t k noted = labels_with (is_scan_of t k) noted

-- a label stands after one and before another, or before the end
abbrev pub is_between : List ℕ → ℕ → Option ℕ → ℕ → Bool
is_between order from to x = nat_lt (place_in order from) (place_in order x) && is_before order to x

-- with a label's reads, in place of those that it had
abbrev pub with_noted : Noted → List Noted → List Noted
with_noted n ns =
    filter (λ m. nat_lt (label_of m) (label_of n)) ns ++ n ∷ filter (λ m. nat_lt (label_of n) (label_of m)) ns

-- without what was noted of the labels before one, or without anything where that is the end
abbrev pub noted_behind : List ℕ → Option ℕ → List Noted → List Noted
noted_behind order end ns = filter (λ n. not (is_before order end (label_of n))) ns

-- a label before one, or any where that is the end, reads the key or the prefix
abbrev pub reads_before : List ℕ → Option ℕ → ReadKind → List ℕ → List ℕ → Noted → Bool
reads_before order end kind t k n = is_before order end (label_of n) && list_any (is_at kind t k) n.reads
