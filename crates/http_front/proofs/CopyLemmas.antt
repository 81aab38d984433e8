-- A clone of a map of fields is equal to it.
use Rattle.std.proofs.Common.{◌≡◌, List}
use Rattle.std.specs.List.{AllZip}
use Rattle.std.proofs.lemmas.List.Elements.{same_from_all_zip}
use Rattle.http_header.specs.FieldValue.{FieldValue}
use Rattle.http_header.specs.HeaderMap.{Entries, Entry, IsMapClone}

values_same : (xs ys : List FieldValue) → AllZip (λ v copy. copy ≡ v) xs ys → ys ≡ xs
values_same xs ys all = same_from_all_zip (λ v copy. copy ≡ v) xs ys all (λ v copy same. same)

pair_same : (x y : Entry FieldValue) → y.0 ≡ x.0 → y.1 ≡ x.1 → y ≡ x
pair_same (a, b) (c, d) first second = cc

entry_same : (x y : Entry FieldValue) → (y.0 ≡ x.0) × AllZip (λ v copy. copy ≡ v) x.1 y.1 → y ≡ x
entry_same x y clone = pair_same x y clone.0 (values_same x.1 y.1 clone.1)

pub map_same : (head copy : Entries FieldValue) → IsMapClone (λ v copy. copy ≡ v) head copy → copy ≡ head
map_same head copy clone = same_from_all_zip (λ x y. (y.0 ≡ x.0) × AllZip (λ v copy. copy ≡ v) x.1 y.1) head copy clone entry_same
