-- Bytes that are JSON, and bytes that aren't; lists of services.
use Rattle.std.proofs.Common.{◌≡◌, ℕ, suc, ◌≤◌, ◌<◌, arith, List, [], ◌∷◌, length, map, Option, Some, None, Ok, Err, Bool, true, false, cond, nat_lt, refl, ap, ◌∙◌, rules, tests}
use Rattle.std.specs.Str.{is_utf8, IsUtf8}
use Rattle.std.proofs.lemmas.Str.{is_utf8-from_IsUtf8, IsUtf8-from_is_utf8}
use Rattle.serde_json.specs.Data.{Data, Items, no_items, item}
use Rattle.serde_json.specs.Find.{get, as_array}
use Rattle.serde_json.specs.Read.{read}
use Rattle.serde_json.specs.View.{items_view}
use Rattle.serde_json.specs.declared.value.Value.{Value}
use Rattle.world_file.specs.Fields.{Fields, Read, field_word}
use Rattle.world_file.specs.Spelled.{read_in}
use Rattle.world_file.specs.Worlds.{KnowEachOther, joined, members_behind, reads_of, world_of, world_of_items, world_of_json, world_of_list, world_of_reads, world_of_services}
use Rattle.world_file.specs.declared.field.Field.TheVariants as field
use Rattle.world_file.specs.declared.refused.WorldRefused.TheVariants.{BadField, NotJson, TooMany}
use Rattle.world_file.specs.declared.setup.Setup.{Setup}
use Rattle.world_file.proofs.MemberLemmas.{reads_know}

pub spelled : (bytes : List ℕ) (value : Data) → IsUtf8 bytes → read bytes ≡ Some value → world_of bytes ≡ world_of_json (Some value)
spelled bytes value text is = rw (is_utf8-from_IsUtf8 bytes text, is) refl

by_text : (bytes : List ℕ) (b : Bool) → is_utf8 bytes ≡ b → (IsUtf8 bytes → read bytes ≡ None) → world_of bytes ≡ Err NotJson
by_text bytes true e h = rw (e, h (IsUtf8-from_is_utf8 bytes e)) refl
by_text bytes false e h = rw e refl

pub not_json : (bytes : List ℕ) → (IsUtf8 bytes → read bytes ≡ None) → world_of bytes ≡ Err NotJson
not_json bytes h = by_text bytes (is_utf8 bytes) refl h

-- ---- lists of services

pub reads_same : (services : List Value) → reads_of (items_view services) ≡ map read_in services
reads_same [] = refl
reads_same (service ∷ services) = ap (λ (more : List (Read Fields)). read_in service ∷ more) (reads_same services)

reads_counted : (services : List Value) → length (reads_of (items_view services)) ≡ length services
reads_counted [] = refl
reads_counted (service ∷ services) = ap (λ (n : ℕ). suc n) (reads_counted services)

pub no_services : (services : List Value) → length services ≡ 0 → world_of_items (items_view services) ≡ Err (BadField field.Services)
no_services [] h = refl
no_services (one ∷ more) h = absurd (omega (arith, h))

some_services : (services : List Value) → 0 < length services → world_of_items (items_view services) ≡ world_of_reads (reads_of (items_view services))
some_services [] h = absurd (omega (arith, h))
some_services (one ∷ more) h = refl

-- more than 16
pub too_many : (services : List Value) → 16 < length services → world_of_items (items_view services) ≡ Err TooMany
too_many services many =
    let e : nat_lt 16 (length (reads_of (items_view services))) ≡ true = rw reads_counted (search (tests, rules)) in
    some_services services (omega (arith, many)) ∙ rw e refl

-- 1 to 16
pub some_members : (services : List Value) → 0 < length services → length services ≤ 16 → world_of_items (items_view services) ≡ joined (members_behind [] (map read_in services))
some_members services some few =
    let e : nat_lt 16 (length (reads_of (items_view services))) ≡ false = rw reads_counted (search (tests, rules)) in
    some_services services some ∙ rw (e, reads_same services) refl

-- ---- the services of a world know each other

many_know : (many : Bool) (reads : List (Read Fields)) (world : List Setup) → cond many (Err TooMany) (joined (members_behind [] reads)) ≡ Ok world → KnowEachOther world
many_know true reads world h = cc
many_know false reads world h = reads_know reads world h

items_know : (items : Items) (world : List Setup) → world_of_items items ≡ Ok world → KnowEachOther world
items_know no_items world h = cc
items_know (item service more) world h = many_know (nat_lt 16 (length (reads_of (item service more)))) (reads_of (item service more)) world h

list_know : (items : Option Items) (world : List Setup) → world_of_list items ≡ Ok world → KnowEachOther world
list_know None world h = cc
list_know (Some items) world h = items_know items world h

services_know : (value : Option Data) (world : List Setup) → world_of_services value ≡ Ok world → KnowEachOther world
services_know None world h = cc
services_know (Some value) world h = list_know (as_array value) world h

json_know : (value : Option Data) (world : List Setup) → world_of_json value ≡ Ok world → KnowEachOther world
json_know None world h = cc
json_know (Some value) world h = services_know (get (field_word field.Services) value) world h

text_know : (text : Bool) (bytes : List ℕ) (world : List Setup) → cond text (world_of_json (read bytes)) (Err NotJson) ≡ Ok world → KnowEachOther world
text_know true bytes world h = json_know (read bytes) world h
text_know false bytes world h = cc

pub world_knows : (bytes : List ℕ) (world : List Setup) → world_of bytes ≡ Ok world → KnowEachOther world
world_knows bytes world h = text_know (is_utf8 bytes) bytes world h
