-- A request to which its address is added says what it said.
use Rattle.std.proofs.Common.{◌≡◌, ◌≢◌, ℕ, true, false, true≢false, ◌&&◌, List, length, codes, bytes_eq, nat_le, refl, sym, ap, ◌∙◌}
use Rattle.std.specs.List.{list_all, slice_get}
use Rattle.std.proofs.lemmas.Bool.{and_from, and_parts}
use Rattle.std.proofs.lemmas.Slice.Eq.{bytes_eq-Decides}
use Rattle.lang_base.specs.Characters.{is_visible}
use Rattle.http_header.specs.FieldValue.{FieldValue, plain_value}
use Rattle.http_header.specs.HeaderMap.{Entries, get_all, insert}
use Rattle.http_header.proofs.HeaderMapLemmas.{get_all-insert_other, get_all-insert_same}
use Rattle.http_front.specs.ReadBack.{IsWithin, is_plain, is_plain_line}
use Rattle.http_front.specs.Writing.{first_of, line_if, request_bytes}
use Rattle.http_front.specs.declared.header.AireHeader.{AireHeader}
use Rattle.http_front.specs.declared.header.AireHeader.TheVariants.{From, Dest, RequestId, ResponseId, NotifierUrl, Repair, Version, AnswerVersion, Who, Method, Path, RequestWho, Chain, Before, After, Refused, Seal}
use Rattle.http_front.specs.declared.message.WireRequest.{WireRequest}
use Rattle.http_front.proofs.MapLemmas.{key}
use Rattle.http_front.proofs.PlainLemmas.{visible_plain}
use Rattle.aire_wire.specs.ReadBack.{Carries}
use Rattle.wire_bytes.specs.Doors.{is_door, with_host}

-- no field of the table has that name
apart : (header : AireHeader) → bytes_eq (codes "host") (key header) ≡ false
apart From = refl
apart Dest = refl
apart RequestId = refl
apart ResponseId = refl
apart NotifierUrl = refl
apart Repair = refl
apart Version = refl
apart AnswerVersion = refl
apart Who = refl
apart Method = refl
apart Path = refl
apart RequestWho = refl
apart Chain = refl
apart Before = refl
apart After = refl
apart Refused = refl
apart Seal = refl

same_fields : (head : Entries FieldValue) (value : FieldValue) (header : AireHeader) → get_all (insert head (codes "host") value) (key header) ≡ get_all head (key header)
same_fields head value header =
    let other : codes "host" ≢ key header = λ same. true≢false (sym ((bytes_eq-Decides (codes "host") (key header)).1 same) ∙ apart header) in
    get_all-insert_other head (codes "host") (key header) value other

pub door_visible : (door : List ℕ) → is_door door ≡ true → list_all is_visible door ≡ true
door_visible door is = (and_parts (nat_le 1 (length door) && nat_le (length door) 64) (list_all is_visible door) is).1

host_plain : (head : Entries FieldValue) (address : List ℕ) → list_all is_visible address ≡ true
    → list_all is_plain_line (first_of (insert head (codes "host") (plain_value address)) (codes "Host")) ≡ true
host_plain head address visible =
    ap (λ (values : List FieldValue). list_all is_plain_line (line_if (codes "Host") (slice_get values 0))) (get_all-insert_same head (codes "host") (plain_value address))
    ∙ and_from (is_plain address) true (visible_plain address visible) refl

pub host_carries : (address : List ℕ) (request : WireRequest) → is_door address ≡ true → IsWithin (request_bytes (with_host address request)) request.body
    → Carries (with_host address request) request
host_carries address request is within = record {
  method = refl;
  path = refl;
  body = refl;
  fields = same_fields request.head (plain_value address);
  host = host_plain request.head address (door_visible address is);
  within = within;
}
