-- Where a service is reached, and what a request says of that.
use Rattle.std.specs.Prelude.{ℕ, Bool, ◌&&◌, List, ◌++◌, codes, length, nat_le}
use Rattle.std.specs.List.{list_all}
use Rattle.lang_base.specs.Characters.{is_visible}
use Rattle.http_header.specs.FieldValue.{plain_value}
use Rattle.http_header.specs.HeaderMap.{insert}
use Rattle.http_front.specs.declared.message.WireRequest.{WireRequest}

-- a door's address
abbrev pub is_door : List ℕ → Bool
is_door door = nat_le 1 (length door) && nat_le (length door) 64 && list_all is_visible door

-- where the service at a door hears of new responses
abbrev pub notifier_of : List ℕ → List ℕ
notifier_of door = codes "http://" ++ (door ++ codes "/aire/notify")

-- the request as it is sent to an address
abbrev pub with_host : List ℕ → WireRequest → WireRequest
with_host address request = record {
  method = request.method;
  path = request.path;
  head = insert request.head (codes "host") (plain_value address);
  body = request.body;
}
