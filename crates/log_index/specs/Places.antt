-- Places in logged order, each with a label.
use Rattle.std.specs.Prelude.{ℕ, ◌≡◌, ◌<◌, List, IsTrue, length}
use Rattle.lang_lists.specs.Room.{is_made}
use Rattle.log_index.specs.Rows.{call_at, IsApart}
use Rattle.place_order.specs.Rooms.{call_code}
use Rattle.place_order.specs.declared.room.OrderCall.{OrderCall}

-- the labels in logged order, and the room for more: in the order, and in the list
pub record KeptPlaces : Type 0 where
  pub labels : List ℕ
  pub room : List OrderCall
  pub spare : ℕ

-- the list has the labels of the order, no two of which are equal
pub record AreLabels (order labels : List ℕ) : Type 0 where
  pub same : labels ≡ order
  pub apart : IsApart labels

-- room was made for a label at a place
pub record HasPlace (place : ℕ) (kept : KeptPlaces) : Type 0 where
  pub label : IsTrue (is_made call_code (call_at place (length kept.labels)) kept.room)
  pub spare : 0 < kept.spare
