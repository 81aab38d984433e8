-- What contracts see of an order.
use Rattle.std.specs.Prelude.{ℕ, List}
use Rattle.place_order.specs.contracts.room.OrderCall as call
use Rattle.place_order.specs.declared.room.OrderCall.{OrderCall}
use base.Stored.{Coded}

-- the labels in order, how many were given so far, and the calls for which room was made
pub record KeptOrder : Type 0 where
  pub labels : List ℕ
  pub given : ℕ
  pub room : List OrderCall

-- by which calls are told apart
abbrev pub call_code : Coded OrderCall
call_code = call.the_row.coded
