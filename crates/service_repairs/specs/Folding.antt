-- The first entry that a fold would fold and that isn't quiet, where the first stale one of all is known.
use Rattle.std.specs.Prelude.{ℕ, Bool, false, ◌&&◌, ◌||◌, not, List, [], ◌∷◌, Option, Some, None, if◌then◌else◌, nat_eq}
use Rattle.std.specs.List.{list_all}
use Rattle.request_log.specs.declared.entry.Entry.{Entry}
use Rattle.service_events.specs.Orders.{is_due, is_quiet_call}
use Rattle.service_events.specs.State.{Kept}

-- nothing of an entry is on its way: neither its reply nor one of its calls
abbrev pub is_settled : Kept → Entry → Bool
is_settled s e = not (is_due s e) && list_all (is_quiet_call s) e.slots

-- it is the stale one, where that has this number
abbrev pub is_stale_one : Option ℕ → Entry → Bool
is_stale_one None e = false
is_stale_one (Some id) e = nat_eq id e.id

-- the first of these that is the stale one of this number, or isn't settled
abbrev pub first_unquiet_among : Kept → Option ℕ → List Entry → Option ℕ
first_unquiet_among s stale [] = None
first_unquiet_among s stale (e ∷ es) = if is_stale_one stale e || not (is_settled s e) then Some e.id else first_unquiet_among s stale es
