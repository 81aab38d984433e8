-- Walks over the calls of entries, by which the neighbours of one of them are found: past it, or outward from it.
use Rattle.std.specs.Prelude.{ℕ, ◌≡◌, Bool, true, List, Option, Some, None, IsSomeAnd, filter, find, flat_map, fold, if◌then◌else◌, nat_eq, slice_get}
use Rattle.std.specs.List.{last_or}
use Rattle.request_log.specs.declared.entry.Entry.{Entry}
use Rattle.call_registers.specs.declared.register.Register.{Register}
use Rattle.service_events.specs.Fits.{wanted_call}
use Rattle.service_events.specs.Posts.{goes_to}
use Rattle.service_events.specs.State.{or_else}
use Rattle.service_posts.specs.declared.beside.Walk.{Walk}
use Rattle.service_posts.specs.declared.outward.Slot.{Slot}

-- one call more on the way past the call `of`
abbrev pub pass : ℕ → Walk → ℕ → Walk
pass of w number =
    if w.passed then record w { next = or_else w.next (Some number) }
    else (if nat_eq number of then record w { passed = true } else record w { previous = Some number })

-- where it is wanted, and goes to this service
abbrev pub seen : List Register → List ℕ → ℕ → Walk → ℕ → Walk
seen registers dest of w number = if goes_to dest (wanted_call registers number) then pass of w number else w

-- the calls of an entry more, which has these
abbrev pub seen_each : {X : Type 0} → (X → List ℕ) → List Register → List ℕ → ℕ → Walk → X → Walk
seen_each slots registers dest of w x = fold (seen registers dest of) w (slots x)

-- ---- outward from where the call stands

-- the call of this number is wanted, and goes to this service
abbrev pub is_to : List Register → List ℕ → ℕ → Bool
is_to registers dest number = goes_to dest (wanted_call registers number)

-- the calls of what has these calls each
abbrev pub calls_by : {X : Type 0} → (X → List ℕ) → List X → List ℕ
calls_by slots xs = flat_map slots xs

-- the calls of these entries, in logged order
abbrev pub calls_in : List Entry → List ℕ
calls_in entries = calls_by (λ (e : Entry). e.slots) entries

-- the first of these that is wanted and goes to this service
abbrev pub first_to : List Register → List ℕ → List ℕ → Option ℕ
first_to registers dest numbers = find (is_to registers dest) numbers

-- the last of them
abbrev pub last_to : List Register → List ℕ → List ℕ → Option ℕ
last_to registers dest numbers = last_or None (filter (is_to registers dest) numbers)

-- the later of this and a call more
abbrev pub or_later : List Register → List ℕ → Option ℕ → ℕ → Option ℕ
or_later registers dest last number = if is_to registers dest number then Some number else last

-- the entry at that place has the call of this number at that place
abbrev pub IsSlot : ℕ → List Entry → Slot → Type 0
IsSlot number entries at = IsSomeAnd (slice_get entries at.entry) (λ (e : Entry). slice_get e.slots at.call ≡ Some number)
