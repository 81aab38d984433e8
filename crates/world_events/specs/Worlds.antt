-- A world: services, the packets between them, and what they are given from outside.
use Rattle.std.specs.Prelude.{ℕ, ◌≡◌, zero, suc, ◌+◌, ◌-◌, ◌^◌, ◌<◌, List, [], Option, None, length, min, slice_get, slice_set, refl}
use Rattle.std.proofs.Common.{ap, sym, subst, ◌∙◌, add-one, add-sub_cancel, le_of_suc-le-suc, lt-suc_self}
use Rattle.std.proofs.Math.Nat.{min-eq_left}
use Rattle.std.specs.Coded.{Coded, code_by, coded×, coded_ℕ, coded_list}
use Rattle.std.specs.List.{position_or_len}
use Rattle.lang_base.specs.declared.fault.FaultNote.{FaultNote}
use Rattle.lang_core.specs.declared.inputs.Inputs.{Inputs}
use Rattle.recorded_inputs.specs.Drawing.{drawn, word_after}
use Rattle.call_registers.specs.Changes.{raised}
use Rattle.service_events.specs.State.{Kept, kept_code}
use Rattle.world_agreement.specs.Partners.{has_name}
use Rattle.world_events.specs.contracts.packet.Packet as packet
use Rattle.world_events.specs.declared.packet.Packet.{Packet}

-- ---- services by their names

-- the services, with this one in place of that of this name
abbrev pub with_service : List ℕ → Kept → List Kept → List Kept
with_service name s services = slice_set services (position_or_len (has_name name) services) s

-- ---- a world

-- its services, all packets that were ever written, the moment that its clock tells, the word that was drawn last, and how many exchanges failed
pub record World : Type 0 where
  pub services : List Kept
  pub packets : List Packet
  pub moment : ℕ
  pub x : ℕ
  pub losses : ℕ

-- by which a proof tells two of them apart
abbrev pub world_code : Coded World
world_code =
    code_by (List Kept × (List Packet × (ℕ × (ℕ × ℕ))))
    (coded× (coded_list kept_code) (coded× (coded_list packet.the_row.coded) (coded× coded_ℕ (coded× coded_ℕ coded_ℕ))))
    (λ w. (w.services, (w.packets, (w.moment, (w.x, w.losses)))))
    (λ p. record { services = p.0; packets = p.1.0; moment = p.1.1.0; x = p.1.1.1.0; losses = p.1.1.1.1 })
    (λ _. refl)

-- at first no packet was written, the clock tells 0, the word before the first is 1, and nothing was lost
abbrev pub fresh_world : List Kept → World
fresh_world services = record { services = services; packets = []; moment = 0; x = 1; losses = 0 }

-- ---- packets by their numbers

abbrev pub packet_in : ℕ → List Packet → Option Packet
packet_in zero packets = None
packet_in (suc place) packets = slice_get packets place

-- the packet of a number, which counts from 1
abbrev pub packet_of : ℕ → World → Option Packet
packet_of number w = packet_in number w.packets

-- the number of the next packet that is written
abbrev pub next_packet : World → ℕ
next_packet w = length w.packets + 1

-- ---- what is drawn, and what is counted

-- what the next event that draws is given
abbrev pub next_inputs : World → Inputs
next_inputs w = drawn w.moment w.x

-- the same world with the words behind eight that were drawn
abbrev pub once_drawn : World → World
once_drawn w = record w { x = word_after 8 w.x }

-- the count rises by one, and stands still at the end of its type
pub raised_above : (n : ℕ) → n + 1 < 2 ^ 64 → n < raised n
raised_above n few =
    subst (λ k. n < k) (sym (min-eq_left (le_of_suc-le-suc few))) (subst (λ k. n < k) (sym (add-one n)) (lt-suc_self n))

pub raised_last : (n : ℕ) → n + 1 ≡ 2 ^ 64 → raised n ≡ n
raised_last n last =
    ap (λ k. min k (2 ^ 64 - 1)) last ∙ sym (ap (λ k. k - 1) last) ∙ add-sub_cancel n 1

-- what the network tells of the next exchange that fails: its count of failures before and after
abbrev pub loss_note : World → FaultNote
loss_note w =
    record {
      before = w.losses;
      after = raised w.losses;
      rose = raised_above w.losses;
      kept = raised_last w.losses;
    }

abbrev pub once_lost : World → World
once_lost w = record w { losses = raised w.losses }
