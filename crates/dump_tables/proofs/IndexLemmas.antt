-- Entries by their numbers and by the calls from which they come.
use Rattle.std.proofs.Common.{◌≡◌, ◌<◌, ◌≤◌, ◌-◌, ℕ, zero, suc, false, List, length, length-drop, take, drop, map, nat_eq, refl, ap, ◌∙◌, subst, arith}
use Rattle.std.proofs.lemmas.List.{length-map, take_all}
use Rattle.lang_core.specs.Origins.{is_call}
use Rattle.lang_core.specs.declared.ids.Origin.{Origin}
use Rattle.lang_core.specs.declared.ids.Origin.TheVariants.{Outside, Call}
use Rattle.lang_lists.specs.Ends.{last_end}
use Rattle.lang_lists.specs.Keys.{call_key}
use Rattle.lang_lists.proofs.HashEndLemmas.{last_end-map, last_end-within}
use Rattle.lang_lists.proofs.KeyLemmas.{call_other}
use Rattle.dump_tables.specs.Indexed.{from_end, number_of, origin_key}
use Rattle.dump_tables.specs.declared.dump.DumpEntry.{DumpEntry}

-- an origin of another key is another call
pub other_origin : (caller : List ℕ) (number id : ℕ) (o : Origin) → nat_eq (call_key caller number) (origin_key id o) ≡ false → is_call caller number o ≡ false
other_origin caller number id Outside h = refl
other_origin caller number id (Call c n) h = call_other caller c number n h

-- what stands from an end on, as goals write it
pub from_there : (entries : List DumpEntry) (end : ℕ) → 0 < end → take (length entries - (end - 1)) (drop (end - 1) entries) ≡ from_end end entries
from_there entries zero some = absurd (omega (arith, some))
from_there entries (suc n) some = let e : suc n - 1 ≡ n = omega arith in rw e (take_all (length entries - n) (drop n entries) (omega (arith, length-drop n entries)))

pub end_within : (id : ℕ) (keys : List ℕ) (entries : List DumpEntry) → keys ≡ map number_of entries → last_end (nat_eq id) keys ≤ length entries
end_within id keys entries is =
    subst (λ (n : ℕ). last_end (nat_eq id) keys ≤ n) (ap length is ∙ length-map entries number_of) (last_end-within (nat_eq id) keys)

-- the end of a number among those of entries
pub end_of_number : (id : ℕ) (entries : List DumpEntry) → last_end (nat_eq id) (map number_of entries) ≡ last_end (λ (e : DumpEntry). nat_eq id e.id) entries
end_of_number id entries = last_end-map (nat_eq id) number_of entries
