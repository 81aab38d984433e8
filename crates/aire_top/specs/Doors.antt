-- What a door that tells people keeps.
use Rattle.aire_top.specs.declared.announcing.TellingDoor.{TellingDoor}

-- the door that it opens ears with
abbrev pub doors_of : {D K : Type 0} → TellingDoor D K → D
doors_of d = d.doors

-- where it tells people
abbrev pub told_of : {D K : Type 0} → TellingDoor D K → K
told_of d = d.told
