-- Reading one behind the other.
use Rattle.std.specs.Prelude.{List, Result, Ok, Err}

-- something read of the front of a list, and what stands behind it; or why nothing was
abbrev pub Read : Type 0 → Type 0 → Type 0 → Type 0
Read T E A = Result (A × List T) E

abbrev pub Reader : Type 0 → Type 0 → Type 0 → Type 0
Reader T E A = List T → Read T E A

infixl 10 ◌>>=◌
abbrev pub ◌>>=◌ : {A B E : Type 0} → Result A E → (A → Result B E) → Result B E
(Ok x) >>= f = f x
(Err e) >>= f = Err e

-- a reader, and behind what it read another
abbrev pub bound : {T E A B : Type 0} → Reader T E A → (A → Reader T E B) → Reader T E B
bound r f ts = r ts >>= λ p. f p.0 p.1

-- a mark, of which nothing is kept, and a reader behind it
abbrev pub marked : {T E B : Type 0} → (List T → Result (List T) E) → Reader T E B → Reader T E B
marked m f ts = m ts >>= f

-- it takes nothing
abbrev pub gives : {T E B : Type 0} → B → Reader T E B
gives y ts = Ok (y, ts)
