-- The words with which a service refuses.
use Rattle.std.specs.Prelude.{ℕ, Bool, true, false, List, [], ◌∷◌, Option, codes, find, nat_eq}
use Rattle.std.specs.Cmp.Lexicographic.{pointwise}
use Rattle.repair_messages.specs.declared.refusals.RefusalWord.{RefusalWord}
use Rattle.repair_messages.specs.declared.refusals.RefusalWord.TheVariants.{NoMemory, Full, NotYet, Gone, NoFlight, Denied, Unknown, Foreign, NoSuchRequest, NotHeld, NotOutside, TooOld, NotQuiet, NoSuchProgram}

-- how each is spelled
abbrev pub word_text : RefusalWord → List ℕ
word_text NoMemory = codes "nomemory"
word_text Full = codes "full"
word_text NotYet = codes "notyet"
word_text Gone = codes "gone"
word_text NoFlight = codes "noflight"
word_text Denied = codes "denied"
word_text Unknown = codes "unknown"
word_text Foreign = codes "foreign"
word_text NoSuchRequest = codes "nosuchrequest"
word_text NotHeld = codes "notheld"
word_text NotOutside = codes "notoutside"
word_text TooOld = codes "tooold"
word_text NotQuiet = codes "notquiet"
word_text NoSuchProgram = codes "nosuchprogram"

-- whether a number stands behind it
abbrev pub has_number : RefusalWord → Bool
has_number NoMemory = false
has_number Foreign = false
has_number NotHeld = false
has_number word = true

-- the status of an HTTP reply that refuses so; 500 where no reply does
abbrev pub word_status : RefusalWord → ℕ
word_status Denied = 403
word_status Unknown = 404
word_status NoSuchRequest = 404
word_status NoSuchProgram = 404
word_status NotYet = 409
word_status NotHeld = 409
word_status NotOutside = 409
word_status TooOld = 409
word_status NotQuiet = 409
word_status Gone = 410
word_status NoMemory = 503
word_status Full = 507
word_status word = 500

-- those that a reply may say: that a service never had a post, or has no such flight, it tells nobody else
abbrev pub said_words : List RefusalWord
said_words =
    NoMemory ∷ Full ∷ NotYet ∷ Gone ∷ Denied ∷ Unknown ∷ NoSuchRequest ∷ NotHeld ∷ NotOutside ∷ TooOld ∷ NotQuiet ∷ NoSuchProgram ∷ []

abbrev pub is_spelled : List ℕ → RefusalWord → Bool
is_spelled text word = pointwise nat_eq (word_text word) text

-- the word of these that is spelled so, if one is
unfoldable pub word_said : List ℕ → Option RefusalWord
word_said text = find (is_spelled text) said_words
