-- The words of refusals that no service means.
use Rattle.std.specs.Prelude.{ℕ, Bool, List, [], ◌∷◌, Option, codes, find}
use Rattle.lang_base.specs.Texts.{same_text}
use Rattle.wire_fields.specs.declared.unread.UnreadWord.{UnreadWord}
use Rattle.wire_fields.specs.declared.unread.UnreadWord.TheVariants.{Head, HeadTooLong, Length, Text, Body, Coding, Method, Missing, Bad, Kind, Seal}

-- how each is spelled
abbrev pub unread_text : UnreadWord → List ℕ
unread_text Head = codes "head"
unread_text HeadTooLong = codes "headlong"
unread_text Length = codes "length"
unread_text Text = codes "text"
unread_text Body = codes "body"
unread_text Coding = codes "coding"
unread_text Method = codes "method"
unread_text Missing = codes "missing"
unread_text Bad = codes "bad"
unread_text Kind = codes "kind"
unread_text Seal = codes "seal"

-- the status of the HTTP response that refuses so
abbrev pub unread_status : UnreadWord → ℕ
unread_status Seal = 403
unread_status Body = 413
unread_status Coding = 501
unread_status Method = 501
unread_status word = 400

abbrev pub unread_words : List UnreadWord
unread_words = Head ∷ HeadTooLong ∷ Length ∷ Text ∷ Body ∷ Coding ∷ Method ∷ Missing ∷ Bad ∷ Kind ∷ Seal ∷ []

abbrev pub is_spelled : List ℕ → UnreadWord → Bool
is_spelled text word = same_text (unread_text word) text

-- the word of these that is spelled so, if one is
unfoldable pub unread_word : List ℕ → Option UnreadWord
unread_word text = find (is_spelled text) unread_words
