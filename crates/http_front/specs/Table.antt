-- The header fields of messages between services, in the order in which they are tested, written and sealed.
use Rattle.std.specs.Prelude.{ℕ, List, [], ◌∷◌, codes}
use Rattle.http_front.specs.declared.header.AireHeader.{AireHeader}
use Rattle.http_front.specs.declared.header.AireHeader.TheVariants.{From, Dest, RequestId, ResponseId, NotifierUrl, Repair, Version, AnswerVersion, Who, Method, Path, RequestWho, Chain, Before, After, Refused, Seal}

abbrev pub spelling : AireHeader → List ℕ
spelling From = codes "Aire-From"
spelling Dest = codes "Aire-Dest"
spelling RequestId = codes "Aire-Request-Id"
spelling ResponseId = codes "Aire-Response-Id"
spelling NotifierUrl = codes "Aire-Notifier-URL"
spelling Repair = codes "Aire-Repair"
spelling Version = codes "Aire-Version"
spelling AnswerVersion = codes "Aire-Answer-Version"
spelling Who = codes "Aire-Who"
spelling Method = codes "Aire-Method"
spelling Path = codes "Aire-Path"
spelling RequestWho = codes "Aire-Request-Who"
spelling Chain = codes "Aire-Chain"
spelling Before = codes "Aire-Before"
spelling After = codes "Aire-After"
spelling Refused = codes "Aire-Refused"
spelling Seal = codes "Aire-Seal"

-- all of them, in the order of the table
abbrev pub aire_headers : List AireHeader
aire_headers =
    From ∷ Dest ∷ RequestId ∷ ResponseId ∷ NotifierUrl ∷ Repair ∷ Version ∷ AnswerVersion ∷ Who
    ∷ Method ∷ Path ∷ RequestWho ∷ Chain ∷ Before ∷ After ∷ Refused ∷ Seal ∷ []
