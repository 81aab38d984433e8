-- The fields of the table have names that a map takes.
use Rattle.std.proofs.Common.{◌≡◌, true, refl}
use Rattle.http_header.specs.FieldName.{is_field_name}
use Rattle.http_front.specs.Table.{spelling}
use Rattle.http_front.specs.declared.header.AireHeader.{AireHeader}
use Rattle.http_front.specs.declared.header.AireHeader.TheVariants.{From, Dest, RequestId, ResponseId, NotifierUrl, Repair, Version, AnswerVersion, Who, Method, Path, RequestWho, Chain, Before, After, Refused, Seal}

pub named : (header : AireHeader) → is_field_name (spelling header) ≡ true
named From = refl
named Dest = refl
named RequestId = refl
named ResponseId = refl
named NotifierUrl = refl
named Repair = refl
named Version = refl
named AnswerVersion = refl
named Who = refl
named Method = refl
named Path = refl
named RequestWho = refl
named Chain = refl
named Before = refl
named After = refl
named Refused = refl
named Seal = refl
