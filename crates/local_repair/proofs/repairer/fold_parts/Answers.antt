use Rattle.std.proofs.Common.{length, ap, arith}
use Rattle.std.proofs.lemmas.List.{length-map}
use Rattle.request_log.specs.declared.entry.Entry.{Entry}
use Rattle.local_repair.specs.Current.{writes_of}
use Rattle.local_repair.specs.Held.{looked}
use Rattle.local_repair.proofs.repairer.fold_parts.Goals as goal

pub first_texts-requires : goal.first_texts-requires
first_texts-requires c =
    let n = ap length c.requires.tied in
    let m = length-map c.args.log.now.entries (λ (e : Entry). writes_of e.made) in
    let within = c.requires.within in
    omega arith

pub fold-requires-2-clause-within : goal.fold-requires-2-clause-within
fold-requires-2-clause-within c =
    let n = ap length c.requires.tied in
    let m = length-map c.args.log.now.entries (λ (e : Entry). writes_of e.made) in
    let within = c.requires.within in
    omega arith

pub fold-requires : goal.fold-requires
fold-requires c =
    let n = ap length c.requires.looked in
    let m = length-map c.args.log.now.entries looked in
    let within = c.requires.within in
    omega arith
