use Rattle.std.proofs.Common.{◌+◌, sym, subst, arith}
use Rattle.std.proofs.lemmas.Grind.{common_steps}
use Rattle.http_front.specs.Fields.{HoldsUpTo}
use Rattle.http_front.proofs.FieldLemmas.{named_at, one_more, valued_at}
use Rattle.http_front.proofs.fields.map_of.Goals as goal

pub add-requires-clause-name : goal.add-requires-clause-name
add-requires-clause-name c =
    named_at c.args.bytes.now c.args.fields.now c.loop-field.field-index _ c.of.result.now c.requires.fit c.loop-field-test.true c.requires.short c.of.ensures

pub add-requires-clause-value : goal.add-requires-clause-value
add-requires-clause-value c =
    valued_at c.args.bytes.now c.args.fields.now c.loop-field.field-index _ c.of-in-loop-field.result.now c.requires.fit c.loop-field-test.true c.of-in-loop-field.ensures

pub loop-field-preserved : goal.loop-field-preserved
loop-field-preserved c = record {
  made = grind (arith, common_steps);
  room = subst (HoldsUpTo (c.loop-field.field-index + 1)) (sym c.in_ok-add.ensures) (one_more c.loop-field.field-index c.loop-field.head _ _ c.loop-field.invariant.room);
}
