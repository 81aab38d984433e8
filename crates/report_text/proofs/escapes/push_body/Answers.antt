use Rattle.report_text.specs.Reports.{body_byte}
use Rattle.report_text.proofs.Characters.{character_more}
use Rattle.report_text.proofs.escapes.push_body.Goals as goal

pub loop-character-preserved : goal.loop-character-preserved
loop-character-preserved c = character_more body_byte _ _ _ _ _ c.loop-character.invariant c.in_ok-push_body_char.ensures
