use Rattle.std.proofs.Common.{arith}
use Rattle.lang_tokens.proofs.StringLemmas.{ill_formed, ends, goes_on, no_end}
use Rattle.lang_tokens.proofs.strings.string.Goals as goal

pub returns-in_default : goal.returns-in_default
returns-in_default c = ill_formed c.loop.text.items c.loop.left.now c.args.bytes.now (rw c.in_default.is at c.character.ensures.value) c.loop.invariant.0

pub returns-in_default-found : goal.returns-in_default-found
returns-in_default-found c = ends c.loop.text.items c.loop.left.now c.args.bytes.now c.in-Some.rest.now (rw c.in_default-found.is at (rw c.in-Some.is at c.character.ensures.value)) c.loop.invariant.0

pub loop-preserved : goal.loop-preserved
loop-preserved c =
    let shorter = rw c.in-Some.is at c.character.ensures.shorter in
    (rw c.in_ok-push.ensures.items (goes_on c.loop.text.items c.loop.left.now c.args.bytes.now c.in-Some.rest.now c.in-Some-found.byte (rw c.in-Some-found.is at (rw c.in-Some.is at c.character.ensures.value)) c.loop.invariant.0), omega (arith, shorter))

pub returns : goal.returns
returns c = no_end c.loop.text.items c.loop.left.now c.args.bytes.now (omega arith) c.loop.invariant.0
