use Rattle.std.proofs.Common.{◌≡◌, ◌-◌, Some, false, length}
use Rattle.lang_tokens.specs.Lexing.{lex, next_token, past_gap, start_of, places, token_of, tokens}
use Rattle.lang_tokens.proofs.LexLemmas.{ends, ends_bad, goes_on, is_done}
use Rattle.lang_tokens.proofs.lexer.lex.Goals as goal

pub returns-in_default-clause-tokens : goal.returns-in_default-clause-tokens
returns-in_default-clause-tokens c =
    ends token_of c.loop.found.tokens (tokens (lex c.args.text.now)) (length c.args.text.now) c.loop.counter (length c.args.text.now) c.loop.left.now c.loop-test.true
    (rw c.past_gap-rest.ensures at (rw c.in_default.is at c.in_ok-token.ensures)) c.loop.invariant.0

pub returns-in_default-clause-places : goal.returns-in_default-clause-places
returns-in_default-clause-places c =
    ends start_of c.loop.found.places (places (lex c.args.text.now)) (length c.args.text.now) c.loop.counter (length c.args.text.now) c.loop.left.now c.loop-test.true
    (rw c.past_gap-rest.ensures at (rw c.in_default.is at c.in_ok-token.ensures)) c.loop.invariant.1

pub returns-then-bad-clause-tokens : goal.returns-then-bad-clause-tokens
returns-then-bad-clause-tokens c =
    let at : c.saturating_sub-at.result ≡ length c.args.text.now - length (past_gap false c.loop.left.now) = rw c.past_gap-rest.ensures at c.saturating_sub-at.ensures in
    let next : Some (c.in-Some.token, c.in-Some.after.now) ≡ next_token (past_gap false c.loop.left.now) = rw c.past_gap-rest.ensures at (rw c.in-Some.is at c.in_ok-token.ensures) in
    rw c.in_ok-note.ensures.tokens (ends_bad token_of c.loop.found.tokens (tokens (lex c.args.text.now)) (length c.args.text.now) c.loop.counter (length c.args.text.now) c.saturating_sub-at.result c.loop.left.now c.in-Some.after.now c.in-Some.token
    c.loop-test.true at next c.if-bad.ensures c.loop.invariant.0)

pub returns-then-bad-clause-places : goal.returns-then-bad-clause-places
returns-then-bad-clause-places c =
    let at : c.saturating_sub-at.result ≡ length c.args.text.now - length (past_gap false c.loop.left.now) = rw c.past_gap-rest.ensures at c.saturating_sub-at.ensures in
    let next : Some (c.in-Some.token, c.in-Some.after.now) ≡ next_token (past_gap false c.loop.left.now) = rw c.past_gap-rest.ensures at (rw c.in-Some.is at c.in_ok-token.ensures) in
    rw c.in_ok-note.ensures.places (ends_bad start_of c.loop.found.places (places (lex c.args.text.now)) (length c.args.text.now) c.loop.counter (length c.args.text.now) c.saturating_sub-at.result c.loop.left.now c.in-Some.after.now c.in-Some.token
    c.loop-test.true at next c.if-bad.ensures c.loop.invariant.1)

pub loop-preserved : goal.loop-preserved
loop-preserved c =
    let at : c.saturating_sub-at.result ≡ length c.args.text.now - length (past_gap false c.loop.left.now) = rw c.past_gap-rest.ensures at c.saturating_sub-at.ensures in
    let next : Some (c.in-Some.token, c.in-Some.after.now) ≡ next_token (past_gap false c.loop.left.now) = rw c.past_gap-rest.ensures at (rw c.in-Some.is at c.in_ok-token.ensures) in (
      rw c.in_ok-note.ensures.tokens (goes_on token_of c.loop.found.tokens (tokens (lex c.args.text.now)) (length c.args.text.now) c.loop.counter (length c.args.text.now) c.saturating_sub-at.result c.loop.left.now c.in-Some.after.now c.in-Some.token
          c.loop-test.true at next c.if-bad.ensures c.loop.invariant.0),
      rw c.in_ok-note.ensures.places (goes_on start_of c.loop.found.places (places (lex c.args.text.now)) (length c.args.text.now) c.loop.counter (length c.args.text.now) c.saturating_sub-at.result c.loop.left.now c.in-Some.after.now c.in-Some.token
          c.loop-test.true at next c.if-bad.ensures c.loop.invariant.1),
    )

pub returns-clause-tokens : goal.returns-clause-tokens
returns-clause-tokens c = is_done token_of c.loop.found.tokens (tokens (lex c.args.text.now)) (length c.args.text.now) c.loop.counter (length c.args.text.now) c.loop.left.now c.loop-test.false c.loop.invariant.0

pub returns-clause-places : goal.returns-clause-places
returns-clause-places c = is_done start_of c.loop.found.places (places (lex c.args.text.now)) (length c.args.text.now) c.loop.counter (length c.args.text.now) c.loop.left.now c.loop-test.false c.loop.invariant.1
