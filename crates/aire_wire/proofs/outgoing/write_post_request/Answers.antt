use Rattle.std.proofs.Common.{sym, subst}
use Rattle.std.specs.Result.{IfOk}
use Rattle.repair_messages.specs.declared.posts.Post.{Post}
use Rattle.repair_messages.specs.declared.posts.Post.TheVariants.{Set, Token, Fetch}
use Rattle.aire_wire.proofs.BytesBack.{fetch_bytes, set_bytes, token_bytes}
use Rattle.aire_wire.proofs.FieldsRead.{of_result}
use Rattle.aire_wire.proofs.ReadFetches.{fetch_reads_back}
use Rattle.aire_wire.proofs.ReadSets.{set_reads_back}
use Rattle.aire_wire.proofs.ReadTokens.{token_reads_back}
use Rattle.aire_wire.specs.ReadBack.{PostBytesReadBack, PostReadsBack}
use Rattle.aire_wire.specs.Written.{written_fetch, written_set, written_token}
use Rattle.aire_wire.proofs.outgoing.write_post_request.Goals as goal

pub returns-in-Set-clause-reads_back : goal.returns-in-Set-clause-reads_back
returns-in-Set-clause-reads_back c =
    subst (λ (post : Post). IfOk c.write_set.result (PostReadsBack post c.args.secret.now)) (sym c.in-Set.is)
    (of_result c.write_set.result (written_set c.in-Set.set c.args.secret.now) (PostReadsBack (Set c.in-Set.set) c.args.secret.now) c.write_set.ensures
    (set_reads_back c.in-Set.set c.args.secret.now))

pub returns-in-Token-clause-reads_back : goal.returns-in-Token-clause-reads_back
returns-in-Token-clause-reads_back c =
    subst (λ (post : Post). IfOk c.write_token.result (PostReadsBack post c.args.secret.now)) (sym c.in-Token.is)
    (of_result c.write_token.result (written_token c.in-Token.token c.args.secret.now) (PostReadsBack (Token c.in-Token.token) c.args.secret.now) c.write_token.ensures
    (token_reads_back c.in-Token.token c.args.secret.now))

pub returns-in-Fetch-clause-reads_back : goal.returns-in-Fetch-clause-reads_back
returns-in-Fetch-clause-reads_back c =
    subst (λ (post : Post). IfOk c.write_fetch.result (PostReadsBack post c.args.secret.now)) (sym c.in-Fetch.is)
    (of_result c.write_fetch.result (written_fetch c.in-Fetch.fetch c.args.secret.now) (PostReadsBack (Fetch c.in-Fetch.fetch) c.args.secret.now) c.write_fetch.ensures
    (fetch_reads_back c.in-Fetch.fetch c.args.secret.now))

pub returns-in-Set-clause-bytes_read_back : goal.returns-in-Set-clause-bytes_read_back
returns-in-Set-clause-bytes_read_back c =
    subst (λ (post : Post). IfOk c.write_set.result (PostBytesReadBack post c.args.secret.now)) (sym c.in-Set.is)
    (of_result c.write_set.result (written_set c.in-Set.set c.args.secret.now) (PostBytesReadBack (Set c.in-Set.set) c.args.secret.now) c.write_set.ensures
    (set_bytes c.in-Set.set c.args.secret.now c.set_text.ensures))

pub returns-in-Token-clause-bytes_read_back : goal.returns-in-Token-clause-bytes_read_back
returns-in-Token-clause-bytes_read_back c =
    subst (λ (post : Post). IfOk c.write_token.result (PostBytesReadBack post c.args.secret.now)) (sym c.in-Token.is)
    (of_result c.write_token.result (written_token c.in-Token.token c.args.secret.now) (PostBytesReadBack (Token c.in-Token.token) c.args.secret.now) c.write_token.ensures
    (token_bytes c.in-Token.token c.args.secret.now))

pub returns-in-Fetch-clause-bytes_read_back : goal.returns-in-Fetch-clause-bytes_read_back
returns-in-Fetch-clause-bytes_read_back c =
    subst (λ (post : Post). IfOk c.write_fetch.result (PostBytesReadBack post c.args.secret.now)) (sym c.in-Fetch.is)
    (of_result c.write_fetch.result (written_fetch c.in-Fetch.fetch c.args.secret.now) (PostBytesReadBack (Fetch c.in-Fetch.fetch) c.args.secret.now) c.write_fetch.ensures
    (fetch_bytes c.in-Fetch.fetch c.args.secret.now))
