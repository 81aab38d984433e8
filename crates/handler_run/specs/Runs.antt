-- What a statement does.
use Rattle.std.specs.Prelude.{ℕ, pos, negsuc, ◌+◌, ◌/◌, Bool, ◌&&◌, ◌||◌, not, List, [], ◌∷◌, ◌++◌, Option, Some, None, Ok, Err, if◌then◌else◌, nat_lt, nat_le, nat_eq, length, codes, slice_get, filter, sum_by}
use Rattle.std.specs.Option.{option_map}
use Rattle.std.specs.List.{find, list_any, starts_with}
use Rattle.lang_base.specs.Texts.{same_text, begins_with}
use Rattle.lang_tree.specs.Forms.{is_path}
use Rattle.lang_tree.specs.declared.method.Method.{Method}
use Rattle.lang_tree.specs.declared.expr.Expr.{Expr}
use Rattle.lang_tree.specs.declared.stmt.Stmt.{Stmt}
use Rattle.lang_tree.specs.declared.stmt.Stmt.TheOpen.{Stmt-F, Block-F}
use Rattle.lang_tree.specs.declared.stmt.Stmt.TheFolds.{fold-Stmt, fold-Block}
use Rattle.lang_tree.specs.declared.stmt.Block.{Block}
use Rattle.lang_core.specs.Places.{place_of, same_place, set_in}
use Rattle.lang_core.specs.Rows.{get, scan, apply as rows_after, write_place, cell_size}
use Rattle.lang_core.specs.declared.cells.Cell.{Cell}
use Rattle.lang_core.specs.declared.inputs.Inputs.{Inputs}
use Rattle.lang_core.specs.declared.writes.Write.{Write}
use Rattle.lang_core.specs.declared.request.Request.{Request}
use Rattle.lang_core.specs.declared.request.Response.{Response}
use Rattle.lang_core.specs.declared.trace.CallMade.{CallMade}
use Rattle.lang_core.specs.declared.trace.Read.{Read}
use Rattle.lang_core.specs.declared.trace.Read.TheVariants.{Key, Scan}
use Rattle.lang_core.specs.declared.value.Value.{Value}
use Rattle.lang_core.specs.declared.value.Value.TheVariants.{Int, Str, Nothing}
use Rattle.lang_values.specs.Sizes.{read_size}
use Rattle.lang_values.specs.Values.{Outcome, value_of, text_or_nothing}
use Rattle.lang_values.specs.Variables.{bind}
use Rattle.lang_values.specs.declared.given.Fault.{Fault}
use Rattle.lang_values.specs.declared.given.Fault.TheVariants.{Steps, Kind, Limit, Words}
use Rattle.handler_run.specs.declared.state.Flow.{Flow}
use Rattle.handler_run.specs.declared.state.Flow.TheVariants.{GoesOn, Replied, Wants, Faulted}
use Rattle.lang_values.specs.Given.{Given}
use Rattle.handler_run.specs.declared.state.State.{State}

-- how a statement ends, and the state there
pub record Ended : Type 0 where
  pub flow : Flow
  pub state : State

abbrev pub ended : Flow → State → Ended
ended f s = record { flow = f; state = s }

-- what a statement or a block does from a state
abbrev pub Effect : Type 0
Effect = State → Ended

abbrev pub goes_on : Effect
goes_on s = ended GoesOn s

abbrev pub faulted : Fault → Effect
faulted f s = ended (Faulted f) s

-- the second, where the first goes on
abbrev pub go_on : Flow → State → Effect → Ended
go_on GoesOn s next = next s
go_on (Replied r) s next = ended (Replied r) s
go_on (Wants c) s next = ended (Wants c) s
go_on (Faulted f) s next = ended (Faulted f) s

abbrev pub then_do : Ended → Effect → Ended
then_do e next = go_on e.flow e.state next

-- one step more, of at most 10,000
abbrev pub begun : State → Option State
begun s = if nat_lt s.steps 10000 then Some (record s { steps = s.steps + 1 }) else None

abbrev pub begin : Option State → State → Effect → Ended
begin None s next = faulted Steps s
begin (Some u) s next = next u

-- goes on where a step may begin
abbrev pub step : State → Effect → Ended
step s next = begin (begun s) s next

-- goes on with a value, or faults
abbrev pub with_value : Outcome → State → (Value → Ended) → Ended
with_value (Ok v) s next = next v
with_value (Err f) s next = faulted f s

-- goes on with a text, or faults
abbrev pub with_text : Value → State → (List ℕ → Ended) → Ended
with_text (Str t) s next = next t
with_text (Int n) s next = faulted Kind s
with_text Nothing s next = faulted Kind s

-- goes on where this holds, or faults by a limit
abbrev pub within : Bool → State → Ended → Ended
within ok s next = if ok then next else faulted Limit s

-- a variable gets a value
abbrev pub set_var : List ℕ → Value → State → State
set_var x v s = record s { vars = bind x v s.vars }

abbrev pub let_of : Given → List ℕ → Expr → Effect
let_of g x e s = with_value (value_of g s.vars e) s (λ v. goes_on (set_var x v s))

-- a key of 1 to 256 bytes
abbrev pub key_fits : List ℕ → Bool
key_fits k = not (nat_eq (length k) 0) && nat_le (length k) 256

abbrev pub text_fits : List ℕ → Bool
text_fits t = nat_le (length t) 65536

-- goes on with a key within its limit
abbrev pub with_key : Value → State → (List ℕ → Ended) → Ended
with_key v s next = with_text v s (λ k. within (key_fits k) s (next k))

-- goes on with a text within its limit
abbrev pub with_short : Value → State → (List ℕ → Ended) → Ended
with_short v s next = with_text v s (λ t. within (text_fits t) s (next t))

-- the own write to a key, if there is one: a text, or none
abbrev pub own : List Write → List ℕ → List ℕ → Option (Option (List ℕ))
own writes t k = option_map (λ (w : Write). w.text) (find (λ w. same_place (write_place w) (place_of t k)) writes)

abbrev pub note_read : Read → State → State
note_read r s = record s { reads = s.reads ++ r ∷ [] }

-- the recorded reads are within their limit
abbrev pub reads_fit : State → Bool
reads_fit s = nat_le (sum_by read_size s.reads) 1048576

-- goes on where the recorded reads, this one among them, are within their limit
abbrev pub noted : Read → State → Effect → Ended
noted r s next = within (reads_fit (note_read r s)) (note_read r s) (next (note_read r s))

-- the text at a key: that of the own write, or else what the rows have, which is recorded
abbrev pub read_or : Option (Option (List ℕ)) → List Cell → List ℕ → List ℕ → List ℕ → Effect
read_or (Some o) rows x t k s = goes_on (set_var x (text_or_nothing o) s)
read_or None rows x t k s =
    noted (Key t k (get rows t k)) s (λ u. goes_on (set_var x (text_or_nothing (get rows t k)) u))

abbrev pub get_at : List Cell → List ℕ → List ℕ → Value → Effect
get_at rows x t key s = with_key key s (λ k. read_or (own s.own t k) rows x t k s)

abbrev pub get_of : Given → List Cell → List ℕ → List ℕ → Expr → Effect
get_of g rows x t k s = with_value (value_of g s.vars k) s (λ key. get_at rows x t key s)

-- an own write to a key
abbrev pub write_own : List ℕ → List ℕ → Option (List ℕ) → State → State
write_own t k o s = record s { own = set_in write_place (record { table = t; key = k; text = o }) s.own }

abbrev pub put_at : List ℕ → Value → Value → Effect
put_at t key value s =
    with_key key s (λ k. with_short value s (λ x. goes_on (write_own t k (Some x) s)))

abbrev pub put_of : Given → List ℕ → Expr → Expr → Effect
put_of g t k e s =
    with_value (value_of g s.vars k) s (λ key. with_value (value_of g s.vars e) s (λ value. put_at t key value s))

abbrev pub drop_at : List ℕ → Value → Effect
drop_at t key s = with_key key s (λ k. goes_on (write_own t k None s))

abbrev pub drop_of : Given → List ℕ → Expr → Effect
drop_of g t k s = with_value (value_of g s.vars k) s (λ key. drop_at t key s)

-- the turns of an `each`, over a list that is fixed before the first
abbrev pub turns : List ℕ → List ℕ → Effect → List Cell → Effect
turns k t body [] s = goes_on s
turns k t body (c ∷ cs) s =
    step s (λ u. then_do (body (set_var t (Str c.text) (set_var k (Str c.key) u))) (turns k t body cs))

-- within what a scan may hold
abbrev pub scan_fits : List Cell → Bool
scan_fits cells = nat_le (length cells) 1000 && nat_le (sum_by cell_size cells) 262144

-- the own writes of a table under a prefix
abbrev pub own_beneath : List ℕ → List ℕ → List Write → List Write
own_beneath t prefix writes = filter (λ w. same_text w.table t && begins_with prefix w.key) writes

-- own writes laid over the cells of the rows
abbrev pub laid_over : List Cell → List ℕ → List ℕ → State → List Cell
laid_over cells t prefix s = rows_after cells (own_beneath t prefix s.own)

-- goes on with what an `each` goes over: the cells beneath, which are recorded, with own writes laid over them
abbrev pub with_cells : List Cell → List ℕ → List ℕ → State → (List Cell → Effect) → Ended
with_cells cells t prefix s next =
    noted (Scan t prefix cells) s (λ u. within (scan_fits cells) u
    (within (scan_fits (laid_over cells t prefix u)) u (next (laid_over cells t prefix u) u)))

abbrev pub each_at : List Cell → List ℕ → List ℕ → List ℕ → Value → Effect → Effect
each_at rows k t table prefix body s =
    with_text prefix s (λ p. within (nat_le (length p) 256) s (with_cells (scan rows table p) table p s (turns k t body)))

abbrev pub each_of : Given → List Cell → List ℕ → List ℕ → List ℕ → Expr → Effect → Effect
each_of g rows k t table p body s = with_value (value_of g s.vars p) s (λ prefix. each_at rows k t table prefix body s)

-- a number that isn't 0 is true
abbrev pub choose : Value → Ended → Ended → State → Ended
choose (Int (pos n)) first other s = if nat_eq n 0 then other else first
choose (Int (negsuc n)) first other s = first
choose (Str t) first other s = faulted Kind s
choose Nothing first other s = faulted Kind s

abbrev pub maybe : Option Effect → Effect
maybe None s = goes_on s
maybe (Some body) s = body s

abbrev pub if_of : Given → Expr → Effect → Option Effect → Effect
if_of g e first other s = with_value (value_of g s.vars e) s (λ v. choose v (first s) (maybe other s) s)

-- the status and the body of an answer in their variables
abbrev pub answered : List ℕ → List ℕ → Response → State → State
answered x y r s = set_var y (Str r.body) (set_var x (Int (pos r.status)) s)

-- a call, and the answer that it takes
abbrev pub note_call : CallMade → Response → State → State
note_call c r s = record s { calls = s.calls ++ c ∷ []; answers = s.answers ++ r ∷ [] }

abbrev pub take_answer : Option Response → List ℕ → List ℕ → CallMade → Effect
take_answer None x y c s = ended (Wants c) s
take_answer (Some r) x y c s = goes_on (answered x y r (note_call c r s))

-- the next slot's answer, of at most 16
abbrev pub send : Given → List ℕ → List ℕ → CallMade → Effect
send g x y c s =
    within (nat_lt (length s.calls) 16) s (take_answer (slice_get g.answers (length s.calls)) x y c s)

-- the request of a call, for which the service itself is the user
abbrev pub call_request : Given → Method → List ℕ → List ℕ → Request
call_request g m path body =
    record { method = m; path = path; body = body; who = g.me; chain = g.request.chain ++ g.me ∷ [] }

abbrev pub send_to : Option (List ℕ) → Given → List ℕ → List ℕ → Method → List ℕ → List ℕ → Effect
send_to None g x y m path body s = goes_on (answered x y (record { status = 502; body = [] }) s)
send_to (Some dest) g x y m path body s =
    send g x y (record { dest = dest; request = call_request g m path body }) s

-- a call to the service itself or to one that called for this request
abbrev pub is_loop : Given → List ℕ → Bool
is_loop g dest = same_text g.me dest || list_any (λ name. same_text name dest) g.request.chain

-- 508 for a loop, 502 for no peer, neither of which is a call
abbrev pub call_to : Given → List ℕ → List ℕ → List ℕ → Method → List ℕ → List ℕ → Effect
call_to g x y dest m path body s =
    if is_loop g dest then goes_on (answered x y (record { status = 508; body = [] }) s)
    else send_to (find (λ name. same_text name dest) g.peers) g x y m path body s

-- a path that a call may have
abbrev pub call_path_fits : List ℕ → Bool
call_path_fits path = is_path path && not (starts_with nat_eq path (codes "/aire/"))

abbrev pub call_at : Given → List ℕ → List ℕ → Value → Method → Value → Value → Effect
call_at g x y dest m path body s =
    with_text dest s (λ d. with_text path s (λ p. within (call_path_fits p) s
    (with_short body s (λ b. call_to g x y d m p b s))))

abbrev pub call_of : Given → List ℕ → List ℕ → Expr → Method → Expr → Expr → Effect
call_of g x y d m p b s =
    with_value (value_of g s.vars d) s (λ dest. with_value (value_of g s.vars p) s (λ path.
    with_value (value_of g s.vars b) s (λ body. call_at g x y dest m path body s)))

abbrev pub now_of : Given → List ℕ → Effect
now_of g x s = goes_on (set_var x (Int (pos g.inputs.moment)) s)

abbrev pub words_of : Inputs → List ℕ
words_of i = i.w1 ∷ i.w2 ∷ i.w3 ∷ i.w4 ∷ i.w5 ∷ i.w6 ∷ i.w7 ∷ i.w8 ∷ []

abbrev pub draw : Option ℕ → List ℕ → Effect
draw None x s = faulted Words s
draw (Some word) x s = goes_on (set_var x (Int (pos (word / 2))) (record s { drawn = s.drawn + 1 }))

-- the next random word without its last bit, so that it is no negative number
abbrev pub random_of : Given → List ℕ → Effect
random_of g x s = draw (slice_get (words_of g.inputs) s.drawn) x s

-- 200 to 599, but those that have no body
abbrev pub is_status : ℕ → Bool
is_status n = nat_le 200 n && nat_le n 599 && not (nat_eq n 204 || nat_eq n 205 || nat_eq n 304)

-- goes on with the status of a reply, or faults
abbrev pub with_status : Value → State → (ℕ → Ended) → Ended
with_status (Int (pos n)) s next = if is_status n then next n else faulted Kind s
with_status (Int (negsuc n)) s next = faulted Kind s
with_status (Str t) s next = faulted Kind s
with_status Nothing s next = faulted Kind s

abbrev pub reply_at : Value → Value → Effect
reply_at status body s =
    with_status status s (λ n. with_short body s (λ b. ended (Replied (record { status = n; body = b })) s))

abbrev pub reply_of : Given → Expr → Expr → Effect
reply_of g status body s =
    with_value (value_of g s.vars status) s (λ n. with_value (value_of g s.vars body) s (λ b. reply_at n b s))

-- what a statement does from what its blocks do
abbrev pub act : Given → List Cell → Stmt-F Effect Effect → Effect
act g rows (Stmt-F.Let x e) = let_of g x e
act g rows (Stmt-F.Get x t k) = get_of g rows x t k
act g rows (Stmt-F.Put t k e) = put_of g t k e
act g rows (Stmt-F.Drop t k) = drop_of g t k
act g rows (Stmt-F.Each k t table p body) = each_of g rows k t table p body
act g rows (Stmt-F.If e first other) = if_of g e first other
act g rows (Stmt-F.Call x y d m p b) = call_of g x y d m p b
act g rows (Stmt-F.Now x) = now_of g x
act g rows (Stmt-F.Random x) = random_of g x
act g rows (Stmt-F.Reply status body) = reply_of g status body

-- a block: its statements in turn, each of which is a step
abbrev pub in_turn : List Effect → Effect
in_turn [] s = goes_on s
in_turn (e ∷ es) s = step s (λ u. then_do (e u) (in_turn es))

abbrev pub block_step : Block-F Effect Effect → Effect
block_step b = in_turn b.stmts

abbrev pub stmt_of : Given → List Cell → Stmt → Effect
stmt_of g rows = fold-Stmt Effect Effect (act g rows) block_step

abbrev pub block_of : Given → List Cell → Block → Effect
block_of g rows = fold-Block Effect Effect (act g rows) block_step
