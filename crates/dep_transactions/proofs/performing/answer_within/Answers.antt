use Rattle.std.proofs.Common.{◌≡◌, ◌∙◌, IfOk, subst, sym}
use Rattle.std.proofs.lemmas.Bool.{both_ways}
use Rattle.std.proofs.lemmas.Result.{IfOk-weaker}
use Rattle.sqlite.specs.Held.{state}
use Rattle.sqlite.specs.declared.transaction.Transaction.{Transaction}
use Rattle.dep_requests.specs.Caching.{is_plain_read}
use Rattle.dep_requests.specs.Performing.{IsDone, KeepsAhead}
use Rattle.dep_requests.specs.declared.performing.Done.{Done}
use Rattle.dep_transactions.specs.OpenTables.{StaysOn}
use Rattle.dep_transactions.proofs.Asking.{lent_name, stays_on}
use Rattle.dep_transactions.proofs.Performed.{done_with}
use Rattle.dep_transactions.proofs.performing.answer_within.Goals as goal

-- it needs nothing that was hashed
pub returns-then-is_plain_read : goal.returns-then-is_plain_read
returns-then-is_plain_read g c =
    let old = state g.S.Store c.args.tx.now.conn.now in
    let config = c.args.service.now in
    let op = c.args.operation.now in
    let none = c.new-none.result in
    let result = c.answer_operation.result in
    let reported = c.answer_operation.ensures in
    let same : c.answer_operation.new.tx.tx.now ≡ c.tx-1.given.0 = sym (c.tx-1.given.1 (lent_name g.S.Store reported.stays)) in
    let does = subst (λ (tx : Transaction g.row.S.Denot). IfOk result (IsDone old (state g.S.Store tx.conn.now) config op none)) same reported.does in
    record {
      does = IfOk-weaker result _ _ (λ (done : Done) did. done_with _ _ config op none c.args.ahead.now done (λ s are. c.new-none.ensures s) did) does;
      ahead = λ clean within ours s are sound ahead. ahead;
      plain = λ reads. IfOk-weaker result _ _ (λ (done : Done) did. (none, c.new-none.ensures, did)) does;
      stays = subst (λ (tx : Transaction g.row.S.Denot). StaysOn g.S.Store c.args.tx.now.conn tx.conn result) same (stays_on g.S.Store reported.stays);
    }

pub returns : goal.returns
returns g c =
    let reported = c.answer_operation-2.ensures in
    let same : c.answer_operation-2.new.tx.tx.now ≡ c.tx-2-1.given.0 = sym (c.tx-2-1.given.1 (lent_name g.S.Store reported.stays)) in
    record {
      does = subst (λ (tx : Transaction g.row.S.Denot). IfOk c.answer_operation-2.result (IsDone (state g.S.Store c.args.tx.now.conn.now) (state g.S.Store tx.conn.now) c.args.service.now c.args.operation.now c.args.ahead.now)) same reported.does;
      ahead = subst (λ (tx : Transaction g.row.S.Denot). KeepsAhead (state g.S.Store c.args.tx.now.conn.now) (state g.S.Store tx.conn.now) c.args.ahead.now c.answer_operation-2.new.ahead) same reported.ahead;
      plain = λ reads. absurd (both_ways (is_plain_read c.args.operation.now) (sym c.is_plain_read.ensures ∙ c.if-is_plain_read.false) reads);
      stays = subst (λ (tx : Transaction g.row.S.Denot). StaysOn g.S.Store c.args.tx.now.conn tx.conn c.answer_operation-2.result) same (stays_on g.S.Store reported.stays);
    }
