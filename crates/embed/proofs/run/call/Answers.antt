-- `embed::run::call` meets its contract. Assumes nothing.
use mathlib.Core.Path.{◌≡◌, sym, ◌∙◌}
use mathlib.Core.Bool.{true, ◌&&◌}
use lib.ListN.{length}
use lib.Dec.{eqb}
use borrow.Author.Rules.{rules}
use Rattle.book.specs.Limits.{log_length, charts_length}
use Rattle.book.specs.Calls.{Call}
use Rattle.book.specs.Book.{refused_by}
use Rattle.state.specs.Answers.{checked}
use Rattle.state.specs.Requests.{call_of}
use Rattle.embed_model.specs.Arrays.{Arrays, arrays, RamLengths}
use Rattle.embed_model.proofs.Refused.{call-refused}
use Rattle.calls.proofs.Performing.{passes-all}
use Rattle.embed.proofs.Calling.{wrong-stored, right-stored, stored-lengths, number_in, refused_call, accepts, accepted-call, call-without-head}
use Rattle.embed.proofs.run.call.Goals as goal

pub returns-then-not-stored_fit : goal.returns-then-not-stored_fit
returns-then-not-stored_fit c =
    let given : Arrays = let a = c.args in arrays a.head.now a.visits.now a.scopes.now a.tail.now a.copy.now a.log.now a.charts.now in
    let long : RamLengths given = search rules in
    call-refused given long _ c.refused.ensures (wrong-stored given long (sym c.stored_fit.ensures ∙ c.if-not-stored_fit.true)) (call_of c.args.request)

pub returns-in-Err : goal.returns-in-Err
returns-in-Err c =
    let given : Arrays = let a = c.args in arrays a.head.now a.visits.now a.scopes.now a.tail.now a.copy.now a.log.now a.charts.now in
    let long : RamLengths given = search rules in
    let fit : eqb (length c.args.log.now) log_length && eqb (length c.args.charts.now) charts_length ≡ true = sym c.stored_fit.ensures ∙ c.if-not-stored_fit.false in
    let call : Call = call_of c.args.request in
    let checks : checked c.check.result ≡ refused_by (number_in given call) = rw (c.control_in-c.ensures, c.counts_in-t.ensures) at c.check.ensures in
    refused_call call given (right-stored given long fit) c.is_typed.ensures long c.in-Err.refusal _ c.refused-in-Err.ensures (rw c.in-Err.is at checks)

pub accept-r-requires : goal.accept-r-requires
accept-r-requires c =
    let given : Arrays = let a = c.args in arrays a.head.now a.visits.now a.scopes.now a.tail.now a.copy.now a.log.now a.charts.now in
    let long : RamLengths given = search rules in
    let fit : eqb (length c.args.log.now) log_length && eqb (length c.args.charts.now) charts_length ≡ true = sym c.stored_fit.ensures ∙ c.if-not-stored_fit.false in
    let call : Call = call_of c.args.request in
    let checks : checked c.check.result ≡ refused_by (number_in given call) = rw (c.control_in-c.ensures, c.counts_in-t.ensures) at c.check.ensures in
    let free : number_in given call ≡ 0 = passes-all _ _ (rw c.in_default.is at checks) in
    let stored = stored-lengths given fit in
    (rw (c.control_in-c.ensures, c.counts_in-t.ensures) (accepts call given long stored.0 free), stored.1)

pub returns-in-Read : goal.returns-in-Read
returns-in-Read c =
    let given : Arrays = let a = c.args in arrays a.head.now a.visits.now a.scopes.now a.tail.now a.copy.now a.log.now a.charts.now in
    let long : RamLengths given = search rules in
    let fit : eqb (length c.args.log.now) log_length && eqb (length c.args.charts.now) charts_length ≡ true = sym c.stored_fit.ensures ∙ c.if-not-stored_fit.false in
    let call : Call = call_of c.args.request in
    let checks : checked c.check.result ≡ refused_by (number_in given call) = rw (c.control_in-c.ensures, c.counts_in-t.ensures) at c.check.ensures in
    let free : number_in given call ≡ 0 = passes-all _ _ (rw c.in_default.is at checks) in
    let left = rw (c.control_in-c.ensures, c.counts_in-t.ensures) at c.accept-r.ensures.accepted in
    let read = rw (c.in-Read.is, c.control_in-c.ensures, c.counts_in-t.ensures) at c.accept-r.ensures.read in
    call-without-head call c.is_typed.ensures given (right-stored given long fit) free _ _ _ _ _ _ _ left _ c.packed.ensures (sym read.0.control-same) (sym read.0.counts-same) (search rules)

pub returns : goal.returns
returns c =
    let given : Arrays = let a = c.args in arrays a.head.now a.visits.now a.scopes.now a.tail.now a.copy.now a.log.now a.charts.now in
    let long : RamLengths given = search rules in
    let fit : eqb (length c.args.log.now) log_length && eqb (length c.args.charts.now) charts_length ≡ true = sym c.stored_fit.ensures ∙ c.if-not-stored_fit.false in
    let call : Call = call_of c.args.request in
    let checks : checked c.check.result ≡ refused_by (number_in given call) = rw (c.control_in-c.ensures, c.counts_in-t.ensures) at c.check.ensures in
    let free : number_in given call ≡ 0 = passes-all _ _ (rw c.in_default.is at checks) in
    let left = rw (c.control_in-c.ensures, c.counts_in-t.ensures) at c.accept-r.ensures.accepted in
    let e = c.finish.ensures in
    accepted-call call c.is_typed.ensures given (right-stored given long fit) free _ _ _ _ _ _ _ left _ e.0 _ e.1 e.2 (search rules)
