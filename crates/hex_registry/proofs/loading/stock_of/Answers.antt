use Rattle.std.proofs.Common.{Some, sym, ap, ◌∙◌, rules}
use Rattle.std.proofs.lemmas.Result.{err_from_is_err_and}
use Rattle.hex_registry.proofs.OfferSteps.{stock_absent, stock_missing, stock_read, stock_refused}
use Rattle.hex_registry.proofs.loading.stock_of.Goals as goal

pub returns-in_err-stock_of_message-in-Some : goal.returns-in_err-stock_of_message-in-Some
returns-in_err-stock_of_message-in-Some c =
    let p = err_from_is_err_and c.from_residual.result c.from_residual.ensures.1 in
    rw (p.1, p.2) (stock_refused c.args.wanted c.args.name.now c.args.bytes c.as_slice.result.now _
    (c.in-Some.is ∙ ap Some (sym c.as_slice.ensures)) c.in_err-stock_of_message-in-Some.ensures)

pub returns-in_ok-stock_of_message-in-Some : goal.returns-in_ok-stock_of_message-in-Some
returns-in_ok-stock_of_message-in-Some c =
    stock_read c.args.wanted c.args.name.now c.args.bytes c.as_slice.result.now c.in_ok-stock_of_message-in-Some.field-0
    (c.in-Some.is ∙ ap Some (sym c.as_slice.ensures)) c.in_ok-stock_of_message-in-Some.ensures

pub returns-in_ok-clone-in-None : goal.returns-in_ok-clone-in-None
returns-in_ok-clone-in-None c = stock_missing c.args.wanted c.args.name.now _ c.args.bytes (search rules) (search rules) (search rules)

pub returns-in-None-2 : goal.returns-in-None-2
returns-in-None-2 c = stock_absent c.args.wanted c.args.name.now c.args.bytes (search rules) (search rules)
