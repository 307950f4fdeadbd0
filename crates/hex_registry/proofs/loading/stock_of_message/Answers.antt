use Rattle.std.proofs.Common.{◌≡◌, true, false, bytes_eq, sym, ◌∙◌, rules}
use Rattle.std.proofs.lemmas.Result.{err_from_is_err_and}
use Rattle.hex_registry.proofs.OfferSteps.{apart_bytes, message_bad, message_differs, message_read, message_refused}
use Rattle.hex_registry.proofs.ValidLemmas.{same_bytes}
use Rattle.hex_registry.proofs.loading.stock_of_message.Goals as goal

pub returns-in_err-message : goal.returns-in_err-message
returns-in_err-message c =
    let p = err_from_is_err_and c.from_residual.result c.from_residual.ensures.1 in
    rw (p.1, p.2) (message_refused c.args.name.now c.args.bytes.now _ c.in_err-message.ensures)

pub returns-then-not-is_named : goal.returns-then-not-is_named
returns-then-not-is_named c =
    let lacks : c.is_named.result ≡ false = search rules in
    message_differs c.args.name.now c.args.bytes.now c.in_ok-message.message _ c.in_ok-message.ensures (search rules)
    (apart_bytes c.in_ok-message.message.name c.args.name.now (sym c.is_named.ensures ∙ lacks))

pub returns-in_err-offers : goal.returns-in_err-offers
returns-in_err-offers c =
    let named : c.is_named.result ≡ true = search rules in
    let p = err_from_is_err_and c.from_residual-in_err-offers.result c.from_residual-in_err-offers.ensures.1 in
    rw (p.1, p.2) (message_bad c.args.name.now c.args.bytes.now c.in_ok-message.message _ c.in_ok-message.ensures
    (same_bytes c.in_ok-message.message.name c.args.name.now (sym c.is_named.ensures ∙ named)) c.in_err-offers.ensures)

pub returns : goal.returns
returns c =
    let named : c.is_named.result ≡ true = search rules in
    message_read c.args.name.now c.args.bytes.now c.in_ok-message.message c.in_ok-offers.offers c.in_ok-message.ensures
    (same_bytes c.in_ok-message.message.name c.args.name.now (sym c.is_named.ensures ∙ named)) c.in_ok-offers.ensures
