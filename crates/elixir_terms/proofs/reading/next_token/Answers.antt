use Rattle.std.proofs.Common.{sym, subst, arith}
use Rattle.std.proofs.lemmas.Result.{err_from_is_err_and}
use Rattle.elixir_terms.specs.Reading.{Stops}
use Rattle.elixir_terms.proofs.MoveLemmas.{stood_by, stops_lexed}
use Rattle.elixir_terms.proofs.reading.next_token.Goals as goal

pub returns-in-Some-clause-stops : goal.returns-in-Some-clause-stops
returns-in-Some-clause-stops c = λ m.
    (0, omega (arith, c.before-in-Some.ensures.place), subst (λ why. Stops c.args.state.now c.args.text.now 0 why) (sym c.before-in-Some.ensures.cause) c.in-Some.ensures)

pub returns-in_err-token-clause-stops : goal.returns-in_err-token-clause-stops
returns-in_err-token-clause-stops c =
    let p = err_from_is_err_and c.from_residual.result c.from_residual.ensures.1 in
    rw (p.1, p.2) (λ m.
    let r = c.in_err-token.ensures.refused m in
    (r.0, r.1, stops_lexed c.args.state.now c.expected.result c.args.text.now r.0 c.in_err-token.field-0.0.cause c.expected.ensures c.in_default.ensures.0 c.in_default.ensures.1 r.2))

pub returns-clause-stands : goal.returns-clause-stands
returns-clause-stands c = stood_by c.args.state.now c.expected.result c.args.text.now c.in_ok-token.token c.in_ok-token.after.now c.expected.ensures c.in_ok-token.ensures.begins c.in_ok-token.ensures.taken c.in_ok-token.ensures.narrow c.in_ok-token.ensures.free c.in_ok-token.ensures.whole
