use Rattle.std.proofs.Common.{refl, inl, inr}
use Rattle.std.proofs.lemmas.Result.{err_from_is_err_and}
use Rattle.elixir_terms.proofs.MoveLemmas.{old_by}
use Rattle.elixir_terms.proofs.reading.stepped.Goals as goal

pub returns-in_err-next-clause-stuck : goal.returns-in_err-next-clause-stuck
returns-in_err-next-clause-stuck c =
    let p = err_from_is_err_and c.from_residual.result c.from_residual.ensures.1 in
    rw (p.1, p.2) (λ m. let f = c.in_err-next.ensures m in (f.0, inl (f.2 c.requires.steps, λ h. c.requires.steps (f.1 h))))

pub returns-then-again-clause-stuck : goal.returns-then-again-clause-stuck
returns-then-again-clause-stuck c = λ m. (refl, inr (refl, c.in_ok-next.ensures.0, old_by c.args.again _ c.if-again.true c.requires.again))

pub returns-clause-new : goal.returns-clause-new
returns-clause-new c = c.requires.again.0 c.if-again.false
