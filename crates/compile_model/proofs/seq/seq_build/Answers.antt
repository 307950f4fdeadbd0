use Rattle.std.proofs.Common.{ap}
use Rattle.mx_base.specs.Blame.{is_outside}
use Rattle.compile_model.specs.Blame.{compile_blame}
use Rattle.compile_model.proofs.CallLemmas.{called_to}
use Rattle.compile_model.proofs.SeqLemmas.{dies_at}
use Rattle.compile_model.proofs.seq.seq_build.Goals as goal

pub returns-in-Err-Died-clause-died : goal.returns-in-Err-Died-clause-died
returns-in-Err-Died-clause-died g c =
    let jobs = c.loop-place.invariant.jobs in
    let so_far = c.loop-place.invariant.so_far in
    let deaths = c.loop-place.invariant.deaths in
    let slice = c.as_slice.ensures.value in
    let died = ap (λ fault. is_outside (compile_blame fault)) c.in-Err-Died.field-0-is in
    dies_at g.C.Meaning.compile_of c.args.plan.now.jobs _ _ c.loop-place.place c.job-item.result (rw (← deaths) (c.in-Err-Died.ensures.cause.rose died))
    (rw (← jobs) c.loop-place-test.true) (rw (← jobs) c.job-item.is) (rw (← jobs, ← so_far, ← slice) (c.in-Err-Died.ensures.started died))

pub returns-in-Err-Died-clause-calls : goal.returns-in-Err-Died-clause-calls
returns-in-Err-Died-clause-calls g c =
    let jobs = c.loop-place.invariant.jobs in
    let so_far = c.loop-place.invariant.so_far in
    let calls = c.loop-place.invariant.calls in
    let slice = c.as_slice.ensures.value in
    let died = ap (λ fault. is_outside (compile_blame fault)) c.in-Err-Died.field-0-is in
    called_to g.C.Meaning.compile_of c.args.plan.now.jobs _ _ c.loop-place.place c.job-item.result
    (rw (← jobs) c.loop-place-test.true) (rw (← jobs) c.job-item.is)
    (rw (← jobs, ← so_far, ← slice, ← calls) (c.in-Err-Died.ensures.died died))
