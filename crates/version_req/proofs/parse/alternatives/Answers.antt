use Rattle.std.proofs.Common.{◌≡◌, ◌++◌, ◌∷◌, [], sym, ap, ◌∙◌}
use Rattle.version_req.specs.Condition.{Condition}
use Rattle.version_req.specs.Machine.{Lead, empty, joined, run}
use Rattle.version_req.specs.Reading.{scanned_view}
use Rattle.version_req.proofs.Turns.{comparison_stuck, err_stuck, joint_none, joint_some, joint_stuck}
use Rattle.version_req.proofs.parse.alternatives.Goals as goal

pub returns-in_err-scanned-clause-err : goal.returns-in_err-scanned-clause-err
returns-in_err-scanned-clause-err c =
    let text = c.args.text.now in
    let s = c.in_err-scanned.field-0.0 in
    let stuck = comparison_stuck text c.comparisons.rest.now c.comparisons.done c.comparisons.group s c.comparisons.invariant
    c.in_err-scanned.ensures.value in
    err_stuck c.from_residual.result (run text Lead empty) s stuck c.from_residual.ensures.1

pub returns-in_err-joint-clause-err : goal.returns-in_err-joint-clause-err
returns-in_err-joint-clause-err c =
    let text = c.args.text.now in
    let s = c.in_err-joint.field-0.0 in
    let read = scanned_view c.in_ok-scanned.scanned in
    let stuck = joint_stuck text c.comparisons.rest.now c.in_ok-scanned.after.now c.comparisons.done c.comparisons.group read s
    c.comparisons.invariant c.in_ok-scanned.ensures.value c.in_err-joint.ensures.value in
    err_stuck c.from_residual-in_err-joint.result (run text Lead empty) s stuck c.from_residual-in_err-joint.ensures.1

pub returns-in_default-clause-ok : goal.returns-in_default-clause-ok
returns-in_default-clause-ok c =
    let read = scanned_view c.in_ok-scanned.scanned in
    let end = rw c.in_default.is at c.in_ok-joint.ensures.value in
    let whole = joint_none c.args.text.now c.comparisons.rest.now c.in_ok-scanned.after.now c.in_ok-joint.next.now c.comparisons.done
    c.comparisons.group read c.comparisons.invariant c.in_ok-scanned.ensures.value end in
    rw (c.in_ok-push-2.ensures.ok, c.in_ok-push.ensures.ok, c.in_ok-owned.ensures) whole

pub comparisons-preserved : goal.comparisons-preserved
comparisons-preserved c =
    let read = scanned_view c.in_ok-scanned.scanned in
    let word = rw c.in-Some.is at c.in_ok-joint.ensures.value in
    let on = joint_some c.args.text.now c.comparisons.rest.now c.in_ok-scanned.after.now c.in_ok-joint.next.now c.comparisons.done c.comparisons.group
    read c.in-Some.joint c.comparisons.invariant c.in_ok-scanned.ensures.value word in
    let more : c.push.new.self ≡ c.comparisons.group ++ read ∷ [] = c.in_ok-push.ensures.ok
    ∙ ap (λ (x : Condition). c.comparisons.group ++ x ∷ []) c.in_ok-owned.ensures in
    let tree = c.in_ok-enter.ensures ∙ ap (λ g. joined c.in-Some.joint (record { done = c.comparisons.done; group = g })) more in
    on ∙ ap (run c.in_ok-joint.next.now Lead) (sym tree)
