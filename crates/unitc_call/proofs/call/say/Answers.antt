use Rattle.std.proofs.Common.{ℕ, List, take, refl, ◌∙◌, ap}
use Rattle.mx_base.specs.Sink.{with_bytes}
use Rattle.unitc_call.specs.Ends.Says.{cut}
use Rattle.unitc_call.proofs.call.say.Goals as goal

pub returns-in-Err : goal.returns-in-Err
returns-in-Err g c =
    let taken = c.in-Err.ensures.taken in
    cut taken.0
    (taken.1 ∙ ap (λ (text : List ℕ). with_bytes (g.K.Sink.known c.args.out.now).taken (take taken.0 text)) c.as_slice.ensures)
    (c.in-Err.ensures.cause.rose refl) refl
