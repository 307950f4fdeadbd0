use Rattle.std.proofs.lemmas.Result.{err_from_is_err_and}
use Rattle.hex_messages.proofs.CheckLemmas.{never_memory}
use Rattle.hex_messages.proofs.reader.read_package.Goals as goal

pub returns-in_err-check_message-clause-memory : goal.returns-in_err-check_message-clause-memory
returns-in_err-check_message-clause-memory c =
    let p = err_from_is_err_and c.from_residual.result c.from_residual.ensures.1 in
    rw (p.1, p.2) (λ e. let f = c.in_err-check_message.ensures.refused in absurd (never_memory f.fault e))
