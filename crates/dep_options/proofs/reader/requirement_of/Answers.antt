use Rattle.std.proofs.Common.{refl}
use Rattle.dep_options.proofs.DeclLemmas.{bad_text}
use Rattle.dep_options.proofs.reader.requirement_of.Goals as goal

pub returns-in-Err-Refused-clause-err : goal.returns-in-Err-Refused-clause-err
returns-in-Err-Refused-clause-err c = λ m.
    (bad_text c.args.text c.in-Some.text c.as_slice.result.now c.in-Err-Refused.field-0 c.in-Err-Refused.field-0-0 c.in-Some.is c.as_slice.ensures c.in-Err-Refused.field-0-is c.in-Err-Refused.ensures.err, refl)
