use Rattle.std.proofs.lemmas.Result.{err_from_is_err_and}
use Rattle.mix_words.specs.Sofar.{place_of, state_of}
use Rattle.mix_words.proofs.RefusedLemmas.{dies_value_at, follows_value_at}
use Rattle.mix_words.proofs.reader.Reader.with.Goals as goal

pub returns-in_err-with_value-in-Some : goal.returns-in_err-with_value-in-Some
returns-in_err-with_value-in-Some c =
    let p = err_from_is_err_and c.from_residual.result c.from_residual.ensures.1 in rw (p.1, p.2)
    (λ is. dies_value_at (place_of c.args.self) c.in-Some.option c.args.word.now c.in-Some.is (c.in_err-with_value-in-Some.ensures is))

pub returns-in_ok-with_value-in-Some : goal.returns-in_ok-with_value-in-Some
returns-in_ok-with_value-in-Some c =
    follows_value_at (place_of c.args.self) (place_of c.ready.result) (state_of c.in_ok-with_value-in-Some.field-0) c.in-Some.option c.args.word.now
    c.in-Some.is
    c.ready.ensures c.in_ok-with_value-in-Some.ensures

pub returns-in-None : goal.returns-in-None
returns-in-None c = rw c.in-None.is c.read_piece.ensures
