use Rattle.mx_base.proofs.BlameLemmas.{answers_on, answers_as}
use Rattle.mix_lock.specs.Blame.{lock_blame}
use Rattle.mix_lock.specs.Refusals.{term_refused}
use Rattle.mix_lock.specs.Says.{SaysLock, TermSays}
use Rattle.mix_lock.specs.Says.SaysLock.{read}
use Rattle.mix_lock.proofs.ReadLemmas.{text_refused}
use Rattle.mix_lock.proofs.reader.read_lock.Goals as goal

pub lock_of-requires : goal.lock_of-requires
lock_of-requires c = c.in_ok-term.ensures.read.1.fits

pub returns-in_err-term : goal.returns-in_err-term
returns-in_err-term c =
    let text = c.args.bytes.now in
    let error = c.in_err-term.field-0.0 in
    answers_on lock_blame (SaysLock text) c.from_residual.result (term_refused error) c.from_residual.ensures.1
    (text_refused text error c.in_err-term.ensures.refused)

pub returns : goal.returns
returns c =
    let term = c.in_ok-term.term in
    answers_as lock_blame (TermSays term) (SaysLock c.args.bytes.now) c.lock_of.result
    (λ answer says. read term c.in_ok-term.ensures.read says) c.lock_of.ensures
