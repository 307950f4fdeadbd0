use Rattle.session_script.specs.Refusals.{term_refused}
use Rattle.session_script.specs.Says.{SaysScript, TermSays}
use Rattle.session_script.specs.Says.SaysScript.{read}
use Rattle.session_script.proofs.ReadLemmas.{edits_as, edits_on, text_refused}
use Rattle.session_script.proofs.reader.read_script.Goals as goal

pub returns-in_err-term : goal.returns-in_err-term
returns-in_err-term c =
    let text = c.args.text.now in
    let error = c.in_err-term.field-0.0 in
    edits_on (SaysScript text) c.from_residual.result (term_refused error) c.from_residual.ensures.1
    (text_refused text error c.in_err-term.ensures.refused)

pub returns : goal.returns
returns c =
    let term = c.in_ok-term.term in
    edits_as (TermSays term) (SaysScript c.args.text.now) c.edits_of.result
    (λ answer says. read term c.in_ok-term.ensures.read says) c.edits_of.ensures
