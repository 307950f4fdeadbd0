use Rattle.std.proofs.Common.{rules}
use Rattle.mx_base.proofs.BlameLemmas.{answers_on, answers_as}
use Rattle.project_file.specs.Blame.{project_blame}
use Rattle.project_file.specs.Files.{IsManifest}
use Rattle.project_file.specs.Files.IsManifest.{read}
use Rattle.project_file.specs.Manifest.{IsProject}
use Rattle.project_file.specs.Refusals.{term_refused}
use Rattle.project_file.proofs.ProjectLemmas.{text_refused}
use Rattle.project_file.proofs.loading.project_of_text.Goals as goal

pub returns-in_err-term : goal.returns-in_err-term
returns-in_err-term c =
    let dir = c.args.dir.now in
    let text = c.args.text.now in
    let error = c.in_err-term.field-0.0 in
    record {
      answer = answers_on project_blame (IsManifest dir text) c.from_residual.result (term_refused error) c.from_residual.ensures.1 (text_refused dir text error c.in_err-term.ensures.refused);
      alone = search rules;
    }

pub returns : goal.returns
returns c =
    let dir = c.args.dir.now in
    let term = c.in_ok-term.term in
    record {
      answer = answers_as project_blame (IsProject dir term) (IsManifest dir c.args.text.now) c.project_in.result (λ answer says. read term c.in_ok-term.ensures.read says) c.project_in.ensures.answer;
      alone = search rules;
    }
