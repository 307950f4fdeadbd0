use Rattle.std.proofs.Common.{Ok, Err, rules}
use Rattle.mx_base.proofs.BlameLemmas.{answers_on}
use Rattle.project_file.specs.Blame.{project_blame}
use Rattle.project_file.specs.Files.{SaysProject}
use Rattle.project_file.proofs.ProjectLemmas.{found_manifest, found_absent}
use Rattle.project_file.proofs.loading.project_found.Goals as goal

pub returns-in_err-project_of_text-in-Some : goal.returns-in_err-project_of_text-in-Some
returns-in_err-project_of_text-in-Some c =
    let dir = c.args.dir.now in
    let error = c.in_err-project_of_text-in-Some.field-0.0 in
    record {
      answer = answers_on project_blame (SaysProject dir c.args.text) c.from_residual.result error c.from_residual.ensures.1
          (λ input. found_manifest dir c.args.text c.in-Some.text c.as_slice.result.now (Err error) c.in-Some.is c.as_slice.ensures (c.in_err-project_of_text-in-Some.ensures.answer input));
      alone = search rules;
    }

pub returns-in_ok-project_of_text-in-Some : goal.returns-in_ok-project_of_text-in-Some
returns-in_ok-project_of_text-in-Some c = record {
  answer = found_manifest c.args.dir.now c.args.text c.in-Some.text c.as_slice.result.now (Ok c.in_ok-project_of_text-in-Some.field-0) c.in-Some.is c.as_slice.ensures c.in_ok-project_of_text-in-Some.ensures.answer;
  alone = search rules;
}

pub returns-in-None : goal.returns-in-None
returns-in-None c = record { answer = found_absent c.args.dir.now c.args.text c.in-None.is; alone = search rules }
