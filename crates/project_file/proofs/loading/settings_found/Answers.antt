use Rattle.std.proofs.Common.{rules}
use Rattle.mx_base.proofs.BlameLemmas.{answers_on}
use Rattle.project_file.specs.Blame.{settings_blame}
use Rattle.project_file.specs.Files.{SaysSettings}
use Rattle.project_file.specs.Refusals.{settings_term_refused}
use Rattle.project_file.proofs.SettingsLemmas.{settings_absent, settings_unread, settings_set, no_shape}
use Rattle.project_file.proofs.loading.settings_found.Goals as goal

pub returns-in_default : goal.returns-in_default
returns-in_default c = record { answer = settings_absent c.args.text c.no_settings.result c.in_default.is c.no_settings.ensures; alone = search rules }

pub returns-in_err-term : goal.returns-in_err-term
returns-in_err-term c =
    let error = c.in_err-term.field-0.0 in
    record {
      answer = answers_on settings_blame (SaysSettings c.args.text) c.from_residual.result (settings_term_refused error) c.from_residual.ensures.1
          (settings_unread c.args.text c.in-Some.text c.as_slice.result.now error c.in-Some.is c.as_slice.ensures c.in_err-term.ensures.refused);
      alone = search rules;
    }

pub returns-in-Some-2 : goal.returns-in-Some-2
returns-in-Some-2 c = record {
  answer = settings_set c.args.text c.in-Some.text c.as_slice.result.now c.in_ok-term.term c.in_ok-settings.field-0 c.in-Some-2.settings c.in-Some.is c.as_slice.ensures c.in_ok-term.ensures.read c.in_ok-settings.ensures c.in-Some-2.is;
  alone = search rules;
}

pub returns : goal.returns
returns c = record {
  answer = λ input. no_shape c.args.text c.in-Some.text c.as_slice.result.now c.in_ok-term.term c.in_ok-settings.field-0 c.in-Some.is c.as_slice.ensures c.in_ok-term.ensures.read c.in_ok-settings.ensures c.in-None.is;
  alone = search rules;
}
