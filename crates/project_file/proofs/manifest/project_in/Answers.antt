use Rattle.std.proofs.Common.{rules}
use Rattle.mx_base.proofs.BlameLemmas.{answers_on}
use Rattle.project_file.specs.Blame.{project_blame}
use Rattle.project_file.specs.Manifest.{IsProject}
use Rattle.project_file.specs.Refusals.{options_refused}
use Rattle.project_file.proofs.ProjectLemmas.{no_manifest, bare_project, whole_project, options_of}
use Rattle.project_file.proofs.VersionLemmas.{header_versioned}
use Rattle.project_file.proofs.manifest.project_in.Goals as goal

pub returns-in_default : goal.returns-in_default
returns-in_default c = record {
  answer = λ input. no_manifest c.args.dir.now c.args.term.now c.in_ok-header.field-0 c.in_ok-header.ensures c.in_default.is;
  alone = search rules;
}

pub returns-in_default-deps : goal.returns-in_default-deps
returns-in_default-deps c = record {
  answer = bare_project c.args.dir.now c.args.term.now c.in_ok-header.field-0 c.in-Some.header _ c.new.result c.in_ok-header.ensures c.in-Some.is c.in_default-deps.is c.new.ensures;
  alone = search rules;
}

pub returns-in_err-decls : goal.returns-in_err-decls
returns-in_err-decls c =
    let dir = c.args.dir.now in
    let error = c.in_err-decls.field-0.0 in
    record {
      answer = answers_on project_blame (IsProject dir c.args.term.now) c.from_residual-in_err-decls.result (options_refused error) c.from_residual-in_err-decls.ensures.1
          (options_of dir c.args.term.now c.in_ok-header.field-0 c.in-Some.header c.in-Some-deps.deps error c.in_ok-header.ensures c.in-Some.is c.in-Some-deps.is c.in_err-decls.ensures);
      alone = search rules;
    }

pub returns : goal.returns
returns c = record {
  answer = whole_project c.args.dir.now c.args.term.now c.in_ok-header.field-0 c.in-Some.header _ c.in-Some-deps.deps c.in_ok-decls.decls.items c.from_vec.result c.in_ok-header.ensures c.in-Some.is c.in-Some-deps.is c.in_ok-decls.ensures c.from_vec.ensures;
  alone = search rules;
}

pub invariant_of-result : goal.invariant_of-result
invariant_of-result c = record { versioned = header_versioned c.args.term.now c.in_ok-header.field-0 c.in-Some.header c.in_ok-header.ensures c.in-Some.is }

pub invariant_of-result-2 : goal.invariant_of-result-2
invariant_of-result-2 c = record { versioned = header_versioned c.args.term.now c.in_ok-header.field-0 c.in-Some.header c.in_ok-header.ensures c.in-Some.is }
