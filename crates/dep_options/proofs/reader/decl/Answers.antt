use Rattle.std.proofs.Common.{sym, ◌∙◌}
use Rattle.mx_base.proofs.BlameLemmas.{answers_on}
use Rattle.dep_options.specs.Blame.{cause_blame}
use Rattle.dep_options.specs.Decls.{IsDecl}
use Rattle.dep_options.proofs.DeclLemmas.{decl_shapeless, decl_bad, decl_fault, decl_lacks, decl_good}
use Rattle.dep_options.proofs.reader.decl.Goals as goal

pub returns-in_default : goal.returns-in_default
returns-in_default c = λ input. decl_shapeless c.args.base.now c.in_ok-stated.field-0 c.args.term.now c.in_default.is c.in_ok-stated.ensures

pub returns-in_err-requirement : goal.returns-in_err-requirement
returns-in_err-requirement c =
    let error = c.in_err-requirement.field-0.0 in
    answers_on cause_blame (IsDecl c.args.base.now c.args.term.now) c.from_residual-in_err-requirement.result error c.from_residual-in_err-requirement.ensures.1
    (λ input. decl_bad c.args.base.now c.in_ok-stated.field-0 c.in-Some.stated c.args.term.now error c.in-Some.is c.in_ok-stated.ensures (c.in_err-requirement.ensures.err input))

pub returns-in_err-check_options : goal.returns-in_err-check_options
returns-in_err-check_options c =
    let error = c.in_err-check_options.field-0.0 in
    answers_on cause_blame (IsDecl c.args.base.now c.args.term.now) c.from_residual-in_err-check_options.result error c.from_residual-in_err-check_options.ensures.1
    (λ input. decl_fault c.args.base.now c.in_ok-stated.field-0 c.in-Some.stated c.args.term.now c.in_ok-requirement.requirement c.deref.result.now error c.in-Some.is c.in_ok-stated.ensures c.in_ok-requirement.ensures.ok c.deref.ensures.value (c.in_err-check_options.ensures input))

pub returns-then-not-has_source : goal.returns-then-not-has_source
returns-then-not-has_source c = λ input.
    decl_lacks c.args.base.now c.in_ok-stated.field-0 c.in-Some.stated c.args.term.now c.in_ok-requirement.requirement c.deref.result.now c.in-Some.is c.in_ok-stated.ensures c.in_ok-requirement.ensures.ok c.deref.ensures.value c.in_ok-check_options.ensures (sym c.has_source.ensures ∙ c.if-not-has_source.true)

pub returns : goal.returns
returns c =
    decl_good c.args.base.now c.in_ok-stated.field-0 c.in-Some.stated c.args.term.now c.in_ok-requirement.requirement c.deref.result.now c.deref-2.result.now c.in_ok-declared.field-0 c.in-Some.is c.in_ok-stated.ensures c.in_ok-requirement.ensures.ok c.deref.ensures.value c.in_ok-check_options.ensures (sym c.has_source.ensures ∙ c.if-not-has_source.false) c.deref-2.ensures.value c.in_ok-declared.ensures
