use Rattle.std.proofs.Common.{ap, codes}
use Rattle.build_plan.specs.Options.{keyword}
use Rattle.build_plan.proofs.OptionLemmas.{four_pushed}
use Rattle.build_plan.proofs.options.add_compiler.Goals as goal

pub returns : goal.returns
returns c =
    four_pushed c.args.parts.now c.add.new.parts c.add-2.new.parts c.add-3.new.parts c.add-4.new.parts
    (keyword (codes "compile") c.in_ok-compile_term.field-0) (keyword (codes "compiler") c.in_ok-compiler_term.field-0) (keyword (codes "app_file") c.in_ok-truth.field-0) (keyword (codes "system_env") c.in_ok-variables.variables) _ _ _ _
    c.in_ok-add.ensures c.in_ok-add-2.ensures c.in_ok-add-3.ensures c.in_ok-add-4.ensures
    (ap (keyword (codes "compile")) c.in_ok-compile_term.ensures)
    (ap (keyword (codes "compiler")) c.in_ok-compiler_term.ensures)
    (ap (keyword (codes "app_file")) c.in_ok-truth.ensures)
    (ap (keyword (codes "system_env")) c.in_ok-variables.ensures)
