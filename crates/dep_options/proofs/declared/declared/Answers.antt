use Rattle.std.proofs.Common.{IsTrue, codes, sym, subst}
use Rattle.term_values.specs.Views.{named}
use Rattle.dep_options.specs.declared.decl.DepSource.{DepSource}
use Rattle.dep_options.specs.Decls.{decl_of, placed_at}
use Rattle.dep_options.specs.Options.{first_of, given, is_dep_source, package_of}
use Rattle.dep_options.proofs.Copies.{same_source}
use Rattle.dep_options.proofs.declared.declared.Goals as goal

pub invariant_of-result : goal.invariant_of-result
invariant_of-result c =
    let options = named c.args.options.now in
    record {
      placed = subst (λ (s : DepSource). IsTrue (is_dep_source s)) (sym c.in_ok-source.ensures)
          (placed_at (first_of (codes "path") options) c.args.base.now (given (codes "hex") package_of c.args.app options));
    }

pub returns : goal.returns
returns c =
    let made = decl_of c.args.base.now c.args.app c.args.requirement (named c.args.options.now) in
    rw (
      c.in_ok-environments.ensures,
      c.in_ok-targets.ensures,
      c.in_ok-environment.ensures,
      c.truth.ensures,
      c.truth-2.ensures,
      c.in_ok-compiling.ensures,
      c.manager.ensures,
      c.truth-3.ensures,
      c.truth-4.ensures,
      c.in_ok-variables.ensures,
    )
    (same_source made c.in_ok-source.field-0 _ c.in_ok-source.ensures)
