use Rattle.std.proofs.Common.{sym}
use Rattle.dep_options.specs.Decls.{no_list}
use Rattle.dep_options.proofs.DeclLemmas.{in_list}
use Rattle.dep_options.proofs.reader.decls.Goals as goal

pub returns-in-Some : goal.returns-in-Some
returns-in-Some c = in_list (λ decls. decls.items) c.args.base.now c.args.term.now c.in-Some.terms.now c.decls_in.result (sym c.in-Some.ensures) c.decls_in.ensures

pub returns-in-None : goal.returns-in-None
returns-in-None c = λ input. no_list (sym c.in-None.ensures)
