use Rattle.dep_options.proofs.DeclLemmas.{Kept, Stops}
use Rattle.dep_options.proofs.reader.decls_in.Given as goal

abbrev pub invariant-loop-index : goal.invariant-loop-index
invariant-loop-index l = record {
  kept : Kept l.base l.terms l.index l.decls.items;
  stops : Stops l.base l.terms l.index;
}
