use Rattle.std.proofs.Common.{◌≡◌, length}
use Rattle.std.specs.Vec.Iter.{into_iter_items, into_iter_len}
use Rattle.dep_rows.proofs.Growth.{Grows}
use Rattle.dep_rows.proofs.listing.Listing.with_all.Given as goal

abbrev pub invariant-loop-decl : goal.invariant-loop-decl
invariant-loop-decl l = record {
  grows : Grows l.fn.by l.index l.fn.decls.items
      (into_iter_items l.decl-iterator) l.fn.self.rows.items l.listing.rows.items l.fn.self.winners.items l.listing.winners.items;
  count : into_iter_len l.decl-iterator ≡ length (into_iter_items l.decl-iterator);
}
