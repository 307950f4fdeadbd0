use Rattle.std.proofs.Common.{◌≡◌, ◌-◌, length}
use Rattle.dep_rows.specs.Rows.{most_rows}
use Rattle.dep_rows.specs.Tally.{HasAsked}
use Rattle.dep_rows.proofs.Asking.{Stands}
use Rattle.dep_rows.proofs.queue.rows.Given as goal

abbrev pub invariant-loop-asked : goal.invariant-loop-asked
invariant-loop-asked g l = record {
  stands : Stands g.C.Children.children_of (g.C.Children.meaning l.fn.children) l.fn.root l.listing.rows.items l.listing.winners.items l.asked;
  meaning : g.C.Children.meaning l.children ≡ g.C.Children.meaning l.fn.children;
  made_over : g.C.Children.made_over l.children ≡ g.C.Children.made_over l.fn.children;
  standing : g.C.Children.stands l.children;
  asks : HasAsked (length l.fn.root) (length l.listing.rows.items) l.asked (g.C.Children.tally l.fn.children) (g.C.Children.tally l.children);
  faults : g.C.Children.faults l.children ≡ g.C.Children.faults l.fn.children;
}

abbrev pub decreases-loop-asked : goal.decreases-loop-asked
decreases-loop-asked g l = most_rows - l.asked
