use Rattle.std.proofs.Common.{◌≡◌, not, drop, find}
use Rattle.dep_order.specs.Cycle.{first_need_left}
use Rattle.dep_order.specs.Listing.{is_listed}
use Rattle.dep_order.proofs.cycle.need_left_at.Given as goal

abbrev pub invariant-loop-need : goal.invariant-loop-need
invariant-loop-need l = first_need_left l.graph l.listing.listed.items l.place ≡ find (λ need. not (is_listed l.listing.listed.items need)) (drop l.need-index l.need-items)
