use Rattle.std.proofs.Common.{◌≡◌, false, sym, ◌∙◌}
use Rattle.std.proofs.lemmas.Bool.{not-true}
use Rattle.dep_order.specs.Listing.{is_listed}
use Rattle.dep_order.proofs.Searching.{distinct_more}
use Rattle.dep_order.proofs.reach.add.Goals as goal

pub returns-in_ok-push-clause-apart : goal.returns-in_ok-push-clause-apart
returns-in_ok-push-clause-apart c =
    let fresh : is_listed c.args.queue.now.items c.args.place ≡ false = sym (c.requires.same c.args.place) ∙ not-true _ (sym c.in_ok-insert.ensures.added ∙ c.if-branch.true) in
    distinct_more c.args.queue.now.items c.push.new.self.items c.args.place c.requires.apart fresh c.in_ok-push.ensures.items
