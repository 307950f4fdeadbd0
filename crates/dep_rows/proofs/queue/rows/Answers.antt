use Rattle.std.proofs.Common.{ℕ, List, inl, ◌<◌, ◌≤◌, length, false, refl, sym, ◌∙◌, ap, subst, arith, IfSome, Option}
use Rattle.dep_rows.specs.Growing.{BringsIn, Hinders}
use Rattle.dep_rows.specs.Children.{rows_blame}
use Rattle.dep_rows.specs.Listed.{Listed}
use Rattle.dep_rows.specs.Refusal.{IsListing}
use Rattle.dep_rows.specs.Rows.{AreRows}
use Rattle.dep_rows.specs.declared.row.Row.{Row}
use Rattle.dep_rows.proofs.Asking.{stands_root, winner_within, stands_more, stands_hindered, stands_end, root_many, told_on}
use Rattle.dep_rows.proofs.Tallies.{asked_none, asked_more, asked_all, asks_on}
use Rattle.dep_rows.proofs.queue.rows.Goals as goal

pub returns-then-root-gt-MOST_ROWS-clause-answer : goal.returns-then-root-gt-MOST_ROWS-clause-answer
returns-then-root-gt-MOST_ROWS-clause-answer g c =
    let many = c.if-root-gt-MOST_ROWS.true in
    root_many g.C.Children.children_of (g.C.Children.meaning c.args.children.now) g.C.Children.blame c.args.root.now (omega (arith, many))

pub loop-asked-init : goal.loop-asked-init
loop-asked-init g c =
    let few = c.if-root-gt-MOST_ROWS.false in
    record {
      stands = stands_root g.C.Children.children_of (g.C.Children.meaning c.args.children.now) c.args.root.now c.in_ok-decls.decls.items c.new.result.rows.items c.in_ok-listing.listing.rows.items c.new.result.winners.items c.in_ok-listing.listing.winners.items c.new.ensures.rows c.new.ensures.winners c.in_ok-decls.ensures c.in_ok-listing.ensures.rows c.in_ok-listing.ensures.winners (omega (arith, few));
      meaning = refl;
      made_over = refl;
      standing = c.requires;
      asks = asked_none c.args.root.now c.in_ok-decls.decls.items c.new.result.rows.items c.in_ok-listing.listing.rows.items (g.C.Children.tally c.args.children.now) c.new.ensures.rows c.in_ok-decls.ensures c.in_ok-listing.ensures.rows;
      faults = refl;
    }

pub bring_in-requires-clause-within : goal.bring_in-requires-clause-within
bring_in-requires-clause-within g c =
    let at = c.loop-asked in
    let test = c.loop-asked-test.true in
    let counts = c.len.ensures in
    let winners_long = at.listing.winners.ok.0 in
    let rows_long = at.listing.rows.ok.0 in
    let next : at.asked < length at.listing.winners.items = omega (arith, test, counts, winners_long) in
    let within = winner_within g.C.Children.children_of (g.C.Children.meaning c.args.children.now) c.args.root.now at.listing.rows.items at.listing.winners.items at.asked c.index-winner.result.now at.invariant.stands next c.index-winner.ensures in
    omega (arith, within, rows_long)

pub returns-in_err-listing-2-clause-answer : goal.returns-in_err-listing-2-clause-answer
returns-in_err-listing-2-clause-answer g c =
    let at = c.loop-asked in
    let test = c.loop-asked-test.true in
    let counts = c.len.ensures in
    let winners_long = at.listing.winners.ok.0 in
    let next : at.asked < length at.listing.winners.items = omega (arith, test, counts, winners_long) in
    let error = c.in_err-listing-2.field-0.0 in
    let rows = at.listing.rows.items in
    let winner = c.index-winner.result.now in
    let hindered = subst (λ (o : Option _). IfSome o (λ known. Hinders g.C.Children.blame (g.C.Children.children_of known) rows winner error)) at.invariant.meaning c.in_err-listing-2.ensures.err in
    let meaning = g.C.Children.meaning c.args.children.now in
    told_on meaning (rows_blame g.C.Children.blame) (λ known. IsListing (g.C.Children.children_of known) c.args.root.now) c.from_residual-in_err-listing-2.result error c.from_residual-in_err-listing-2.ensures.1
    (stands_hindered g.C.Children.children_of meaning c.args.root.now rows at.listing.winners.items at.asked winner at.invariant.stands next c.index-winner.ensures g.C.Children.blame error hindered)

pub loop-asked-preserved : goal.loop-asked-preserved
loop-asked-preserved g c =
    let at = c.loop-asked in
    let test = c.loop-asked-test.true in
    let counts = c.len.ensures in
    let winners_long = at.listing.winners.ok.0 in
    let next : at.asked < length at.listing.winners.items = omega (arith, test, counts, winners_long) in
    let new = c.in_ok-listing-2.listing in
    let winner = c.index-winner.result.now in
    let brings = subst (λ (o : Option _). BringsIn g.C.Children.children_of o winner at.listing.rows.items new.rows.items at.listing.winners.items new.winners.items) at.invariant.meaning c.in_ok-listing-2.ensures.ok in
    record {
      stands = stands_more g.C.Children.children_of (g.C.Children.meaning c.args.children.now) c.args.root.now at.listing.rows.items at.listing.winners.items at.asked winner at.invariant.stands next c.index-winner.ensures new.rows.items new.winners.items brings;
      meaning = c.in_ok-listing-2.ensures.meaning ∙ at.invariant.meaning;
      made_over = c.in_ok-listing-2.ensures.made_over ∙ at.invariant.made_over;
      standing = c.in_ok-listing-2.ensures.stands;
      asks = asked_more (length c.args.root.now) (length at.listing.rows.items) (length new.rows.items) at.asked (g.C.Children.tally c.args.children.now) (g.C.Children.tally at.children) _ at.invariant.asks c.in_ok-listing-2.ensures.asks;
      faults = c.in_ok-listing-2.ensures.cause.kept (refl {a = false}) ∙ at.invariant.faults;
    }

pub returns-clause-answer : goal.returns-clause-answer
returns-clause-answer g c =
    let at = c.loop-asked in
    let test = c.loop-asked-test.false in
    let counts = c.len.ensures in
    let winners_long = at.listing.winners.ok.0 in
    let past : length at.listing.winners.items ≤ at.asked = omega (arith, test, counts, winners_long) in
    let meaning = g.C.Children.meaning c.args.children.now in
    let root = c.args.root.now in
    let found = c.of.result in
    subst (λ (rs : List Row). IfSome meaning (λ known. AreRows (g.C.Children.children_of known) root rs found.winners)) (sym (ap (λ (l : Listed). l.rows) c.of.ensures.value))
    (subst (λ (ws : List ℕ). IfSome meaning (λ known. AreRows (g.C.Children.children_of known) root at.listing.rows.items ws)) (sym (ap (λ (l : Listed). l.winners) c.of.ensures.value))
    (stands_end g.C.Children.children_of meaning root at.listing.rows.items at.listing.winners.items at.asked at.invariant.stands past))

pub returns-then-root-gt-MOST_ROWS-clause-asks : goal.returns-then-root-gt-MOST_ROWS-clause-asks
returns-then-root-gt-MOST_ROWS-clause-asks g c =
    let many = c.if-root-gt-MOST_ROWS.true in
    inl (refl, omega (arith, many))

pub returns-in_err-listing-2-clause-asks : goal.returns-in_err-listing-2-clause-asks
returns-in_err-listing-2-clause-asks g c =
    let at = c.loop-asked in
    asks_on (length c.args.root.now) (length at.listing.rows.items) at.asked (g.C.Children.tally c.args.children.now) (g.C.Children.tally at.children) _ at.invariant.asks at.invariant.stands.few c.in_err-listing-2.field-0.0 c.in_err-listing-2.ensures.past c.from_residual-in_err-listing-2.result c.from_residual-in_err-listing-2.ensures.1

pub returns-clause-asks : goal.returns-clause-asks
returns-clause-asks g c =
    let at = c.loop-asked in
    let test = c.loop-asked-test.false in
    let counts = c.len.ensures in
    let winners_long = at.listing.winners.ok.0 in
    let past : length at.listing.winners.items ≤ at.asked = omega (arith, test, counts, winners_long) in
    asked_all (length c.args.root.now) at.listing.rows.items at.listing.winners.items at.asked (g.C.Children.tally c.args.children.now) (g.C.Children.tally at.children) c.of.result at.invariant.asks at.invariant.stands.within past c.of.ensures.value
