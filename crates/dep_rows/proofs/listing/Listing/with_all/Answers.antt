use Rattle.std.proofs.Common.{length, ap, arith}
use Rattle.std.specs.Vec.Iter.{into_iter_items}
use Rattle.dep_rows.proofs.Growth.{grows_room, grows_more}
use Rattle.dep_rows.proofs.listing.Listing.with_all.Goals as goal

pub with-requires : goal.with-requires
with-requires c =
    let at = c.loop-decl in
    let old = c.args.self in
    let few = c.requires in
    let long = old.rows.ok.0 in
    let long_decls = c.args.decls.ok.0 in
    let room = grows_room c.args.by at.index c.args.decls.items (into_iter_items c.next.new.self) old.rows.items at.listing.rows.items old.winners.items at.listing.winners.items _ c.in-Some.decl at.invariant.grows c.in-Some.ensures.steps.0 (omega (arith, few, long, long_decls)) in
    let short = room.0 in
    let now_long = at.listing.rows.ok.0 in
    omega (arith, short, now_long)

pub loop-decl-preserved : goal.loop-decl-preserved
loop-decl-preserved c =
    let at = c.loop-decl in
    let old = c.args.self in
    let steps = c.in-Some.ensures.steps.0 in
    record {
      grows = grows_more c.args.by at.index c.args.decls.items (into_iter_items c.next.new.self) old.rows.items at.listing.rows.items _ old.winners.items at.listing.winners.items _ _ c.in-Some.decl c.in_ok-row_of.field-0 at.invariant.grows steps c.in_ok-row_of.ensures c.in_ok-listing.ensures.rows c.in_ok-listing.ensures.winners;
      count = (let was = at.invariant.count in let gone = c.in-Some.ensures.steps.1 in let short = ap length steps in omega (arith, was, gone, short));
    }
