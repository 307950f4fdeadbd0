use Rattle.std.proofs.Common.{◌<◌, ◌+◌, length, arith}
use Rattle.std.proofs.lemmas.Option.{slice_get_read}
use Rattle.dep_rows.specs.Rows.{most_rows}
use Rattle.dep_rows.proofs.Asking.{brings_in, hinders, overflows}
use Rattle.dep_rows.proofs.Tallies.{asks_one}
use Rattle.dep_rows.proofs.queue.bring_in.Goals as goal

pub returns-clause-ok : goal.returns-clause-ok
returns-clause-ok g c =
    let old = c.args.listing in
    let few = c.requires.few in
    let rows_long = old.rows.ok.0 in
    let decls_long = c.in-Ok.decls.ok.0 in
    let shown = c.len.ensures in
    let shown_rows = c.len-2.ensures in
    let room = c.if-len.false in
    brings_in g.C.Children.children_of (g.C.Children.meaning c.args.children.now) c.args.winner c.index-row.result.now c.in-Ok.decls.items old.rows.items c.in_ok-with_all.field-0.rows.items old.winners.items c.in_ok-with_all.field-0.winners.items
    (slice_get_read old.rows.items old.rows.len c.args.winner c.index-row.result.now rows_long c.requires.within c.index-row.ensures)
    c.in-Ok.ensures.answer
    c.in_ok-with_all.ensures.rows
    c.in_ok-with_all.ensures.winners
    (omega (arith, few, rows_long, decls_long, shown, shown_rows, room))

pub returns-in-Err-clause-err : goal.returns-in-Err-clause-err
returns-in-Err-clause-err g c =
    let old = c.args.listing.rows in
    let row = c.index-row.result.now in
    let stands = slice_get_read old.items old.len c.args.winner row old.ok.0 c.requires.within c.index-row.ensures in
    hinders g.C.Children.children_of g.C.Children.blame (g.C.Children.meaning c.args.children.now) c.args.winner row old.items c.in-Err.fault stands c.in-Err.ensures.answer

pub returns-then-len-clause-err : goal.returns-then-len-clause-err
returns-then-len-clause-err g c =
    let old = c.args.listing.rows in
    let row = c.index-row.result.now in
    let decls = c.in-Ok.decls in
    let few = c.requires.few in
    let rows_long = old.ok.0 in
    let decls_long = decls.ok.0 in
    let shown = c.len.ensures in
    let shown_rows = c.len-2.ensures in
    let past = c.if-len.true in
    let many : most_rows < length old.items + length decls.items = omega (arith, few, rows_long, decls_long, shown, shown_rows, past) in
    let stands = slice_get_read old.items old.len c.args.winner row rows_long c.requires.within c.index-row.ensures in
    overflows g.C.Children.children_of g.C.Children.blame (g.C.Children.meaning c.args.children.now) c.args.winner row old.items decls.items stands c.in-Ok.ensures.answer many

pub returns-clause-asks : goal.returns-clause-asks
returns-clause-asks g c =
    asks_one c.args.winner c.in-Ok.decls.items c.args.listing.rows.items c.in_ok-with_all.field-0.rows.items (g.C.Children.tally c.args.children.now) (g.C.Children.tally c.children.new.self) c.in_ok-with_all.ensures.rows c.in-Ok.ensures.given

pub returns-then-len-clause-past : goal.returns-then-len-clause-past
returns-then-len-clause-past g c =
    let rows_long = c.args.listing.rows.ok.0 in
    let decls_long = c.in-Ok.decls.ok.0 in
    let few = c.requires.few in
    let shown = c.len.ensures in
    let shown_rows = c.len-2.ensures in
    let past = c.if-len.true in
    (length c.in-Ok.decls.items, c.in-Ok.ensures.given, omega (arith, few, rows_long, decls_long, shown, shown_rows, past))
