use Rattle.std.proofs.Common.{length, refl, sym, rules}
use Rattle.std.proofs.lemmas.Option.{slice_get_past, slice_get_read}
use Rattle.build_plan.proofs.NeedLemmas.{no_place, no_row, one_app}
use Rattle.build_plan.proofs.needs.add_app.Goals as goal

pub returns-in_default : goal.returns-in_default
returns-in_default c =
    no_place c.args.rows.now c.args.places.now c.args.node c.args.apps.now (sym (slice_get_past c.args.places.now c.args.node c.in_default.ensures.lookup.3))

pub returns-in_default-get : goal.returns-in_default-get
returns-in_default-get c =
    let place = c.in-Some.place.now in
    let found = c.in-Some.ensures.lookup.3 in
    no_row c.args.rows.now c.args.places.now c.args.node place c.args.apps.now
    (sym (slice_get_read c.args.places.now (length c.args.places.now) c.args.node place refl found.0 (found.1 place)))
    (sym (slice_get_past c.args.rows.now place c.in_default-get.ensures.lookup.3))

pub returns : goal.returns
returns c =
    let place = c.in-Some.place.now in
    let row = c.in-Some-get.row.now in
    let found = c.in-Some.ensures.lookup.3 in
    let there = c.in-Some-get.ensures.lookup.3 in
    one_app c.args.rows.now c.args.places.now c.args.node place row c.args.apps.now c.push.new.self c.in_ok-clone.field-0
    (sym (slice_get_read c.args.places.now (length c.args.places.now) c.args.node place refl found.0 (found.1 place)))
    (sym (slice_get_read c.args.rows.now (length c.args.rows.now) place row refl there.0 (there.1 row)))
    (search rules) c.in_ok-push.ensures.ok
