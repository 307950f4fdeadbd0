use Rattle.std.proofs.Common.{length, refl}
use Rattle.std.proofs.lemmas.Option.{slice_get_past, slice_get_read}
use Rattle.staleness.proofs.NeedLemmas.{no_need, no_digest, one_need}
use Rattle.staleness.proofs.report.stands.Goals as goal

pub returns-in_default : goal.returns-in_default
returns-in_default c =
    no_need c.args.needs.now c.args.index c.args.app.now c.args.digest (slice_get_past c.args.needs.now c.args.index c.in_default.ensures.lookup.3)

pub returns-in-None : goal.returns-in-None
returns-in-None c = no_digest c.args.needs.now c.args.index c.args.app.now c.args.digest c.in-None.is

pub returns-in-Some-digest : goal.returns-in-Some-digest
returns-in-Some-digest c =
    let found = c.in-Some.ensures.lookup.3 in
    one_need c.args.needs.now c.args.index c.args.app.now c.args.digest c.in-Some.need.now c.in-Some-digest.digest c.is_need.result
    (slice_get_read c.args.needs.now (length c.args.needs.now) c.args.index c.in-Some.need.now refl found.0 (found.1 c.in-Some.need.now))
    c.in-Some-digest.is c.is_need.ensures
