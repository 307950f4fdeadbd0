use Rattle.std.proofs.Common.{◌≡◌, Ok, rules}
use Rattle.version_req.specs.Reading.{comparison_of, condition}
use Rattle.version_req.proofs.Sound.{comparison_fits}
use Rattle.version_req.proofs.scanned.read_comparison.Goals as goal

pub returns-clause-pre : goal.returns-clause-pre
unfolding comparison_of
returns-clause-pre c =
    let read = condition c.in_ok-head.head c.in_ok-pre.pre.now c.in_ok-build.build.now in
    let value : comparison_of c.args.text.now ≡ Ok (read, c.in_ok-build.rest.now) = search rules in
    (comparison_fits c.args.text.now read c.in_ok-build.rest.now value).pre

pub returns-clause-build : goal.returns-clause-build
unfolding comparison_of
returns-clause-build c =
    let read = condition c.in_ok-head.head c.in_ok-pre.pre.now c.in_ok-build.build.now in
    let value : comparison_of c.args.text.now ≡ Ok (read, c.in_ok-build.rest.now) = search rules in
    (comparison_fits c.args.text.now read c.in_ok-build.rest.now value).build

pub returns-clause-shorter : goal.returns-clause-shorter
unfolding comparison_of
returns-clause-shorter c =
    let read = condition c.in_ok-head.head c.in_ok-pre.pre.now c.in_ok-build.build.now in
    let value : comparison_of c.args.text.now ≡ Ok (read, c.in_ok-build.rest.now) = search rules in
    (comparison_fits c.args.text.now read c.in_ok-build.rest.now value).shorter
