use Rattle.std.proofs.Common.{◌≡◌, arith}
use Rattle.std.proofs.lemmas.Grind.{common_steps}
use Rattle.version_req.specs.Reading.{joint_of, read_view}
use Rattle.version_req.proofs.Sound.{joint_fits}
use Rattle.version_req.proofs.scanned.read_joint.Goals as goal

pub returns-in-32-clause-shorter : goal.returns-in-32-clause-shorter
unfolding joint_of
returns-in-32-clause-shorter c =
    let value : read_view c.read_word.result ≡ joint_of c.args.text.now = grind (arith, common_steps) in
    joint_fits c.args.text.now c.read_word.result value
