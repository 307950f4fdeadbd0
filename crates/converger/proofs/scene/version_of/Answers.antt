use Rattle.std.proofs.Common.{◌<◌, length, arith}
use Rattle.std.proofs.lemmas.Option.{none-some}
use Rattle.converger.proofs.Searched.{version_found, version_missing}
use Rattle.converger.proofs.scene.version_of.Goals as goal

pub returns-in-Ok : goal.returns-in-Ok
returns-in-Ok c =
    let within : c.in-Ok.at < length c.args.versions.now = omega (arith, c.requires.long, c.in-Ok.ensures.bound) in
    rw c.as_ref.ensures.value
    (version_found c.args.winners.now c.requires.sorted c.args.versions.now c.args.place c.in-Ok.at c.in-Ok.ensures.position c.index-versions-at.result within
    c.index-versions-at.is)

pub returns-in-Err : goal.returns-in-Err
returns-in-Err c = λ version. (
  λ h. absurd (none-some version h),
  λ has. absurd (version_missing c.args.winners.now c.requires.sorted c.args.versions.now c.args.place c.in-Err.field-0
      c.in-Err.ensures.position _ has),
)
