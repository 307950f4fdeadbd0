use Rattle.std.proofs.lemmas.Bool.{false≢true}
use Rattle.converger.proofs.Searched.{not_there}
use Rattle.converger.proofs.strays.has_place.Goals as goal

pub returns-in-Err : goal.returns-in-Err
returns-in-Err c = (
  λ h. absurd (false≢true h),
  λ has. absurd (not_there c.args.places.now c.requires c.args.place c.in-Err.field-0 c.in-Err.ensures.position
      has),
)
