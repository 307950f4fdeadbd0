use Rattle.std.proofs.Common.{refl}
use Rattle.hex_messages.proofs.CheckLemmas.{found_there}
use Rattle.hex_messages.proofs.checking.absent.Goals as goal

pub returns-in-Some : goal.returns-in-Some
returns-in-Some c = λ fields s g. rw (found_there s g c.in-Some.ensures) refl
