use Rattle.std.proofs.Common.{◌≡◌, true, false, refl, sym, ap, ◌∙◌}
use Rattle.std.specs.Prelude.{is_some}
use Rattle.hex_messages.specs.Good.{has}
use Rattle.hex_messages.proofs.CheckLemmas.{found_there}
use Rattle.hex_messages.proofs.ValueLemmas.{has_value}
use Rattle.hex_messages.proofs.checking.lost_reason.Goals as goal

pub returns-in-Some-None : goal.returns-in-Some-None
returns-in-Some-None c = λ fields merged s g h.
    let a : has 4 fields ≡ true = found_there s g c.in-Some-None.ensures in
    let b : has 1 merged ≡ false = has_value 1 merged ∙ ap is_some (sym (c.in-Some-None.ensures' fields merged s g h)) in
    rw (a, b) refl

pub returns-in_default : goal.returns-in_default
returns-in_default c = λ fields merged s g h.
    let a : has 4 fields ≡ true = found_there s g c.in_default.ensures in
    let b : has 1 merged ≡ true = has_value 1 merged ∙ ap is_some (sym (c.in_default.ensures' fields merged s g h)) in
    rw (a, b) refl
