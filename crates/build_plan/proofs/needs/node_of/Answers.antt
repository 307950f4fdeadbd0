use Rattle.std.proofs.Common.{ap, sym, ◌∙◌}
use Rattle.std.specs.List.{position}
use Rattle.std.specs.Option.{option_and_then}
use Rattle.std.specs.Prelude.{nat_eq}
use Rattle.build_plan.proofs.SearchLemmas.{position_found, position_missing}
use Rattle.build_plan.proofs.needs.node_of.Goals as goal

pub returns-in-Ok : goal.returns-in-Ok
returns-in-Ok c =
    let places = c.args.places.now in
    sym (ap (option_and_then (λ winner. position (nat_eq winner) places)) (sym c.in_ok-winner.ensures)
    ∙ position_found places c.requires c.in_ok-winner.winner c.in-Ok.node c.in-Ok.ensures.position)

pub returns-in-Err : goal.returns-in-Err
returns-in-Err c =
    let places = c.args.places.now in
    sym (ap (option_and_then (λ winner. position (nat_eq winner) places)) (sym c.in_ok-winner.ensures)
    ∙ position_missing places c.requires c.in_ok-winner.winner c.in-Err.field-0 c.in-Err.ensures.position)
