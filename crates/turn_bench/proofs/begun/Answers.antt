use Rattle.std.proofs.Common.{◌≡◌, length, false, refl, sym, ap, ◌∙◌, subst}
use Rattle.std.specs.List.{All}
use Rattle.turn_board.proofs.Fresh.{length_numbered, all_numbered}
use Rattle.turn_bench.proofs.begun.Goals as goal

pub returns-clause-all : goal.returns-clause-all
returns-clause-all c = ap length c.in-Ok.ensures.dealt ∙ length_numbered _ _ _ _

pub returns-clause-each : goal.returns-clause-each
returns-clause-each c =
    let board = c.in-Ok.board.board in
    subst (All (λ s. (s.board ≡ board) × (s.has_value ≡ false))) (sym c.in-Ok.ensures.dealt)
    (all_numbered board _ (λ s. (s.board ≡ board) × (s.has_value ≡ false)) (λ k. (refl, refl)) c.in-Ok.board.seats)
