use Rattle.std.proofs.Common.{◌≡◌, ℕ, List, sym, subst, arith}
use Rattle.term_print.specs.Spells.{Spells}
use Rattle.term_print.specs.Printed.{printed}
use Rattle.term_print.proofs.PrintedTerms.{printed_spells}
use Rattle.term_print.proofs.printer.print.Goals as goal

pub returns-clause-spells : goal.returns-clause-spells
returns-clause-spells c =
    let t = c.args.term.now in
    let text : c.from_vec.result ≡ printed t = grind (arith, c.from_vec.ensures, c.in_ok-print_term.ensures, c.new-out.ensures.items) in
    λ printable. subst (λ (bytes : List ℕ). Spells bytes t) (sym text) (printed_spells t printable)
