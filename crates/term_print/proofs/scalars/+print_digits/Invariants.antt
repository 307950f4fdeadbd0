use Rattle.term_print.proofs.scalars.+print_digits.Given as goal

abbrev pub decreases-print_digits : goal.decreases-print_digits
decreases-print_digits l = l.n
