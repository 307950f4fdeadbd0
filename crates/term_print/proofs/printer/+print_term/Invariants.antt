use Rattle.std.proofs.Common.{◌≡◌, ◌++◌, map, drop}
use Rattle.term_print.specs.Printed.{printed, printed_keyword, printed_entry, printed_field, separated, joined}
use Rattle.term_print.proofs.printer.+print_term.Given as goal

abbrev pub invariant-print_entries-loop-key : goal.invariant-print_entries-loop-key
invariant-print_entries-loop-key l = l.out.items ++ separated l.separator (map printed_entry (drop l.key-index l.pairs)) ≡ l.fn.out.items ++ joined (map printed_entry l.pairs)

abbrev pub invariant-print_fields-loop-key : goal.invariant-print_fields-loop-key
invariant-print_fields-loop-key l = l.out.items ++ separated l.separator (map printed_field (drop l.key-index l.pairs)) ≡ l.fn.out.items ++ joined (map printed_field l.pairs)

abbrev pub invariant-print_keywords-loop-part : goal.invariant-print_keywords-loop-part
invariant-print_keywords-loop-part l = l.out.items ++ separated l.separator (map printed_keyword (drop l.part-index l.parts)) ≡ l.fn.out.items ++ joined (map printed_keyword l.parts)

abbrev pub invariant-print_parts-loop-part : goal.invariant-print_parts-loop-part
invariant-print_parts-loop-part l = l.out.items ++ separated l.separator (map printed (drop l.part-index l.parts)) ≡ l.fn.out.items ++ joined (map printed l.parts)
