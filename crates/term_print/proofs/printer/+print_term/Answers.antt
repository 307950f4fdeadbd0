use Rattle.std.proofs.Common.{arith, sym, ◌∙◌}
use Rattle.std.proofs.lemmas.Grind.{common_steps}
use Rattle.term_print.proofs.Shows.{shown-tuple, shown-map, inside-keywords, inside-parts, inside-fields, inside-entries}
use Rattle.term_print.proofs.printer.+print_term.Goals as goal

pub print_list_inside-returns-then-are_keywords : goal.print_list_inside-returns-then-are_keywords
print_list_inside-returns-then-are_keywords t c = grind (arith, common_steps, inside-keywords c.args.parts.now (sym c.are_keywords.ensures ∙ c.if-are_keywords.true))

pub print_list_inside-returns-else-are_keywords : goal.print_list_inside-returns-else-are_keywords
print_list_inside-returns-else-are_keywords t c = grind (arith, common_steps, inside-parts c.args.parts.now (sym c.are_keywords.ensures ∙ c.if-are_keywords.false))

pub print_map_inside-returns-then-are_fields : goal.print_map_inside-returns-then-are_fields
print_map_inside-returns-then-are_fields t c = grind (arith, common_steps, inside-fields c.args.pairs.now (sym c.are_fields.ensures ∙ c.if-are_fields.true))

pub print_map_inside-returns-else-are_fields : goal.print_map_inside-returns-else-are_fields
print_map_inside-returns-else-are_fields t c = grind (arith, common_steps, inside-entries c.args.pairs.now (sym c.are_fields.ensures ∙ c.if-are_fields.false))

pub print_term-returns-in_ok-push-in-Tuple-2 : goal.print_term-returns-in_ok-push-in-Tuple-2
print_term-returns-in_ok-push-in-Tuple-2 t c = grind (arith, common_steps, shown-tuple c.in-Tuple.parts)

pub print_term-returns-in_ok-push-in-Map : goal.print_term-returns-in_ok-push-in-Map
print_term-returns-in_ok-push-in-Map t c = grind (arith, common_steps, shown-map c.in-Map.pairs)
