use Rattle.std.proofs.Common.{◌≡◌, ◌∷◌, ◌++◌, map, drop}
use Rattle.elixir_terms.specs.KeyCode.{term_code, parts_code, pairs_code, pair_codes}
use Rattle.elixir_terms.proofs.keys.+push_term.Given as goal

abbrev pub invariant-push_pairs-loop-key : goal.invariant-push_pairs-loop-key
invariant-push_pairs-loop-key l = l.code.items ++ pairs_code (map pair_codes (drop l.key-index l.pairs)) ≡ l.fn.code.items ++ 5 ∷ pairs_code (map pair_codes l.pairs)

abbrev pub invariant-push_parts-loop-part : goal.invariant-push_parts-loop-part
invariant-push_parts-loop-part l = l.code.items ++ parts_code (map term_code (drop l.part-index l.parts)) ≡ l.fn.code.items ++ l.kind ∷ parts_code (map term_code l.parts)
