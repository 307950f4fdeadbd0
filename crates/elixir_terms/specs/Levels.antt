-- How deep a place in open brackets lies.
use Rattle.std.specs.Prelude.{ℕ, ◌+◌, ◌<◌, ◌≤◌, List, [], ◌∷◌}
use Rattle.term_tokens.specs.declared.bracket.Bracket.{Bracket}
use Rattle.term_tokens.specs.declared.bracket.Bracket.TheVariants as bracket
use Rattle.elixir_terms.specs.declared.frame.Hole.{Hole}
use Rattle.elixir_terms.specs.declared.frame.Slot.{Slot}
use Rattle.elixir_terms.specs.declared.frame.Slot.TheVariants.{Element, Keyword, EntryKey, EntryValue}
use Rattle.elixir_terms.specs.Within.{deepest}

-- the levels that a keyword in the bracket is made of: in a list the list and the pair, in a tuple the tuple,
-- the list of the keywords and the pair
abbrev pub keyword_cost : Bracket → ℕ
keyword_cost bracket.List = 2
keyword_cost bracket.Tuple = 3
keyword_cost bracket.Map = 1

-- the levels between a bracket's term and a term in its slot
abbrev pub cost_in : Slot → Bracket → ℕ
cost_in Element kind = 1
cost_in (Keyword key) kind = keyword_cost kind
cost_in EntryKey kind = 1
cost_in (EntryValue key) kind = 1

abbrev pub cost : Hole → ℕ
cost hole = cost_in hole.slot hole.frame.bracket

-- the levels between the whole term and a term in the innermost hole
abbrev pub levels : List Hole → ℕ
levels [] = 0
levels (hole ∷ holes) = cost hole + levels holes

-- a list, a tuple or a map may stand in the innermost hole
abbrev pub HasRoom : List Hole → Type 0
HasRoom holes = levels holes < deepest

-- one more hole may stand inside of the others
abbrev pub Enters : Hole → List Hole → Type 0
Enters hole holes = cost hole + levels holes ≤ deepest
