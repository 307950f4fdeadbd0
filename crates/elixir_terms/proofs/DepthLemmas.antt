-- How many brackets may be open.
use Rattle.std.proofs.Common.{◌≡◌, ◌+◌, ◌<◌, ◌≤◌, List, [], ◌∷◌, length, refl, arith}
use Rattle.term_tokens.specs.declared.bracket.Bracket.{Bracket}
use Rattle.term_tokens.specs.declared.bracket.Bracket.TheVariants as bracket
use Rattle.elixir_terms.specs.declared.frame.Frame.{Frame}
use Rattle.elixir_terms.specs.declared.frame.Hole.{Hole}
use Rattle.elixir_terms.specs.declared.frame.Slot.{Slot}
use Rattle.elixir_terms.specs.declared.frame.Slot.TheVariants as slot
use Rattle.term_tokens.specs.declared.token.Token.TheVariants.{Words}
use Rattle.term_tokens.specs.declared.token.WordKind.TheVariants.{Strings}
use Rattle.elixir_terms.specs.Levels.{levels, cost_in}
use Rattle.elixir_terms.specs.Machine.{PartWell, part_slot}
use Rattle.elixir_terms.specs.Within.{deepest}

some_cost : (place : Slot) (kind : Bracket) → 1 ≤ cost_in place kind
some_cost slot.Element kind = omega arith
some_cost slot.EntryKey kind = omega arith
some_cost (slot.EntryValue entry) kind = omega arith
some_cost (slot.Keyword name) bracket.List = omega arith
some_cost (slot.Keyword name) bracket.Tuple = omega arith
some_cost (slot.Keyword name) bracket.Map = omega arith

-- each hole is at least one level
pub few_holes : (holes : List Hole) → length holes ≤ levels holes
few_holes [] = omega arith
few_holes (hole ∷ holes) = let h = few_holes holes in let c = some_cost hole.slot hole.frame.bracket in omega arith

-- words as a part of a bracket

part_cost : (kind : Bracket) → cost_in (part_slot kind) kind ≡ 1
part_cost bracket.List = refl
part_cost bracket.Tuple = refl
part_cost bracket.Map = refl

pub inside_well : (frame : Frame) (holes : List Hole) → 1 + levels holes < deepest → PartWell frame holes (Words Strings [])
inside_well frame holes h = let one = part_cost frame.bracket in (omega arith, omega arith)

pub well_inside : (frame : Frame) (holes : List Hole) → PartWell frame holes (Words Strings []) → 1 + levels holes < deepest
well_inside frame holes h = let one = part_cost frame.bracket in let room = h.1 in omega arith
