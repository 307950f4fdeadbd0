-- Warnings, from the last line back.
use Rattle.std.proofs.Common.{◌≡◌, ℕ, suc, ◌+◌, ◌≤◌, ◌<◌, ◌||◌, Bool, true, false, List, [], ◌∷◌, ◌++◌, drop, map, length, Option, Some, None, option_map, is_some, get_or, refl, sym, ap, ◌∙◌, arith, subst}
use Rattle.std.specs.List.{list_any}
use Rattle.std.specs.Option.{option_to_list}
use Rattle.unit_lang.specs.declared.unit.Line.{Line}
use Rattle.unit_compile.specs.declared.table.Table.{Table}
use Rattle.unit_compile.specs.declared.warning.Warning.{Warning as WarningValue}
use Rattle.unit_compile.specs.Views.{Names, in_table, warning_in}
use Rattle.unit_compile.specs.Warnings.{Warning, is_named, is_named_by, warning_of, warnings_of}

-- the lines from a place on are gone over: what they are warned of, and which names they name
pub record Noted (place : ℕ) (lines : List Line) (warnings : List WarningValue) (named : Table (Unit {0})) : Type 0 where
  pub within : place ≤ length lines
  pub warned : map warning_in warnings ≡ warnings_of (drop place lines)
  pub names : Names named (drop place lines)

-- nothing is gone over yet
pub noted_none : (lines : List Line) (named : Table (Unit {0})) → ((name : List ℕ) → in_table named name ≡ None) → Noted (length lines) lines [] named
noted_none lines named empty = record { within = omega arith; warned = ap warnings_of (sym (drop_all lines)); names = λ name. ap is_some (empty name) ∙ ap (is_named name) (sym (drop_all lines)) }
  where
    drop_all : (xs : List Line) → drop (length xs) xs ≡ []
    drop_all [] = refl
    drop_all (x ∷ xs) = drop_all xs
