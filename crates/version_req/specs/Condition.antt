-- What a comparison says, and how comparisons make a requirement.
use Rattle.std.specs.Prelude.{Bool, List}
use Rattle.semver.specs.Parse.{Parts}
use Rattle.version_req.specs.declared.operator.Operator.{Operator}

-- a comparison: its operator, the numbers and texts of its version, and whether the patch was written
pub record Condition : Type 0 where
  pub operator : Operator
  pub operand : Parts
  pub patch_written : Bool

-- a requirement: any one of its alternatives has to hold, and of that one all conditions
abbrev pub Alternatives : Type 0
Alternatives = List (List Condition)
