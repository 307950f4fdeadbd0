-- How it is said by what rule declarations can't live together.
use Rattle.std.specs.Prelude.{ℕ, List, codes}
use Rattle.converger.specs.declared.divergence.Rule.{Rule}
use Rattle.converger.specs.declared.divergence.Rule.TheVariants.{V1, V2, V3, V4}

abbrev pub rule_said : Rule → List ℕ
rule_said V1 = codes "V1"
rule_said V2 = codes "V2"
rule_said V3 = codes "V3"
rule_said V4 = codes "V4"
