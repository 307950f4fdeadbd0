-- What contracts see of a dependency.
use Rattle.unit_gen.specs.declared.dependency.Dependency.{Dependency}
use Rattle.unit_gen.specs.Dependency.{Drawn}

abbrev pub seen : Dependency → Drawn
seen one = record { number = one.number; needs = one.needs.items; value = one.value }
