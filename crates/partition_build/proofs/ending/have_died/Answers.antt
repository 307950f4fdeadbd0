use Rattle.std.proofs.Common.{◌∙◌, rules, sym, tests}
use Rattle.std.proofs.lemmas.Iterator.{YieldsList-from_slice}
use Rattle.std.proofs.lemmas.Iterator.Search.{all_from_yields_List}
use Rattle.std.proofs.lemmas.List.Folds.{list_all-map}
use Rattle.partition_build.specs.Built.{has_died}
use Rattle.partition_build.proofs.ending.have_died.Goals as goal

pub returns : goal.returns
returns g c =
    all_from_yields_List (λ p. has_died (g.P.Partition.counted p)) _ _ _ c.all.ensures.ran (YieldsList-from_slice c.args.partitions.now cc)
    (λ x b q k. search (rules, tests))
    ∙ sym (list_all-map has_died g.P.Partition.counted c.args.partitions.now)
