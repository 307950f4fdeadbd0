use Rattle.std.proofs.Common.{Some, get_or}
use Rattle.std.proofs.lemmas.Option.{slice_get-get_or}
use Rattle.partition_core.proofs.LotLemmas.{fates_set, kepts_set}
use Rattle.partition_core.proofs.lot.settle_at.Goals as goal

pub returns-clause-fates : goal.returns-clause-fates
returns-clause-fates c = fates_set c.args.lots.now c.args.place c.settle.new.self (Some c.args.fate) c.settle.ensures.fate

pub returns-clause-kept : goal.returns-clause-kept
returns-clause-kept c = kepts_set c.args.lots.now c.args.place (get_or c.args.lots.now c.args.place c.index-lots-place.result) c.settle.new.self
    (slice_get-get_or c.args.lots.now c.args.place c.index-lots-place.result c.requires.within) c.settle.ensures.kept
