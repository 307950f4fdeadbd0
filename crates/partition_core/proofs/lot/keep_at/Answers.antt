use Rattle.std.proofs.Common.{get_or}
use Rattle.std.proofs.lemmas.Option.{slice_get-get_or}
use Rattle.partition_core.proofs.LotLemmas.{kept_fates, kepts_set}
use Rattle.partition_core.proofs.lot.keep_at.Goals as goal

pub returns-clause-fates : goal.returns-clause-fates
returns-clause-fates c =
    kept_fates c.args.lots.now c.args.place (get_or c.args.lots.now c.args.place c.index-lots-place.result) c.keep.new.self
    (slice_get-get_or c.args.lots.now c.args.place c.index-lots-place.result c.requires.within) c.keep.ensures.fate

pub returns-clause-kept : goal.returns-clause-kept
returns-clause-kept c = kepts_set c.args.lots.now c.args.place (get_or c.args.lots.now c.args.place c.index-lots-place.result) c.keep.new.self
    (slice_get-get_or c.args.lots.now c.args.place c.index-lots-place.result c.requires.within) c.keep.ensures.kept
