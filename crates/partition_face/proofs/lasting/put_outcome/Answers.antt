use Rattle.std.proofs.Common.{refl}
use Rattle.partition_face.proofs.LastingLemmas.{verdict_of}
use Rattle.partition_face.proofs.lasting.put_outcome.Goals as goal

pub returns-clause-verdict : goal.returns-clause-verdict
returns-clause-verdict g c =
    verdict_of c.args.outcome (g.F.Folder.known c.args.folder.now) _ _ c.as_slice.result.now c.requires c.as_slice.ensures.value
    c.as_slice.ensures.in_order c.in_ok-put_files.ensures.held refl refl
