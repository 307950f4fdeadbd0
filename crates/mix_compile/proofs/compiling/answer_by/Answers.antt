use Rattle.std.proofs.Common.{◌∙◌, length, ap}
use Rattle.mix_compile.specs.Finishing.{finish_of}
use Rattle.mix_compile.proofs.FinishLemmas.{settled_by}
use Rattle.mix_compile.proofs.compiling.answer_by.Goals as goal

pub settle-requires-clause-places : goal.settle-requires-clause-places
settle-requires-clause-places g c = ap length c.deref.ensures.value ∙ (rw c.in-Ok.is at c.requires.places)

pub returns-in-Ok-clause-finished : goal.returns-in-Ok-clause-finished
returns-in-Ok-clause-finished g c =
    rw c.in-Ok.is (settled_by c.args.plan.now c.in-Ok.fates.items c.deref.result.now
    (finish_of c.args.trace c.args.history.now (g.S.Store.known c.args.store.now) (g.S.Store.known c.settle.new.store)) c.settle.result c.deref.ensures.value
    c.settle.ensures.told c.settle.ensures.settled c.settle.ensures.tree c.settle.ensures.counts)
