use Rattle.std.proofs.Common.{refl}
use Rattle.build_plan.specs.Plan.{build_of}
use Rattle.mix_compile.specs.Compiles.Compiles.{planned}
use Rattle.mix_compile.proofs.RefuseLemmas.{only_read, reads_keep, refuse_ends}
use Rattle.mix_compile.proofs.compiling.build_tree.Goals as goal

pub returns-in-Ok-clause-ends : goal.returns-in-Ok-clause-ends
returns-in-Ok-clause-ends g c =
    let same = only_read (g.S.Store.known c.args.store.now) (g.S.Store.known c.plan.new.store) _ c.in-Ok.ensures.reads refl in
    planned c.in-Ok.plan
    (record { named = c.in-Ok.ensures.name; planned = c.in-Ok.ensures.planned; first = c.in-Ok.ensures.answer })
    (rw same at (c.build_planned.ensures.works (build_of c.args.env.now c.args.target.now)))

pub returns-in-Err-clause-ends : goal.returns-in-Err-clause-ends
returns-in-Err-clause-ends g c =
    refuse_ends _ (build_of c.args.env.now c.args.target.now) c.args.trace c.in-Err.error (g.S.Store.known c.args.store.now) (g.S.Store.known c.plan.new.store)
    (g.M.Maker.known c.args.maker.now) c.refuse.result _ c.new.ensures.items c.in-Err.ensures.answer c.in-Err.ensures.reads c.refuse.ensures

pub returns-in-Err-clause-keeps : goal.returns-in-Err-clause-keeps
returns-in-Err-clause-keeps g c = reads_keep (g.S.Store.known c.args.store.now) (g.S.Store.known c.plan.new.store) _ c.in-Err.ensures.reads c.requires.here
