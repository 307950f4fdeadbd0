use Rattle.std.proofs.Common.{refl}
use Rattle.build_plan.specs.Plan.{build_of}
use Rattle.mix_plain.specs.Compile.Compiles.{planned}
use Rattle.mix_plain.proofs.PlanLemmas.{only_read, reads_here, reads_keep, refuse_compiles}
use Rattle.mix_plain.proofs.compile.compile_in_turn.Goals as goal

pub build-requires-clause-here : goal.build-requires-clause-here
build-requires-clause-here g c = reads_here (g.S.Store.known c.args.store.now) (g.S.Store.known c.plan.new.store) _ c.in-Ok.ensures.reads c.requires.here

pub returns-in-Ok-clause-ends : goal.returns-in-Ok-clause-ends
returns-in-Ok-clause-ends g c =
    let same = only_read (g.S.Store.known c.args.store.now) (g.S.Store.known c.plan.new.store) _ c.in-Ok.ensures.reads refl in
    planned c.in-Ok.plan
    (record { named = c.in-Ok.ensures.name; planned = c.in-Ok.ensures.planned; first = c.in-Ok.ensures.answer })
    (rw same at c.build.ensures.works)

pub returns-in-Ok-clause-keeps : goal.returns-in-Ok-clause-keeps
returns-in-Ok-clause-keeps g c =
    let same = only_read (g.S.Store.known c.args.store.now) (g.S.Store.known c.plan.new.store) _ c.in-Ok.ensures.reads refl in
    rw same at c.build.ensures.keeps

pub returns-in-Err-clause-ends : goal.returns-in-Err-clause-ends
returns-in-Err-clause-ends g c =
    refuse_compiles (build_of c.args.env.now c.args.target.now) c.in-Err.error (g.S.Store.known c.args.store.now) (g.S.Store.known c.plan.new.store)
    c.in-Err.ensures.answer c.in-Err.ensures.reads g.C.Meaning.compile_of (g.C.Compiler.deaths c.args.compiler.now) _ _ c.refuse.ensures

pub returns-in-Err-clause-keeps : goal.returns-in-Err-clause-keeps
returns-in-Err-clause-keeps g c = reads_keep (g.S.Store.known c.args.store.now) (g.S.Store.known c.plan.new.store) _ c.in-Err.ensures.reads c.requires.here
