use Rattle.std.proofs.Common.{◌∙◌, refl, subst}
use Rattle.build_plan.specs.Plan.{build_of}
use Rattle.honest_tree.specs.KeptOf.{AreKeptOf}
use Rattle.tree_store.specs.Known.{Known}
use Rattle.mix_plain.specs.Tells.{SaysStale}
use Rattle.mix_plain.specs.Tells.Tells.{told}
use Rattle.mix_plain.proofs.PlanLemmas.{only_read, reads_here, refuse_tells}
use Rattle.mix_plain.proofs.telling.stale.Goals as goal

pub read_kept-requires : goal.read_kept-requires
read_kept-requires g c = reads_here (g.S.Store.known c.args.store.now) (g.S.Store.known c.plan.new.store) _ c.in-Ok.ensures.reads c.requires.here

pub returns-in_ok-told-in-Ok : goal.returns-in_ok-told-in-Ok
returns-in_ok-told-in-Ok g c =
    let same = only_read (g.S.Store.known c.args.store.now) (g.S.Store.known c.plan.new.store) _ c.in-Ok.ensures.reads refl in
    told c.in-Ok.plan (record { named = c.in-Ok.ensures.name; planned = c.in-Ok.ensures.planned; first = c.in-Ok.ensures.answer })
    (record {
      kept = c.in_ok-kept-in-Ok.kept.items;
      stands = subst (λ (known : Known). AreKeptOf known.slot c.in-Ok.plan c.in_ok-kept-in-Ok.kept.items) same c.in_ok-kept-in-Ok.ensures.kept;
      lists = c.in_ok-told-in-Ok.ensures.says;
    })
    c.in_ok-told-in-Ok.ensures.status
    (c.in_ok-kept-in-Ok.ensures.reads ∙ same)

pub returns-in-Err : goal.returns-in-Err
returns-in-Err g c =
    refuse_tells (build_of c.args.env.now c.args.target.now) c.in-Err.error (g.S.Store.known c.args.store.now) (g.S.Store.known c.plan.new.store)
    c.in-Err.ensures.answer c.in-Err.ensures.reads (SaysStale (g.S.Store.known c.args.store.now)) _ _ c.refuse.ensures
