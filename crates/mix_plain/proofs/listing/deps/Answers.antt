use Rattle.std.proofs.Common.{ap, refl, ◌∙◌}
use Rattle.build_plan.specs.Plan.{build_of}
use Rattle.mix_plain.specs.Tells.{SaysDeps}
use Rattle.mix_plain.specs.Tells.Tells.{told}
use Rattle.mix_plain.specs.Texts.{deps_text}
use Rattle.mix_plain.proofs.PlanLemmas.{only_read, refuse_tells}
use Rattle.mix_plain.proofs.listing.deps.Goals as goal

pub returns-in_ok-deps_text-in-Ok : goal.returns-in_ok-deps_text-in-Ok
returns-in_ok-deps_text-in-Ok g c =
    told c.in-Ok.plan (record { named = c.in-Ok.ensures.name; planned = c.in-Ok.ensures.planned; first = c.in-Ok.ensures.answer })
    (c.in_ok-deps_text-in-Ok.ensures ∙ ap deps_text c.as_slice.ensures) refl
    (only_read (g.S.Store.known c.args.store.now) (g.S.Store.known c.plan.new.store) _ c.in-Ok.ensures.reads refl)

pub returns-in-Err : goal.returns-in-Err
returns-in-Err g c =
    refuse_tells (build_of c.args.env.now c.args.target.now) c.in-Err.error (g.S.Store.known c.args.store.now) (g.S.Store.known c.plan.new.store)
    c.in-Err.ensures.answer c.in-Err.ensures.reads SaysDeps _ _ c.refuse.ensures
