use Rattle.std.proofs.Common.{◌≡◌, List, ℕ, length, slice_set, refl, sym, ◌∙◌, ap, subst, arith}
use Rattle.std.proofs.lemmas.List.{length-set}
use Rattle.partition_core.specs.Agendas.{IsFront}
use Rattle.partition_core.specs.Lots.{fates_of, state_of}
use Rattle.partition_core.proofs.OutlookLemmas.{needs_here, front_known, flag_known, fronts_set}
use Rattle.partition_core.proofs.outlook.Outlook.look_at.Goals as goal

pub front_from-front-requires : goal.front_from-front-requires
front_from-front-requires c =
    let long : length c.as_slice.result.now ≡ length c.args.plan.now.jobs = ap length c.as_slice.ensures in
    front_known c.args.plan.now.jobs (fates_of c.args.lots.now) c.args.self.now c.args.place c.index.result.now c.as_slice-needs.result.now
    c.requires.fronts c.requires.within
    (needs_here c.args.plan.now.jobs c.as_slice.result.now c.args.place c.index-as_slice-at.result c.as_slice-needs.result.now c.as_slice.ensures
    (omega (arith, c.requires.within, long)) c.as_slice-needs.ensures) c.index.ensures

pub returns-clause-fronts : goal.returns-clause-fronts
returns-clause-fronts c =
    let long : length c.as_slice.result.now ≡ length c.args.plan.now.jobs = ap length c.as_slice.ensures in
    fronts_set c.args.plan.now.jobs (fates_of c.args.lots.now) c.args.self.now _ c.args.place c.front_from-front.result c.requires.fronts refl
    (ap length c.put.ensures ∙ length-set c.args.self.now.offering c.args.place c.is_offering-offers.result)
    (subst (λ (needs : List ℕ). IsFront (fates_of c.args.lots.now) needs c.front_from-front.result)
    (needs_here c.args.plan.now.jobs c.as_slice.result.now c.args.place c.index-as_slice-at.result c.as_slice-needs.result.now c.as_slice.ensures
    (omega (arith, c.requires.within, long)) c.as_slice-needs.ensures) c.front_from-front.ensures.front)

pub returns-clause-flags : goal.returns-clause-flags
returns-clause-flags c =
    let long : length c.as_slice.result.now ≡ length c.args.plan.now.jobs = ap length c.as_slice.ensures in
    c.put.ensures
    ∙ ap (slice_set c.args.self.now.offering c.args.place)
    (flag_known c.args.plan.now.jobs (state_of c.args.lots.now c.args.standings.now) c.args.place c.as_slice-needs.result.now c.need_at.result
    c.is_offering-offers.result
    (needs_here c.args.plan.now.jobs c.as_slice.result.now c.args.place c.index-as_slice-at.result c.as_slice-needs.result.now c.as_slice.ensures
    (omega (arith, c.requires.within, long)) c.as_slice-needs.ensures)
    (c.need_at.ensures ∙ sym c.front_from-front.ensures.first) c.is_offering-offers.ensures)
