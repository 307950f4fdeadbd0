use Rattle.std.proofs.Common.{◌≡◌, ℕ, List, Some, None, map, sym, subst, rules}
use Rattle.staleness.specs.declared.why.Why.TheVariants.{Sources, Need as NeedOf}
use Rattle.staleness.specs.Report.{IsWhy, digest_at}
use Rattle.staleness.specs.Report.IsWhy.{options, sources, needs}
use Rattle.staleness.proofs.report.what_differs.Goals as goal

pub returns-then-not-same_options : goal.returns-then-not-same_options
returns-then-not-same_options c =
    options c.args.mark.now (λ e. let yes = c.same_options.ensures.1 e in let no = c.if-not-same_options.true in cc)

pub returns-in-Some : goal.returns-in-Some
returns-in-Some c =
    let copy : c.in_ok-clone.field-0 ≡ c.in-Some.path.now = search rules in
    subst (λ (path : List ℕ). IsWhy (map (digest_at c.args.digests.now) c.args.job.now.needs) c.args.job.now (Some c.args.mark.now) (Some (Sources path)))
    (sym copy)
    (sources c.args.mark.now c.in-Some.path.now (c.same_options.ensures.0 c.if-not-same_options.false) c.in-Some.ensures)

pub returns-in_ok-clone-in-Some-changed_need : goal.returns-in_ok-clone-in-Some-changed_need
returns-in_ok-clone-in-Some-changed_need c =
    let copy : c.in_ok-clone-in-Some-changed_need.field-0 ≡ c.in-Some-changed_need.app.now = search rules in
    subst (λ (app : List ℕ). IsWhy (map (digest_at c.args.digests.now) c.args.job.now.needs) c.args.job.now (Some c.args.mark.now) (Some (NeedOf app)))
    (sym copy)
    (needs c.args.mark.now (Some c.in-Some-changed_need.app.now) (c.same_options.ensures.0 c.if-not-same_options.false) c.in_default.ensures
    c.in-Some-changed_need.ensures)

pub returns-in-None : goal.returns-in-None
returns-in-None c =
    needs c.args.mark.now None (c.same_options.ensures.0 c.if-not-same_options.false) c.in_default.ensures c.in-None.ensures
