use Rattle.std.proofs.Common.{◌≡◌, ℕ, List, sym, ◌∙◌, ap, subst, rules, IsTrue}
use Rattle.dep_options.specs.Options.{is_dep_source}
use Rattle.dep_options.specs.declared.decl.DepSource.{DepSource}
use Rattle.dep_options.specs.declared.decl.DepSource.TheVariants.{Path}
use Rattle.build_plan.specs.Kept.{IsFoundIn}
use Rattle.build_plan.proofs.FolderLemmas.{unlocked_here}
use Rattle.build_plan.proofs.KeptLemmas.{kept_at, kept_fewer}
use Rattle.build_plan.proofs.manifests.Manifests.take.Goals as goal

pub returns-in_ok-clone-in-Hex-clause-answer : goal.returns-in_ok-clone-in-Hex-clause-answer
returns-in_ok-clone-in-Hex-clause-answer g c =
    let same : c.in_ok-clone-in-Hex.field-0 ≡ c.args.app.now = search rules in
    λ input. unlocked_here (g.S.Store.known c.args.self.now.store.now).sources c.args.app.now c.in_ok-clone-in-Hex.field-0 c.in-Hex.«package» c.args.winner.now same c.in-Hex.is

pub find-requires : goal.find-requires
find-requires g c = subst (λ (s : DepSource). IsTrue (is_dep_source s)) c.in-Path.is c.args.winner.now.placed

pub returns-in-Some-clause-answer : goal.returns-in-Some-clause-answer
returns-in-Some-clause-answer g c =
    let told = (g.S.Store.known c.args.self.now.store.now).sources in
    let here = kept_at told c.args.self.now.found.now c.in-Path.dir c.in-Some.found c.requires c.in-Some.ensures.value in
    (c.in-Path.is ∙ ap (λ (d : List ℕ). Path d) (sym here.at), subst (λ (d : List ℕ). IsFoundIn told d c.in-Some.found) (sym here.at) here)

pub returns-in-Some-clause-kept : goal.returns-in-Some-clause-kept
returns-in-Some-clause-kept g c =
    kept_fewer (g.S.Store.known c.args.self.now.store.now).sources c.args.self.now.found.now c.remove.new.self c.in-Path.dir c.requires c.in-Some.ensures.updates
