use Rattle.std.proofs.Common.{ℕ, List, length, ◌∙◌, ap, subst}
use Rattle.compile_model.specs.declared.outcome.Outcome.{Outcome}
use Rattle.compile_model.specs.Content.{needs_of}
use Rattle.tree_store.specs.Known.{Known}
use Rattle.build_plan.proofs.ReadLemmas.{all_same}
use Rattle.unit_compile.specs.Units.{unit_meaning}
use Rattle.unitc_call.specs.Reading.{content_with}
use Rattle.unitc_call.proofs.NeedLemmas.{AreBuilt, built_length, built_needs}
use Rattle.unitc_call.proofs.compile.outcome.Goals as goal

pub compiled-requires : goal.compiled-requires
compiled-requires g c =
    ap (λ (os : List Outcome). length os) c.deref.ensures.value
    ∙ built_length (g.S.Store.known c.read_sources.new.store).slot c.args.task.now.env c.as_slice.result.now c.in_ok-needs.needs.items c.in_ok-needs.ensures.built
    ∙ ap (λ (names : List (List ℕ)). length names) c.as_slice.ensures

pub returns-clause-read : goal.returns-clause-read
returns-clause-read g c =
    let task = c.args.task.now in
    let outcomes = c.in_ok-needs.needs.items in
    let built : AreBuilt (g.S.Store.known c.args.store.now).slot task.env task.needs outcomes =
    subst (λ (k : Known). AreBuilt k.slot task.env task.needs outcomes) (all_same c.in_ok-sources.ensures.reads)
    (subst (λ (names : List (List ℕ)). AreBuilt (g.S.Store.known c.read_sources.new.store).slot task.env names outcomes) c.as_slice.ensures c.in_ok-needs.ensures.built) in
    record {
      sources = c.in_ok-sources.sources;
      needs = needs_of task.needs outcomes;
      is = c.in_ok-compiled.ensures
          ∙ ap (λ (os : List Outcome). unit_meaning (content_with task c.in_ok-sources.sources (needs_of task.needs os))) c.deref.ensures.value;
      read = c.in_ok-sources.ensures.read;
      built = built_needs (g.S.Store.known c.args.store.now).slot task.env task.needs outcomes built;
    }
