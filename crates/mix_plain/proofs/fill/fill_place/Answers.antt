use Rattle.std.proofs.Common.{◌≡◌, ℕ, List, get_or, slice_get, Some, refl, sym, ◌∙◌, ap, subst}
use Rattle.std.proofs.lemmas.Option.{slice_get_read}
use Rattle.build_manifest.specs.MarkOf.{mark_of}
use Rattle.build_manifest.specs.Text.{Spells}
use Rattle.compile_model.specs.declared.job.Job.{Job}
use Rattle.compile_model.specs.declared.outcome.Fate.{Fate}
use Rattle.compile_model.specs.declared.outcome.Fate.TheVariants.{Built}
use Rattle.compile_model.specs.declared.outcome.Outcome.{Outcome}
use Rattle.compile_model.specs.Seq.{outcomes_of}
use Rattle.partition_crew.proofs.Planning.{planned_differ}
use Rattle.mix_plain.proofs.FillLemmas.{empty_before, never_built, tree_filled, tree_skips}
use Rattle.mix_plain.proofs.PutLemmas.{fills_job}
use Rattle.mix_plain.proofs.fill.fill_place.Goals as goal

pub mark_text-requires-clause-apart : goal.mark_text-requires-clause-apart
mark_text-requires-clause-apart g c =
    let jobs : List Job = c.args.plan.now.jobs in
    let job : Job = c.index-as_slice-place.result in
    let here : slice_get jobs c.args.place ≡ Some job = slice_get_read jobs _ c.args.place job c.requires.fates.each c.requires.within
    (subst (λ (js : List Job). job ≡ get_or js c.args.place job) c.as_slice.ensures c.index-as_slice-place.is) in
    planned_differ jobs c.args.place job c.requires.fates.planned here

pub mark_text-requires-clause-needs : goal.mark_text-requires-clause-needs
mark_text-requires-clause-needs g c =
    let jobs : List Job = c.args.plan.now.jobs in
    let job : Job = c.index-as_slice-place.result in
    let here : slice_get jobs c.args.place ≡ Some job = slice_get_read jobs _ c.args.place job c.requires.fates.each c.requires.within
    (subst (λ (js : List Job). job ≡ get_or js c.args.place job) c.as_slice.ensures c.index-as_slice-place.is) in
    let built : slice_get c.args.fates.now c.args.place ≡ Some (Built c.in-Built.outcome) =
    slice_get_read c.args.fates.now _ c.args.place c.index-fates-place.result refl c.requires.within c.index-fates-place.is
    ∙ ap (λ (fate : Fate). Some fate) c.in-Built.is in
    c.requires.fates.needs job c.in-Built.outcome (record { place = c.args.place; stands = here; built = built })

pub fill_app-requires-clause-empty : goal.fill_app-requires-clause-empty
fill_app-requires-clause-empty g c =
    let jobs : List Job = c.args.plan.now.jobs in
    let job : Job = c.index-as_slice-place.result in
    let here : slice_get jobs c.args.place ≡ Some job = slice_get_read jobs _ c.args.place job c.requires.fates.each c.requires.within
    (subst (λ (js : List Job). job ≡ get_or js c.args.place job) c.as_slice.ensures c.index-as_slice-place.is) in
    empty_before c.args.plan.now c.args.fates.now c.requires.fates.planned c.args.place job here (g.S.Store.known c.args.store.now).slot c.requires.before

pub returns-in_ok-mark-in-Built-clause-after : goal.returns-in_ok-mark-in-Built-clause-after
returns-in_ok-mark-in-Built-clause-after g c =
    let jobs : List Job = c.args.plan.now.jobs in
    let job : Job = c.index-as_slice-place.result in
    let here : slice_get jobs c.args.place ≡ Some job = slice_get_read jobs _ c.args.place job c.requires.fates.each c.requires.within
    (subst (λ (js : List Job). job ≡ get_or js c.args.place job) c.as_slice.ensures c.index-as_slice-place.is) in
    let built : slice_get c.args.fates.now c.args.place ≡ Some (Built c.in-Built.outcome) =
    slice_get_read c.args.fates.now _ c.args.place c.index-fates-place.result refl c.requires.within c.index-fates-place.is
    ∙ ap (λ (fate : Fate). Some fate) c.in-Built.is in
    let spells : Spells c.as_slice-in-Built.result.now (mark_of job (outcomes_of c.args.fates.now job.needs) c.in-Built.outcome) =
    subst (λ (bytes : List ℕ). Spells bytes (mark_of job (outcomes_of c.args.fates.now job.needs) c.in-Built.outcome)) (sym c.as_slice-in-Built.ensures)
    (subst (λ (o : Outcome). Spells c.in_ok-mark-in-Built.mark (mark_of job (outcomes_of c.args.fates.now job.needs) o)) c.get-outcome.ensures
    c.in_ok-mark-in-Built.ensures) in
    tree_filled c.fill_app.result c.args.plan.now c.args.fates.now c.requires.fates.planned c.args.place job here c.in-Built.outcome
    c.as_slice-files.result.now c.as_slice-in-Built.result.now (g.S.Store.known c.args.store.now).slot (g.S.Store.known c.fill_app.new.store).slot
    built (c.as_slice-files.ensures.value ∙ ap (λ (o : Outcome). o.files) c.get-outcome.ensures) spells c.fill_app.ensures.filled c.requires.before

pub returns-in_ok-mark-in-Built-clause-part : goal.returns-in_ok-mark-in-Built-clause-part
returns-in_ok-mark-in-Built-clause-part g c =
    let jobs : List Job = c.args.plan.now.jobs in
    let job : Job = c.index-as_slice-place.result in
    let here : slice_get jobs c.args.place ≡ Some job = slice_get_read jobs _ c.args.place job c.requires.fates.each c.requires.within
    (subst (λ (js : List Job). job ≡ get_or js c.args.place job) c.as_slice.ensures c.index-as_slice-place.is) in
    let built : slice_get c.args.fates.now c.args.place ≡ Some (Built c.in-Built.outcome) =
    slice_get_read c.args.fates.now _ c.args.place c.index-fates-place.result refl c.requires.within c.index-fates-place.is
    ∙ ap (λ (fate : Fate). Some fate) c.in-Built.is in
    let spells : Spells c.as_slice-in-Built.result.now (mark_of job (outcomes_of c.args.fates.now job.needs) c.in-Built.outcome) =
    subst (λ (bytes : List ℕ). Spells bytes (mark_of job (outcomes_of c.args.fates.now job.needs) c.in-Built.outcome)) (sym c.as_slice-in-Built.ensures)
    (subst (λ (o : Outcome). Spells c.in_ok-mark-in-Built.mark (mark_of job (outcomes_of c.args.fates.now job.needs) o)) c.get-outcome.ensures
    c.in_ok-mark-in-Built.ensures) in
    fills_job c.args.plan.now c.args.fates.now job c.in-Built.outcome c.as_slice-files.result.now c.as_slice-in-Built.result.now
    (g.S.Store.known c.args.store.now).slot (g.S.Store.known c.fill_app.new.store).slot
    (record { place = c.args.place; stands = here; built = built })
    (c.as_slice-files.ensures.value ∙ ap (λ (o : Outcome). o.files) c.get-outcome.ensures) spells c.fill_app.ensures.part

pub returns-in-Failed-clause-after : goal.returns-in-Failed-clause-after
returns-in-Failed-clause-after g c =
    let jobs : List Job = c.args.plan.now.jobs in
    let job : Job = c.index-as_slice-place.result in
    let here : slice_get jobs c.args.place ≡ Some job = slice_get_read jobs _ c.args.place job c.requires.fates.each c.requires.within
    (subst (λ (js : List Job). job ≡ get_or js c.args.place job) c.as_slice.ensures c.index-as_slice-place.is) in
    let stands : slice_get c.args.fates.now c.args.place ≡ Some c.index-fates-place.result =
    slice_get_read c.args.fates.now _ c.args.place c.index-fates-place.result refl c.requires.within c.index-fates-place.is in
    tree_skips c.args.plan.now c.args.fates.now c.requires.fates.planned c.args.place job here (g.S.Store.known c.args.store.now).slot
    (never_built c.args.fates.now c.args.place c.index-fates-place.result stands c.in-Failed.is) c.requires.before

pub returns-in-Failed-2-clause-after : goal.returns-in-Failed-2-clause-after
returns-in-Failed-2-clause-after g c =
    let jobs : List Job = c.args.plan.now.jobs in
    let job : Job = c.index-as_slice-place.result in
    let here : slice_get jobs c.args.place ≡ Some job = slice_get_read jobs _ c.args.place job c.requires.fates.each c.requires.within
    (subst (λ (js : List Job). job ≡ get_or js c.args.place job) c.as_slice.ensures c.index-as_slice-place.is) in
    let stands : slice_get c.args.fates.now c.args.place ≡ Some c.index-fates-place.result =
    slice_get_read c.args.fates.now _ c.args.place c.index-fates-place.result refl c.requires.within c.index-fates-place.is in
    tree_skips c.args.plan.now c.args.fates.now c.requires.fates.planned c.args.place job here (g.S.Store.known c.args.store.now).slot
    (never_built c.args.fates.now c.args.place c.index-fates-place.result stands c.in-Failed.is) c.requires.before
