-- A mark that matches has no reason to be listed.
use Rattle.std.proofs.Common.{◌≡◌, ℕ, zero, suc, List, [], ◌∷◌, length, map, Option, Some, None, true, option_map, slice_get, refl, subst, sym, ◌∙◌, ap, arith}
use Rattle.std.proofs.lemmas.List.{length-map}
use Rattle.std.proofs.lemmas.Option.{slice_get_within}
use Rattle.compile_model.specs.declared.job.Job.{Job}
use Rattle.compile_model.specs.declared.outcome.Outcome.{Outcome}
use Rattle.build_manifest.specs.Mark.{MarkView, Need}
use Rattle.staleness.specs.declared.why.Why.{Why}
use Rattle.staleness.specs.declared.why.Why.TheVariants.{Need as NeedOf}
use Rattle.staleness.specs.Matching.{Describes, matches}
use Rattle.staleness.specs.Report.{StandsAt, IsChangedNeed, IsWhy, row_at}
use Rattle.staleness.specs.Report.IsChangedNeed.{fallen, further, none}
use Rattle.staleness.specs.Report.IsWhy.{no_mark, options, sources, needs}
use Rattle.staleness.proofs.DescribedLemmas.{described}

-- each need of a mark stands by its own digest
own_stands : (kept : List Need) (index : ℕ) (app : List ℕ) → slice_get (map (λ need. need.1) kept) index ≡ Some app →
    StandsAt (map (λ need. need.1) kept) (map (λ need. Some need.0) kept) kept index
own_stands [] index app there = cc
own_stands (n ∷ ns) zero app there =
    record { app = n.1; digest = Some n.0; named = refl; known = refl; stands = record { outputs = n.0; marked = refl; told = refl } }
own_stands (n ∷ ns) (suc index) app there =
    let rest = own_stands ns index app there in
    record { app = rest.app; digest = rest.digest; named = rest.named; known = rest.known; stands = rest.stands }

told_same : (kept : List Need) (outcomes : List Outcome) → map (λ need. need.0) kept ≡ map (λ outcome. outcome.digest) outcomes →
    map (λ outcome. Some outcome.digest) outcomes ≡ map (λ need. Some need.0) kept
told_same [] [] e = refl
told_same [] (o ∷ os) e = cc
told_same (n ∷ ns) [] e = cc
told_same (n ∷ ns) (o ∷ os) e =
    let first : n.0 ≡ o.digest = cc in
    let rest : map (λ (need : Need). need.0) ns ≡ map (λ (outcome : Outcome). outcome.digest) os = cc in
    ap (λ (d : List ℕ). Some d ∷ map (λ (outcome : Outcome). Some outcome.digest) os) (sym first)
    ∙ ap (λ (ds : List (Option (List ℕ))). Some n.0 ∷ ds) (told_same ns os rest)

no_change : (apps : List (List ℕ)) (told : List (Option (List ℕ))) (kept : List Need) → map (λ need. need.1) kept ≡ apps →
    told ≡ map (λ need. Some need.0) kept → (app : Option (List ℕ)) → IsChangedNeed apps told kept app → app ≡ None
no_change apps told kept e f app (fallen index name named falls before) =
    absurd (falls (subst (λ (as' : List (List ℕ)). StandsAt as' told kept index) e
    (subst (λ (ds : List (Option (List ℕ))). StandsAt (map (λ (need : Need). need.1) kept) ds kept index) (sym f)
    (own_stands kept index name (ap (λ (as' : List (List ℕ)). slice_get as' index) e ∙ named)))))
no_change apps told kept e f app (further need all there) =
    absurd (let h = slice_get_within kept (length apps) need there in
    let g : length kept ≡ length apps = sym (length-map kept (λ (n : Need). n.1)) ∙ ap length e in omega arith)
no_change apps told kept e f app (none all there) = refl

reason : (told : List (Option (List ℕ))) (job : Job) (mark : MarkView) → mark.options ≡ job.options → mark.sources ≡ job.rows →
    ((app : Option (List ℕ)) → IsChangedNeed job.need_apps told mark.needs app → app ≡ None) →
    (found : Option MarkView) (why : Option Why) → IsWhy told job found why → found ≡ Some mark → why ≡ None
reason told job mark same_options same_sources same_needs found why no_mark e = cc
reason told job mark same_options same_sources same_needs found why (options other differ) e =
    let is : other ≡ mark = cc in absurd (differ (ap (λ (m : MarkView). m.options) is ∙ same_options))
reason told job mark same_options same_sources same_needs found why (sources other path same change) e =
    let is : other ≡ mark = cc in
    absurd (change.differs (ap (row_at path) (ap (λ (m : MarkView). m.sources) is ∙ same_sources)))
reason told job mark same_options same_sources same_needs found why (needs other app one two change) e =
    let is : other ≡ mark = cc in
    ap (option_map NeedOf) (same_needs app (subst (λ (m : MarkView). IsChangedNeed job.need_apps told m.needs app) is change))

-- a mark that matches has no reason, where what stands for its needs is the digests of these outcomes
pub no_reason : (job : Job) (mark : MarkView) (outcomes : List Outcome) (why : Option Why) → length outcomes ≡ length job.need_apps →
    matches mark job outcomes ≡ true → IsWhy (map (λ outcome. Some outcome.digest) outcomes) job (Some mark) why → why ≡ None
no_reason job mark outcomes why many e is =
    let fits : Describes mark job outcomes = (described mark job outcomes many).0 e in
    reason (map (λ (outcome : Outcome). Some outcome.digest) outcomes) job mark fits.described.options fits.described.sources
    (no_change job.need_apps (map (λ (outcome : Outcome). Some outcome.digest) outcomes) mark.needs fits.described.apps
    (told_same mark.needs outcomes fits.outputs))
    (Some mark) why is refl
