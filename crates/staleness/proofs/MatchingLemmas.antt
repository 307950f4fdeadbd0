-- Needs one after another.
use Rattle.std.proofs.Common.{◌≡◌, ◌≢◌, ℕ, suc, ◌+◌, ◌<◌, true, false, ◌&&◌, List, [], ◌∷◌, drop, length, get_or, bytes_eq, refl, ap}
use Rattle.std.proofs.lemmas.List.{drop_more}
use Rattle.std.proofs.lemmas.Bool.{and_parts, and_right}
use Rattle.mx_base.specs.declared.row.FileRow.{FileRow}
use Rattle.compile_model.specs.declared.job.Job.{Job}
use Rattle.compile_model.specs.declared.outcome.Outcome.{Outcome}
use Rattle.build_manifest.specs.Mark.{MarkView, Need}
use Rattle.staleness.specs.Matching.{need_matches, needs_match, same_row, same_rows, same_apps, job_matches}

-- the first of what is left, and then the others
pub needs_match_step : (needs : List Need) (index : ℕ) (outcomes : List Outcome) (outcome : Outcome) →
    index < length outcomes →
    needs_match needs index (drop index outcomes)
    ≡ (need_matches needs index (get_or outcomes index outcome) && needs_match needs (index + 1) (drop (index + 1) outcomes))
needs_match_step needs index outcomes outcome h = rw (drop_more outcomes index outcome h) refl

-- listings of different lengths differ
pub rows_differ : (rows others : List FileRow) → length rows ≢ length others → same_rows rows others ≡ false
rows_differ [] [] h = absurd (h refl)
rows_differ [] (g ∷ gs) h = refl
rows_differ (f ∷ fs) [] h = refl
rows_differ (f ∷ fs) (g ∷ gs) h = and_right (same_row f g) (same_rows fs gs) (rows_differ fs gs (λ e. h (ap suc e)))

pub apps_differ : (needs : List Need) (apps : List (List ℕ)) → length needs ≢ length apps → same_apps needs apps ≡ false
apps_differ [] [] h = absurd (h refl)
apps_differ [] (a ∷ bs) h = refl
apps_differ (n ∷ ns) [] h = refl
apps_differ (n ∷ ns) (a ∷ bs) h = and_right (bytes_eq n.1 a) (same_apps ns bs) (apps_differ ns bs (λ e. h (ap suc e)))

-- needs of these apps are as many
pub as_many_apps : (needs : List Need) (apps : List (List ℕ)) → same_apps needs apps ≡ true → length needs ≡ length apps
as_many_apps [] [] h = refl
as_many_apps [] (a ∷ bs) h = cc
as_many_apps (n ∷ ns) [] h = cc
as_many_apps (n ∷ ns) (a ∷ bs) h = ap suc (as_many_apps ns bs (and_parts (bytes_eq n.1 a) (same_apps ns bs) h).1)

-- a mark that is the job's has one need for each app
pub as_many_needs : (mark : MarkView) (job : Job) → job_matches mark job ≡ true → length mark.needs ≡ length job.need_apps
as_many_needs mark job h =
    as_many_apps mark.needs job.need_apps
    (and_parts (bytes_eq mark.options job.options && same_rows mark.sources job.rows) (same_apps mark.needs job.need_apps) h).1
