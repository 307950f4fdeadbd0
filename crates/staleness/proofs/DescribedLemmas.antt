-- A mark matches an input exactly where it describes it.
use Rattle.std.proofs.Common.{◌≡◌, ◌↔◌, ℕ, zero, suc, ◌+◌, ◌<◌, ◌==◌, true, ◌&&◌, List, [], ◌∷◌, map, drop, length, Option, Some, slice_get, get_or, bytes_eq, refl, sym, ◌∙◌, ap, arith, eq-eqb}
use Rattle.std.proofs.lemmas.Bool.{and_parts, and_from, eqb-true}
use Rattle.std.proofs.lemmas.List.{drop_more}
use Rattle.std.proofs.lemmas.Option.{slice_get_within}
use Rattle.std.proofs.lemmas.Slice.Eq.{bytes_eq-Decides}
use Rattle.mx_base.specs.declared.row.FileRow.{FileRow}
use Rattle.compile_model.specs.declared.job.Job.{Job}
use Rattle.compile_model.specs.declared.outcome.Outcome.{Outcome}
use Rattle.build_manifest.specs.Mark.{MarkView, Need}
use Rattle.staleness.specs.Matching.{IsOfJob, Describes, same_row, same_rows, same_apps, job_matches, output_matches, need_matches, needs_match, matches}
use Rattle.staleness.proofs.MatchingLemmas.{as_many_needs}

bytes_same : (xs ys : List ℕ) → bytes_eq xs ys ≡ true → xs ≡ ys
bytes_same xs ys e = (bytes_eq-Decides xs ys).0 e

bytes_itself : (xs : List ℕ) → bytes_eq xs xs ≡ true
bytes_itself xs = (bytes_eq-Decides xs xs).1 refl

pub row_is : (one other : FileRow) → same_row one other ≡ true → one ≡ other
row_is one other e =
    let a = and_parts (one.length == other.length && bytes_eq one.digest other.digest) (bytes_eq one.path other.path) e in
    let b = and_parts (one.length == other.length) (bytes_eq one.digest other.digest) a.0 in
    ap (λ (p : List ℕ). record { path = p; length = one.length; digest = one.digest }) (bytes_same one.path other.path a.1)
    ∙ ap (λ (n : ℕ). record { path = other.path; length = n; digest = one.digest }) (eqb-true one.length other.length b.0)
    ∙ ap (λ (d : List ℕ). record { path = other.path; length = other.length; digest = d }) (bytes_same one.digest other.digest b.1)

pub row_itself : (row : FileRow) → same_row row row ≡ true
row_itself row =
    and_from (row.length == row.length && bytes_eq row.digest row.digest) (bytes_eq row.path row.path)
    (and_from (row.length == row.length) (bytes_eq row.digest row.digest) (eq-eqb row.length row.length refl) (bytes_itself row.digest))
    (bytes_itself row.path)

pub rows_are : (rows others : List FileRow) → same_rows rows others ≡ true → rows ≡ others
rows_are [] [] e = refl
rows_are [] (g ∷ gs) e = cc
rows_are (f ∷ fs) [] e = cc
rows_are (f ∷ fs) (g ∷ gs) e =
    let parts = and_parts (same_row f g) (same_rows fs gs) e in
    ap (λ (x : FileRow). x ∷ fs) (row_is f g parts.0) ∙ ap (λ (xs : List FileRow). g ∷ xs) (rows_are fs gs parts.1)

pub rows_themselves : (rows : List FileRow) → same_rows rows rows ≡ true
rows_themselves [] = refl
rows_themselves (f ∷ fs) = and_from (same_row f f) (same_rows fs fs) (row_itself f) (rows_themselves fs)

abbrev app_of : Need → List ℕ
app_of need = need.1

abbrev digest_of : Need → List ℕ
digest_of need = need.0

apps_are : (needs : List Need) (apps : List (List ℕ)) → same_apps needs apps ≡ true → map app_of needs ≡ apps
apps_are [] [] e = refl
apps_are [] (a ∷ bs) e = cc
apps_are (n ∷ ns) [] e = cc
apps_are (n ∷ ns) (a ∷ bs) e =
    let parts = and_parts (bytes_eq n.1 a) (same_apps ns bs) e in
    ap (λ (x : List ℕ). x ∷ map app_of ns) (bytes_same n.1 a parts.0) ∙ ap (λ (xs : List (List ℕ)). a ∷ xs) (apps_are ns bs parts.1)

apps_themselves : (needs : List Need) → same_apps needs (map app_of needs) ≡ true
apps_themselves [] = refl
apps_themselves (n ∷ ns) = and_from (bytes_eq n.1 n.1) (same_apps ns (map app_of ns)) (bytes_itself n.1) (apps_themselves ns)

no_needs : (needs : List Need) → length needs ≡ 0 → map digest_of needs ≡ []
no_needs [] e = refl
no_needs (n ∷ ns) e = absurd (omega arith)

there : (needs : List Need) (index : ℕ) (first : Need) (rest : List Need) → drop index needs ≡ first ∷ rest → slice_get needs index ≡ Some first
there [] zero first rest e = cc
there [] (suc index) first rest e = cc
there (n ∷ ns) zero first rest e = let same : n ≡ first = cc in ap Some same
there (n ∷ ns) (suc index) first rest e = there ns index first rest e

needs_tail : (x y : Need) (xs ys : List Need) → x ∷ xs ≡ y ∷ ys → xs ≡ ys
needs_tail x y xs ys e = cc

later : (needs : List Need) (index : ℕ) (first : Need) (rest : List Need) → drop index needs ≡ first ∷ rest → drop (index + 1) needs ≡ rest
later needs index first rest e =
    let within : index < length needs = slice_get_within needs index first (there needs index first rest e) in
    needs_tail (get_or needs index first) first (drop (index + 1) needs) rest (sym (drop_more needs index first within) ∙ e)

outputs_are : (needs left : List Need) (index : ℕ) (outcomes : List Outcome) → drop index needs ≡ left → length left ≡ length outcomes →
    needs_match needs index outcomes ≡ true → map digest_of left ≡ map (λ (outcome : Outcome). outcome.digest) outcomes
outputs_are needs left index [] is many e = no_needs left many
outputs_are needs [] index (o ∷ os) is many e = absurd (omega arith)
outputs_are needs (n ∷ ns) index (o ∷ os) is many e =
    let parts = and_parts (need_matches needs index o) (needs_match needs (index + 1) os) e in
    let here : bytes_eq n.0 o.digest ≡ true = ap (λ (f : Option Need). output_matches f o) (sym (there needs index n ns is)) ∙ parts.0 in
    ap (λ (x : List ℕ). x ∷ map digest_of ns) (bytes_same n.0 o.digest here)
    ∙ ap (λ (xs : List (List ℕ)). o.digest ∷ xs) (outputs_are needs ns (index + 1) os (later needs index n ns is) (omega (arith, many)) parts.1)

heads : (x y : List ℕ) (xs ys : List (List ℕ)) → x ∷ xs ≡ y ∷ ys → x ≡ y
heads x y xs ys e = cc

tails : (x y : List ℕ) (xs ys : List (List ℕ)) → x ∷ xs ≡ y ∷ ys → xs ≡ ys
tails x y xs ys e = cc

outputs_match : (needs left : List Need) (index : ℕ) (outcomes : List Outcome) → drop index needs ≡ left →
    map digest_of left ≡ map (λ (outcome : Outcome). outcome.digest) outcomes → needs_match needs index outcomes ≡ true
outputs_match needs left index [] is e = refl
outputs_match needs [] index (o ∷ os) is e = cc
outputs_match needs (n ∷ ns) index (o ∷ os) is e =
    let rest = map (λ (outcome : Outcome). outcome.digest) os in
    let same = heads n.0 o.digest (map digest_of ns) rest e in
    and_from (need_matches needs index o) (needs_match needs (index + 1) os)
    (ap (λ (f : Option Need). output_matches f o) (there needs index n ns is) ∙ ap (bytes_eq n.0) (sym same) ∙ bytes_itself n.0)
    (outputs_match needs ns (index + 1) os (later needs index n ns is) (tails n.0 o.digest (map digest_of ns) rest e))

job_described : (mark : MarkView) (job : Job) → job_matches mark job ≡ true → IsOfJob mark job
job_described mark job e =
    let a = and_parts (bytes_eq mark.options job.options && same_rows mark.sources job.rows) (same_apps mark.needs job.need_apps) e in
    let b = and_parts (bytes_eq mark.options job.options) (same_rows mark.sources job.rows) a.0 in
    record {
      options = bytes_same mark.options job.options b.0;
      sources = rows_are mark.sources job.rows b.1;
      apps = apps_are mark.needs job.need_apps a.1;
    }

job_match : (mark : MarkView) (job : Job) → IsOfJob mark job → job_matches mark job ≡ true
job_match mark job is =
    and_from (bytes_eq mark.options job.options && same_rows mark.sources job.rows) (same_apps mark.needs job.need_apps)
    (and_from (bytes_eq mark.options job.options) (same_rows mark.sources job.rows)
    (ap (bytes_eq mark.options) (sym is.options) ∙ bytes_itself mark.options)
    (ap (same_rows mark.sources) (sym is.sources) ∙ rows_themselves mark.sources))
    (ap (same_apps mark.needs) (sym is.apps) ∙ apps_themselves mark.needs)

pub described : (mark : MarkView) (job : Job) (outcomes : List Outcome) → length outcomes ≡ length job.need_apps →
    (matches mark job outcomes ≡ true) ↔ Describes mark job outcomes
described mark job outcomes many = (
  (λ e. let parts = and_parts (job_matches mark job) (needs_match mark.needs 0 outcomes) e in
      record {
        described = job_described mark job parts.0;
        outputs = outputs_are mark.needs mark.needs 0 outcomes refl (as_many_needs mark job parts.0 ∙ sym many) parts.1;
      }),
  (λ is. and_from (job_matches mark job) (needs_match mark.needs 0 outcomes) (job_match mark job is.described)
      (outputs_match mark.needs mark.needs 0 outcomes refl is.outputs)),
)
