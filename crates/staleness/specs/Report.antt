-- What is stale of a plan, and why.
use Rattle.std.specs.Prelude.{◌≡◌, ◌≢◌, ◌⊎◌, ℕ, ◌<◌, ◌≤◌, ◌==◌, List, [], ◌∷◌, ◌++◌, length, map, find, Option, Some, None, is_some, option_map, option_and_then, slice_get, bytes_eq, if◌then◌else◌}
use Rattle.std.specs.List.{AllPairs}
use Rattle.std.specs.declared.cmp.Ordering.TheVariants.{Less}
use Rattle.mx_base.specs.declared.row.FileRow.{FileRow}
use Rattle.mx_base.specs.Listing.{listing_digest}
use Rattle.mx_base.specs.Order.{text_cmp}
use Rattle.compile_model.specs.declared.job.Job.{Job}
use Rattle.build_manifest.specs.Mark.{MarkView, Need}
use Rattle.staleness.specs.declared.why.Why.{Why}
use Rattle.staleness.specs.declared.why.Why.TheVariants.{NoMark, Options, Sources, Need as NeedOf}

-- what a listing says of a path
abbrev pub row_at : List ℕ → List FileRow → Option FileRow
row_at path rows = find (λ row. bytes_eq row.path path) rows

-- the least path of which two listings say different things
pub record IsFirstChange (rows others : List FileRow) (path : List ℕ) : Type 0 where
  pub differs : row_at path rows ≢ row_at path others
  pub first : (other : List ℕ) → row_at other rows ≢ row_at other others → (other ≡ path) ⊎ (text_cmp path other ≡ Less)

-- a mark's need is the app, with the digest that stands for it
pub record NeedStands (need : Option Need) (app : List ℕ) (digest : Option (List ℕ)) : Type 0 where
  pub outputs : List ℕ
  pub marked : need ≡ Some (outputs, app)
  pub told : digest ≡ Some outputs

-- the need of this index of a job with these apps of its needs stands, by the digests that stand for its needs
pub record StandsAt (apps : List (List ℕ)) (told : List (Option (List ℕ))) (needs : List Need) (index : ℕ) : Type 0 where
  pub app : List ℕ
  pub digest : Option (List ℕ)
  pub named : slice_get apps index ≡ Some app
  pub known : slice_get told index ≡ Some digest
  pub stands : NeedStands (slice_get needs index) app digest

-- the first need of a job that doesn't stand; else the first that only the mark has; none where all stand and the mark has no more
pub data IsChangedNeed (apps : List (List ℕ)) (told : List (Option (List ℕ))) (needs : List Need) : Option (List ℕ) → Type 0 where
  fallen : (index : ℕ) (app : List ℕ) → slice_get apps index ≡ Some app → (StandsAt apps told needs index → ⊥)
      → ((earlier : ℕ) → earlier < index → StandsAt apps told needs earlier) → IsChangedNeed apps told needs (Some app)
  further : (need : Need) → ((index : ℕ) → index < length apps → StandsAt apps told needs index)
      → slice_get needs (length apps) ≡ Some need → IsChangedNeed apps told needs (Some need.1)
  none : ((index : ℕ) → index < length apps → StandsAt apps told needs index)
      → slice_get needs (length apps) ≡ None → IsChangedNeed apps told needs None

-- why a job would be compiled again, the first that holds, and none where it would not be; the digests are those that stand for its needs
pub data IsWhy (told : List (Option (List ℕ))) (job : Job) : Option MarkView → Option Why → Type 0 where
  no_mark : IsWhy told job None (Some NoMark)
  options : (mark : MarkView) → mark.options ≢ job.options → IsWhy told job (Some mark) (Some Options)
  sources : (mark : MarkView) (path : List ℕ) → mark.options ≡ job.options → IsFirstChange mark.sources job.rows path
      → IsWhy told job (Some mark) (Some (Sources path))
  needs : (mark : MarkView) (app : Option (List ℕ)) → mark.options ≡ job.options → mark.sources ≡ job.rows
      → IsChangedNeed job.need_apps told mark.needs app → IsWhy told job (Some mark) (option_map NeedOf app)

-- why a report lists a place, where it does
abbrev pub why_at : List (ℕ × Why) → ℕ → Option Why
why_at report place = option_map (λ row. row.1) (find (λ row. row.0 == place) report)

-- the digest of the outputs that a mark says
abbrev pub marked_digest : Option MarkView → Option (List ℕ)
marked_digest mark = option_map (λ m. listing_digest m.outputs) mark

-- what stands for a place: the digest of its marked outputs, and none where the report lists it
abbrev pub standing_digest : List (ℕ × Why) → List (Option MarkView) → ℕ → Option (List ℕ)
standing_digest report marks place = if is_some (why_at report place) then None else option_and_then marked_digest (slice_get marks place)

-- each job that would be compiled again, with the first reason, in their order
pub record IsStaleReport (jobs : List Job) (marks : List (Option MarkView)) (report : List (ℕ × Why)) : Type 0 where
  pub in_order : AllPairs (λ one other. one.0 < other.0) report
  pub within : (place : ℕ) → length jobs ≤ place → why_at report place ≡ None
  pub each : (place : ℕ) (job : Job) (mark : Option MarkView) → slice_get jobs place ≡ Some job → slice_get marks place ≡ Some mark
      → IsWhy (map (standing_digest report marks) job.needs) job mark (why_at report place)

-- the digest at a place of a list of such, where there is one
abbrev pub digest_at : List (Option (List ℕ)) → ℕ → Option (List ℕ)
digest_at digests place = option_and_then (λ digest. digest) (slice_get digests place)

-- the report with the place, where there is a reason
abbrev pub with_reason : List (ℕ × Why) → ℕ → Option Why → List (ℕ × Why)
with_reason report place None = report
with_reason report place (Some why) = report ++ (place, why) ∷ []
