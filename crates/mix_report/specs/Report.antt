-- The report of a compile.
use Rattle.std.specs.Prelude.{ℕ, Bool, true, false, ◌==◌, List, [], ◌∷◌, ◌++◌, length, count_by, flat_map, codes}
use Rattle.std.specs.Fmt.{decimal}
use Rattle.std.specs.List.{slice_split}
use Rattle.compile_model.specs.declared.job.Job.{Job}
use Rattle.compile_model.specs.declared.outcome.Fate.{Fate}
use Rattle.compile_model.specs.declared.outcome.Fate.TheVariants.{Built, Failed, Skipped}
use Rattle.mix_report.specs.App.{app_at}

abbrev pub is_newline : ℕ → Bool
is_newline byte = byte == 10

abbrev pub without_last_empty : List (List ℕ) → List (List ℕ)
without_last_empty [] = []
without_last_empty ([] ∷ []) = []
without_last_empty ((b ∷ bs) ∷ []) = (b ∷ bs) ∷ []
without_last_empty (line ∷ next ∷ more) = line ∷ without_last_empty (next ∷ more)

-- the lines of a text: it is cut at each newline, and an empty last piece is dropped
abbrev pub lines_of : List ℕ → List (List ℕ)
lines_of text = without_last_empty (slice_split is_newline text)

abbrev pub shown_line : List ℕ → List ℕ
shown_line line = codes "  " ++ line ++ codes "\n"

-- each line of a text after two spaces
abbrev pub shown_text : List ℕ → List ℕ
shown_text text = flat_map shown_line (lines_of text)

-- the same byte by byte, of a text that begins a line or goes on in one
abbrev pub shown_after : Bool → List ℕ → List ℕ
shown_after true [] = []
shown_after false [] = 10 ∷ []
shown_after true (b ∷ bs) = 32 ∷ 32 ∷ b ∷ shown_after (is_newline b) bs
shown_after false (b ∷ bs) = b ∷ shown_after (is_newline b) bs

abbrev pub failed_text : ℕ → List ℕ → List ℕ
failed_text status text = codes " failed with status " ++ decimal status ++ codes "\n" ++ shown_text text

abbrev pub skipped_text : List Job → ℕ → List ℕ
skipped_text jobs need = codes " skipped, needs " ++ app_at jobs need ++ codes "\n"

-- what became of a job
abbrev pub fate_text : List Job → Fate → List ℕ
fate_text jobs (Built outcome) = codes " built\n" ++ shown_text outcome.text
fate_text jobs (Failed outcome) = failed_text outcome.status outcome.text
fate_text jobs (Skipped need) = skipped_text jobs need

abbrev pub job_text : List Job → Job → Fate → List ℕ
job_text jobs job fate = codes "==> " ++ job.app ++ codes " " ++ job.version ++ fate_text jobs fate

abbrev pub jobs_text : List Job → List Job → List Fate → List ℕ
jobs_text all [] fates = []
jobs_text all (job ∷ jobs) [] = []
jobs_text all (job ∷ jobs) (fate ∷ fates) = job_text all job fate ++ jobs_text all jobs fates

abbrev pub is_built : Fate → Bool
is_built (Built outcome) = true
is_built (Failed outcome) = false
is_built (Skipped need) = false

abbrev pub is_failed : Fate → Bool
is_failed (Built outcome) = false
is_failed (Failed outcome) = true
is_failed (Skipped need) = false

abbrev pub is_skipped : Fate → Bool
is_skipped (Built outcome) = false
is_skipped (Failed outcome) = false
is_skipped (Skipped need) = true

abbrev pub count_text : ℕ → List ℕ → List ℕ
count_text count label = decimal count ++ label

abbrev pub totals : List Job → List Fate → List ℕ
totals jobs fates =
    count_text (length jobs) (codes " dependencies: ") ++ count_text (count_by is_built fates) (codes " built, ")
    ++ count_text (count_by is_failed fates) (codes " failed, ") ++ count_text (count_by is_skipped fates) (codes " skipped\n")

-- one entry for each job in order, and last the totals
abbrev pub report : List Job → List Fate → List ℕ
report jobs fates = jobs_text jobs jobs fates ++ totals jobs fates
