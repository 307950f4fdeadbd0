-- Rows and needs in turn make a mark.
use Rattle.std.proofs.Common.{◌≡◌, ℕ, suc, zero, ◌<◌, Bool, true, false, List, [], ◌∷◌, ◌++◌, length, map, drop, get_or, ◌+◌, refl, sym, ◌∙◌, ap, subst, arith}
use Rattle.std.specs.List.{All, AllByRecursion}
use Rattle.std.specs.declared.cmp.Ordering.TheVariants.{Less}
use Rattle.std.proofs.Math.Seq.{drop-length}
use Rattle.std.proofs.lemmas.List.{drop_more, length-map}
use Rattle.std.proofs.lemmas.List.Elements.{All-head, All-tail}
use Rattle.sha2.specs.Sha256.{sha256}
use Rattle.reading.specs.Field.{FitInTurn}
use Rattle.mx_base.specs.AppName.{IsAppName}
use Rattle.mx_base.specs.Digest.{IsDigest}
use Rattle.mx_base.specs.Listing.{AreRows, IsRow, row_paths}
use Rattle.mx_base.specs.Order.{text_cmp, IsBefore, ArePathsInOrder}
use Rattle.mx_base.specs.declared.row.FileRow.{FileRow}
use Rattle.compile_model.specs.declared.outcome.Outcome.{Outcome}
use Rattle.build_manifest.specs.Description.{need_digests}
use Rattle.build_manifest.specs.Diagnostics.{diagnostics_of, lines_of, text_about}
use Rattle.build_manifest.specs.Mark.{IsMarkRow, LeadFits, Line, LineFits, Need, NeedFits, diagnosed, plain}
use Rattle.build_manifest.specs.MarkOf.{AppsDiffer}

-- ---- values in turn

-- each value stands in the relation to each of these that come before
abbrev pub AllBefore : {A : Type 0} → (A → A → Type 0) → List A → List A → Type 0
AllBefore R before values = AllByRecursion (λ value. AllByRecursion (λ earlier. R earlier value) before) values

-- each value stands in the relation to each that comes after
abbrev pub InTurn : {A : Type 0} → (A → A → Type 0) → List A → Type 0
InTurn R [] = Unit {0}
InTurn R (value ∷ values) = AllByRecursion (λ later. R value later) values × InTurn R values

one_more : {A : Type 0} (P : A → Type 0) (done : List A) (value : A) → AllByRecursion P done → P value → AllByRecursion P (done ++ value ∷ [])
one_more P [] value all p = (p, tt)
one_more P (d ∷ done) value all p = (all.0, one_more P done value all.1 p)

all_before_more : {A : Type 0} (R : A → A → Type 0) (before : List A) (value : A) (values : List A) → AllBefore R before values
    → AllByRecursion (λ later. R value later) values → AllBefore R (before ++ value ∷ []) values
all_before_more R before value [] all after = tt
all_before_more R before value (v ∷ vs) all after =
    (one_more (λ earlier. R earlier v) before value all.0 after.0, all_before_more R before value vs all.1 after.1)

fit_after : {A : Type 0} (R : A → A → Type 0) (Fits : List A → A → Type 0) (Sound : A → Type 0)
    → ((before : List A) (value : A) → Sound value → AllByRecursion (λ earlier. R earlier value) before → Fits before value)
    → (before values : List A) → AllBefore R before values → InTurn R values → AllByRecursion Sound values → FitInTurn Fits before values
fit_after R Fits Sound fits before [] all turn sound = tt
fit_after R Fits Sound fits before (v ∷ vs) all turn sound =
    (fits before v sound.0 all.0, fit_after R Fits Sound fits (before ++ v ∷ []) vs (all_before_more R before v vs all.1 turn.0) turn.1 sound.1)

all_before_none : {A : Type 0} (R : A → A → Type 0) (values : List A) → AllBefore R [] values
all_before_none R [] = tt
all_before_none R (v ∷ vs) = (tt, all_before_none R vs)

-- values in turn, of which each is sound by itself, fit
fit_in_turn : {A : Type 0} (R : A → A → Type 0) (Fits : List A → A → Type 0) (Sound : A → Type 0)
    → ((before : List A) (value : A) → Sound value → AllByRecursion (λ earlier. R earlier value) before → Fits before value)
    → (values : List A) → InTurn R values → AllByRecursion Sound values → FitInTurn Fits [] values
fit_in_turn R Fits Sound fits values turn sound = fit_after R Fits Sound fits [] values (all_before_none R values) turn sound

-- ---- rows

abbrev Rises : Line → Line → Type 0
Rises earlier later = text_cmp earlier.1.path later.1.path ≡ Less

abbrev LineSound : Bool → Line → Type 0
LineSound leads line = LeadFits leads line.0 × IsMarkRow line.1

abbrev row_in : Line → FileRow
row_in line = line.1

line_fits : (leads : Bool) (before : List Line) (line : Line) → LineSound leads line → AllByRecursion (λ earlier. Rises earlier line) before
    → LineFits leads before line
line_fits leads before line sound order = record { lead = sound.0; row = sound.1; order = order }

mark_row : (row : FileRow) → IsRow row → IsMarkRow row
mark_row row is = record { path = is.path; utf8 = is.utf8; length = is.length; digest = is.digest }

rises_from : (line : Line) (lines : List Line) → IsBefore line.1.path (row_paths (map row_in lines)) → AllByRecursion (λ later. Rises line later) lines
rises_from line [] before = tt
rises_from line (l ∷ lines) before = (before.0, rises_from line lines before.1)

lines_rise : (lines : List Line) → ArePathsInOrder (row_paths (map row_in lines)) → InTurn Rises lines
lines_rise [] order = tt
lines_rise (l ∷ lines) order = (rises_from l lines order.0, lines_rise lines order.1)

pub rows_in_plain : (rows : List FileRow) → map row_in (plain rows) ≡ rows
rows_in_plain [] = refl
rows_in_plain (r ∷ rows) = ap (λ (rs : List FileRow). r ∷ rs) (rows_in_plain rows)

pub rows_in_diagnosed : (digests : List (List ℕ)) (rows : List FileRow) → length digests ≡ length rows → map row_in (diagnosed digests rows) ≡ rows
rows_in_diagnosed [] [] long = refl
rows_in_diagnosed [] (r ∷ rows) long = absurd (omega (arith, long))
rows_in_diagnosed (d ∷ digests) [] long = absurd (omega (arith, long))
rows_in_diagnosed (d ∷ digests) (r ∷ rows) long = ap (λ (rs : List FileRow). r ∷ rs) (rows_in_diagnosed digests rows (omega (arith, long)))

plain_sound : (rows : List FileRow) → All IsRow rows → AllByRecursion (LineSound false) (plain rows)
plain_sound [] all = tt
plain_sound (r ∷ rows) all = ((tt, mark_row r (All-head IsRow r rows all)), plain_sound rows (All-tail IsRow r rows all))

diagnosed_sound : (digests : List (List ℕ)) (rows : List FileRow) → length digests ≡ length rows → All IsDigest digests → All IsRow rows
    → AllByRecursion (LineSound true) (diagnosed digests rows)
diagnosed_sound [] [] long are all = tt
diagnosed_sound [] (r ∷ rows) long are all = absurd (omega (arith, long))
diagnosed_sound (d ∷ digests) [] long are all = absurd (omega (arith, long))
diagnosed_sound (d ∷ digests) (r ∷ rows) long are all = (
  (All-head IsDigest d digests are, mark_row r (All-head IsRow r rows all)),
  diagnosed_sound digests rows (omega (arith, long)) (All-tail IsDigest d digests are) (All-tail IsRow r rows all),
)

-- the rows of a listing fit
pub plain_fit : (rows : List FileRow) → AreRows rows → FitInTurn (LineFits false) [] (plain rows)
plain_fit rows are =
    fit_in_turn Rises (LineFits false) (LineSound false) (line_fits false) (plain rows)
    (lines_rise (plain rows) (subst (λ (rs : List FileRow). ArePathsInOrder (row_paths rs)) (sym (rows_in_plain rows)) are.in_order))
    (plain_sound rows are.each)

-- and so they do with a digest in front of each
pub diagnosed_fit : (digests : List (List ℕ)) (rows : List FileRow) → length digests ≡ length rows → All IsDigest digests → AreRows rows
    → FitInTurn (LineFits true) [] (diagnosed digests rows)
diagnosed_fit digests rows long each are =
    fit_in_turn Rises (LineFits true) (LineSound true) (line_fits true) (diagnosed digests rows)
    (lines_rise (diagnosed digests rows)
    (subst (λ (rs : List FileRow). ArePathsInOrder (row_paths rs)) (sym (rows_in_diagnosed digests rows long)) are.in_order))
    (diagnosed_sound digests rows long each are.each)

-- ---- needs

abbrev pub NeedSound : Need → Type 0
NeedSound need = IsDigest need.0 × IsAppName need.1

abbrev Differs : Need → Need → Type 0
Differs earlier later = earlier.1 ≡ later.1 → ⊥

need_fits : (before : List Need) (need : Need) → NeedSound need → AllByRecursion (λ earlier. Differs earlier need) before → NeedFits before need
need_fits before need sound apart = record { digest = sound.0; app = sound.1; differs = apart }

apart_tail : (app : List ℕ) (apps : List (List ℕ)) → AppsDiffer (app ∷ apps) → AppsDiffer apps
apart_tail app apps apart i j d before below = apart (suc i) (suc j) d (omega (arith, before)) (omega (arith, below))

apart_past : (app next : List ℕ) (apps : List (List ℕ)) → AppsDiffer (app ∷ next ∷ apps) → AppsDiffer (app ∷ apps)
apart_past app next apps apart zero zero d before below = absurd (omega (arith, before))
apart_past app next apps apart zero (suc j) d before below = apart zero (suc (suc j)) d (omega arith) (omega (arith, below))
apart_past app next apps apart (suc i) zero d before below = absurd (omega (arith, before))
apart_past app next apps apart (suc i) (suc j) d before below = apart (suc (suc i)) (suc (suc j)) d (omega (arith, before)) (omega (arith, below))

differs_from : (need : Need) (apps : List (List ℕ)) (outcomes : List Outcome) → AppsDiffer (need.1 ∷ apps)
    → AllByRecursion (λ later. Differs need later) (need_digests apps outcomes)
differs_from need [] outcomes apart = tt
differs_from need (app ∷ apps) [] apart = tt
differs_from need (app ∷ apps) (o ∷ outcomes) apart =
    (apart 0 1 app (omega arith) (omega arith), differs_from need apps outcomes (apart_past need.1 app apps apart))

needs_apart : (apps : List (List ℕ)) (outcomes : List Outcome) → AppsDiffer apps → InTurn Differs (need_digests apps outcomes)
needs_apart [] outcomes apart = tt
needs_apart (app ∷ apps) [] apart = tt
needs_apart (app ∷ apps) (o ∷ outcomes) apart =
    (differs_from (o.digest, app) apps outcomes apart, needs_apart apps outcomes (apart_tail app apps apart))

all_by_recursion : {A : Type 0} (P : A → Type 0) (values : List A) → All P values → AllByRecursion P values
all_by_recursion P [] all = tt
all_by_recursion P (v ∷ vs) all = (All-head P v vs all, all_by_recursion P vs (All-tail P v vs all))

-- the needs of different apps fit
pub needs_fit : (apps : List (List ℕ)) (outcomes : List Outcome) → AppsDiffer apps → All NeedSound (need_digests apps outcomes)
    → FitInTurn NeedFits [] (need_digests apps outcomes)
needs_fit apps outcomes apart sound =
    let needs = need_digests apps outcomes in
    fit_in_turn Differs NeedFits NeedSound need_fits needs (needs_apart apps outcomes apart) (all_by_recursion NeedSound needs sound)

-- one need more
pub need_pushed : (apps : List (List ℕ)) (outcomes : List Outcome) (at : ℕ) (app : List ℕ) (outcome : Outcome) → at < length apps → at < length outcomes
    → app ≡ get_or apps at app → outcome ≡ get_or outcomes at outcome
    → need_digests (drop at apps) (drop at outcomes) ≡ (outcome.digest, app) ∷ need_digests (drop (at + 1) apps) (drop (at + 1) outcomes)
need_pushed apps outcomes at app outcome below low is was =
    ap (λ (as' : List (List ℕ)). need_digests as' (drop at outcomes)) (drop_more apps at app below ∙ ap (λ (a : List ℕ). a ∷ drop (at + 1) apps) (sym is))
    ∙ ap (λ (os : List Outcome). need_digests (app ∷ drop (at + 1) apps) os) (drop_more outcomes at outcome low
    ∙ ap (λ (o : Outcome). o ∷ drop (at + 1) outcomes) (sym was))

pub no_need_left : (apps : List (List ℕ)) (outcomes : List Outcome) (at : ℕ) → at ≡ length apps → need_digests (drop at apps) (drop at outcomes) ≡ []
no_need_left apps outcomes at end =
    ap (λ (n : ℕ). need_digests (drop n apps) (drop at outcomes)) end ∙ ap (λ (as' : List (List ℕ)). need_digests as' (drop at outcomes)) (drop-length apps)

-- ---- diagnostics

pub as_many_digests : (sources : List FileRow) (text : List ℕ) (digests : List (List ℕ)) → digests ≡ diagnostics_of sources text
    → length digests ≡ length sources
as_many_digests sources text digests are = ap length are ∙ length-map sources (λ (row : FileRow). sha256 (text_about row.path (lines_of text)))
