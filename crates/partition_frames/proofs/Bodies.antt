-- The bodies of frames, field by field.
use Rattle.std.proofs.Common.{◌≡◌, ℕ, List, [], ◌∷◌, ◌++◌, refl, sym, ap, ◌∙◌, arith}
use Rattle.reading.specs.Field.{PairFits}
use Rattle.mx_base.specs.AppName.{IsAppName}
use Rattle.mx_base.specs.declared.variable.Variable.{Variable}
use Rattle.compile_model.specs.declared.how.How.{How}
use Rattle.compile_model.specs.declared.how.How.TheVariants.{Nothing}
use Rattle.partition_frames.specs.declared.frame.Frame.{Frame}
use Rattle.partition_frames.specs.declared.frame.Frame.TheVariants.{Hello, Job, Verdict, Bye}
use Rattle.partition_frames.specs.declared.job.Head.{Head}
use Rattle.partition_frames.specs.declared.job.Work.{Work}
use Rattle.partition_frames.specs.declared.job.Place.{Place}
use Rattle.partition_frames.specs.Field.{together}
use Rattle.partition_frames.specs.Frame.{IsFolder, IsHow, IsList, IsNumber, IsText, IsVariable, fields_of, how_fields, list_fields, number_field, text_field, variable_fields}
use Rattle.partition_frames.specs.Pieces.{IsHeadOf, IsPlaceOf, IsWorkOf, LacksBefore, head_of, place_of, work_of}
use Rattle.partition_frames.specs.Reading.{IsOfKind}
use Rattle.partition_frames.proofs.Before.{before_first, before_otherwise, before_second}
use Rattle.partition_frames.proofs.Counted.{how_tells, list_tells, variable_tells}
use Rattle.partition_frames.proofs.Folders.{some_folder}
use Rattle.partition_frames.proofs.Lacking.{Tells, both_tell, pair_fields, tells_otherwise}
use Rattle.partition_frames.proofs.Singles.{folder_field_tells, name_field_tells, number_field_tells, some_name, text_field_tells}

-- ---- two and three pieces, one behind the other

-- the third is lacking
after_two : {A B C : Type 0} (a : A → List (List ℕ)) (FitsA : A → Type 0) (b : B → List (List ℕ)) (FitsB : B → Type 0) (c : C → List (List ℕ)) (FitsC : C → Type 0)
    → Tells a FitsA → Tells b FitsB → (x : A) → FitsA x → (y : B) → FitsB y → (text rest more : List ℕ) (left : ℕ) → text ≡ together (a x) ++ rest
    → rest ≡ together (b y) ++ more → LacksBefore c FitsC more left
    → LacksBefore (pair_fields a (λ _. pair_fields b (λ _. c))) (PairFits FitsA (λ _. PairFits FitsB (λ _. FitsC))) text left
after_two a FitsA b FitsB c FitsC tells_a tells_b x fx y fy text rest more left cut next l =
    before_second a FitsA (λ _. pair_fields b (λ _. c)) (λ _. PairFits FitsB (λ _. FitsC)) tells_a x fx text rest left cut
    (before_second b FitsB (λ _. c) (λ _. FitsC) tells_b y fy rest more left next l)

-- the second is
after_one : {A B C : Type 0} (a : A → List (List ℕ)) (FitsA : A → Type 0) (b : B → List (List ℕ)) (FitsB : B → Type 0) (c : C → List (List ℕ)) (FitsC : C → Type 0)
    → Tells a FitsA → (some : C) → FitsC some → (x : A) → FitsA x → (text rest : List ℕ) (left : ℕ) → text ≡ together (a x) ++ rest
    → LacksBefore b FitsB rest left
    → LacksBefore (pair_fields a (λ _. pair_fields b (λ _. c))) (PairFits FitsA (λ _. PairFits FitsB (λ _. FitsC))) text left
after_one a FitsA b FitsB c FitsC tells_a some some_fits x fx text rest left cut l =
    before_second a FitsA (λ _. pair_fields b (λ _. c)) (λ _. PairFits FitsB (λ _. FitsC)) tells_a x fx text rest left cut
    (before_first b FitsB (λ _. c) (λ _. FitsC) (λ _ _. (some, some_fits)) rest left l)

-- the first is
at_first : {A B C : Type 0} (a : A → List (List ℕ)) (FitsA : A → Type 0) (b : B → List (List ℕ)) (FitsB : B → Type 0) (c : C → List (List ℕ)) (FitsC : C → Type 0)
    → (one : B) → FitsB one → (some : C) → FitsC some → (text : List ℕ) (left : ℕ) → LacksBefore a FitsA text left
    → LacksBefore (pair_fields a (λ _. pair_fields b (λ _. c))) (PairFits FitsA (λ _. PairFits FitsB (λ _. FitsC))) text left
at_first a FitsA b FitsB c FitsC one one_fits some some_fits text left l =
    before_first a FitsA (λ _. pair_fields b (λ _. c)) (λ _. PairFits FitsB (λ _. FitsC)) (λ _ _. ((one, some), (one_fits, some_fits))) text left l

-- ---- which job is meant

abbrev Heads : Type 0
Heads = ℕ × (List ℕ × List ℕ)

abbrev head_pair : Head → Heads
head_pair head = (head.number, (head.env, head.app))

abbrev head_by : Heads → Head
head_by p = record { number = p.0; env = p.1.0; app = p.1.1 }

abbrev heads_text : Heads → List (List ℕ)
heads_text = pair_fields number_field (λ _. pair_fields text_field (λ _. text_field))

abbrev HeadsFit : Heads → Type 0
HeadsFit = PairFits IsNumber (λ _. PairFits IsAppName (λ _. IsAppName))

head_as : (text : List ℕ) (left : ℕ) → LacksBefore heads_text HeadsFit text left → LacksBefore head_of IsHeadOf text left
head_as text left l =
    before_otherwise heads_text HeadsFit head_of IsHeadOf head_by head_pair (λ p fits. (fits, refl)) (λ h fits. (fits, refl)) text left l

pub head_number_lacks : (text : List ℕ) (left : ℕ) → LacksBefore number_field IsNumber text left → LacksBefore head_of IsHeadOf text left
head_number_lacks text left l =
    head_as text left (at_first number_field IsNumber text_field IsAppName text_field IsAppName (97 ∷ []) some_name (97 ∷ []) some_name text left l)

pub head_env_lacks : (n : ℕ) (text rest : List ℕ) (left : ℕ) → IsNumber n → text ≡ together (number_field n) ++ rest
    → LacksBefore text_field IsAppName rest left → LacksBefore head_of IsHeadOf text left
head_env_lacks n text rest left is cut l =
    head_as text left
    (after_one number_field IsNumber text_field IsAppName text_field IsAppName number_field_tells (97 ∷ []) some_name n is text rest left cut l)

pub head_app_lacks : (n : ℕ) (env text rest more : List ℕ) (left : ℕ) → IsNumber n → IsAppName env → text ≡ together (number_field n) ++ rest
    → rest ≡ together (text_field env) ++ more → LacksBefore text_field IsAppName more left → LacksBefore head_of IsHeadOf text left
head_app_lacks n env text rest more left is env_is cut next l =
    head_as text left
    (after_two number_field IsNumber text_field IsAppName text_field IsAppName number_field_tells name_field_tells n is env env_is text rest more left
    cut next l)

pub head_tells : Tells head_of IsHeadOf
head_tells =
    tells_otherwise heads_text HeadsFit head_of IsHeadOf head_pair (λ h fits. (fits, refl)) (λ b c fb fc e. ap head_by e)
    (both_tell number_field IsNumber (λ _. pair_fields text_field (λ _. text_field)) (λ _. PairFits IsAppName (λ _. IsAppName)) number_field_tells
    (λ _ _. both_tell text_field IsAppName (λ _. text_field) (λ _. IsAppName) name_field_tells (λ _ _. name_field_tells)))

-- ---- how it is compiled

abbrev variables_text : List Variable → List (List ℕ)
variables_text = list_fields variable_fields

abbrev AreVariables : List Variable → Type 0
AreVariables = IsList IsVariable

variables_tell : Tells variables_text AreVariables
variables_tell = list_tells variable_fields IsVariable variable_tells 4294967296 (omega arith)

abbrev Works : Type 0
Works = List ℕ × (How × List Variable)

abbrev work_pair : Work → Works
work_pair work = (work.options, (work.how, work.system_env))

abbrev work_by : Works → Work
work_by p = record { options = p.0; how = p.1.0; system_env = p.1.1 }

abbrev works_text : Works → List (List ℕ)
works_text = pair_fields text_field (λ _. pair_fields how_fields (λ _. variables_text))

abbrev WorksFit : Works → Type 0
WorksFit = PairFits IsText (λ _. PairFits IsHow (λ _. AreVariables))

work_as : (text : List ℕ) (left : ℕ) → LacksBefore works_text WorksFit text left → LacksBefore work_of IsWorkOf text left
work_as text left l =
    before_otherwise works_text WorksFit work_of IsWorkOf work_by work_pair (λ p fits. (fits, refl)) (λ w fits. (fits, refl)) text left l

no_variables : AreVariables []
no_variables = (omega arith, tt)

nothing_is : IsHow Nothing
nothing_is = (omega arith, tt)

pub work_options_lack : (text : List ℕ) (left : ℕ) → LacksBefore text_field IsText text left → LacksBefore work_of IsWorkOf text left
work_options_lack text left l =
    work_as text left (at_first text_field IsText how_fields IsHow variables_text AreVariables Nothing nothing_is [] no_variables text left l)

pub work_how_lacks : (options text rest : List ℕ) (left : ℕ) → IsText options → text ≡ together (text_field options) ++ rest
    → LacksBefore how_fields IsHow rest left → LacksBefore work_of IsWorkOf text left
work_how_lacks options text rest left is cut l =
    work_as text left
    (after_one text_field IsText how_fields IsHow variables_text AreVariables text_field_tells [] no_variables options is text rest left cut l)

pub work_variables_lack : (options : List ℕ) (how : How) (text rest more : List ℕ) (left : ℕ) → IsText options → IsHow how
    → text ≡ together (text_field options) ++ rest → rest ≡ together (how_fields how) ++ more
    → LacksBefore (list_fields variable_fields) (IsList IsVariable) more left → LacksBefore work_of IsWorkOf text left
work_variables_lack options how text rest more left is how_is cut next l =
    work_as text left
    (after_two text_field IsText how_fields IsHow variables_text AreVariables text_field_tells how_tells options is how how_is text rest more left cut
    next l)

pub work_tells : Tells work_of IsWorkOf
work_tells =
    tells_otherwise works_text WorksFit work_of IsWorkOf work_pair (λ w fits. (fits, refl)) (λ b c fb fc e. ap work_by e)
    (both_tell text_field IsText (λ _. pair_fields how_fields (λ _. variables_text)) (λ _. PairFits IsHow (λ _. AreVariables)) text_field_tells
    (λ _ _. both_tell how_fields IsHow (λ _. variables_text) (λ _. AreVariables) how_tells (λ _ _. variables_tell)))

-- ---- where it lies

abbrev names_text : List (List ℕ) → List (List ℕ)
names_text = list_fields text_field

abbrev AreNames : List (List ℕ) → Type 0
AreNames = IsList IsAppName

names_tell : Tells names_text AreNames
names_tell = list_tells text_field IsAppName name_field_tells 4294967296 (omega arith)

no_names : AreNames []
no_names = (omega arith, tt)

abbrev Places : Type 0
Places = List ℕ × List (List ℕ)

abbrev place_pair : Place → Places
place_pair place = (place.dir, place.needs)

abbrev place_by : Places → Place
place_by p = record { dir = p.0; needs = p.1 }

abbrev places_text : Places → List (List ℕ)
places_text = pair_fields text_field (λ _. names_text)

abbrev PlacesFit : Places → Type 0
PlacesFit = PairFits IsFolder (λ _. AreNames)

place_as : (text : List ℕ) (left : ℕ) → LacksBefore places_text PlacesFit text left → LacksBefore place_of IsPlaceOf text left
place_as text left l =
    before_otherwise places_text PlacesFit place_of IsPlaceOf place_by place_pair (λ p fits. (fits, refl)) (λ h fits. (fits, refl)) text left l

pub place_dir_lacks : (text : List ℕ) (left : ℕ) → LacksBefore text_field IsFolder text left → LacksBefore place_of IsPlaceOf text left
place_dir_lacks text left l =
    place_as text left (before_first text_field IsFolder (λ _. names_text) (λ _. AreNames) (λ _ _. ([], no_names)) text left l)

pub place_needs_lack : (dir text rest : List ℕ) (left : ℕ) → IsFolder dir → text ≡ together (text_field dir) ++ rest
    → LacksBefore (list_fields text_field) (IsList IsAppName) rest left → LacksBefore place_of IsPlaceOf text left
place_needs_lack dir text rest left is cut l =
    place_as text left (before_second text_field IsFolder (λ _. names_text) (λ _. AreNames) folder_field_tells dir is text rest left cut l)

pub place_tells : Tells place_of IsPlaceOf
place_tells =
    tells_otherwise places_text PlacesFit place_of IsPlaceOf place_pair (λ h fits. (fits, refl)) (λ b c fb fc e. ap place_by e)
    (both_tell text_field IsFolder (λ _. names_text) (λ _. AreNames) folder_field_tells (λ _ _. names_tell))

-- ---- a job

abbrev Jobs : Type 0
Jobs = Head × (Work × Place)

abbrev jobs_text : Jobs → List (List ℕ)
jobs_text = pair_fields head_of (λ _. pair_fields work_of (λ _. place_of))

abbrev JobsFit : Jobs → Type 0
JobsFit = PairFits IsHeadOf (λ _. PairFits IsWorkOf (λ _. IsPlaceOf))

abbrev some_work : Work
some_work = record { options = []; how = Nothing; system_env = [] }

some_work_is : IsWorkOf some_work
some_work_is = (omega arith, (nothing_is, no_variables))

abbrev some_place : Place
some_place = record { dir = 97 ∷ []; needs = [] }

some_place_is : IsPlaceOf some_place
some_place_is = (some_folder, no_names)

abbrev job_by : Jobs → Frame
job_by p = Job p.0.number p.0.env p.0.app p.1.0.options p.1.0.how p.1.0.system_env p.1.1.dir p.1.1.needs

abbrev jobs_of : Frame → Jobs
jobs_of (Job n env app options how system_env dir needs) = (
  record { number = n; env = env; app = app },
  (record { options = options; how = how; system_env = system_env }, record { dir = dir; needs = needs }),
)
jobs_of frame = (record { number = 0; env = []; app = [] }, (some_work, some_place))

job_here : (frame : Frame) → IsOfKind 2 frame → JobsFit (jobs_of frame) × (jobs_text (jobs_of frame) ≡ fields_of frame)
job_here (Hello cookie index) is = absurd (omega (arith, is.0))
job_here (Job n env app options how system_env dir needs) is = (is.1, refl)
job_here (Verdict n status text) is = absurd (omega (arith, is.0))
job_here Bye is = absurd (omega (arith, is.0))

job_as : (text : List ℕ) (left : ℕ) → LacksBefore jobs_text JobsFit text left → LacksBefore fields_of (IsOfKind 2) text left
job_as text left l =
    before_otherwise jobs_text JobsFit fields_of (IsOfKind 2) job_by jobs_of (λ p fits. ((refl, fits), refl)) job_here text left l

pub job_head_lacks : (text : List ℕ) (left : ℕ) → LacksBefore head_of IsHeadOf text left → LacksBefore fields_of (IsOfKind 2) text left
job_head_lacks text left l =
    job_as text left (at_first head_of IsHeadOf work_of IsWorkOf place_of IsPlaceOf some_work some_work_is some_place some_place_is text left l)

pub job_work_lacks : (head : Head) (text rest : List ℕ) (left : ℕ) → IsHeadOf head → text ≡ together (head_of head) ++ rest
    → LacksBefore work_of IsWorkOf rest left → LacksBefore fields_of (IsOfKind 2) text left
job_work_lacks head text rest left is cut l =
    job_as text left
    (after_one head_of IsHeadOf work_of IsWorkOf place_of IsPlaceOf head_tells some_place some_place_is head is text rest left cut l)

pub job_place_lacks : (head : Head) (work : Work) (text rest more : List ℕ) (left : ℕ) → IsHeadOf head → IsWorkOf work
    → text ≡ together (head_of head) ++ rest → rest ≡ together (work_of work) ++ more
    → LacksBefore place_of IsPlaceOf more left → LacksBefore fields_of (IsOfKind 2) text left
job_place_lacks head work text rest more left is work_is cut next l =
    job_as text left
    (after_two head_of IsHeadOf work_of IsWorkOf place_of IsPlaceOf head_tells work_tells head is work work_is text rest more left cut next l)

job_again : (frame : Frame) → IsOfKind 2 frame → job_by (jobs_of frame) ≡ frame
job_again (Hello cookie index) is = absurd (omega (arith, is.0))
job_again (Job n env app options how system_env dir needs) is = refl
job_again (Verdict n status text) is = absurd (omega (arith, is.0))
job_again Bye is = absurd (omega (arith, is.0))

pub job_tells : Tells fields_of (IsOfKind 2)
job_tells =
    tells_otherwise jobs_text JobsFit fields_of (IsOfKind 2) jobs_of job_here
    (λ b c fb fc e. sym (job_again b fb) ∙ ap job_by e ∙ job_again c fc)
    (both_tell head_of IsHeadOf (λ _. pair_fields work_of (λ _. place_of)) (λ _. PairFits IsWorkOf (λ _. IsPlaceOf)) head_tells
    (λ _ _. both_tell work_of IsWorkOf (λ _. place_of) (λ _. IsPlaceOf) work_tells (λ _ _. place_tells)))

-- ---- a hello

abbrev Hellos : Type 0
Hellos = List ℕ × ℕ

abbrev hellos_text : Hellos → List (List ℕ)
hellos_text = pair_fields text_field (λ _. number_field)

abbrev HellosFit : Hellos → Type 0
HellosFit = PairFits IsText (λ _. IsNumber)

abbrev hello_by : Hellos → Frame
hello_by p = Hello p.0 p.1

abbrev hellos_of : Frame → Hellos
hellos_of (Hello cookie index) = (cookie, index)
hellos_of frame = ([], 0)

hello_here : (frame : Frame) → IsOfKind 1 frame → HellosFit (hellos_of frame) × (hellos_text (hellos_of frame) ≡ fields_of frame)
hello_here (Hello cookie index) is = (is.1, refl)
hello_here (Job n env app options how system_env dir needs) is = absurd (omega (arith, is.0))
hello_here (Verdict n status text) is = absurd (omega (arith, is.0))
hello_here Bye is = absurd (omega (arith, is.0))

hello_as : (text : List ℕ) (left : ℕ) → LacksBefore hellos_text HellosFit text left → LacksBefore fields_of (IsOfKind 1) text left
hello_as text left l =
    before_otherwise hellos_text HellosFit fields_of (IsOfKind 1) hello_by hellos_of (λ p fits. ((refl, fits), refl)) hello_here text left l

some_number : (n : ℕ) × IsNumber n
some_number = (0, omega arith)

pub hello_cookie_lacks : (text : List ℕ) (left : ℕ) → LacksBefore text_field IsText text left → LacksBefore fields_of (IsOfKind 1) text left
hello_cookie_lacks text left l =
    hello_as text left (before_first text_field IsText (λ _. number_field) (λ _. IsNumber) (λ _ _. some_number) text left l)

pub hello_index_lacks : (cookie text rest : List ℕ) (left : ℕ) → IsText cookie → text ≡ together (text_field cookie) ++ rest
    → LacksBefore number_field IsNumber rest left → LacksBefore fields_of (IsOfKind 1) text left
hello_index_lacks cookie text rest left is cut l =
    hello_as text left (before_second text_field IsText (λ _. number_field) (λ _. IsNumber) text_field_tells cookie is text rest left cut l)

hello_again : (frame : Frame) → IsOfKind 1 frame → hello_by (hellos_of frame) ≡ frame
hello_again (Hello cookie index) is = refl
hello_again (Job n env app options how system_env dir needs) is = absurd (omega (arith, is.0))
hello_again (Verdict n status text) is = absurd (omega (arith, is.0))
hello_again Bye is = absurd (omega (arith, is.0))

pub hello_tells : Tells fields_of (IsOfKind 1)
hello_tells =
    tells_otherwise hellos_text HellosFit fields_of (IsOfKind 1) hellos_of hello_here
    (λ b c fb fc e. sym (hello_again b fb) ∙ ap hello_by e ∙ hello_again c fc)
    (both_tell text_field IsText (λ _. number_field) (λ _. IsNumber) text_field_tells (λ _ _. number_field_tells))

-- ---- a verdict

abbrev Verdicts : Type 0
Verdicts = ℕ × (ℕ × List ℕ)

abbrev verdicts_text : Verdicts → List (List ℕ)
verdicts_text = pair_fields number_field (λ _. pair_fields number_field (λ _. text_field))

abbrev VerdictsFit : Verdicts → Type 0
VerdictsFit = PairFits IsNumber (λ _. PairFits IsNumber (λ _. IsText))

abbrev verdict_by : Verdicts → Frame
verdict_by p = Verdict p.0 p.1.0 p.1.1

abbrev verdicts_of : Frame → Verdicts
verdicts_of (Verdict n status text) = (n, (status, text))
verdicts_of frame = (0, (0, []))

verdict_here : (frame : Frame) → IsOfKind 3 frame → VerdictsFit (verdicts_of frame) × (verdicts_text (verdicts_of frame) ≡ fields_of frame)
verdict_here (Hello cookie index) is = absurd (omega (arith, is.0))
verdict_here (Job n env app options how system_env dir needs) is = absurd (omega (arith, is.0))
verdict_here (Verdict n status text) is = (is.1, refl)
verdict_here Bye is = absurd (omega (arith, is.0))

verdict_as : (text : List ℕ) (left : ℕ) → LacksBefore verdicts_text VerdictsFit text left → LacksBefore fields_of (IsOfKind 3) text left
verdict_as text left l =
    before_otherwise verdicts_text VerdictsFit fields_of (IsOfKind 3) verdict_by verdicts_of (λ p fits. ((refl, fits), refl)) verdict_here text left l

zero_is : IsNumber 0
zero_is = omega arith

none_is : IsText []
none_is = omega arith

pub verdict_number_lacks : (text : List ℕ) (left : ℕ) → LacksBefore number_field IsNumber text left → LacksBefore fields_of (IsOfKind 3) text left
verdict_number_lacks text left l =
    verdict_as text left (at_first number_field IsNumber number_field IsNumber text_field IsText 0 zero_is [] none_is text left l)

pub verdict_status_lacks : (n : ℕ) (text rest : List ℕ) (left : ℕ) → IsNumber n → text ≡ together (number_field n) ++ rest
    → LacksBefore number_field IsNumber rest left → LacksBefore fields_of (IsOfKind 3) text left
verdict_status_lacks n text rest left is cut l =
    verdict_as text left
    (after_one number_field IsNumber number_field IsNumber text_field IsText number_field_tells [] none_is n is text rest left cut l)

pub verdict_text_lacks : (n status : ℕ) (text rest more : List ℕ) (left : ℕ) → IsNumber n → IsNumber status
    → text ≡ together (number_field n) ++ rest → rest ≡ together (number_field status) ++ more
    → LacksBefore text_field IsText more left → LacksBefore fields_of (IsOfKind 3) text left
verdict_text_lacks n status text rest more left is status_is cut next l =
    verdict_as text left
    (after_two number_field IsNumber number_field IsNumber text_field IsText number_field_tells number_field_tells n is status status_is text rest more
    left cut next l)

verdict_again : (frame : Frame) → IsOfKind 3 frame → verdict_by (verdicts_of frame) ≡ frame
verdict_again (Hello cookie index) is = absurd (omega (arith, is.0))
verdict_again (Job n env app options how system_env dir needs) is = absurd (omega (arith, is.0))
verdict_again (Verdict n status text) is = refl
verdict_again Bye is = absurd (omega (arith, is.0))

pub verdict_tells : Tells fields_of (IsOfKind 3)
verdict_tells =
    tells_otherwise verdicts_text VerdictsFit fields_of (IsOfKind 3) verdicts_of verdict_here
    (λ b c fb fc e. sym (verdict_again b fb) ∙ ap verdict_by e ∙ verdict_again c fc)
    (both_tell number_field IsNumber (λ _. pair_fields number_field (λ _. text_field)) (λ _. PairFits IsNumber (λ _. IsText)) number_field_tells
    (λ _ _. both_tell number_field IsNumber (λ _. text_field) (λ _. IsText) number_field_tells (λ _ _. text_field_tells)))

-- ---- the end

both_bye : (a b : Frame) → IsOfKind 4 a → IsOfKind 4 b → a ≡ b
both_bye Bye Bye fa fb = refl
both_bye (Hello cookie index) b fa fb = absurd (omega (arith, fa.0))
both_bye (Job n env app options how system_env dir needs) b fa fb = absurd (omega (arith, fa.0))
both_bye (Verdict n status text) b fa fb = absurd (omega (arith, fa.0))
both_bye a (Hello cookie index) fa fb = absurd (omega (arith, fb.0))
both_bye a (Job n env app options how system_env dir needs) fa fb = absurd (omega (arith, fb.0))
both_bye a (Verdict n status text) fa fb = absurd (omega (arith, fb.0))

pub bye_tells : Tells fields_of (IsOfKind 4)
bye_tells a b x y fa fb e = both_bye a b fa fb
