-- What a small frame has is small.
use Rattle.std.proofs.Common.{◌≡◌, ℕ, ◌+◌, ◌<◌, ◌≤◌, List, [], ◌∷◌, ◌++◌, length, ap, ◌∙◌, arith, length-append}
use Rattle.std.specs.Prelude.{flat_map}
use Rattle.std.specs.List.{AllByRecursion}
use Rattle.mx_base.specs.declared.variable.Variable.{Variable}
use Rattle.compile_model.specs.declared.how.How.{How}
use Rattle.compile_model.specs.declared.how.How.TheVariants.{Nothing, Unit as ByUnit, Program}
use Rattle.partition_frames.specs.declared.frame.Frame.TheVariants.{Hello, Job, Verdict}
use Rattle.partition_frames.specs.Field.{together}
use Rattle.partition_frames.specs.Frame.{IsHow, IsList, IsNumber, IsSmall, IsText, IsVariable, IsWork, head_fields, how_fields, list_fields, most, number, number_field, place_fields, text_field, variable_fields, work_fields}
use Rattle.partition_frames.proofs.Lacking.{together_append}

abbrev IsShort : List (List ℕ) → Type 0
IsShort fields = length (together fields) ≤ most

pub both_long : (a b : List (List ℕ)) → length (together (a ++ b)) ≡ length (together a) + length (together b)
both_long a b = ap length (together_append a b) ∙ length-append (together a) (together b)

left_short : (a b : List (List ℕ)) → IsShort (a ++ b) → IsShort a
left_short a b small = omega (arith, small, both_long a b)

right_short : (a b : List (List ℕ)) → IsShort (a ++ b) → IsShort b
right_short a b small = omega (arith, small, both_long a b)

pub text_long : (text : List ℕ) → length (together (text_field text)) ≡ 4 + length text
text_long text = length-append (number (length text) ++ text) [] ∙ omega (arith, length-append (number (length text)) text)

text_short : (text : List ℕ) → IsShort (text_field text) → IsText text
text_short text small = omega (arith, small, text_long text)

-- ---- lists

as_many : {A : Type 0} (fields : A → List (List ℕ)) → ((a : A) → 0 < length (together (fields a))) → (values : List A)
    → length values ≤ length (together (flat_map fields values))
as_many fields some [] = omega arith
as_many fields some (v ∷ values) = omega (arith, some v, as_many fields some values, both_long (fields v) (flat_map fields values))

each_short : {A : Type 0} (fields : A → List (List ℕ)) (Fits : A → Type 0) → ((a : A) → IsShort (fields a) → Fits a) → (values : List A)
    → IsShort (flat_map fields values) → AllByRecursion Fits values
each_short fields Fits each [] small = tt
each_short fields Fits each (v ∷ values) small = (
  each v (left_short (fields v) (flat_map fields values) small),
  each_short fields Fits each values (right_short (fields v) (flat_map fields values) small),
)

count_short : {A : Type 0} (fields : A → List (List ℕ)) → ((a : A) → 0 < length (together (fields a))) → (values : List A)
    → IsShort (list_fields fields values) → IsNumber (length values)
count_short fields some values small =
    let inside = right_short (number_field (length values)) (flat_map fields values) small in
    omega (arith, inside, as_many fields some values)

list_short : {A : Type 0} (fields : A → List (List ℕ)) (Fits : A → Type 0) → ((a : A) → 0 < length (together (fields a)))
    → ((a : A) → IsShort (fields a) → Fits a) → (values : List A) → IsShort (list_fields fields values) → IsList Fits values
list_short fields Fits some each values small =
    (count_short fields some values small, each_short fields Fits each values (right_short (number_field (length values)) (flat_map fields values) small))

some_text : (text : List ℕ) → 0 < length (together (text_field text))
some_text text = omega (arith, text_long text)

some_variable : (variable : Variable) → 0 < length (together (variable_fields variable))
some_variable variable = omega (arith, some_text variable.name, both_long (text_field variable.name) (text_field variable.value))

variable_short : (variable : Variable) → IsShort (variable_fields variable) → IsVariable variable
variable_short variable small = (
  text_short variable.name (left_short (text_field variable.name) (text_field variable.value) small),
  text_short variable.value (right_short (text_field variable.name) (text_field variable.value) small),
)

-- ---- how a job is compiled

no_words : IsList IsText []
no_words = (omega arith, tt)

how_short : (how : How) → IsShort (how_fields how) → IsHow how
how_short Nothing small = no_words
how_short ByUnit small = no_words
how_short (Program words) small =
    list_short text_field IsText some_text text_short words (right_short ((2 ∷ []) ∷ []) (list_fields text_field words) small)

work_short : (options : List ℕ) (how : How) (system_env : List Variable) → IsShort (work_fields options how system_env) → IsWork options how system_env
work_short options how system_env small =
    let behind = right_short (text_field options) (how_fields how ++ list_fields variable_fields system_env) small in (
      text_short options (left_short (text_field options) (how_fields how ++ list_fields variable_fields system_env) small),
      (
        how_short how (left_short (how_fields how) (list_fields variable_fields system_env) behind),
        list_short variable_fields IsVariable some_variable variable_short system_env
            (right_short (how_fields how) (list_fields variable_fields system_env) behind),
      ),
    )

-- ---- frames

-- what stands behind the kind
body_short : (kind : ℕ) (fields : List (List ℕ)) → length (kind ∷ together fields) ≤ most → IsShort fields
body_short kind fields small = omega (arith, small)

pub hello_short : (cookie : List ℕ) (index : ℕ) → IsSmall (Hello cookie index) → IsText cookie
hello_short cookie index small =
    text_short cookie (left_short (text_field cookie) (number_field index) (body_short 1 (text_field cookie ++ number_field index) small))

pub verdict_short : (n status : ℕ) (text : List ℕ) → IsSmall (Verdict n status text) → IsText text
verdict_short n status text small =
    text_short text (right_short (number_field status) (text_field text)
    (right_short (number_field n) (number_field status ++ text_field text)
    (body_short 3 (number_field n ++ (number_field status ++ text_field text)) small)))

module _ (n : ℕ) (env app options : List ℕ) (how : How) (system_env : List Variable) (dir : List ℕ) (needs : List (List ℕ)) where
  behind_head : IsSmall (Job n env app options how system_env dir needs) → IsShort (work_fields options how system_env ++ place_fields dir needs)
  behind_head small =
      right_short (head_fields n env app) (work_fields options how system_env ++ place_fields dir needs)
      (body_short 2 (head_fields n env app ++ (work_fields options how system_env ++ place_fields dir needs)) small)

  pub job_work_short : IsSmall (Job n env app options how system_env dir needs) → IsWork options how system_env
  job_work_short small =
      work_short options how system_env (left_short (work_fields options how system_env) (place_fields dir needs) (behind_head small))

  place_short : IsSmall (Job n env app options how system_env dir needs) → IsShort (place_fields dir needs)
  place_short small = right_short (work_fields options how system_env) (place_fields dir needs) (behind_head small)

  pub job_dir_short : IsSmall (Job n env app options how system_env dir needs) → IsText dir
  job_dir_short small = text_short dir (left_short (text_field dir) (list_fields text_field needs) (place_short small))

  pub job_needs_few : IsSmall (Job n env app options how system_env dir needs) → IsNumber (length needs)
  job_needs_few small =
      count_short text_field some_text needs (right_short (text_field dir) (list_fields text_field needs) (place_short small))
