-- How many bytes kind and body of a frame have.
use Rattle.std.proofs.Common.{◌≡◌, ℕ, ◌+◌, List, [], ◌∷◌, ◌++◌, length, map, sum, refl, sym, ap, ◌∙◌, arith}
use Rattle.std.specs.Prelude.{flat_map}
use Rattle.std.proofs.lemmas.List.Sums.{sum-map, sum_by-cons}
use Rattle.mx_base.specs.declared.variable.Variable.{Variable}
use Rattle.compile_model.specs.declared.how.How.{How}
use Rattle.compile_model.specs.declared.how.How.TheVariants.{Nothing, Unit as ByUnit, Program}
use Rattle.compile_model.specs.Planned.{sent, sent_variable, words_of}
use Rattle.partition_frames.specs.declared.frame.Frame.{Frame}
use Rattle.partition_frames.specs.declared.frame.Frame.TheVariants.{Hello, Job, Verdict, Bye}
use Rattle.partition_frames.specs.Field.{together}
use Rattle.partition_frames.specs.Frame.{fields_of, head_fields, how_fields, list_fields, number, number_field, payload_of, place_fields, text_field, variable_fields, work_fields}
use Rattle.partition_frames.specs.Sizes.{size_of}
use Rattle.partition_frames.proofs.Sizes.{both_long, text_long}

pub sum_more : {A : Type 0} (size : A → ℕ) (v : A) (values : List A) → sum (map size (v ∷ values)) ≡ size v + sum (map size values)
sum_more size v values =
    sum-map size (v ∷ values) ∙ sum_by-cons size v values ∙ ap (λ n. size v + n) (sym (sum-map size values))

number_long : (n : ℕ) → length (together (number_field n)) ≡ 4
number_long n = omega (arith, both_long (number_field n) [])

each_long : {A : Type 0} (fields : A → List (List ℕ)) (size : A → ℕ) → ((a : A) → length (together (fields a)) ≡ size a) → (values : List A)
    → length (together (flat_map fields values)) ≡ sum (map size values)
each_long fields size each [] = refl
each_long fields size each (v ∷ values) =
    omega (
      arith,
      each v,
      each_long fields size each values,
      both_long (fields v) (flat_map fields values),
      sum_more size v values,
    )

list_long : {A : Type 0} (fields : A → List (List ℕ)) (size : A → ℕ) → ((a : A) → length (together (fields a)) ≡ size a) → (values : List A)
    → length (together (list_fields fields values)) ≡ 4 + sum (map size values)
list_long fields size each values =
    omega (arith, both_long (number_field (length values)) (flat_map fields values), number_long (length values), each_long fields size each values)

sent_long : (text : List ℕ) → length (together (text_field text)) ≡ sent text
sent_long text = omega (arith, text_long text)

variable_long : (variable : Variable) → length (together (variable_fields variable)) ≡ sent_variable variable
variable_long variable =
    omega (arith, sent_long variable.name, sent_long variable.value, both_long (text_field variable.name) (text_field variable.value))

how_long : (how : How) → length (together (how_fields how)) ≡ 5 + sum (map sent (words_of how))
how_long Nothing = omega (arith, both_long ((0 ∷ []) ∷ []) (list_fields text_field []), list_long text_field sent sent_long [])
how_long ByUnit = omega (arith, both_long ((1 ∷ []) ∷ []) (list_fields text_field []), list_long text_field sent sent_long [])
how_long (Program words) = omega (arith, both_long ((2 ∷ []) ∷ []) (list_fields text_field words), list_long text_field sent sent_long words)

head_long : (n : ℕ) (env app : List ℕ) → length (together (head_fields n env app)) ≡ 4 + (sent env + sent app)
head_long n env app =
    omega (
      arith,
      both_long (number_field n) (text_field env ++ text_field app),
      both_long (text_field env) (text_field app),
      number_long n,
      sent_long env,
      sent_long app,
    )

work_long : (options : List ℕ) (how : How) (system_env : List Variable)
    → length (together (work_fields options how system_env)) ≡ sent options + (5 + sum (map sent (words_of how)) + (4 + sum (map sent_variable system_env)))
work_long options how system_env =
    omega (
      arith,
      both_long (text_field options) (how_fields how ++ list_fields variable_fields system_env),
      both_long (how_fields how) (list_fields variable_fields system_env),
      sent_long options,
      how_long how,
      list_long variable_fields sent_variable variable_long system_env,
    )

place_long : (dir : List ℕ) (needs : List (List ℕ)) → length (together (place_fields dir needs)) ≡ sent dir + (4 + sum (map sent needs))
place_long dir needs =
    omega (arith, both_long (text_field dir) (list_fields text_field needs), sent_long dir, list_long text_field sent sent_long needs)

pub size_is : (frame : Frame) → length (payload_of frame) ≡ size_of frame
size_is (Hello cookie index) = omega (arith, both_long (text_field cookie) (number_field index), sent_long cookie, number_long index)
size_is (Job n env app options how system_env dir needs) =
    omega (
      arith,
      both_long (head_fields n env app) (work_fields options how system_env ++ place_fields dir needs),
      both_long (work_fields options how system_env) (place_fields dir needs),
      head_long n env app,
      work_long options how system_env,
      place_long dir needs,
    )
size_is (Verdict n status text) =
    omega (
      arith,
      both_long (number_field n) (number_field status ++ text_field text),
      both_long (number_field status) (text_field text),
      number_long n,
      number_long status,
      sent_long text,
    )
size_is Bye = refl
