-- The options text of a job: all that its declaration says of how it is compiled, as a printed term.
use Rattle.std.specs.Prelude.{ℕ, Bool, true, false, List, [], ◌∷◌, ◌++◌, map, codes, bytes_eq, if◌then◌else◌}
use Rattle.term_values.specs.declared.term.Term.{Term}
use Rattle.term_values.specs.declared.term.Term.TheVariants.{Atom, Str, List as Elements, Tuple}
use Rattle.term_print.specs.Printed.{printed}
use Rattle.mx_base.specs.BuildName.{host}
use Rattle.mx_base.specs.declared.variable.Variable.{Variable}
use Rattle.compile_model.specs.declared.how.How.{How}
use Rattle.compile_model.specs.declared.how.How.TheVariants.{Nothing, Unit as ByUnit, Program}
use Rattle.dep_options.specs.declared.decl.Decl.{Decl}
use Rattle.dep_options.specs.declared.decl.CompileBy.{CompileBy}
use Rattle.dep_options.specs.declared.decl.CompileBy.TheVariants as by
use Rattle.dep_options.specs.declared.decl.Manager.{Manager}
use Rattle.dep_options.specs.declared.decl.Manager.TheVariants.{Mix, Rebar3, Make}

abbrev pub keyword : List ℕ → Term → Term
keyword name value = Tuple (Atom name ∷ value ∷ [])

abbrev pub truth : Bool → Term
truth true = Atom (codes "true")
truth false = Atom (codes "false")

abbrev pub manager_name : Manager → List ℕ
manager_name Mix = codes "mix"
manager_name Rebar3 = codes "rebar3"
manager_name Make = codes "make"

-- what the declaration says: a command, or whether it is compiled
abbrev pub compile_term : CompileBy → Term
compile_term by.Manager = truth true
compile_term (by.Command text) = Str text
compile_term by.Nothing = truth false

-- by what it is compiled
abbrev pub compiler_term : How → Term
compiler_term Nothing = Atom (codes "none")
compiler_term ByUnit = Atom (codes "unit")
compiler_term (Program words) = Elements (map (λ word. Str word) words)

abbrev pub variable_term : Variable → Term
variable_term variable = Tuple (Str variable.name ∷ Str variable.value ∷ [])

-- what the app is, and how it is compiled
abbrev pub names_terms : List ℕ → Decl → Manager → List Term
names_terms version decl manager =
    keyword (codes "app") (Atom decl.app)
    ∷ keyword (codes "version") (Str version)
    ∷ keyword (codes "env") (Atom decl.env)
    ∷ keyword (codes "manager") (Atom (manager_name manager))
    ∷ []

abbrev pub compiler_terms : Decl → How → List Term
compiler_terms decl how =
    keyword (codes "compile") (compile_term decl.compile)
    ∷ keyword (codes "compiler") (compiler_term how)
    ∷ keyword (codes "app_file") (truth decl.app_file)
    ∷ keyword (codes "system_env") (Elements (map variable_term decl.system_env))
    ∷ []

-- for what target, unless it is for the machine at hand
abbrev pub target_terms : List ℕ → List Term
target_terms target = if bytes_eq target host then [] else keyword (codes "target") (Atom target) ∷ []

abbrev pub options_term : List ℕ → Decl → Manager → How → List ℕ → Term
options_term version decl manager how target =
    Elements (names_terms version decl manager ++ compiler_terms decl how ++ target_terms target)

abbrev pub options_text : List ℕ → Decl → Manager → How → List ℕ → List ℕ
options_text version decl manager how target = printed (options_term version decl manager how target)
