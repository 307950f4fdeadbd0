-- The text of a lock.
use Rattle.std.specs.Prelude.{ℕ, Bool, true, false, List, [], ◌∷◌, ◌++◌, map, flat_map, codes}
use Rattle.std.specs.List.{AllByRecursion}
use Rattle.hex.specs.Hex.{encode_lower}
use Rattle.elixir_terms.specs.Within.{Within}
use Rattle.term_print.specs.Printable.{IsPrintable}
use Rattle.term_print.specs.Printed.{printed}
use Rattle.term_values.specs.declared.term.Term.{Term}
use Rattle.term_values.specs.declared.term.Term.TheVariants.{Atom, Str, List as Listed, Tuple, Map}
use Rattle.term_values.specs.Views.{Pair}
use Rattle.mix_lock.specs.declared.entry.Entry.{Entry}
use Rattle.mix_lock.specs.declared.entry.Entry.TheVariants.{Hex, Other}
use Rattle.mix_lock.specs.declared.entry.HexEntry.{HexEntry}
use Rattle.mix_lock.specs.declared.entry.LockDep.{LockDep}
use Rattle.mix_lock.specs.Lock.{AppEntry}

abbrev pub truth_term : Bool → Term
truth_term true = Atom (codes "true")
truth_term false = Atom (codes "false")

abbrev pub keyword : List ℕ → Term → Term
keyword name value = Tuple (Atom name ∷ value ∷ [])

-- `[hex: name, repo: "hexpm", optional: truth]`
abbrev pub options_term : LockDep → Term
options_term d =
    Listed (keyword (codes "hex") (Atom d.package) ∷ keyword (codes "repo") (Str (codes "hexpm"))
    ∷ keyword (codes "optional") (truth_term d.optional) ∷ [])

-- `{app, requirement, options}`
unfoldable pub dep_term : LockDep → Term
dep_term d = Tuple (Atom d.app ∷ Str d.requirement ∷ options_term d ∷ [])

-- bytes in hexadecimal digits
abbrev pub bytes_term : List ℕ → Term
bytes_term bytes = Str (encode_lower bytes)

-- the tag, and the release itself
abbrev pub release_terms : HexEntry → List Term
release_terms e = Atom (codes "hex") ∷ Atom e.name ∷ Str e.version ∷ bytes_term e.inner ∷ []

-- what follows the release
abbrev pub build_terms : HexEntry → List Term
build_terms e = Listed (map Atom e.managers) ∷ Listed (map dep_term e.deps) ∷ Str e.repo ∷ bytes_term e.outer ∷ []

-- `{:hex, name, version, inner, managers, deps, repo, outer}`
abbrev pub hex_term : HexEntry → Term
hex_term e = Tuple (release_terms e ++ build_terms e)

abbrev pub entry_term : Entry → Term
entry_term (Hex e) = hex_term e
entry_term (Other t) = t

-- an app in quotes as a keyword's key, behind two spaces
abbrev pub key_text : List ℕ → List ℕ
key_text app = 32 ∷ 32 ∷ 34 ∷ app ++ 34 ∷ 58 ∷ 32 ∷ []

-- the line of an app: the key, what stands for it, a comma and a newline
abbrev pub line_text : AppEntry → List ℕ
line_text entry = key_text entry.0 ++ printed (entry_term entry.1) ++ 44 ∷ 10 ∷ []

-- a line with the opening bracket, a line for each app, and a line with the closing bracket
abbrev pub written : List AppEntry → List ℕ
written entries = 37 ∷ 123 ∷ 10 ∷ flat_map line_text entries ++ 125 ∷ 10 ∷ []

-- the map that a lock is
abbrev pub pair_of : AppEntry → Pair
pair_of entry = (Atom entry.0, entry_term entry.1)

abbrev pub lock_term : List AppEntry → Term
lock_term entries = Map (map pair_of entries)

-- what was kept as a term is what its text spells: its atoms are UTF-8
abbrev pub IsEntryPrintable : Entry → Type 0
IsEntryPrintable (Hex e) = Unit {0}
IsEntryPrintable (Other t) = IsPrintable t

-- a lock whose text is within the limits of terms, and spells what was kept
pub record IsReadable (entries : List AppEntry) : Type 0 where
  pub within : Within (written entries) (lock_term entries)
  pub kept : AllByRecursion (λ entry. IsEntryPrintable entry.1) entries
