-- What a term is, seen from outside.
use Rattle.std.specs.Prelude.{ℕ, List, [], ◌∷◌, map, Option, Some, None, option_and_then}
use Rattle.std.specs.Borrow.{Bor}
use Rattle.term_values.specs.declared.term.Term.{Term, out-Term}
use Rattle.term_values.specs.declared.term.Term.TheOpen.{Term-F}

-- a key and its value
abbrev pub Pair : Type 0
Pair = Term × Term

-- one level of a term
abbrev Layer : Type 0
Layer = Term-F Term

-- the name of an atom, at the outermost level
abbrev atom_at : Layer → Option (List ℕ)
atom_at (Term-F.Atom name) = Some name
atom_at layer = None

-- the name of an atom
abbrev pub atom_of : Term → Option (List ℕ)
atom_of t = atom_at (out-Term t)

-- the bytes of a string, at the outermost level
abbrev string_at : Layer → Option (List ℕ)
string_at (Term-F.Str bytes) = Some bytes
string_at layer = None

-- the bytes of a string
abbrev pub string_of : Term → Option (List ℕ)
string_of t = string_at (out-Term t)

-- the items of a list, at the outermost level
abbrev list_at : Layer → Option (List Term)
list_at (Term-F.List items) = Some items
list_at layer = None

-- the items of a list
abbrev pub list_of : Term → Option (List Term)
list_of t = list_at (out-Term t)

-- the items of a tuple, at the outermost level
abbrev tuple_at : Layer → Option (List Term)
tuple_at (Term-F.Tuple items) = Some items
tuple_at layer = None

-- the items of a tuple
abbrev pub tuple_of : Term → Option (List Term)
tuple_of t = tuple_at (out-Term t)

-- the keys and values of a map, at the outermost level
abbrev map_at : Layer → Option (List Pair)
map_at (Term-F.Map pairs) = Some pairs
map_at layer = None

-- the keys and values of a map
abbrev pub map_of : Term → Option (List Pair)
map_of t = map_at (out-Term t)

-- the two, where there are two
abbrev pair_in : List Term → Option Pair
pair_in (key ∷ value ∷ []) = Some (key, value)
pair_in items = None

-- a tuple of two
abbrev pub pair_of : Term → Option Pair
pair_of t = option_and_then pair_in (tuple_of t)

-- each answer, where there are all of them
abbrev pub all_of : {A B : Type 0} → (A → Option B) → List A → Option (List B)
all_of f [] = Some []
all_of f (a ∷ more) = option_and_then (λ b. option_and_then (λ bs. Some (b ∷ bs)) (all_of f more)) (f a)

-- a name and its value
abbrev pub Named : Type 0
Named = List ℕ × Term

-- a key that is an atom, and its value
abbrev pub named_of : Pair → Option Named
named_of pair = option_and_then (λ name. Some (name, pair.1)) (atom_of pair.0)

-- a keyword: a tuple of an atom and a value
abbrev pub keyword_of : Term → Option Named
keyword_of t = option_and_then named_of (pair_of t)

-- a keyword list
abbrev pub keywords_of : Term → Option (List Named)
keywords_of t = option_and_then (all_of keyword_of) (list_of t)

-- a name and its value, behind references
abbrev pub Lent : Type 0
Lent = Bor (List ℕ) × Bor Term

-- the names and values that are referred to
abbrev pub named : List Lent → List Named
named entries = map (λ entry. (entry.0.now, entry.1.now)) entries
