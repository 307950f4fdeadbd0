-- A term as bytes, so that no term's bytes begin those of another one.
use Rattle.std.specs.Prelude.{ℕ, suc, List, [], ◌∷◌, ◌++◌, ℤ, pos, negsuc}
use Rattle.std.specs.Int.Digits.{digits_of}
use Rattle.term_values.specs.declared.term.Term.{Term}
use Rattle.term_values.specs.declared.term.Term.TheOpen.{Term-F}
use Rattle.term_values.specs.declared.term.Term.TheFolds.{fold-Term}
use Rattle.term_values.specs.Views.{Pair}

-- bytes, each after a 1
abbrev pub marked : List ℕ → List ℕ
marked [] = []
marked (byte ∷ bytes) = 1 ∷ byte ∷ marked bytes

-- the same, and then a 0
abbrev pub bytes_code : List ℕ → List ℕ
bytes_code bytes = marked bytes ++ 0 ∷ []

-- the sign, and the digits of the distance from 0 to the base 256
abbrev pub integer_code : ℤ → List ℕ
integer_code (pos n) = 0 ∷ bytes_code (digits_of 256 n)
integer_code (negsuc n) = 1 ∷ bytes_code (digits_of 256 (suc n))

-- the codes of parts, each after a 1, and then a 0
abbrev pub parts_code : List (List ℕ) → List ℕ
parts_code [] = 0 ∷ []
parts_code (part ∷ parts) = 1 ∷ part ++ parts_code parts

-- the same of keys and their values
abbrev pub pairs_code : List (List ℕ × List ℕ) → List ℕ
pairs_code [] = 0 ∷ []
pairs_code (pair ∷ pairs) = 1 ∷ pair.0 ++ pair.1 ++ pairs_code pairs

-- what kind of term it is, and what is in it, where the code of each part stands for it
abbrev pub code_step : Term-F (List ℕ) → List ℕ
code_step (Term-F.Atom name) = 0 ∷ bytes_code name
code_step (Term-F.Int n) = 1 ∷ integer_code n
code_step (Term-F.Str bytes) = 2 ∷ bytes_code bytes
code_step (Term-F.List parts) = 3 ∷ parts_code parts
code_step (Term-F.Tuple parts) = 4 ∷ parts_code parts
code_step (Term-F.Map pairs) = 5 ∷ pairs_code pairs

-- the code of a term
abbrev pub term_code : Term → List ℕ
term_code = fold-Term (List ℕ) code_step

abbrev pub pair_codes : Pair → List ℕ × List ℕ
pair_codes pair = (term_code pair.0, term_code pair.1)
