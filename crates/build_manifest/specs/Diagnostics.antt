-- What a compiler's text says of each source.
use Rattle.std.specs.Prelude.{ℕ, ◌==◌, Bool, cond, List, [], ◌∷◌, ◌++◌, map, flat_map, nat_eq}
use Rattle.std.specs.List.{starts_with}
use Rattle.sha2.specs.Sha256.{sha256}
use Rattle.mx_base.specs.declared.row.FileRow.{FileRow}

-- a byte in front of the first line
abbrev pub onto_line : ℕ → List (List ℕ) → List (List ℕ)
onto_line byte [] = (byte ∷ []) ∷ []
onto_line byte (line ∷ lines) = (byte ∷ line) ∷ lines

-- the lines of a text, each with its newline, which the last may lack
abbrev pub lines_of : List ℕ → List (List ℕ)
lines_of [] = []
lines_of (byte ∷ bytes) = cond (byte == 10) ((byte ∷ []) ∷ lines_of bytes) (onto_line byte (lines_of bytes))

-- the line begins with the path and a colon
abbrev pub is_about : List ℕ → List ℕ → Bool
is_about path line = starts_with nat_eq line (path ++ 58 ∷ [])

-- the lines about a path, one after another
abbrev pub text_about : List ℕ → List (List ℕ) → List ℕ
text_about path lines = flat_map (λ line. cond (is_about path line) line []) lines

-- for each source the digest of the lines that are about it
abbrev pub diagnostics_of : List FileRow → List ℕ → List (List ℕ)
diagnostics_of sources text = map (λ row. sha256 (text_about row.path (lines_of text))) sources
