-- The text of a mark.
use Rattle.std.specs.Prelude.{◌≡◌, ℕ, List, [], ◌∷◌, ◌++◌, length, flat_map, decimal, codes, Some, None}
use Rattle.hex.specs.Hex.{encode_lower}
use Rattle.build_manifest.specs.declared.mark.MarkFormat.{MarkFormat}
use Rattle.build_manifest.specs.declared.mark.MarkFormat.TheVariants.{One, Two}
use Rattle.mx_base.specs.Listing.{row_text}
use Rattle.build_manifest.specs.Mark.{IsMark, Line, MarkView, Need, plain, source_lines}

-- the first line
abbrev pub format_text : MarkFormat → List ℕ
format_text One = codes "mark 1" ++ 10 ∷ []
format_text (Two digests) = codes "mark 2" ++ 10 ∷ []

-- so many bytes, after their number
abbrev pub block_text : List ℕ → List ℕ → List ℕ
block_text word bytes = word ++ (decimal (length bytes) ++ 10 ∷ []) ++ (bytes ++ 10 ∷ [])

-- a row, behind the digest of its file's diagnostics where it has one
abbrev pub line_text : Line → List ℕ
line_text (None, row) = row_text row
line_text (Some digest, row) = encode_lower digest ++ 32 ∷ row_text row

abbrev pub need_text : Need → List ℕ
need_text need = encode_lower need.0 ++ 32 ∷ need.1 ++ 10 ∷ []

-- so many lines, after their number
abbrev pub lines_text : {A : Type 0} → List ℕ → (A → List ℕ) → List A → List ℕ
lines_text word text lines = word ++ (decimal (length lines) ++ 10 ∷ []) ++ flat_map text lines

abbrev pub mark_text : MarkView → List ℕ
mark_text mark =
    format_text mark.format
    ++ (block_text (codes "options ") mark.options
    ++ (lines_text (codes "sources ") line_text (source_lines mark.format mark.sources)
    ++ (lines_text (codes "needs ") need_text mark.needs
    ++ (lines_text (codes "outputs ") line_text (plain mark.outputs)
    ++ (block_text (codes "text ") mark.text ++ (codes "end" ++ 10 ∷ []))))))

-- the bytes are the text of a mark
abbrev pub Spells : List ℕ → MarkView → Type 0
Spells bytes mark = IsMark mark × (bytes ≡ mark_text mark)

-- .. of some mark
abbrev pub IsSpelled : List ℕ → Type 0
IsSpelled bytes = (mark : MarkView) × Spells bytes mark
