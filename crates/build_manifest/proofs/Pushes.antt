-- The texts of lists of lines, one line more.
use Rattle.std.proofs.Common.{◌≡◌, ℕ, suc, ◌+◌, ◌<◌, List, [], ◌∷◌, ◌++◌, length, take, get_or, Some, refl, sym, ap, ◌∙◌, arith, add-one, append_assoc, decimal}
use Rattle.std.specs.Prelude.{flat_map}
use Rattle.std.proofs.Math.Seq.{take-length, take-suc}
use Rattle.std.proofs.lemmas.List.{length-take}
use Rattle.hex.specs.Hex.{encode_lower}
use Rattle.reading.proofs.Repeats.{flat_map_one_more}
use Rattle.mx_base.specs.declared.row.FileRow.{FileRow}
use Rattle.mx_base.specs.Listing.{row_text}
use Rattle.build_manifest.specs.declared.mark.MarkFormat.{MarkFormat}
use Rattle.build_manifest.specs.declared.mark.MarkFormat.TheVariants.{One, Two}
use Rattle.build_manifest.specs.Mark.{diagnosed, plain, source_lines}
use Rattle.build_manifest.specs.Text.{line_text, lines_text}

-- the texts of so many of the items
abbrev pub texts_to : {A : Type 0} → (A → List ℕ) → ℕ → List A → List ℕ
texts_to text count items = flat_map text (take count items)

pub one_text_more : {A : Type 0} (text : A → List ℕ) (items : List A) (i : ℕ) (item : A) → i < length items → item ≡ get_or items i item
    → texts_to text (i + 1) items ≡ texts_to text i items ++ text item
one_text_more text items i item below is =
    rw add-one (ap (flat_map text) (take-suc items i item below) ∙ ap (λ x. flat_map text (take i items ++ x ∷ [])) (sym is)
    ∙ flat_map_one_more text (take i items) item)

pub all_texts : {A : Type 0} (text : A → List ℕ) (items : List A) → texts_to text (length items) items ≡ flat_map text items
all_texts text items = ap (flat_map text) (take-length items)

pub plain_texts : (rows : List FileRow) → flat_map row_text rows ≡ flat_map line_text (plain rows)
plain_texts [] = refl
plain_texts (r ∷ rows) = ap (λ t. row_text r ++ t) (plain_texts rows)

-- the texts of so many rows behind their digests
abbrev pub diagnosed_to : ℕ → List (List ℕ) → List FileRow → List ℕ
diagnosed_to count digests rows = flat_map line_text (diagnosed (take count digests) (take count rows))

push_diagnosed : (digests : List (List ℕ)) (rows : List FileRow) (d : List ℕ) (r : FileRow) → length digests ≡ length rows
    → diagnosed (digests ++ d ∷ []) (rows ++ r ∷ []) ≡ diagnosed digests rows ++ (Some d, r) ∷ []
push_diagnosed [] [] d r e = refl
push_diagnosed (x ∷ digests) [] d r e = absurd (omega (arith, e))
push_diagnosed [] (y ∷ rows) d r e = absurd (omega (arith, e))
push_diagnosed (x ∷ digests) (y ∷ rows) d r e = ap (λ t. (Some x, y) ∷ t) (push_diagnosed digests rows d r (omega (arith, e)))

pub one_diagnosed_more : (digests : List (List ℕ)) (rows : List FileRow) (i : ℕ) (d : List ℕ) (r : FileRow) → length digests ≡ length rows
    → i < length rows → d ≡ get_or digests i d → r ≡ get_or rows i r
    → diagnosed_to (i + 1) digests rows ≡ diagnosed_to i digests rows ++ (encode_lower d ++ 32 ∷ row_text r)
one_diagnosed_more digests rows i d r long below d_is r_is =
    let front = take-suc digests i d (omega (arith, long)) ∙ ap (λ x. take i digests ++ x ∷ []) (sym d_is) in
    let back = take-suc rows i r below ∙ ap (λ x. take i rows ++ x ∷ []) (sym r_is) in
    let same : length (take i digests) ≡ length (take i rows) = rw (length-take i digests, length-take i rows, long) refl in
    rw add-one
    (ap (λ t. flat_map line_text (diagnosed t (take (suc i) rows))) front
    ∙ ap (λ t. flat_map line_text (diagnosed (take i digests ++ d ∷ []) t)) back
    ∙ ap (flat_map line_text) (push_diagnosed (take i digests) (take i rows) d r same)
    ∙ flat_map_one_more line_text (diagnosed (take i digests) (take i rows)) (Some d, r))

pub all_diagnosed : (digests : List (List ℕ)) (rows : List FileRow) → length digests ≡ length rows
    → diagnosed_to (length rows) digests rows ≡ flat_map line_text (diagnosed digests rows)
all_diagnosed digests rows long =
    ap (λ t. flat_map line_text (diagnosed t (take (length rows) rows))) (ap (λ n. take n digests) (sym long) ∙ take-length digests)
    ∙ ap (λ t. flat_map line_text (diagnosed digests t)) (take-length rows)

-- ---- how many lines there are

plain_long : (rows : List FileRow) → length (plain rows) ≡ length rows
plain_long [] = refl
plain_long (r ∷ rows) = ap suc (plain_long rows)

diagnosed_long : (digests : List (List ℕ)) (rows : List FileRow) → length (diagnosed digests rows) ≡ length rows
diagnosed_long digests [] = refl
diagnosed_long [] (r ∷ rows) = ap suc (plain_long rows)
diagnosed_long (d ∷ digests) (r ∷ rows) = ap suc (diagnosed_long digests rows)

pub lines_long : (format : MarkFormat) (rows : List FileRow) → length (source_lines format rows) ≡ length rows
lines_long One rows = plain_long rows
lines_long (Two digests) rows = diagnosed_long digests rows

-- ---- what was pushed, grouped as the text is

pub regroup : (a x h t : List ℕ) → ((a ++ x) ++ (h ++ 32 ∷ [])) ++ t ≡ a ++ (x ++ (h ++ 32 ∷ t))
regroup a x h t = simp append_assoc

section : (a w n t : List ℕ) → ((a ++ w) ++ n) ++ t ≡ a ++ (w ++ n ++ t)
section a w n t = simp append_assoc

pub sources_pushed : (a w : List ℕ) (format : MarkFormat) (digests : List (List ℕ)) (rows : List FileRow) → format ≡ Two digests
    → ((a ++ w) ++ (decimal (length rows) ++ 10 ∷ [])) ++ flat_map line_text (diagnosed digests rows)
    ≡ a ++ lines_text w line_text (source_lines format rows)
sources_pushed a w format digests rows is =
    section a w (decimal (length rows) ++ 10 ∷ []) (flat_map line_text (diagnosed digests rows))
    ∙ ap (λ n. a ++ (w ++ (decimal n ++ 10 ∷ []) ++ flat_map line_text (diagnosed digests rows))) (sym (diagnosed_long digests rows))
    ∙ ap (λ f. a ++ lines_text w line_text (source_lines f rows)) (sym is)
