-- The text of a mark tells where it ends, and which mark it is of.
use Rattle.std.proofs.Common.{◌≡◌, ℕ, ◌<◌, Bool, true, false, List, [], ◌∷◌, ◌++◌, length, map, get_or, Some, None, refl, sym, ap, ◌∙◌, arith, append-nil, codes}
use Rattle.reading.specs.Plain.{Always, literal_text}
use Rattle.reading.specs.Field.{PairFits, TellsItsEnd, pair_text}
use Rattle.reading.proofs.Fields.{pair_tells, same_rest, tells_otherwise}
use Rattle.reading.proofs.Literals.{literal_tells}
use Rattle.build_manifest.specs.declared.mark.MarkFormat.{MarkFormat}
use Rattle.build_manifest.specs.declared.mark.MarkFormat.TheVariants.{One, Two}
use Rattle.mx_base.specs.declared.row.FileRow.{FileRow}
use Rattle.build_manifest.specs.Fields.{Block, LinesFit, tag_text}
use Rattle.build_manifest.specs.Mark.{HasNoMore, IsMark, Line, LineFits, MarkView, Need, NeedFits, diagnosed, has_diagnostics, limit, plain, source_lines}
use Rattle.build_manifest.specs.Text.{Spells, block_text, format_text, line_text, lines_text, mark_text, need_text}
use Rattle.build_manifest.proofs.Pushes.{lines_long}
use Rattle.build_manifest.proofs.Parts.{block_tells, line_text_tells, lines_tell, need_tells}

-- ---- the fields of a mark, from the last to the first

abbrev pub Text : Type 0
Text = List ℕ × Unit {0}

abbrev pub Outputs : Type 0
Outputs = List Line × Text

abbrev pub Needs : Type 0
Needs = List Need × Outputs

abbrev pub Sources : Type 0
Sources = List Line × Needs

abbrev pub Options : Type 0
Options = List ℕ × Sources

abbrev pub Whole : Type 0
Whole = Bool × Options

abbrev pub text_part : Text → List ℕ
text_part = pair_text (block_text (codes "text ")) (λ _. literal_text (codes "end" ++ 10 ∷ []))

abbrev pub outputs_part : Outputs → List ℕ
outputs_part = pair_text (lines_text (codes "outputs ") line_text) (λ _. text_part)

abbrev pub needs_part : Needs → List ℕ
needs_part = pair_text (lines_text (codes "needs ") need_text) (λ _. outputs_part)

abbrev pub sources_part : Sources → List ℕ
sources_part = pair_text (lines_text (codes "sources ") line_text) (λ _. needs_part)

abbrev pub options_part : Options → List ℕ
options_part = pair_text (block_text (codes "options ")) (λ _. sources_part)

abbrev pub whole_text : Whole → List ℕ
whole_text = pair_text tag_text (λ _. options_part)

abbrev pub TextFits : Text → Type 0
TextFits = PairFits Block (λ _. Always)

abbrev pub OutputsFit : Outputs → Type 0
OutputsFit = PairFits (LinesFit (LineFits false)) (λ _. TextFits)

abbrev pub NeedsFit : Needs → Type 0
NeedsFit = PairFits (LinesFit NeedFits) (λ _. OutputsFit)

abbrev pub SourcesFit : Bool → Sources → Type 0
SourcesFit tag = PairFits (LinesFit (LineFits tag)) (λ _. NeedsFit)

abbrev pub OptionsFit : Bool → Options → Type 0
OptionsFit tag = PairFits Block (λ _. SourcesFit tag)

abbrev pub WholeFits : Whole → Type 0
WholeFits = PairFits Always OptionsFit

-- ---- each tells its end

pub text_tells : TellsItsEnd text_part TextFits
text_tells =
    pair_tells (block_text (codes "text ")) Block (λ _. literal_text (codes "end" ++ 10 ∷ [])) (λ _. Always) (block_tells (codes "text "))
    (λ _ _. literal_tells (codes "end" ++ 10 ∷ []))

pub outputs_tell : TellsItsEnd outputs_part OutputsFit
outputs_tell =
    pair_tells (lines_text (codes "outputs ") line_text) (LinesFit (LineFits false)) (λ _. text_part) (λ _. TextFits)
    (lines_tell (codes "outputs ") line_text (LineFits false) (line_text_tells false)) (λ _ _. text_tells)

pub needs_tell : TellsItsEnd needs_part NeedsFit
needs_tell =
    pair_tells (lines_text (codes "needs ") need_text) (LinesFit NeedFits) (λ _. outputs_part) (λ _. OutputsFit)
    (lines_tell (codes "needs ") need_text NeedFits need_tells) (λ _ _. outputs_tell)

pub sources_tell : (tag : Bool) → TellsItsEnd sources_part (SourcesFit tag)
sources_tell tag =
    pair_tells (lines_text (codes "sources ") line_text) (LinesFit (LineFits tag)) (λ _. needs_part) (λ _. NeedsFit)
    (lines_tell (codes "sources ") line_text (LineFits tag) (line_text_tells tag)) (λ _ _. needs_tell)

pub options_tell : (tag : Bool) → TellsItsEnd options_part (OptionsFit tag)
options_tell tag =
    pair_tells (block_text (codes "options ")) Block (λ _. sources_part) (λ _. SourcesFit tag) (block_tells (codes "options ")) (λ _ _. sources_tell tag)

first_lines_differ : (x y : List ℕ) → tag_text false ++ x ≡ tag_text true ++ y → ⊥
first_lines_differ x y e =
    let same : ◌≡◌ {A = ℕ} 49 50 = ap (λ (t : List ℕ). get_or t 5 0) e in
    absurd (omega (arith, same))

pub tag_tells : TellsItsEnd tag_text Always
tag_tells false false x y fa fb e = refl
tag_tells false true x y fa fb e = absurd (first_lines_differ x y e)
tag_tells true false x y fa fb e = absurd (first_lines_differ y x (sym e))
tag_tells true true x y fa fb e = refl

pub whole_tells : TellsItsEnd whole_text WholeFits
whole_tells = pair_tells tag_text Always (λ _. options_part) OptionsFit tag_tells (λ tag _. options_tell tag)

-- ---- a mark and its fields

abbrev pub whole_of : MarkView → Whole
whole_of mark = (has_diagnostics mark.format, (mark.options, (source_lines mark.format mark.sources, (mark.needs, (plain mark.outputs, (mark.text, tt))))))

abbrev pub leads : List Line → List (List ℕ)
leads [] = []
leads ((None, row) ∷ lines) = leads lines
leads ((Some digest, row) ∷ lines) = digest ∷ leads lines

abbrev pub rows : List Line → List FileRow
rows lines = map (λ line. line.1) lines

abbrev pub form : Bool → List Line → MarkFormat
form false lines = One
form true lines = Two (leads lines)

abbrev pub mark_of : Whole → MarkView
mark_of whole = record {
  format = form whole.0 whole.1.1.0;
  options = whole.1.0;
  sources = rows whole.1.1.0;
  needs = whole.1.1.1.0;
  outputs = rows whole.1.1.1.1.0;
  text = whole.1.1.1.1.1.0;
}

rows_plain : (list : List FileRow) → rows (plain list) ≡ list
rows_plain [] = refl
rows_plain (r ∷ list) = ap (λ t. r ∷ t) (rows_plain list)

rows_diagnosed : (digests : List (List ℕ)) (list : List FileRow) → rows (diagnosed digests list) ≡ list
rows_diagnosed digests [] = refl
rows_diagnosed [] (r ∷ list) = ap (λ t. r ∷ t) (rows_plain list)
rows_diagnosed (d ∷ digests) (r ∷ list) = ap (λ t. r ∷ t) (rows_diagnosed digests list)

rows_of_sources : (format : MarkFormat) (list : List FileRow) → rows (source_lines format list) ≡ list
rows_of_sources One list = rows_plain list
rows_of_sources (Two digests) list = rows_diagnosed digests list

leads_diagnosed : (digests : List (List ℕ)) (list : List FileRow) → length digests ≡ length list → leads (diagnosed digests list) ≡ digests
leads_diagnosed [] [] e = refl
leads_diagnosed (d ∷ digests) [] e = absurd (omega (arith, e))
leads_diagnosed [] (r ∷ list) e = absurd (omega (arith, e))
leads_diagnosed (d ∷ digests) (r ∷ list) e = ap (λ t. d ∷ t) (leads_diagnosed digests list (omega (arith, e)))

form_of_sources : (format : MarkFormat) (list : List FileRow) → HasNoMore format list → form (has_diagnostics format) (source_lines format list) ≡ format
form_of_sources One list e = refl
form_of_sources (Two digests) list e = ap Two (leads_diagnosed digests list e)

abbrev mark_with : MarkView → MarkFormat → List FileRow → List FileRow → MarkView
mark_with mark format sources outputs =
    record { format = format; options = mark.options; sources = sources; needs = mark.needs; outputs = outputs; text = mark.text }

pub mark_again : (mark : MarkView) → IsMark mark → mark_of (whole_of mark) ≡ mark
mark_again mark is =
    let e = form_of_sources mark.format mark.sources is.no_more in
    let f = rows_of_sources mark.format mark.sources in
    let g = rows_plain mark.outputs in
    let sources = rows (source_lines mark.format mark.sources) in
    let outputs = rows (plain mark.outputs) in
    ap (λ x. mark_with mark x sources outputs) e ∙ ap (λ x. mark_with mark mark.format x outputs) f ∙ ap (λ x. mark_with mark mark.format mark.sources x) g

pub whole_fits : (mark : MarkView) → IsMark mark → WholeFits (whole_of mark)
whole_fits mark is =
    let sources : length (source_lines mark.format mark.sources) < limit = rw (lines_long mark.format mark.sources) is.sources in
    let outputs : length (plain mark.outputs) < limit = rw (lines_long One mark.outputs) is.outputs in
    (tt, (is.options, ((sources, is.lines), ((is.needs, is.apart), ((outputs, is.rows), (is.text, tt))))))

pub format_spelled : (format : MarkFormat) → tag_text (has_diagnostics format) ≡ format_text format
format_spelled One = refl
format_spelled (Two digests) = refl

pub whole_spelled : (mark : MarkView) → whole_text (whole_of mark) ≡ mark_text mark
whole_spelled mark = ap (λ t. t ++ options_part (whole_of mark).1) (format_spelled mark.format)

pub mark_tells : TellsItsEnd mark_text IsMark
mark_tells =
    tells_otherwise whole_text WholeFits mark_text IsMark whole_of (λ mark is. (whole_fits mark is, whole_spelled mark))
    (λ m n fm fn e. sym (mark_again m fm) ∙ ap mark_of e ∙ mark_again n fn) whole_tells

-- ---- the laws

pub one_mark : (bytes : List ℕ) (a b : MarkView) → Spells bytes a → Spells bytes b → a ≡ b
one_mark bytes a b sa sb = mark_tells a b [] [] sa.0 sb.0 (ap (λ t. t ++ []) (sym sa.1 ∙ sb.1))

pub no_mark_begins_another : (bytes more : List ℕ) (a b : MarkView) → Spells bytes a → Spells (bytes ++ more) b → more ≡ []
no_mark_begins_another bytes more a b sa sb =
    (same_rest mark_text IsMark mark_tells a b more [] sa.0 sb.0 (ap (λ t. t ++ more) (sym sa.1) ∙ sb.1 ∙ sym (append-nil (mark_text b)))).1
