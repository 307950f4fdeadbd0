-- Where the reader of a mark stops.
use Rattle.std.proofs.Common.{◌≡◌, ℕ, suc, Bool, true, false, List, [], ◌∷◌, ◌++◌, length, Some, None, refl, sym, ap, ◌∙◌, arith, subst, codes}
use Rattle.reading.specs.Field.{FitInTurn, Stops, TellsItsEnd}
use Rattle.reading.specs.Plain.{Always, literal_text}
use Rattle.reading.proofs.Fields.{first_stops, second_stops, told_otherwise}
use Rattle.build_manifest.specs.Fields.{Block, LinesFit, tag_text}
use Rattle.build_manifest.specs.Mark.{HasNoMore, IsMark, Line, LineFits, Need, NeedFits, diagnosed, has_diagnostics, plain, source_lines}
use Rattle.build_manifest.specs.Text.{block_text, line_text, lines_text, mark_text, need_text}
use Rattle.build_manifest.proofs.Parts.{block_tells, line_text_tells, lines_tell, need_tells}
use Rattle.build_manifest.proofs.Whole.{Needs, NeedsFit, Options, OptionsFit, Outputs, OutputsFit, Sources, SourcesFit, Text, TextFits, Whole, WholeFits, form, leads, mark_of, needs_part, options_part, outputs_part, rows, sources_part, tag_tells, text_part, whole_fits, whole_of, whole_spelled, whole_text}

-- ---- something leads on to the end

some_text : (text : Text) × TextFits text
some_text = (([], tt), (omega arith, tt))

some_outputs : (outputs : Outputs) × OutputsFit outputs
some_outputs = (([], some_text.0), ((omega arith, tt), some_text.1))

some_needs : (needs : Needs) × NeedsFit needs
some_needs = (([], some_outputs.0), ((omega arith, tt), some_outputs.1))

some_sources : (tag : Bool) → (sources : Sources) × SourcesFit tag sources
some_sources tag = (([], some_needs.0), ((omega arith, tt), some_needs.1))

some_options : (tag : Bool) → (options : Options) × OptionsFit tag options
some_options tag = (([], (some_sources tag).0), (omega arith, (some_sources tag).1))

-- ---- one field after another, from the last to the first

pub in_text : (from : List ℕ) (left : ℕ) → Stops (block_text (codes "text ")) Block from left → Stops text_part TextFits from left
in_text from left s =
    first_stops (block_text (codes "text ")) Block (λ _. literal_text (codes "end" ++ 10 ∷ [])) (λ _. Always) (block_tells (codes "text "))
    (λ _ _. (tt, tt)) from left s

pub after_text : (text from rest : List ℕ) (left : ℕ) → Block text → from ≡ block_text (codes "text ") text ++ rest
    → Stops (literal_text (codes "end" ++ 10 ∷ [])) Always rest left → Stops text_part TextFits from left
after_text text from rest left is cut s =
    second_stops (block_text (codes "text ")) Block (λ _. literal_text (codes "end" ++ 10 ∷ [])) (λ _. Always) (block_tells (codes "text ")) text is
    from rest left cut s

outputs_line_tell : TellsItsEnd (lines_text (codes "outputs ") line_text) (LinesFit (LineFits false))
outputs_line_tell = lines_tell (codes "outputs ") line_text (LineFits false) (line_text_tells false)

pub in_outputs : (from : List ℕ) (left : ℕ) → Stops (lines_text (codes "outputs ") line_text) (LinesFit (LineFits false)) from left
    → Stops outputs_part OutputsFit from left
in_outputs from left s =
    first_stops (lines_text (codes "outputs ") line_text) (LinesFit (LineFits false)) (λ _. text_part) (λ _. TextFits) outputs_line_tell
    (λ _ _. some_text) from left s

pub after_outputs : (outputs : List Line) (from rest : List ℕ) (left : ℕ) → LinesFit (LineFits false) outputs
    → from ≡ lines_text (codes "outputs ") line_text outputs ++ rest → Stops text_part TextFits rest left → Stops outputs_part OutputsFit from left
after_outputs outputs from rest left is cut s =
    second_stops (lines_text (codes "outputs ") line_text) (LinesFit (LineFits false)) (λ _. text_part) (λ _. TextFits) outputs_line_tell outputs is
    from rest left cut s

needs_line_tell : TellsItsEnd (lines_text (codes "needs ") need_text) (LinesFit NeedFits)
needs_line_tell = lines_tell (codes "needs ") need_text NeedFits need_tells

pub in_needs : (from : List ℕ) (left : ℕ) → Stops (lines_text (codes "needs ") need_text) (LinesFit NeedFits) from left
    → Stops needs_part NeedsFit from left
in_needs from left s =
    first_stops (lines_text (codes "needs ") need_text) (LinesFit NeedFits) (λ _. outputs_part) (λ _. OutputsFit) needs_line_tell
    (λ _ _. some_outputs) from left s

pub after_needs : (needs : List Need) (from rest : List ℕ) (left : ℕ) → LinesFit NeedFits needs
    → from ≡ lines_text (codes "needs ") need_text needs ++ rest → Stops outputs_part OutputsFit rest left → Stops needs_part NeedsFit from left
after_needs needs from rest left is cut s =
    second_stops (lines_text (codes "needs ") need_text) (LinesFit NeedFits) (λ _. outputs_part) (λ _. OutputsFit) needs_line_tell needs is from rest
    left cut s

sources_line_tell : (tag : Bool) → TellsItsEnd (lines_text (codes "sources ") line_text) (LinesFit (LineFits tag))
sources_line_tell tag = lines_tell (codes "sources ") line_text (LineFits tag) (line_text_tells tag)

pub in_sources : (tag : Bool) (from : List ℕ) (left : ℕ) → Stops (lines_text (codes "sources ") line_text) (LinesFit (LineFits tag)) from left
    → Stops sources_part (SourcesFit tag) from left
in_sources tag from left s =
    first_stops (lines_text (codes "sources ") line_text) (LinesFit (LineFits tag)) (λ _. needs_part) (λ _. NeedsFit) (sources_line_tell tag)
    (λ _ _. some_needs) from left s

pub after_sources : (tag : Bool) (sources : List Line) (from rest : List ℕ) (left : ℕ) → LinesFit (LineFits tag) sources
    → from ≡ lines_text (codes "sources ") line_text sources ++ rest → Stops needs_part NeedsFit rest left → Stops sources_part (SourcesFit tag) from left
after_sources tag sources from rest left is cut s =
    second_stops (lines_text (codes "sources ") line_text) (LinesFit (LineFits tag)) (λ _. needs_part) (λ _. NeedsFit) (sources_line_tell tag) sources
    is from rest left cut s

pub in_options : (tag : Bool) (from : List ℕ) (left : ℕ) → Stops (block_text (codes "options ")) Block from left
    → Stops options_part (OptionsFit tag) from left
in_options tag from left s =
    first_stops (block_text (codes "options ")) Block (λ _. sources_part) (λ _. SourcesFit tag) (block_tells (codes "options "))
    (λ _ _. some_sources tag) from left s

pub after_options : (tag : Bool) (options from rest : List ℕ) (left : ℕ) → Block options → from ≡ block_text (codes "options ") options ++ rest
    → Stops sources_part (SourcesFit tag) rest left → Stops options_part (OptionsFit tag) from left
after_options tag options from rest left is cut s =
    second_stops (block_text (codes "options ")) Block (λ _. sources_part) (λ _. SourcesFit tag) (block_tells (codes "options ")) options is from rest
    left cut s

-- ---- the mark of the fields

plain_again : (before lines : List Line) → FitInTurn (LineFits false) before lines → plain (rows lines) ≡ lines
plain_again before [] fits = refl
plain_again before ((None, row) ∷ lines) fits = ap (λ l. (None, row) ∷ l) (plain_again (before ++ (None, row) ∷ []) lines fits.1)
plain_again before ((Some digest, row) ∷ lines) fits = absurd fits.0.lead

diagnosed_again : (before lines : List Line) → FitInTurn (LineFits true) before lines → diagnosed (leads lines) (rows lines) ≡ lines
diagnosed_again before [] fits = refl
diagnosed_again before ((None, row) ∷ lines) fits = absurd fits.0.lead
diagnosed_again before ((Some digest, row) ∷ lines) fits =
    ap (λ l. (Some digest, row) ∷ l) (diagnosed_again (before ++ (Some digest, row) ∷ []) lines fits.1)

leads_long : (before lines : List Line) → FitInTurn (LineFits true) before lines → length (leads lines) ≡ length (rows lines)
leads_long before [] fits = refl
leads_long before ((None, row) ∷ lines) fits = absurd fits.0.lead
leads_long before ((Some digest, row) ∷ lines) fits = ap suc (leads_long (before ++ (Some digest, row) ∷ []) lines fits.1)

lines_again : (tag : Bool) (lines : List Line) → FitInTurn (LineFits tag) [] lines → source_lines (form tag lines) (rows lines) ≡ lines
lines_again false lines fits = plain_again [] lines fits
lines_again true lines fits = diagnosed_again [] lines fits

no_more : (tag : Bool) (lines : List Line) → FitInTurn (LineFits tag) [] lines → HasNoMore (form tag lines) (rows lines)
no_more false lines fits = tt
no_more true lines fits = leads_long [] lines fits

tag_again : (tag : Bool) (lines : List Line) → has_diagnostics (form tag lines) ≡ tag
tag_again false lines = refl
tag_again true lines = refl

rows_long : (lines : List Line) → length (rows lines) ≡ length lines
rows_long [] = refl
rows_long (line ∷ lines) = ap suc (rows_long lines)

-- the fields of the mark are these again
whole_again : (whole : Whole) → WholeFits whole → whole_of (mark_of whole) ≡ whole
whole_again whole fits =
    let lines = whole.1.1.0 in
    let outputs = whole.1.1.1.1.0 in
    let sources = lines_again whole.0 lines fits.1.1.0.1 in
    let plain_outputs = plain_again [] outputs fits.1.1.1.1.0.1 in
    ap (λ (tag : Bool). (tag, (whole.1.0, (source_lines (form whole.0 lines) (rows lines), (whole.1.1.1.0, (plain (rows outputs), (whole.1.1.1.1.1.0, tt)))))))
    (tag_again whole.0 lines)
    ∙ ap (λ (l : List Line). (whole.0, (whole.1.0, (l, (whole.1.1.1.0, (plain (rows outputs), (whole.1.1.1.1.1.0, tt))))))) sources
    ∙ ap (λ (l : List Line). (whole.0, (whole.1.0, (lines, (whole.1.1.1.0, (l, (whole.1.1.1.1.1.0, tt))))))) plain_outputs

is_mark : (whole : Whole) → WholeFits whole → IsMark (mark_of whole)
is_mark whole fits =
    let tag = whole.0 in
    let lines = whole.1.1.0 in
    let outputs = whole.1.1.1.1.0 in
    let sources_fit = fits.1.1.0 in
    let outputs_fit = fits.1.1.1.1.0 in
    record {
      options = fits.1.0;
      sources = omega (arith, rows_long lines, sources_fit.0);
      lines = subst (λ t. FitInTurn (LineFits t) [] (source_lines (form tag lines) (rows lines))) (sym (tag_again tag lines))
          (subst (FitInTurn (LineFits tag) []) (sym (lines_again tag lines sources_fit.1)) sources_fit.1);
      no_more = no_more tag lines sources_fit.1;
      needs = fits.1.1.1.0.0;
      apart = fits.1.1.1.0.1;
      outputs = omega (arith, rows_long outputs, outputs_fit.0);
      rows = subst (FitInTurn (LineFits false) []) (sym (plain_again [] outputs outputs_fit.1)) outputs_fit.1;
      text = fits.1.1.1.1.1.0;
    }

pub mark_stops : (from : List ℕ) (left : ℕ) → Stops whole_text WholeFits from left → Stops mark_text IsMark from left
mark_stops from left s =
    told_otherwise whole_text WholeFits mark_text IsMark mark_of whole_of
    (λ whole fits. (is_mark whole fits, sym (whole_spelled (mark_of whole)) ∙ ap whole_text (whole_again whole fits)))
    (λ mark is. (whole_fits mark is, whole_spelled mark)) from left s

pub in_tag : (from : List ℕ) (left : ℕ) → Stops tag_text Always from left → Stops mark_text IsMark from left
in_tag from left s =
    mark_stops from left (first_stops tag_text Always (λ _. options_part) OptionsFit tag_tells (λ tag _. some_options tag) from left s)

pub after_tag : (tag : Bool) (from rest : List ℕ) (left : ℕ) → from ≡ tag_text tag ++ rest → Stops options_part (OptionsFit tag) rest left
    → Stops mark_text IsMark from left
after_tag tag from rest left cut s =
    mark_stops from left (second_stops tag_text Always (λ _. options_part) OptionsFit tag_tells tag tt from rest left cut s)
