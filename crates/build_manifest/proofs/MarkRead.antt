-- What the readers of a mark's fields come to, one after another.
use Rattle.std.proofs.Common.{◌≡◌, ℕ, ◌+◌, ◌<◌, ◌≤◌, Bool, false, List, [], ◌∷◌, ◌++◌, length, sym, ap, ◌∙◌, arith, subst, append_assoc, append-nil, length-append, codes}
use Rattle.reading.specs.Field.{FitInTurn, Stops}
use Rattle.reading.specs.Plain.{Always, literal_text}
use Rattle.reading.specs.Refusal.{IsRefusedAt}
use Rattle.reading.proofs.Fields.{IsTextOf, refused_left_over, refused_where_it_stops}
use Rattle.reading.proofs.Refusals.{refused_same}
use Rattle.mx_base.specs.declared.row.FileRow.{FileRow}
use Rattle.build_manifest.specs.declared.mark.MarkFormat.{MarkFormat}
use Rattle.build_manifest.specs.Fields.{AreSources, Block, LinesFit, tag_text}
use Rattle.build_manifest.specs.Mark.{IsMark, Line, LineFits, MarkView, Need, NeedFits, has_diagnostics, plain, source_lines}
use Rattle.build_manifest.specs.Text.{IsSpelled, block_text, line_text, lines_text, mark_text, need_text}
use Rattle.build_manifest.specs.declared.mark.MarkFormat.TheVariants.{One}
use Rattle.build_manifest.proofs.MarkStops.{after_needs, after_options, after_outputs, after_sources, after_tag, after_text, in_needs, in_options, in_outputs, in_sources, in_text}
use Rattle.build_manifest.proofs.Pushes.{lines_long}
use Rattle.build_manifest.proofs.Whole.{NeedsFit, OutputsFit, SourcesFit, TextFits, format_spelled, mark_tells, needs_part, outputs_part, sources_part, text_part}

-- ---- where a field stops, the mark does

module _ (tag : Bool) (from r1 : List ℕ) (cut1 : from ≡ tag_text tag ++ r1) where
  pub stops_in_options : (left : ℕ) → Stops (block_text (codes "options ")) Block r1 left → Stops mark_text IsMark from left
  stops_in_options left s = after_tag tag from r1 left cut1 (in_options tag r1 left s)

  module _ (options r2 : List ℕ) (is2 : Block options) (cut2 : r1 ≡ block_text (codes "options ") options ++ r2) where
    to_options : (left : ℕ) → Stops sources_part (SourcesFit tag) r2 left → Stops mark_text IsMark from left
    to_options left s = after_tag tag from r1 left cut1 (after_options tag options r1 r2 left is2 cut2 s)

    pub stops_in_sources : (left : ℕ) → Stops (lines_text (codes "sources ") line_text) (LinesFit (LineFits tag)) r2 left
        → Stops mark_text IsMark from left
    stops_in_sources left s = to_options left (in_sources tag r2 left s)

    module _ (sources : List Line) (r3 : List ℕ) (is3 : LinesFit (LineFits tag) sources)
        (cut3 : r2 ≡ lines_text (codes "sources ") line_text sources ++ r3) where
      to_sources : (left : ℕ) → Stops needs_part NeedsFit r3 left → Stops mark_text IsMark from left
      to_sources left s = to_options left (after_sources tag sources r2 r3 left is3 cut3 s)

      pub stops_in_needs : (left : ℕ) → Stops (lines_text (codes "needs ") need_text) (LinesFit NeedFits) r3 left → Stops mark_text IsMark from left
      stops_in_needs left s = to_sources left (in_needs r3 left s)

      module _ (needs : List Need) (r4 : List ℕ) (is4 : LinesFit NeedFits needs) (cut4 : r3 ≡ lines_text (codes "needs ") need_text needs ++ r4) where
        to_needs : (left : ℕ) → Stops outputs_part OutputsFit r4 left → Stops mark_text IsMark from left
        to_needs left s = to_sources left (after_needs needs r3 r4 left is4 cut4 s)

        pub stops_in_outputs : (left : ℕ) → Stops (lines_text (codes "outputs ") line_text) (LinesFit (LineFits false)) r4 left
            → Stops mark_text IsMark from left
        stops_in_outputs left s = to_needs left (in_outputs r4 left s)

        module _ (outputs : List Line) (r5 : List ℕ) (is5 : LinesFit (LineFits false) outputs)
            (cut5 : r4 ≡ lines_text (codes "outputs ") line_text outputs ++ r5) where
          to_outputs : (left : ℕ) → Stops text_part TextFits r5 left → Stops mark_text IsMark from left
          to_outputs left s = to_needs left (after_outputs outputs r4 r5 left is5 cut5 s)

          pub stops_in_text : (left : ℕ) → Stops (block_text (codes "text ")) Block r5 left → Stops mark_text IsMark from left
          stops_in_text left s = to_outputs left (in_text r5 left s)

          pub stops_in_end : (text r6 : List ℕ) (left : ℕ) → Block text → r5 ≡ block_text (codes "text ") text ++ r6
              → Stops (literal_text (codes "end" ++ 10 ∷ [])) Always r6 left → Stops mark_text IsMark from left
          stops_in_end text r6 left is6 cut6 s = to_outputs left (after_text text r5 r6 left is6 cut6 s)

-- ---- the mark of the fields

grouped : (a b c d e f g m : List ℕ) → a ++ (b ++ (c ++ (d ++ (e ++ (f ++ (g ++ m)))))) ≡ (a ++ (b ++ (c ++ (d ++ (e ++ (f ++ g)))))) ++ m
grouped a b c d e f g m = simp append_assoc

pub is_mark_of : (tag : Bool) (mark : MarkView) → AreSources tag (mark.format, mark.sources) → Block mark.options → LinesFit NeedFits mark.needs
    → LinesFit (LineFits false) (plain mark.outputs) → Block mark.text → IsMark mark
is_mark_of tag mark sources options needs outputs text = record {
  options = options;
  sources = rw (sym (lines_long mark.format mark.sources)) sources.lines.0;
  lines = subst (λ t. FitInTurn (LineFits t) [] (source_lines mark.format mark.sources)) (sym sources.form) sources.lines.1;
  no_more = sources.no_more;
  needs = needs.0;
  apart = needs.1;
  outputs = rw (sym (lines_long One mark.outputs)) outputs.0;
  rows = outputs.1;
  text = text;
}

pub mark_spelled : (tag : Bool) (mark : MarkView) (from r1 r2 r3 r4 r5 r6 r7 : List ℕ) → has_diagnostics mark.format ≡ tag
    → from ≡ tag_text tag ++ r1 → r1 ≡ block_text (codes "options ") mark.options ++ r2
    → r2 ≡ lines_text (codes "sources ") line_text (source_lines mark.format mark.sources) ++ r3
    → r3 ≡ lines_text (codes "needs ") need_text mark.needs ++ r4
    → r4 ≡ lines_text (codes "outputs ") line_text (plain mark.outputs) ++ r5
    → r5 ≡ block_text (codes "text ") mark.text ++ r6 → r6 ≡ (codes "end" ++ 10 ∷ []) ++ r7 → from ≡ mark_text mark ++ r7
mark_spelled tag mark from r1 r2 r3 r4 r5 r6 r7 form cut1 cut2 cut3 cut4 cut5 cut6 cut7 =
    let a = block_text (codes "options ") mark.options in
    let b = lines_text (codes "sources ") line_text (source_lines mark.format mark.sources) in
    let c = lines_text (codes "needs ") need_text mark.needs in
    let d = lines_text (codes "outputs ") line_text (plain mark.outputs) in
    let e = block_text (codes "text ") mark.text in
    let first = ap (λ t. tag_text t) (sym form) ∙ format_spelled mark.format in
    let tail5 = cut6 ∙ ap (λ t. e ++ t) cut7 in
    let tail4 = cut5 ∙ ap (λ t. d ++ t) tail5 in
    let tail3 = cut4 ∙ ap (λ t. c ++ t) tail4 in
    let tail2 = cut3 ∙ ap (λ t. b ++ t) tail3 in
    let tail1 = cut2 ∙ ap (λ t. a ++ t) tail2 in
    cut1 ∙ ap (λ t. tag_text tag ++ t) tail1 ∙ ap (λ t. t ++ (a ++ (b ++ (c ++ (d ++ (e ++ ((codes "end" ++ 10 ∷ []) ++ r7))))))) first
    ∙ grouped _ a b c d e (codes "end" ++ 10 ∷ []) r7

-- the same mark, of which the parts are named otherwise
abbrev of_parts : MarkFormat → List ℕ → List FileRow → List Need → List FileRow → List ℕ → MarkView
of_parts format options sources needs outputs text =
    record { format = format; options = options; sources = sources; needs = needs; outputs = outputs; text = text }

pub same_mark : (from rest : List ℕ) (format : MarkFormat) (options options' : List ℕ) (sources sources' : List FileRow) (needs needs' : List Need)
    (outputs outputs' : List FileRow) (text text' : List ℕ) → options' ≡ options → sources' ≡ sources → needs' ≡ needs → outputs' ≡ outputs
    → text' ≡ text → IsMark (of_parts format options sources needs outputs text)
    × (from ≡ mark_text (of_parts format options sources needs outputs text) ++ rest)
    → IsMark (of_parts format options' sources' needs' outputs' text')
    × (from ≡ mark_text (of_parts format options' sources' needs' outputs' text') ++ rest)
same_mark from rest format options options' sources sources' needs needs' outputs outputs' text text' e1 e2 e3 e4 e5 is =
    let Is : MarkView → Type 0 = λ mark. IsMark mark × (from ≡ mark_text mark ++ rest) in
    subst (λ o. Is (of_parts format o sources' needs' outputs' text')) (sym e1)
    (subst (λ s. Is (of_parts format options s needs' outputs' text')) (sym e2)
    (subst (λ n. Is (of_parts format options sources n outputs' text')) (sym e3)
    (subst (λ o. Is (of_parts format options sources needs o text')) (sym e4)
    (subst (λ t. Is (of_parts format options sources needs outputs t)) (sym e5) is))))

-- ---- the whole text

as_spelled : (bytes : List ℕ) (at : ℕ) → IsRefusedAt (IsTextOf mark_text IsMark) bytes at → IsRefusedAt IsSpelled bytes at
as_spelled bytes at refused =
    refused_same (IsTextOf mark_text IsMark) IsSpelled (λ text is. (is.0, (is.1, is.2))) (λ text is. (is.0, is.1.0, is.1.1)) bytes at refused

pub refused_where_stuck : (bytes : List ℕ) (left at : ℕ) → Stops mark_text IsMark bytes left → at + left ≡ length bytes → IsRefusedAt IsSpelled bytes at
refused_where_stuck bytes left at s place = as_spelled bytes at (refused_where_it_stops mark_text IsMark mark_tells bytes left s at place)

pub refused_behind : (mark : MarkView) (bytes : List ℕ) (rest : List ℕ) (at : ℕ) → IsMark mark → bytes ≡ mark_text mark ++ rest → 0 < length rest
    → at + length rest ≡ length bytes → IsRefusedAt IsSpelled bytes at
refused_behind mark bytes [] at is cut some place = absurd (omega (arith, some))
refused_behind mark bytes (byte ∷ others) at is cut some place =
    as_spelled bytes at (refused_left_over mark_text IsMark mark_tells mark is bytes byte others cut at place)

pub spelled_whole : (mark : MarkView) (bytes rest : List ℕ) → bytes ≡ mark_text mark ++ rest → length rest ≡ 0 → bytes ≡ mark_text mark
spelled_whole mark bytes [] cut none = cut ∙ append-nil (mark_text mark)
spelled_whole mark bytes (byte ∷ others) cut none = absurd (omega (arith, none))

-- a reader stops within the text
pub within : {A : Type 0} (text : A → List ℕ) (Fits : A → Type 0) (from : List ℕ) (left : ℕ) → Stops text Fits from left → left ≤ length from
within text Fits from left s = omega (arith, s.size, ap length s.bytes, length-append s.taken s.rest)
