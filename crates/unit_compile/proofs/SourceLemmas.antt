-- Unit files among files.
use Rattle.std.proofs.Common.{◌≡◌, ℕ, ◌+◌, ◌<◌, Bool, true, cond, List, [], ◌∷◌, ◌++◌, map, filter, drop, length, get_or, refl, sym, ap, ◌∙◌, append_assoc, arith}
use Rattle.std.proofs.lemmas.List.{drop_more, map-append}
use Rattle.mx_base.specs.declared.file.File.{File}
use Rattle.unit_compile.specs.declared.source.Source.{Source as SourceValue}
use Rattle.unit_compile.specs.Units.{Source, is_unit_file, source_of}
use Rattle.unit_compile.specs.Views.{source_in}

-- one more of them is taken
pub taken : (sources new : List SourceValue) (source : SourceValue) (files : List File) (place : ℕ) (file : File) (all : List Source) → place < length files → file ≡ get_or files place file
    → is_unit_file file ≡ true → source_in source ≡ source_of file → new ≡ sources ++ source ∷ []
    → map source_in sources ++ map source_of (filter is_unit_file (drop place files)) ≡ all → map source_in new ++ map source_of (filter is_unit_file (drop (place + 1) files)) ≡ all
taken sources new source files place file all less is unit same grown so_far =
    let rest = map source_of (filter is_unit_file (drop (place + 1) files)) in
    let dropped : drop place files ≡ file ∷ drop (place + 1) files =
    drop_more files place file less ∙ ap (λ (f : File). f ∷ drop (place + 1) files) (sym is) in
    ap (λ (ss : List SourceValue). map source_in ss ++ rest) grown
    ∙ ap (λ (ss : List Source). ss ++ rest) (map-append source_in sources (source ∷ []))
    ∙ append_assoc (map source_in sources) (source_in source ∷ []) rest
    ∙ ap (λ (s : Source). map source_in sources ++ s ∷ rest) same
    ∙ sym (ap (λ (fs : List File). map source_in sources ++ map source_of (filter is_unit_file fs)) dropped
    ∙ ap (λ (b : Bool). map source_in sources ++ map source_of (cond b (file ∷ filter is_unit_file (drop (place + 1) files)) (filter is_unit_file (drop (place + 1) files)))) unit)
    ∙ so_far
