-- What files gave so far, and what is still to come.
use Rattle.std.proofs.Common.{◌≡◌, ℕ, zero, suc, ◌+◌, ◌<◌, ◌≤◌, ◌||◌, Bool, true, false, cond, List, [], ◌∷◌, ◌++◌, map, flat_map, fold, take, drop, length, get_or, Option, Some, None, is_none, is_some, bytes_eq, refl, sym, ap, ◌∙◌, append_assoc, arith, subst}
use Rattle.std.specs.List.{list_any}
use Rattle.std.specs.Map.{update}
use Rattle.std.specs.Prelude.{Result, Ok, Err}
use Rattle.std.proofs.lemmas.List.{append-nil, drop_more, length-map, take_more}
use Rattle.compile_model.specs.Content.{Need}
use Rattle.unit_lang.specs.declared.error.UnitError.{UnitError}
use Rattle.unit_lang.specs.declared.unit.Unit.{Unit as UnitFile}
use Rattle.mx_base.specs.Order.{AreInOrder}
use Rattle.unit_compile.specs.declared.source.Source.{Source as SourceValue}
use Rattle.unit_compile.specs.declared.table.Table.{Table}
use Rattle.unit_compile.specs.Facts.{faces_are_in_order}
use Rattle.unit_compile.specs.Units.{Made, Source, all_made, faces_in_order, file_of, has_error, has_unit, is_unit, made, outcome_of, outcome_with_all, text_of, with_face}
use Rattle.unit_compile.specs.Views.{HasUnits, in_table, source_in}

-- what the files from a place on give
abbrev pub made_from : List Need → List Source → ℕ → List Made
made_from needs sources place = all_made needs (take place sources) (drop place sources)

-- what those before a place gave
pub record Gave (needs : List Need) (sources : List Source) (place : ℕ) (told : List ℕ) (held : List (List ℕ × List ℕ)) (wrong : Bool) (known : Table (Unit {0})) : Type 0 where
  pub text : told ++ text_of (made_from needs sources place) ≡ text_of (all_made needs [] sources)
  pub faces : fold (λ entries one. with_face entries one.face) held (made_from needs sources place) ≡ faces_in_order (all_made needs [] sources)
  pub failed : (wrong || has_error (made_from needs sources place)) ≡ has_error (all_made needs [] sources)
  pub units : HasUnits known (take place sources)

pub gave_none : (needs : List Need) (sources : List Source) (told : List ℕ) (held : List (List ℕ × List ℕ)) (wrong : Bool) (known : Table (Unit {0})) → told ≡ [] → held ≡ [] → wrong ≡ false
    → ((name : List ℕ) → in_table known name ≡ None) → Gave needs sources 0 told held wrong known
gave_none needs sources told held wrong known no_text no_faces lives empty = record {
  text = ap (λ (t : List ℕ). t ++ text_of (all_made needs [] sources)) no_text;
  faces = ap (λ (es : List (List ℕ × List ℕ)). fold (λ entries one. with_face entries one.face) es (all_made needs [] sources)) no_faces;
  failed = ap (λ (b : Bool). b || has_error (all_made needs [] sources)) lives;
  units = λ name. ap is_some (empty name);
}

-- the first of those from a place on
one_more : (needs : List Need) (sources : List Source) (place : ℕ) (source : Source) → place < length sources → source ≡ get_or sources place source
    → made_from needs sources place ≡ made needs (take place sources) source ∷ made_from needs sources (place + 1)
one_more needs sources place source less is =
    ap (all_made needs (take place sources)) (drop_more sources place source less ∙ ap (λ (s : Source). s ∷ drop (place + 1) sources) (sym is))
    ∙ ap (λ (before : List Source). made needs (take place sources) source ∷ all_made needs before (drop (place + 1) sources)) (sym (taken_more sources place source less is))
  where
    taken_more : (sources : List Source) (place : ℕ) (source : Source) → place < length sources → source ≡ get_or sources place source → take (place + 1) sources ≡ take place sources ++ source ∷ []
    taken_more sources place source less is = take_more sources place source less ∙ ap (λ (s : Source). take place sources ++ s ∷ []) (sym is)

or_assoc : (a b c : Bool) → ((a || b) || c) ≡ (a || (b || c))
or_assoc true b c = refl
or_assoc false b c = refl

pub gave_more : (needs : List Need) (sources : List Source) (place : ℕ) (source : Source) (text new_text : List ℕ) (faces new_faces : List (List ℕ × List ℕ)) (failed new_failed : Bool) (units new_units : Table (Unit {0}))
    → place < length sources → source ≡ get_or sources place source → Gave needs sources place text faces failed units
    → new_text ≡ text ++ (made needs (take place sources) source).text
    → new_faces ≡ with_face faces (made needs (take place sources) source).face
    → new_failed ≡ (failed || is_none (made needs (take place sources) source).face)
    → HasUnits new_units (take place sources ++ source ∷ [])
    → Gave needs sources (place + 1) new_text new_faces new_failed new_units
gave_more needs sources place source text new_text faces new_faces failed new_failed units new_units less is gave text_is faces_is failed_is units_are =
    let one = made needs (take place sources) source in
    let rest = made_from needs sources (place + 1) in
    let all : made_from needs sources place ≡ one ∷ rest = one_more needs sources place source less is in
    record {
      text = ap (λ (t : List ℕ). t ++ text_of rest) text_is ∙ append_assoc text one.text (text_of rest) ∙ sym (ap (λ (ms : List Made). text ++ text_of ms) all) ∙ gave.text;
      faces = ap (λ (es : List (List ℕ × List ℕ)). fold (λ entries m. with_face entries m.face) es rest) faces_is ∙ sym (ap (λ (ms : List Made). fold (λ entries m. with_face entries m.face) faces ms) all) ∙ gave.faces;
      failed = ap (λ (b : Bool). b || has_error rest) failed_is ∙ or_assoc failed (is_none one.face) (has_error rest) ∙ sym (ap (λ (ms : List Made). failed || has_error ms) all) ∙ gave.failed;
      units = subst (HasUnits new_units) (sym (take_more sources place source less ∙ ap (λ (s : Source). take place sources ++ s ∷ []) (sym is))) units_are;
    }

get_source : (xs : List SourceValue) (i : ℕ) (x : SourceValue) → get_or (map source_in xs) i (source_in x) ≡ source_in (get_or xs i x)
get_source [] i x = refl
get_source (y ∷ ys) zero x = refl
get_source (y ∷ ys) (suc i) x = get_source ys i x

-- the same by the files as they stand
pub gave_next : (needs : List Need) (xs : List SourceValue) (place : ℕ) (x : SourceValue) (text new_text : List ℕ) (faces new_faces : List (List ℕ × List ℕ)) (failed new_failed : Bool) (units new_units : Table (Unit {0}))
    → place < length xs → x ≡ get_or xs place x → Gave needs (map source_in xs) place text faces failed units
    → new_text ≡ text ++ (made needs (take place (map source_in xs)) (source_in x)).text
    → new_faces ≡ with_face faces (made needs (take place (map source_in xs)) (source_in x)).face
    → new_failed ≡ (failed || is_none (made needs (take place (map source_in xs)) (source_in x)).face)
    → HasUnits new_units (take place (map source_in xs) ++ source_in x ∷ [])
    → Gave needs (map source_in xs) (place + 1) new_text new_faces new_failed new_units
gave_next needs xs place x text new_text faces new_faces failed new_failed units new_units less is =
    let below : place < length (map source_in xs) = simp length-map less in
    gave_more needs (map source_in xs) place (source_in x) text new_text faces new_faces failed new_failed units new_units below (ap source_in is ∙ sym (get_source xs place x))

past : (xs : List Source) (n : ℕ) → length xs ≤ n → drop n xs ≡ []
past [] zero h = refl
past [] (suc n) h = refl
past (x ∷ xs) zero h = absurd (omega (arith, h))
past (x ∷ xs) (suc n) h = past xs n (omega (arith, h))

-- what all files gave
pub gave_all : (needs : List Need) (xs : List SourceValue) (place : ℕ) (text : List ℕ) (faces : List (List ℕ × List ℕ)) (failed : Bool) (units : Table (Unit {0})) → length xs ≤ place
    → Gave needs (map source_in xs) place text faces failed units → outcome_with_all failed text faces ≡ outcome_of (all_made needs [] (map source_in xs))
gave_all needs xs place text faces failed units done gave =
    let none : made_from needs (map source_in xs) place ≡ [] = ap (all_made needs (take place (map source_in xs))) (past (map source_in xs) place (simp length-map done)) in
    let texts : text ≡ text_of (all_made needs [] (map source_in xs)) = sym (append-nil text) ∙ sym (ap (λ (ms : List Made). text ++ text_of ms) none) ∙ gave.text in
    let held : faces ≡ faces_in_order (all_made needs [] (map source_in xs)) = sym (ap (λ (ms : List Made). fold (λ entries m. with_face entries m.face) faces ms) none) ∙ gave.faces in
    let wrong : failed ≡ has_error (all_made needs [] (map source_in xs)) = or_false failed ∙ sym (ap (λ (ms : List Made). failed || has_error ms) none) ∙ gave.failed in
    λ i. outcome_with_all (wrong i) (texts i) (held i)
  where
    or_false : (b : Bool) → b ≡ (b || false)
    or_false true = refl
    or_false false = refl

-- and the faces are in order
pub gave_order : (needs : List Need) (xs : List SourceValue) (place : ℕ) (text : List ℕ) (faces : List (List ℕ × List ℕ)) (failed : Bool) (units : Table (Unit {0})) → length xs ≤ place
    → Gave needs (map source_in xs) place text faces failed units → AreInOrder (map file_of faces)
gave_order needs xs place text faces failed units done gave =
    let none : made_from needs (map source_in xs) place ≡ [] = ap (all_made needs (take place (map source_in xs))) (past (map source_in xs) place (simp length-map done)) in
    let held : faces ≡ faces_in_order (all_made needs [] (map source_in xs)) = sym (ap (λ (ms : List Made). fold (λ entries m. with_face entries m.face) faces ms) none) ∙ gave.faces in
    subst (λ (es : List (List ℕ × List ℕ)). AreInOrder (map file_of es)) (sym held) (faces_are_in_order (all_made needs [] (map source_in xs)))
