-- What rows name, and a text that they don't.
use Rattle.std.proofs.Common.{◌≡◌, ℕ, zero, suc, ◌<◌, Bool, true, false, ◌||◌, inl, inr, List, [], ◌∷◌, ◌++◌, length, Contains, replicate, sum_by, sym, ◌∙◌, ap, subst, refl, arith, Option, Some, None, bytes_eq}
use Rattle.std.specs.List.{slice_get, list_any}
use Rattle.std.proofs.lemmas.List.{length-replicate}
use Rattle.std.proofs.lemmas.List.Sums.{sum_by-cons}
use Rattle.std.proofs.lemmas.List.Folds.{list_any-append}
use Rattle.std.proofs.lemmas.Bool.{both_ways, cases_Bool, or_left, or_right, or_cases}
use Rattle.std.proofs.lemmas.Option.{none-some}
use Rattle.dep_rows.specs.declared.row.Row.{Row}
use Rattle.converger.specs.Strays.{AreNamed, IsUnnamed, is_named}
use Rattle.converger.proofs.OneLemmas.{in_front, behind}
use Rattle.converger.proofs.WebLemmas.{one_value, same_bytes, not_same_bytes}

names_at : Option (List (List ℕ)) → List (List ℕ)
names_at None = []
names_at (Some names) = names

named_at : (list : Option (List (List ℕ))) (name : List ℕ) → is_named list name ≡ list_any (bytes_eq name) (names_at list)
unfolding names_at
named_at None name = refl
named_at (Some names) name = refl

module _ (names_of : Row → Option (List (List ℕ))) where
  pub names_in : List Row → List (List ℕ)
  names_in [] = []
  names_in (row ∷ rows) = names_at (names_of row) ++ names_in rows

  named_in : (rows : List Row) (place : ℕ) (row : Row) (name : List ℕ) → slice_get rows place ≡ Some row → is_named (names_of row) name ≡ true
      → list_any (bytes_eq name) (names_in rows) ≡ true
  unfolding names_in
  named_in [] place row name stands named = absurd (none-some row stands)
  named_in (first ∷ rows) zero row name stands named =
      let same : first ≡ row = one_value stands in
      list_any-append (bytes_eq name) (names_at (names_of first)) (names_in rows)
      ∙ or_left _ _ (ap (λ (r : Row). list_any (bytes_eq name) (names_at (names_of r))) same ∙ sym (named_at (names_of row) name) ∙ named)
  named_in (first ∷ rows) (suc place) row name stands named =
      list_any-append (bytes_eq name) (names_at (names_of first)) (names_in rows)
      ∙ or_right (list_any (bytes_eq name) (names_at (names_of first))) _ (named_in rows place row name stands named)

longer_than : (names : List (List ℕ)) (text : List ℕ) → sum_by length names < length text → list_any (bytes_eq text) names ≡ false
longer_than [] text long = refl
longer_than (name ∷ names) text long =
    let more = sum_by-cons length name names in
    let here : bytes_eq text name ≡ false = not_same_bytes text name (λ same.
    let equal = ap (λ (t : List ℕ). length t) same in omega (arith, long, more, equal)) in
    ap (λ (b : Bool). b || list_any (bytes_eq text) names) here ∙ longer_than names text (omega (arith, long, more))

pub another : List (List ℕ) → List ℕ
another names = replicate (suc (sum_by length names)) 0

another_isnt : (names : List (List ℕ)) → list_any (bytes_eq (another names)) names ≡ false
unfolding another
another_isnt names = longer_than names (replicate (suc (sum_by length names)) 0)
    (let long = length-replicate {A = ℕ} (suc (sum_by length names)) 0 in omega (arith, long))

module _ (names_of : Row → Option (List (List ℕ))) (rows : List Row) where
  abbrev pub has_name : List ℕ → Bool
  has_name name = list_any (bytes_eq name) (names_in names_of rows)

  pub are_named : AreNamed names_of rows has_name
  are_named place row name stands named = named_in names_of rows place row name stands named

  pub other_name : List ℕ
  other_name = another (names_in names_of rows)

  pub other_unnamed : IsUnnamed names_of rows other_name
  unfolding other_name
  other_unnamed place row stands = elim (cases_Bool (is_named (names_of row) (another (names_in names_of rows)))) [
    | inl named ↦ absurd (cannot (named_in names_of rows place row (another (names_in names_of rows)) stands named))
    | inr not ↦ not
  ]
    where
      cannot : has_name (another (names_in names_of rows)) ≡ true → ⊥
      cannot h = let no = another_isnt (names_in names_of rows) in cc

  -- the names, and one that isn't named
  abbrev pub tried_names : List (List ℕ)
  tried_names = other_name ∷ names_in names_of rows

  listed_text : (names : List (List ℕ)) (name : List ℕ) → list_any (bytes_eq name) names ≡ true → Contains names name
  listed_text [] name h = absurd (both_ways false refl h)
  listed_text (first ∷ names) name h = elim (or_cases (bytes_eq name first) (list_any (bytes_eq name) names) h) [
    | inl same ↦ subst (Contains (first ∷ names)) (sym (same_bytes name first same)) (in_front first names)
    | inr later ↦ behind first names name (listed_text names name later)
  ]

  pub tried_named : (name : List ℕ) → has_name name ≡ true → Contains tried_names name
  tried_named name named = behind other_name (names_in names_of rows) name (listed_text (names_in names_of rows) name named)

  pub tried_other : Contains tried_names other_name
  tried_other = in_front other_name (names_in names_of rows)
