-- The winner of an app: the place that is computed, and the fact that says who wins.
use Rattle.std.proofs.Common.{◌≡◌, ℕ, ◌<◌, Bool, true, false, cond, ◌&&◌, inl, inr, List, [], ◌∷◌, ◌++◌, length, slice_get, nat_eq, bytes_eq, sym, ◌∙◌, ap, refl, IsTrue, Option, Some, None}
use Rattle.std.specs.Option.{is_some, option_or}
use Rattle.std.specs.Cmp.Lexicographic.{pointwise, nat_list_eq_equiv}
use Rattle.indexmap.specs.IndexMap.{IndexMap, get, Updates}
use Rattle.std.proofs.lemmas.Option.{slice_get_within}
use Rattle.std.proofs.lemmas.Bool.{both_ways, cases_order, and_parts, and_from}
use Rattle.std.proofs.lemmas.Slice.Eq.{bytes_eq-Decides}
use Rattle.dep_rows.specs.declared.row.Row.{Row}
use Rattle.dep_rows.specs.Growing.{KnowsWinners}
use Rattle.dep_rows.specs.Rows.{IsWinner, is_required_of, winner_of}
use Rattle.dep_rows.proofs.Positions.{first_from_position, none_from_position, position-push}

-- ---- names

same_bytes : (a b : List ℕ) → bytes_eq a b ≡ true → a ≡ b
same_bytes a b h = (bytes_eq-Decides a b).0 h

bytes_same : (a b : List ℕ) → a ≡ b → bytes_eq a b ≡ true
bytes_same a b e = (bytes_eq-Decides a b).1 e

-- ---- the winner of an app

pub record Winner (rows : List Row) (app : List ℕ) (place : ℕ) : Type 0 where
  pub row : Row
  pub wins : IsWinner rows place row
  pub named : row.app ≡ app

pub winner_is : (rows : List Row) (app : List ℕ) (place : ℕ) → winner_of rows app ≡ Some place → Winner rows app place
unfolding winner_of
winner_is rows app place is =
    let first = first_from_position (is_required_of app) rows place is in
    let parts = and_parts first.item.required (bytes_eq app first.item.app) first.passes in
    let named : app ≡ first.item.app = same_bytes app first.item.app parts.1 in
    record {
      row = first.item;
      wins = record {
        stands = first.stands;
        required = parts.0;
        first = λ other earlier before stands required same.
            both_ways (is_required_of app earlier) (first.before other earlier before stands)
            (and_from earlier.required (bytes_eq app earlier.app) required (bytes_same app earlier.app (named ∙ sym same)));
      };
      named = sym named;
    }

-- where no app wins, it has no required row
pub no_winner : (rows : List Row) (app : List ℕ) → winner_of rows app ≡ None → (place : ℕ) (row : Row) → slice_get rows place ≡ Some row → IsTrue row.required
    → row.app ≡ app → ⊥
unfolding winner_of
no_winner rows app none place row stands required same =
    both_ways (is_required_of app row) (none_from_position (is_required_of app) rows none place row stands)
    (and_from row.required (bytes_eq app row.app) required (bytes_same app row.app (sym same)))

two_win : (rows : List Row) (place other : ℕ) (row also : Row) → IsWinner rows place row → IsWinner rows other also → row.app ≡ also.app → place < other → ⊥
two_win rows place other row also wins more same less = more.first place row less wins.stands wins.required same

pub is_winner : (rows : List Row) (app : List ℕ) (place : ℕ) (row : Row) → IsWinner rows place row → row.app ≡ app → winner_of rows app ≡ Some place
is_winner rows app place row wins named = at (winner_of rows app) refl
  where
    at : (o : Option ℕ) → winner_of rows app ≡ o → o ≡ Some place
    at None none = absurd (no_winner rows app none place row wins.stands wins.required named)
    at (Some other) is =
        let also = winner_is rows app other is in
        elim (cases_order other place) [
          | inl same ↦ ap (λ (n : ℕ). Some n) same
          | inr differ ↦ elim differ [
            | inl less ↦ absurd (two_win rows other place also.row row also.wins wins (also.named ∙ sym named) less)
            | inr more ↦ absurd (two_win rows place other row also.row wins also.wins (named ∙ sym also.named) more)
          ]
        ]

pub has_winner : (rows : List Row) (place : ℕ) (row : Row) → slice_get rows place ≡ Some row → IsTrue row.required
    → (winner : ℕ) × (winner_of rows row.app ≡ Some winner)
has_winner rows place row stands required = at (winner_of rows row.app) refl
  where
    at : (o : Option ℕ) → winner_of rows row.app ≡ o → (winner : ℕ) × (winner_of rows row.app ≡ Some winner)
    at None none = absurd (no_winner rows row.app none place row stands required refl)
    at (Some winner) is = (winner, is)

pub winner_within : (rows : List Row) (app : List ℕ) (place : ℕ) → winner_of rows app ≡ Some place → place < length rows
winner_within rows app place is = let w = winner_is rows app place is in slice_get_within rows place w.row w.wins.stands

-- ---- a row more

winner_of-push : (rows : List Row) (row : Row) (app : List ℕ)
    → winner_of (rows ++ row ∷ []) app ≡ option_or (winner_of rows app) (cond (is_required_of app row) (Some (length rows)) None)
unfolding winner_of
winner_of-push rows row app = position-push (is_required_of app) rows row

none_more : (o : Option ℕ) → option_or o None ≡ o
none_more None = refl
none_more (Some x) = refl

none_left : (o : Option ℕ) → is_some o ≡ false → o ≡ None
none_left None h = refl
none_left (Some x) h = cc

pub knows_nothing : {Hasher : Type 0} (by_app : IndexMap (List ℕ) ℕ Hasher) (rows : List Row) → rows ≡ [] → by_app.entries ≡ [] → KnowsWinners by_app rows
unfolding winner_of
knows_nothing by_app rows none empty app = rw (empty, none) refl

-- a row that isn't required, or whose app has a winner, changes no winner
pub knows_same : {Hasher : Type 0} (by_app : IndexMap (List ℕ) ℕ Hasher) (rows : List Row) (row : Row) → KnowsWinners by_app rows
    → (row.required ≡ true → is_some (get (pointwise nat_eq) by_app row.app) ≡ true) → KnowsWinners by_app (rows ++ row ∷ [])
knows_same by_app rows row known had app = known app ∙ sym (winner_of-push rows row app ∙ at (is_required_of app row) refl (winner_of rows app) refl)
  where
    at : (b : Bool) → is_required_of app row ≡ b → (o : Option ℕ) → winner_of rows app ≡ o → option_or o (cond b (Some (length rows)) None) ≡ o
    at b is (Some x) was = refl
    at false is None was = refl
    at true is None was =
        let parts = and_parts row.required (bytes_eq app row.app) is in
        let same = same_bytes app row.app parts.1 in
        absurd (both_ways (is_some (get (pointwise nat_eq) by_app row.app)) (ap is_some (ap (get (pointwise nat_eq) by_app) (sym same) ∙ known app ∙ was)) (had parts.0))

-- the first required row of an app is its winner
pub knows_more : {Hasher : Type 0} (by_app new : IndexMap (List ℕ) ℕ Hasher) (rows : List Row) (row : Row) (name : List ℕ) (place : ℕ)
    → KnowsWinners by_app rows → row.required ≡ true → is_some (get (pointwise nat_eq) by_app row.app) ≡ false → name ≡ row.app → place ≡ length rows
    → Updates (pointwise nat_eq) by_app new name (Some place) → KnowsWinners new (rows ++ row ∷ [])
knows_more by_app new rows row name place known required fresh named at_end updates app =
    updates.0 app
    ∙ ap (λ (n : List ℕ). cond (pointwise nat_eq n app) (Some place) (get (pointwise nat_eq) by_app app)) named
    ∙ ap (λ (b : Bool). cond b (Some place) (get (pointwise nat_eq) by_app app)) (nat_list_eq_equiv.symm row.app app)
    ∙ ap (λ (n : ℕ). cond (bytes_eq app row.app) (Some n) (get (pointwise nat_eq) by_app app)) at_end
    ∙ ap (λ (o : Option ℕ). cond (bytes_eq app row.app) (Some (length rows)) o) (known app)
    ∙ sym (winner_of-push rows row app ∙ ap (λ (b : Bool). option_or (winner_of rows app) (cond (b && bytes_eq app row.app) (Some (length rows)) None)) required ∙ at (bytes_eq app row.app) refl)
  where
    at : (b : Bool) → bytes_eq app row.app ≡ b
        → option_or (winner_of rows app) (cond b (Some (length rows)) None) ≡ cond b (Some (length rows)) (winner_of rows app)
    at true is = ap (λ (o : Option ℕ). option_or o (Some (length rows))) (sym (known app) ∙ ap (get (pointwise nat_eq) by_app) (same_bytes app row.app is) ∙ none_left (get (pointwise nat_eq) by_app row.app) fresh)
    at false is = none_more (winner_of rows app)
