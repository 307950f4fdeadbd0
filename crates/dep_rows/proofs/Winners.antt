-- The winners of rows that go on.
use Rattle.std.proofs.Common.{◌≡◌, ℕ, ◌<◌, ◌≤◌, ◌⊎◌, inl, inr, Bool, true, false, ◌&&◌, cond, List, [], ◌∷◌, ◌++◌, length, get_or, Option, Some, None, All, Contains, IsTrue, refl, sym, ◌∙◌, ap, subst, arith, append-nil, append_assoc}
use Rattle.std.specs.Option.{is_none}
use Rattle.std.proofs.lemmas.Bool.{both_ways}
use Rattle.std.proofs.lemmas.List.{length-append}
use Rattle.std.proofs.lemmas.List.Elements.{All-push, All-weaker, Contains-append_left, Contains-push}
use Rattle.std.proofs.lemmas.List.Quantifiers.{all_pairs_push}
use Rattle.std.proofs.lemmas.Option.{none-some, slice_get_within}
use Rattle.dep_rows.specs.declared.row.Row.{Row}
use Rattle.dep_rows.specs.Growing.{next_winner, next_winners}
use Rattle.dep_rows.specs.Rows.{IsWinner, AreWinners, winner_of}
use Rattle.dep_rows.proofs.Places.{get_longer, get_shorter, get_end, get_cases, get_one}
use Rattle.dep_rows.proofs.WinnerOf.{winner_is, no_winner}

pub wins_longer : (rows more : List Row) (place : ℕ) (row : Row) → IsWinner rows place row → IsWinner (rows ++ more) place row
wins_longer rows more place row wins =
    let within : place < length rows = slice_get_within rows place row wins.stands in
    record {
      stands = get_longer rows more place row wins.stands;
      required = wins.required;
      first = λ other earlier before stands. wins.first other earlier before (get_shorter rows more other earlier (omega (arith, within, before)) stands);
    }

pub wins_shorter : (rows more : List Row) (place : ℕ) (row : Row) → place < length rows → IsWinner (rows ++ more) place row → IsWinner rows place row
wins_shorter rows more place row within wins = record {
  stands = get_shorter rows more place row within wins.stands;
  required = wins.required;
  first = λ other earlier before stands. wins.first other earlier before (get_longer rows more other earlier stands);
}

abbrev pub Wins : List Row → ℕ → Type 0
Wins rows place = (row : Row) × IsWinner rows place row

winner_within : (rows : List Row) (winners : List ℕ) → AreWinners rows winners → (k d : ℕ) → k < length winners → get_or winners k d < length rows
winner_within rows winners are k d within =
    let wins = are.only k d within in
    slice_get_within rows (get_or winners k d) wins.0 wins.1.stands

longer_wins : (rows : List Row) (winners : List ℕ) (row : Row) → AreWinners rows winners → All (Wins (rows ++ row ∷ [])) winners
longer_wins rows winners row are = All-weaker (Wins rows) (Wins (rows ++ row ∷ [])) (λ place wins. (wins.0, wins_longer rows (row ∷ []) place wins.0 wins.1)) winners are.only

-- a winner is one of the rows before, or the last row
pub record IsLast (rows : List Row) (place : ℕ) (last row : Row) : Type 0 where
  pub at : place ≡ length rows
  pub is : last ≡ row

wins_cases : (rows : List Row) (last : Row) (place : ℕ) (row : Row) → IsWinner (rows ++ last ∷ []) place row
    → IsWinner rows place row ⊎ IsLast rows place last row
wins_cases rows last place row wins =
    elim (get_cases rows (last ∷ []) place row wins.stands) [
      | inl stands ↦ inl (wins_shorter rows (last ∷ []) place row (slice_get_within rows place row stands) wins)
      | inr p ↦
          let one = get_one last p.place row p.stands in
          let at = p.at in
          let zeroth = one.0 in
          inr (record { at = omega (arith, at, zeroth); is = one.1 })
    ]

push_winner : (rows : List Row) (winners : List ℕ) (row : Row) → IsTrue row.required → winner_of rows row.app ≡ None → AreWinners rows winners
    → AreWinners (rows ++ row ∷ []) (winners ++ length rows ∷ [])
push_winner rows winners row required fresh are = record {
  in_order = all_pairs_push (λ earlier later. earlier < later) winners (length rows) are.in_order (winner_within rows winners are);
  only = All-push (Wins (rows ++ row ∷ [])) winners (length rows) (longer_wins rows winners row are) (
    row,
    record {
      stands = get_end rows row;
      required = required;
      first = λ other earlier before stands needed same. no_winner rows row.app fresh other earlier (get_shorter rows (row ∷ []) other earlier before stands) needed same;
    },
  );
  all = λ place other wins.
      elim (wins_cases rows row place other wins) [
        | inl before ↦ Contains-append_left winners (length rows ∷ []) place (are.all place other before)
        | inr last ↦ subst (λ (p : ℕ). Contains (winners ++ length rows ∷ []) p) (sym last.at) (Contains-push winners (length rows))
      ];
}

some_winner : (o : Option ℕ) → is_none o ≡ false → (place : ℕ) × (o ≡ Some place)
some_winner None h = cc
some_winner (Some place) h = (place, refl)

push_other : (rows : List Row) (winners : List ℕ) (row : Row) → (IsTrue row.required → is_none (winner_of rows row.app) ≡ false) → AreWinners rows winners
    → AreWinners (rows ++ row ∷ []) winners
push_other rows winners row known are = record {
  in_order = are.in_order;
  only = longer_wins rows winners row are;
  all = λ place other wins.
      elim (wins_cases rows row place other wins) [
        | inl before ↦ are.all place other before
        | inr last ↦
            let required : IsTrue row.required = subst (λ (r : Row). IsTrue r.required) (sym last.is) wins.required in
            let found = some_winner (winner_of rows row.app) (known required) in
            let w = winner_is rows row.app found.0 found.1 in
            let within = slice_get_within rows found.0 w.row w.wins.stands in
            let at = last.at in
            let same : w.row.app ≡ other.app = w.named ∙ ap (λ (r : Row). r.app) last.is in
            absurd (wins.first found.0 w.row (omega (arith, within, at)) (get_longer rows (row ∷ []) found.0 w.row w.wins.stands) w.wins.required same)
      ];
}

-- the winners with the next row
pub winners_push : (rows : List Row) (winners : List ℕ) (row : Row) → AreWinners rows winners → AreWinners (rows ++ row ∷ []) (winners ++ next_winner rows row)
winners_push rows winners row are = at row.required (winner_of rows row.app) refl refl where
  stay : (IsTrue row.required → is_none (winner_of rows row.app) ≡ false) → AreWinners (rows ++ row ∷ []) (winners ++ [])
  stay known = subst (λ (ws : List ℕ). AreWinners (rows ++ row ∷ []) ws) (sym (append-nil winners)) (push_other rows winners row known are)

  at : (required : Bool) (known : Option ℕ) → row.required ≡ required → winner_of rows row.app ≡ known
      → AreWinners (rows ++ row ∷ []) (winners ++ cond (required && is_none known) (length rows ∷ []) [])
  at true None is_required is_known = push_winner rows winners row is_required is_known are
  at true (Some other) is_required is_known = stay (λ h. ap is_none is_known)
  at false None is_required is_known = stay (λ h. absurd (both_ways _ is_required h))
  at false (Some other) is_required is_known = stay (λ h. ap is_none is_known)

-- the winners with all the rows that come next
pub winners_more : (rows : List Row) (winners : List ℕ) (more : List Row) → AreWinners rows winners
    → AreWinners (rows ++ more) (winners ++ next_winners rows more)
winners_more rows winners [] are = rw (append-nil rows, append-nil winners) are
winners_more rows winners (row ∷ more) are =
    subst (λ (ws : List ℕ). AreWinners (rows ++ row ∷ more) ws) (append_assoc winners (next_winner rows row) (next_winners (rows ++ row ∷ []) more))
    (subst (λ (rs : List Row). AreWinners rs (winners ++ next_winner rows row ++ next_winners (rows ++ row ∷ []) more)) (append_assoc rows (row ∷ []) more)
    (winners_more (rows ++ row ∷ []) (winners ++ next_winner rows row) more (winners_push rows winners row are)))

-- no rows have no winners
pub no_winners : AreWinners [] []
no_winners = record {
  in_order = λ i j d before within. absurd (omega (arith, within));
  only = λ k d within. absurd (omega (arith, within));
  all = λ place row wins. absurd (none-some row wins.stands);
}

next_few : (wins : Bool) (n : ℕ) → length (cond wins (n ∷ []) []) ≤ 1
next_few true n = omega arith
next_few false n = omega arith

-- no more winners come than rows
pub few_winners : (rows more : List Row) → length (next_winners rows more) ≤ length more
few_winners rows [] = omega arith
few_winners rows (row ∷ more) =
    let one = next_few (row.required && is_none (winner_of rows row.app)) (length rows) in
    let rest = few_winners (rows ++ row ∷ []) more in
    let long = length-append (next_winner rows row) (next_winners (rows ++ row ∷ []) more) in
    omega (arith, one, rest, long)
