-- The declarations of one manifest become rows one by one.
use Rattle.std.proofs.Common.{◌≡◌, ℕ, ◌+◌, ◌<◌, ◌≤◌, List, [], ◌∷◌, ◌++◌, length, Option, sym, ◌∙◌, ap, arith, append-nil, append_assoc}
use Rattle.std.proofs.lemmas.List.{length-append, length_push, nil_from_length}
use Rattle.dep_options.specs.declared.decl.Decl.{Decl}
use Rattle.dep_rows.specs.declared.row.Row.{Row}
use Rattle.dep_rows.specs.Growing.{next_winner, next_winners}
use Rattle.dep_rows.specs.Rows.{row_of, rows_from, most_rows}
use Rattle.dep_rows.proofs.Blocks.{length-rows_from, rows_from-push}

pub next_winners-push : (rows more : List Row) (row : Row) → next_winners rows (more ++ row ∷ []) ≡ next_winners rows more ++ next_winner (rows ++ more) row
next_winners-push rows [] row = append-nil (next_winner rows row) ∙ ap (λ (rs : List Row). next_winner rs row) (sym (append-nil rows))
next_winners-push rows (first ∷ more) row =
    ap (λ (ws : List ℕ). next_winner rows first ++ ws) (next_winners-push (rows ++ first ∷ []) more row)
    ∙ sym (append_assoc (next_winner rows first) (next_winners (rows ++ first ∷ []) more) (next_winner (rows ++ first ∷ [] ++ more) row))
    ∙ ap (λ (rs : List Row). next_winner rows first ++ next_winners (rows ++ first ∷ []) more ++ next_winner rs row) (append_assoc rows (first ∷ []) more)

-- so many of the declarations have become rows, and these are left
pub record Grows (by : Option ℕ) (index : ℕ) (decls left : List Decl) (old_rows rows : List Row) (old_winners winners : List ℕ) : Type 0 where
  pub done : List Decl
  pub split : decls ≡ done ++ left
  pub counted : index ≡ length done
  pub rows_are : rows ≡ old_rows ++ rows_from by 0 done
  pub winners_are : winners ≡ old_winners ++ next_winners old_rows (rows_from by 0 done)

pub grows_none : (by : Option ℕ) (index : ℕ) (decls left : List Decl) (rows : List Row) (winners : List ℕ) → index ≡ 0 → left ≡ decls
    → Grows by index decls left rows rows winners winners
grows_none by index decls left rows winners at all = record {
  done = [];
  split = sym all;
  counted = at;
  rows_are = sym (append-nil rows);
  winners_are = sym (append-nil winners);
}

-- there is room for one more
pub grows_room : (by : Option ℕ) (index : ℕ) (decls left : List Decl) (old_rows rows : List Row) (old_winners winners : List ℕ) (all : List Decl) (decl : Decl)
    → Grows by index decls all old_rows rows old_winners winners → all ≡ decl ∷ left → length old_rows + length decls ≤ most_rows
    → (length rows < most_rows) × (index < most_rows)
grows_room by index decls left old_rows rows old_winners winners all decl grows is few =
    let counted = grows.counted in
    let long_decls : length decls ≡ length grows.done + length (decl ∷ left) = ap length grows.split ∙ length-append grows.done all ∙ ap (λ (ds : List Decl). length grows.done + length ds) is in
    let long_rows : length rows ≡ length old_rows + length grows.done = ap length grows.rows_are ∙ length-append old_rows (rows_from by 0 grows.done) ∙ ap (λ (n : ℕ). length old_rows + n) (length-rows_from by 0 grows.done) in
    (omega (arith, few, long_decls, long_rows), omega (arith, few, long_decls, counted))

pub grows_more : (by : Option ℕ) (index : ℕ) (decls left : List Decl) (old_rows rows new_rows : List Row) (old_winners winners new_winners : List ℕ)
    (all : List Decl) (decl : Decl) (row : Row) → Grows by index decls all old_rows rows old_winners winners → all ≡ decl ∷ left → row ≡ row_of by index decl
    → new_rows ≡ rows ++ row ∷ [] → new_winners ≡ winners ++ next_winner rows row → Grows by (index + 1) decls left old_rows new_rows old_winners new_winners
grows_more by index decls left old_rows rows new_rows old_winners winners new_winners all decl row grows is row_is rows_are winners_are =
    let done = grows.done in
    let counted = grows.counted in
    let same_row : row ≡ row_of by (0 + length done) decl = row_is ∙ ap (λ (n : ℕ). row_of by n decl) (omega (arith, counted)) in
    let more : rows_from by 0 (done ++ decl ∷ []) ≡ rows_from by 0 done ++ row ∷ [] = rows_from-push by 0 done decl ∙ ap (λ (r : Row). rows_from by 0 done ++ r ∷ []) (sym same_row) in
    let long = length_push done decl in
    record {
      done = done ++ decl ∷ [];
      split = grows.split ∙ ap (λ (ds : List Decl). done ++ ds) is ∙ sym (append_assoc done (decl ∷ []) left);
      counted = omega (arith, counted, long);
      rows_are = rows_are ∙ ap (λ (rs : List Row). rs ++ row ∷ []) grows.rows_are ∙ append_assoc old_rows (rows_from by 0 done) (row ∷ []) ∙ ap (λ (rs : List Row). old_rows ++ rs) (sym more);
      winners_are =
          winners_are
          ∙ ap (λ (ws : List ℕ). ws ++ next_winner rows row) grows.winners_are
          ∙ append_assoc old_winners (next_winners old_rows (rows_from by 0 done)) (next_winner rows row)
          ∙ ap (λ (rs : List Row). old_winners ++ (next_winners old_rows (rows_from by 0 done) ++ next_winner rs row)) grows.rows_are
          ∙ ap (λ (ws : List ℕ). old_winners ++ ws) (sym (next_winners-push old_rows (rows_from by 0 done) row))
          ∙ ap (λ (rs : List Row). old_winners ++ next_winners old_rows rs) (sym more);
    }

-- all have become rows
pub record Grown (by : Option ℕ) (decls : List Decl) (old_rows rows : List Row) (old_winners winners : List ℕ) : Type 0 where
  pub rows_are : rows ≡ old_rows ++ rows_from by 0 decls
  pub winners_are : winners ≡ old_winners ++ next_winners old_rows (rows_from by 0 decls)

pub grows_all : (by : Option ℕ) (index : ℕ) (decls left : List Decl) (old_rows rows : List Row) (old_winners winners : List ℕ) (count : ℕ)
    → Grows by index decls left old_rows rows old_winners winners → count ≡ length left → count ≡ 0 → Grown by decls old_rows rows old_winners winners
grows_all by index decls left old_rows rows old_winners winners count grows counts zeroth =
    let empty : left ≡ [] = nil_from_length left (sym counts ∙ zeroth) in
    let all : decls ≡ grows.done = grows.split ∙ ap (λ (ds : List Decl). grows.done ++ ds) empty ∙ append-nil grows.done in
    record {
      rows_are = grows.rows_are ∙ ap (λ (ds : List Decl). old_rows ++ rows_from by 0 ds) (sym all);
      winners_are = grows.winners_are ∙ ap (λ (ds : List Decl). old_winners ++ next_winners old_rows (rows_from by 0 ds)) (sym all);
    }
