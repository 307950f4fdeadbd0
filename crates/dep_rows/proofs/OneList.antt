-- Of two rows so far of one root, one goes on where the other ends.
use Rattle.std.proofs.Common.{◌≡◌, ℕ, ◌+◌, ◌<◌, ◌≤◌, ◌⊎◌, inl, inr, List, [], ◌∷◌, ◌++◌, length, slice_get, Some, Result, Ok, Contains, sym, ◌∙◌, ap, subst, arith, append-nil, append_assoc, le_antisymm}
use Rattle.std.proofs.lemmas.List.{length-append}
use Rattle.std.proofs.lemmas.List.Elements.{All-contains, Contains-append_right, Contains-append_cases, Contains-get_or}
use Rattle.std.proofs.lemmas.Option.{same_Some}
use Rattle.dep_options.specs.declared.decl.Decl.{Decl}
use Rattle.dep_rows.specs.declared.row.Row.{Row}
use Rattle.dep_rows.specs.Rows.{ChildrenOf, AnswersOnce, Blocks, AreWinners, rows_from}
use Rattle.dep_rows.specs.Rows.Blocks.{none, next}
use Rattle.dep_rows.proofs.Ordered.{no_less_after, not_itself_before}
use Rattle.dep_rows.proofs.Places.{get_before}
use Rattle.dep_rows.proofs.Winners.{Wins, wins_longer, wins_shorter}
use Rattle.dep_rows.proofs.Blocks.{length-rows_from}

pub here : (front : List ℕ) (x : ℕ) (rest : List ℕ) → Contains (front ++ x ∷ rest) x
here front x rest = Contains-append_right front (x ∷ rest) x (Contains-get_or (x ∷ rest) 0 0 (omega arith))

-- a winner among rows that two lists begin with wins in both
pub both_win : (common more other_more : List Row) (place : ℕ) → place < length common → Wins (common ++ more) place → Wins (common ++ other_more) place
both_win common more other_more place within wins = (wins.0, wins_longer common other_more place wins.0 (wins_shorter common more place wins.0 within wins.1))

-- after the same winners the next one of another list stands no later
pub no_later : (common more other_more : List Row) (front : List ℕ) (x : ℕ) (rest : List ℕ) (y : ℕ) (other_rest : List ℕ) → x < length common
    → AreWinners (common ++ more) (front ++ x ∷ rest) → AreWinners (common ++ other_more) (front ++ y ∷ other_rest) → y ≤ x
no_later common more other_more front x rest y other_rest within are others =
    let wins = All-contains (Wins (common ++ more)) (front ++ x ∷ rest) x are.only (here front x rest) in
    let also = both_win common more other_more x within wins in
    elim (Contains-append_cases front (y ∷ other_rest) x (others.all x also.0 also.1)) [
      | inl before ↦ absurd (not_itself_before front x rest are.in_order before)
      | inr after ↦ no_less_after front y other_rest x others.in_order after
    ]

-- the other rows have these rows, and the children of further winners
pub record GoesOn {Fault : Type 0} (children : ChildrenOf Fault) (rows other : List Row) (asked other_asked : List ℕ) : Type 0 where
  pub further : List ℕ
  pub more : List Row
  pub asks : other_asked ≡ asked ++ further
  pub whole : other ≡ rows ++ more
  pub blocks : Blocks children other (length rows) further more

same_answer : {Fault : Type 0} (a b : List Decl) → ◌≡◌ {A = Result (List Decl) Fault} (Ok a) (Ok b) → a ≡ b
same_answer a b same = cc

-- two rows so far
module _ {Fault : Type 0} (children : ChildrenOf Fault) (once : AnswersOnce children) (rows other : List Row) (asked later other_asked other_later : List ℕ) (winners : AreWinners rows (asked ++ later)) (others : AreWinners other (other_asked ++ other_later)) where
  abbrev pub Either : Type 0
  Either = GoesOn children rows other asked other_asked ⊎ GoesOn children other rows other_asked asked

  next_same : (common more other_more : List Row) (front : List ℕ) (x y : ℕ) (rest other_rest : List ℕ) → rows ≡ common ++ more → other ≡ common ++ other_more
      → asked ≡ front ++ x ∷ rest → other_asked ≡ front ++ y ∷ other_rest → x < length common → y < length common → x ≡ y
  next_same common more other_more front x y rest other_rest whole other_whole asks other_asks x_within y_within =
      let are : AreWinners (common ++ more) (front ++ x ∷ (rest ++ later)) =
      subst (λ (rs : List Row). AreWinners rs (front ++ x ∷ (rest ++ later))) whole
      (subst (λ (ws : List ℕ). AreWinners rows ws) (ap (λ (ws : List ℕ). ws ++ later) asks ∙ append_assoc front (x ∷ rest) later) winners)
      in
      let other_are : AreWinners (common ++ other_more) (front ++ y ∷ (other_rest ++ other_later)) =
      subst (λ (rs : List Row). AreWinners rs (front ++ y ∷ (other_rest ++ other_later))) other_whole
      (subst (λ (ws : List ℕ). AreWinners other ws) (ap (λ (ws : List ℕ). ws ++ other_later) other_asks ∙ append_assoc front (y ∷ other_rest) other_later) others)
      in
      le_antisymm
      (no_later common other_more more front y (other_rest ++ other_later) x (rest ++ later) y_within other_are are)
      (no_later common more other_more front x (rest ++ later) y (other_rest ++ other_later) x_within are other_are)

  same_child : (common more other_more : List Row) (x y : ℕ) (row other_row : Row) (decls other_decls : List Decl) → rows ≡ common ++ more
      → other ≡ common ++ other_more → x < length common → x ≡ y → slice_get rows x ≡ Some row → slice_get other y ≡ Some other_row
      → children row.app row.decl (Ok decls) → children other_row.app other_row.decl (Ok other_decls) → decls ≡ other_decls
  same_child common more other_more x y row other_row decls other_decls whole other_whole within same stands other_stands answer other_answer =
      let in_common : slice_get rows x ≡ slice_get common x = ap (λ (rs : List Row). slice_get rs x) whole ∙ get_before common more x within in
      let in_other : slice_get other x ≡ slice_get common x = ap (λ (rs : List Row). slice_get rs x) other_whole ∙ get_before common other_more x within in
      let same_row : row ≡ other_row = same_Some row other_row (sym stands ∙ in_common ∙ sym in_other ∙ ap (λ (n : ℕ). slice_get other n) same ∙ other_stands) in
      same_answer decls other_decls (once row.app row.decl (Ok decls) (Ok other_decls) answer (subst (λ (r : Row). children r.app r.decl (Ok other_decls)) (sym same_row) other_answer))

  pub either_from : (start : ℕ) (common more other_more : List Row) (front rest other_rest : List ℕ) → length common ≡ start → rows ≡ common ++ more
      → other ≡ common ++ other_more → asked ≡ front ++ rest → other_asked ≡ front ++ other_rest → Blocks children rows start rest more
      → Blocks children other start other_rest other_more → Either
  either_from start common _ other_more front _ other_rest long whole other_whole asks other_asks none blocks =
      let rows_are : rows ≡ common = whole ∙ append-nil common in
      inl (record {
        further = other_rest;
        more = other_more;
        asks = other_asks ∙ ap (λ (ws : List ℕ). ws ++ other_rest) (sym (append-nil front) ∙ sym asks);
        whole = other_whole ∙ ap (λ (rs : List Row). rs ++ other_more) (sym rows_are);
        blocks = subst (λ (n : ℕ). Blocks children other n other_rest other_more) (sym long ∙ sym (ap length rows_are)) blocks;
      })
  either_from start common _ _ front _ _ long whole other_whole asks other_asks (next {winner = x} {winners = rest} {row = row} {decls = decls} {more = more} before stands answer blocks) none =
      let other_is : other ≡ common = other_whole ∙ append-nil common in
      inr (record {
        further = x ∷ rest;
        more = rows_from (Some x) 0 decls ++ more;
        asks = asks ∙ ap (λ (ws : List ℕ). ws ++ x ∷ rest) (sym (append-nil front) ∙ sym other_asks);
        whole = whole ∙ ap (λ (rs : List Row). rs ++ (rows_from (Some x) 0 decls ++ more)) (sym other_is);
        blocks = subst (λ (n : ℕ). Blocks children rows n (x ∷ rest) (rows_from (Some x) 0 decls ++ more)) (sym long ∙ sym (ap length other_is)) (next before stands answer blocks);
      })
  either_from start common _ _ front _ _ long whole other_whole asks other_asks (next {winner = x} {winners = rest} {row = row} {decls = decls} {more = more} before stands answer blocks) (next {winner = y} {winners = other_rest} {row = other_row} {decls = other_decls} {more = other_more} other_before other_stands other_answer other_blocks) =
      let x_within : x < length common = omega (arith, before, long) in
      let y_within : y < length common = omega (arith, other_before, long) in
      let block = rows_from (Some x) 0 decls in
      let same : x ≡ y = next_same common (block ++ more) (rows_from (Some y) 0 other_decls ++ other_more) front x y rest other_rest whole other_whole asks other_asks x_within y_within in
      let same_decls : decls ≡ other_decls = same_child common (block ++ more) (rows_from (Some y) 0 other_decls ++ other_more) x y row other_row decls other_decls whole other_whole x_within same stands other_stands answer other_answer in
      let same_block : rows_from (Some y) 0 other_decls ≡ block = ap (λ (n : ℕ). rows_from (Some n) 0 other_decls) (sym same) ∙ ap (λ (ds : List Decl). rows_from (Some x) 0 ds) (sym same_decls) in
      let block_long = length-rows_from (Some x) 0 decls in
      let all_long = length-append common block in
      either_from (start + length decls) (common ++ block) more other_more (front ++ x ∷ []) rest other_rest
      (omega (arith, block_long, all_long, long))
      (whole ∙ sym (append_assoc common block more))
      (other_whole ∙ ap (λ (rs : List Row). common ++ (rs ++ other_more)) same_block ∙ sym (append_assoc common block other_more))
      (asks ∙ sym (append_assoc front (x ∷ []) rest))
      (other_asks ∙ ap (λ (n : ℕ). front ++ n ∷ other_rest) (sym same) ∙ sym (append_assoc front (x ∷ []) other_rest))
      blocks
      (subst (λ (ds : List Decl). Blocks children other (start + length ds) other_rest other_more) (sym same_decls) other_blocks)
