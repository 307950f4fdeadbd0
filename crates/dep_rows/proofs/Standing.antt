-- Rows so far, from the root on to the last winner's children.
use Rattle.std.proofs.Common.{◌≡◌, ℕ, ◌+◌, ◌<◌, ◌≤◌, inl, inr, List, [], ◌∷◌, ◌++◌, length, slice_get, Option, Some, None, Ok, sym, ◌∙◌, ap, subst, arith, append-nil, append_assoc}
use Rattle.std.proofs.lemmas.List.{length-append}
use Rattle.std.proofs.lemmas.List.Elements.{All-append, Contains-append_left}
use Rattle.std.proofs.lemmas.Option.{none-some, slice_get_within}
use Rattle.dep_options.specs.declared.decl.Decl.{Decl}
use Rattle.dep_rows.specs.declared.row.Row.{Row}
use Rattle.dep_rows.specs.Growing.{next_winners}
use Rattle.dep_rows.specs.Rows.{ChildrenOf, AreWinners, AreWellFormed, IsDeclaredBy, AreRowsSoFar, row_of, rows_from}
use Rattle.dep_rows.specs.Rows.Blocks.{none}
use Rattle.dep_rows.proofs.Places.{get_cases, get_longer}
use Rattle.dep_rows.proofs.Winners.{winners_more, no_winners}
use Rattle.dep_rows.proofs.Blocks.{length-rows_from, as_declared, declared_by_one, blocks_longer, blocks_push}

declared_longer : (winners more : List ℕ) (place : ℕ) (by : Option ℕ) → IsDeclaredBy winners place by → IsDeclaredBy (winners ++ more) place by
declared_longer winners more place None h = tt
declared_longer winners more place (Some by) h = (h.0, Contains-append_left winners more by h.1)

declared_later : (winners : List ℕ) (place later : ℕ) (by : Option ℕ) → place ≤ later → IsDeclaredBy winners place by → IsDeclaredBy winners later by
declared_later winners place later None past h = tt
declared_later winners place later (Some by) past h = let before = h.0 in (omega (arith, before, past), h.1)

-- rows stay well formed with the declarations of one manifest more
pub well_formed_more : (rows : List Row) (winners : List ℕ) (by : Option ℕ) (decls : List Decl) → AreWellFormed rows winners
    → IsDeclaredBy winners (length rows) by → AreWellFormed (rows ++ rows_from by 0 decls) (winners ++ next_winners rows (rows_from by 0 decls))
well_formed_more rows winners by decls are known = record {
  winning = winners_more rows winners (rows_from by 0 decls) are.winning;
  as_declared = All-append (λ row. row ≡ row_of row.by row.index row.decl) rows (rows_from by 0 decls) are.as_declared (as_declared by 0 decls);
  declared_by = λ place row stands.
      declared_longer winners (next_winners rows (rows_from by 0 decls)) place row.by
      (elim (get_cases rows (rows_from by 0 decls) place row stands) [
        | inl before ↦ are.declared_by place row before
        | inr p ↦ declared_later winners (length rows) place row.by p.past (subst (λ (o : Option ℕ). IsDeclaredBy winners (length rows) o) (declared_by_one by 0 decls p.place row p.stands) known)
      ]);
}

pub nothing_well_formed : AreWellFormed [] []
nothing_well_formed = record {
  winning = no_winners;
  as_declared = λ k d within. absurd (omega (arith, within));
  declared_by = λ place row stands. absurd (none-some row stands);
}

-- the rows of the root, before a winner is asked
pub so_far_root : {Fault : Type 0} (children : ChildrenOf Fault) (root : List Decl)
    → AreRowsSoFar children root (rows_from None 0 root) [] (next_winners [] (rows_from None 0 root))
so_far_root children root = record {
  below = [];
  whole = sym (append-nil (rows_from None 0 root));
  blocks = none;
  winners = winners_more [] [] (rows_from None 0 root) no_winners;
}

-- the rows with the children of the next winner
pub so_far_more : {Fault : Type 0} (children : ChildrenOf Fault) (root : List Decl) (rows : List Row) (asked : List ℕ) (winner : ℕ) (later : List ℕ)
    (row : Row) (decls : List Decl)
    → AreRowsSoFar children root rows asked (winner ∷ later) → slice_get rows winner ≡ Some row → children row.app row.decl (Ok decls)
    → AreRowsSoFar children root (rows ++ rows_from (Some winner) 0 decls) (asked ++ winner ∷ []) (later ++ next_winners rows (rows_from (Some winner) 0 decls))
so_far_more children root rows asked winner later row decls so_far stands answer =
    let block = rows_from (Some winner) 0 decls in
    let within : winner < length rows = slice_get_within rows winner row stands in
    let long : length rows ≡ length root + length so_far.below = ap length so_far.whole ∙ length-append (rows_from None 0 root) so_far.below ∙ ap (λ (n : ℕ). n + length so_far.below) (length-rows_from None 0 root) in
    let longer = blocks_longer children rows block (length root) asked so_far.below so_far.blocks in
    let there : slice_get (rows ++ block) winner ≡ Some row = get_longer rows block winner row stands in
    record {
      below = so_far.below ++ block;
      whole = ap (λ (rs : List Row). rs ++ block) so_far.whole ∙ append_assoc (rows_from None 0 root) so_far.below block;
      blocks = blocks_push children (rows ++ block) winner row decls (length root) asked so_far.below longer (omega (arith, within, long)) there answer;
      winners =
          subst (λ (ws : List ℕ). AreWinners (rows ++ block) ws)
          (append_assoc asked (winner ∷ later) (next_winners rows block) ∙ sym (append_assoc asked (winner ∷ []) (later ++ next_winners rows block)))
          (winners_more rows (asked ++ winner ∷ later) block so_far.winners);
    }
