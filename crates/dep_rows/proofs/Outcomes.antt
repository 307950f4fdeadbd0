-- A root has one outcome.
use Rattle.std.proofs.Common.{◌≡◌, ℕ, ◌+◌, ◌<◌, ◌≤◌, ◌⊎◌, inl, inr, List, [], ◌∷◌, ◌++◌, length, slice_get, Some, None, Result, Ok, Err, Contains, refl, sym, ◌∙◌, ap, subst, arith, append-nil, append_assoc, le_antisymm}
use Rattle.std.proofs.lemmas.List.{length-append}
use Rattle.std.proofs.lemmas.List.Elements.{All-contains, Contains-append_cases}
use Rattle.std.proofs.lemmas.Option.{same_Some, slice_get_within}
use Rattle.dep_options.specs.declared.decl.Decl.{Decl}
use Rattle.dep_rows.specs.declared.row.Row.{Row}
use Rattle.dep_rows.specs.Rows.{ChildrenOf, AnswersOnce, Blocks, AreWinners, AreRows, AreRowsSoFar, PassesLimit, Meets, rows_from, most_rows}
use Rattle.dep_rows.specs.Rows.Blocks.{none, next}
use Rattle.dep_rows.proofs.Ordered.{not_itself_before}
use Rattle.dep_rows.proofs.Places.{get_shorter}
use Rattle.dep_rows.proofs.Winners.{Wins}
use Rattle.dep_rows.proofs.Blocks.{length-rows_from}
use Rattle.dep_rows.proofs.OneList.{GoesOn, here, both_win, no_later, either_from}

-- of two rows so far of one root, one goes on where the other ends
pub either : {Fault : Type 0} (children : ChildrenOf Fault) → AnswersOnce children
    → (root : List Decl) (rows other : List Row) (asked later other_asked other_later : List ℕ)
    → AreRowsSoFar children root rows asked later → AreRowsSoFar children root other other_asked other_later
    → GoesOn children rows other asked other_asked ⊎ GoesOn children other rows other_asked asked
either children once root rows other asked later other_asked other_later so_far other_so_far =
    either_from children once rows other asked later other_asked other_later so_far.winners other_so_far.winners
    (length root) (rows_from None 0 root) so_far.below other_so_far.below [] asked other_asked (length-rows_from None 0 root) so_far.whole other_so_far.whole refl refl so_far.blocks other_so_far.blocks

-- the next winner has no known children
abbrev pub IsEnd : {Fault : Type 0} → ChildrenOf Fault → List Row → List ℕ → Type 0
IsEnd children rows later = (winner : ℕ) (rest : List ℕ) (row : Row) (decls : List Decl) → later ≡ winner ∷ rest → slice_get rows winner ≡ Some row → children row.app row.decl (Ok decls) → ⊥

-- where it goes on from an end, the further winner is the one at the end
module _ {Fault : Type 0} (children : ChildrenOf Fault) (rows more : List Row) (asked later further other_later : List ℕ) (winner : ℕ) (winners : AreWinners rows (asked ++ later)) (others : AreWinners (rows ++ more) (asked ++ winner ∷ (further ++ other_later))) (within : winner < length rows) where
  is_later : Contains later winner
  is_later =
      let wins = All-contains (Wins (rows ++ more)) (asked ++ winner ∷ (further ++ other_later)) winner others.only (here asked winner (further ++ other_later)) in
      let also = subst (λ (rs : List Row). Wins rs winner) (append-nil rows) (both_win rows more [] winner within wins) in
      elim (Contains-append_cases asked later winner (winners.all winner also.0 also.1)) [
        | inl before ↦ absurd (not_itself_before asked winner (further ++ other_later) others.in_order before)
        | inr after ↦ after
      ]

next_is : (rows more : List Row) (asked : List ℕ) (place : ℕ) (rest further : List ℕ) (winner : ℕ) → AreWinners rows (asked ++ place ∷ rest)
    → AreWinners (rows ++ more) (asked ++ winner ∷ further) → winner < length rows → place ≡ winner
next_is rows more asked place rest further winner are others within =
    let here_are : AreWinners (rows ++ []) (asked ++ place ∷ rest) = subst (λ (rs : List Row). AreWinners rs (asked ++ place ∷ rest)) (sym (append-nil rows)) are in
    let wins = All-contains (Wins rows) (asked ++ place ∷ rest) place are.only (here asked place rest) in
    let next_within : place < length rows = slice_get_within rows place wins.0 wins.1.stands in
    le_antisymm
    (no_later rows more [] asked winner further place rest within others here_are)
    (no_later rows [] more asked place rest winner further next_within here_are others)

no_further : {Fault : Type 0} (children : ChildrenOf Fault) (rows other : List Row) (asked later other_asked other_later : List ℕ)
    → AreWinners rows (asked ++ later) → AreWinners other (other_asked ++ other_later) → IsEnd children rows later
    → (start : ℕ) (further : List ℕ) (more : List Row) → start ≡ length rows → other_asked ≡ asked ++ further → other ≡ rows ++ more → Blocks children other start further more → (further ≡ []) × (more ≡ [])
no_further children rows other asked later other_asked other_later winners others ends start _ _ from asks whole none = (refl, refl)
no_further children rows other asked later other_asked other_later winners others ends start _ _ from asks whole (next {winner = winner} {winners = further} {row = row} {decls = decls} {more = more} before stands answer blocks) =
    let all_more = rows_from (Some winner) 0 decls ++ more in
    let within : winner < length rows = omega (arith, before, from) in
    let are : AreWinners (rows ++ all_more) (asked ++ winner ∷ (further ++ other_later)) =
    subst (λ (rs : List Row). AreWinners rs (asked ++ winner ∷ (further ++ other_later))) whole
    (subst (λ (ws : List ℕ). AreWinners other ws) (ap (λ (ws : List ℕ). ws ++ other_later) asks ∙ append_assoc asked (winner ∷ further) other_later) others)
    in
    let there : slice_get rows winner ≡ Some row = get_shorter rows all_more winner row within (subst (λ (rs : List Row). slice_get rs winner ≡ Some row) whole stands) in
    absurd (at_end later winners ends (is_later children rows all_more asked later further other_later winner winners are within) are there) where
      at_end : (left : List ℕ) → AreWinners rows (asked ++ left) → IsEnd children rows left → Contains left winner
          → AreWinners (rows ++ (rows_from (Some winner) 0 decls ++ more)) (asked ++ winner ∷ (further ++ other_later)) → slice_get rows winner ≡ Some row → ⊥
      at_end [] left_are left_ends has are there = let within = has.1 in omega (arith, within)
      at_end (place ∷ rest) left_are left_ends has are there =
          let within : winner < length rows = omega (arith, before, from) in
          let same : place ≡ winner = next_is rows (rows_from (Some winner) 0 decls ++ more) asked place rest (further ++ other_later) winner left_are are within in
          left_ends place rest row decls refl (ap (λ (n : ℕ). slice_get rows n) same ∙ there) answer

-- two ends are one
pub same_end : {Fault : Type 0} (children : ChildrenOf Fault) → AnswersOnce children
    → (root : List Decl) (rows other : List Row) (asked later other_asked other_later : List ℕ)
    → AreRowsSoFar children root rows asked later → AreRowsSoFar children root other other_asked other_later → IsEnd children rows later → IsEnd children other other_later → (rows ≡ other) × (asked ≡ other_asked)
same_end children once root rows other asked later other_asked other_later so_far other_so_far ends other_ends =
    elim (either children once root rows other asked later other_asked other_later so_far other_so_far) [
      | inl on ↦
          let ended = no_further children rows other asked later other_asked other_later so_far.winners other_so_far.winners ends (length rows) on.further on.more refl on.asks on.whole on.blocks in
          (sym (on.whole ∙ ap (λ (rs : List Row). rows ++ rs) ended.1 ∙ append-nil rows), sym (on.asks ∙ ap (λ (ws : List ℕ). asked ++ ws) ended.0 ∙ append-nil asked))
      | inr on ↦
          let ended = no_further children other rows other_asked other_later asked later other_so_far.winners so_far.winners other_ends (length other) on.further on.more refl on.asks on.whole on.blocks in
          (on.whole ∙ ap (λ (rs : List Row). other ++ rs) ended.1 ∙ append-nil other, on.asks ∙ ap (λ (ws : List ℕ). other_asked ++ ws) ended.0 ∙ append-nil other_asked)
    ]

rows_end : {Fault : Type 0} (children : ChildrenOf Fault) (rows : List Row) → IsEnd children rows []
rows_end children rows winner rest row decls is stands answer = cc

apart : {Fault : Type 0} (decls : List Decl) (fault : Fault) → ◌≡◌ {A = Result (List Decl) Fault} (Ok decls) (Err fault) → ⊥
apart decls fault same = cc

first_same : (x y : ℕ) (xs ys : List ℕ) → ◌≡◌ {A = List ℕ} (x ∷ xs) (y ∷ ys) → x ≡ y
first_same x y xs ys same = cc

same_fault : {Fault : Type 0} (a b : Fault) → ◌≡◌ {A = Result (List Decl) Fault} (Err a) (Err b) → a ≡ b
same_fault a b same = cc

met_end : {Fault : Type 0} (children : ChildrenOf Fault) → AnswersOnce children → (root : List Decl) (fault : Fault) (met : Meets children root fault)
    → IsEnd children met.rows (met.winner ∷ met.later)
met_end children once root fault met winner rest row decls is stands answer =
    let same : met.winner ≡ winner = first_same met.winner winner met.later rest is in
    let same_row : row ≡ met.row = same_Some row met.row (sym stands ∙ ap (λ (n : ℕ). slice_get met.rows n) (sym same) ∙ met.stands) in
    apart decls fault (once row.app row.decl (Ok decls) (Err fault) answer (subst (λ (r : Row). children r.app r.decl (Err fault)) (sym same_row) met.answer))

-- no rows pass the limit where others end below it
end_within : {Fault : Type 0} (children : ChildrenOf Fault) → AnswersOnce children → (root : List Decl) (rows : List Row) (asked later : List ℕ)
    → AreRowsSoFar children root rows asked later → IsEnd children rows later → length rows ≤ most_rows → PassesLimit children root → ⊥
end_within children once root rows asked later so_far ends few passes =
    let many = passes.many in
    elim (either children once root rows passes.rows asked later passes.asked passes.later so_far passes.so_far) [
      | inl on ↦
          let ended = no_further children rows passes.rows asked later passes.asked passes.later so_far.winners passes.so_far.winners ends (length rows) on.further on.more refl on.asks on.whole on.blocks in
          let long : length passes.rows ≡ length rows = ap length (on.whole ∙ ap (λ (rs : List Row). rows ++ rs) ended.1 ∙ append-nil rows) in
          omega (arith, many, few, long)
      | inr on ↦
          let long : length rows ≡ length passes.rows + length on.more = ap length on.whole ∙ length-append passes.rows on.more in
          omega (arith, many, few, long)
    ]

pub one_list : {Fault : Type 0} (children : ChildrenOf Fault) → AnswersOnce children
    → (root : List Decl) (rows other : List Row) (winners other_winners : List ℕ) → AreRows children root rows winners
    → AreRows children root other other_winners → (rows ≡ other) × (winners ≡ other_winners)
one_list children once root rows other winners other_winners are others = same_end children once root rows other winners [] other_winners [] are others (rows_end children rows) (rows_end children other)

pub rows_or_limit : {Fault : Type 0} (children : ChildrenOf Fault) → AnswersOnce children → (root : List Decl) (rows : List Row) (winners : List ℕ)
    → AreRows children root rows winners → length rows ≤ most_rows → PassesLimit children root → ⊥
rows_or_limit children once root rows winners are few passes = end_within children once root rows winners [] are (rows_end children rows) few passes

pub fault_or_limit : {Fault : Type 0} (children : ChildrenOf Fault) → AnswersOnce children → (root : List Decl) (fault : Fault) → Meets children root fault
    → PassesLimit children root → ⊥
fault_or_limit children once root fault met passes = end_within children once root met.rows met.asked (met.winner ∷ met.later) met.so_far (met_end children once root fault met) met.few passes

pub rows_or_fault : {Fault : Type 0} (children : ChildrenOf Fault) → AnswersOnce children
    → (root : List Decl) (rows : List Row) (winners : List ℕ) (fault : Fault) → AreRows children root rows winners → Meets children root fault → ⊥
rows_or_fault children once root rows winners fault are met =
    let same = same_end children once root rows met.rows winners [] met.asked (met.winner ∷ met.later) are met.so_far (rows_end children rows) (met_end children once root fault met) in
    let wins = All-contains (Wins met.rows) (met.asked ++ met.winner ∷ met.later) met.winner met.so_far.winners.only (here met.asked met.winner met.later) in
    let also : Wins rows met.winner = subst (λ (rs : List Row). Wins rs met.winner) (sym same.0) wins in
    let has : Contains met.asked met.winner = subst (λ (ws : List ℕ). Contains ws met.winner) (append-nil winners ∙ same.1) (are.winners.all met.winner also.0 also.1) in
    not_itself_before met.asked met.winner met.later met.so_far.winners.in_order has

pub one_fault : {Fault : Type 0} (children : ChildrenOf Fault) → AnswersOnce children → (root : List Decl) (fault other : Fault) → Meets children root fault
    → Meets children root other → fault ≡ other
one_fault children once root fault other met also =
    let same = same_end children once root met.rows also.rows met.asked (met.winner ∷ met.later) also.asked (also.winner ∷ also.later) met.so_far also.so_far (met_end children once root fault met) (met_end children once root other also) in
    let others : AreWinners (met.rows ++ []) (met.asked ++ also.winner ∷ also.later) =
    subst (λ (rs : List Row). AreWinners rs (met.asked ++ also.winner ∷ also.later)) (sym same.0 ∙ sym (append-nil met.rows))
    (subst (λ (ws : List ℕ). AreWinners also.rows (ws ++ also.winner ∷ also.later)) (sym same.1) also.so_far.winners)
    in
    let within : also.winner < length met.rows = slice_get_within met.rows also.winner also.row (ap (λ (rs : List Row). slice_get rs also.winner) same.0 ∙ also.stands) in
    let same_winner : met.winner ≡ also.winner = next_is met.rows [] met.asked met.winner met.later also.later also.winner met.so_far.winners others within in
    let same_row : met.row ≡ also.row = same_Some met.row also.row (sym met.stands ∙ ap (λ (rs : List Row). slice_get rs met.winner) same.0 ∙ ap (λ (n : ℕ). slice_get also.rows n) same_winner ∙ also.stands) in
    same_fault fault other (once met.row.app met.row.decl (Err fault) (Err other) met.answer (subst (λ (r : Row). children r.app r.decl (Err other)) (sym same_row) also.answer))
