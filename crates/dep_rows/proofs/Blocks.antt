-- Children that come at the end of the rows.
use Rattle.std.proofs.Common.{◌≡◌, ℕ, zero, suc, ◌+◌, ◌<◌, List, [], ◌∷◌, ◌++◌, length, slice_get, Option, Some, Ok, All, refl, sym, ◌∙◌, ap, subst, arith, append-nil, append_assoc}
use Rattle.std.proofs.lemmas.List.{length-append}
use Rattle.std.proofs.lemmas.List.Elements.{All-nil, All-cons}
use Rattle.std.proofs.lemmas.Option.{none-some, same_Some}
use Rattle.dep_options.specs.declared.decl.Decl.{Decl}
use Rattle.dep_rows.specs.declared.row.Row.{Row}
use Rattle.dep_rows.specs.Rows.{ChildrenOf, Blocks, row_of, rows_from}
use Rattle.dep_rows.specs.Rows.Blocks.{none, next}
use Rattle.dep_rows.proofs.Places.{get_longer}

pub length-rows_from : (by : Option ℕ) (index : ℕ) (decls : List Decl) → length (rows_from by index decls) ≡ length decls
length-rows_from by index [] = refl
length-rows_from by index (decl ∷ decls) = ap suc (length-rows_from by (suc index) decls)

pub rows_from-push : (by : Option ℕ) (index : ℕ) (decls : List Decl) (decl : Decl)
    → rows_from by index (decls ++ decl ∷ []) ≡ rows_from by index decls ++ row_of by (index + length decls) decl ∷ []
rows_from-push by index [] decl =
    let same : index ≡ index + 0 = omega arith in
    ap (λ (n : ℕ). row_of by n decl ∷ []) same
rows_from-push by index (d ∷ decls) decl =
    let same : suc index + length decls ≡ index + suc (length decls) = omega arith in
    ap (λ (rest : List Row). row_of by index d ∷ rest)
    (rows_from-push by (suc index) decls decl ∙ ap (λ (n : ℕ). rows_from by (suc index) decls ++ row_of by n decl ∷ []) same)

-- each row is as its declaration says
pub as_declared : (by : Option ℕ) (index : ℕ) (decls : List Decl) → All (λ row. row ≡ row_of row.by row.index row.decl) (rows_from by index decls)
as_declared by index [] = All-nil (λ row. row ≡ row_of row.by row.index row.decl)
as_declared by index (decl ∷ decls) = All-cons (λ row. row ≡ row_of row.by row.index row.decl) (row_of by index decl) (rows_from by (suc index) decls) refl (as_declared by (suc index) decls)

-- each of the rows names the one that declares them
pub declared_by_one : (by : Option ℕ) (index : ℕ) (decls : List Decl) (place : ℕ) (row : Row) → slice_get (rows_from by index decls) place ≡ Some row
    → by ≡ row.by
declared_by_one by index [] place row h = absurd (none-some row h)
declared_by_one by index (decl ∷ decls) zero row h = ap (λ (r : Row). r.by) (same_Some (row_of by index decl) row h)
declared_by_one by index (decl ∷ decls) (suc place) row h = declared_by_one by (suc index) decls place row h

pub blocks_longer : {Fault : Type 0} (children : ChildrenOf Fault) (rows more : List Row) (start : ℕ) (winners : List ℕ) (below : List Row)
    → Blocks children rows start winners below → Blocks children (rows ++ more) start winners below
blocks_longer children rows more start _ _ none = none
blocks_longer children rows more start _ _ (next {winner = winner} {winners = winners} {row = row} {decls = decls} {more = below} before stands answer rest) =
    next before (get_longer rows more winner row stands) answer (blocks_longer children rows more (start + length decls) winners below rest)

-- the children of one winner more
pub blocks_push : {Fault : Type 0} (children : ChildrenOf Fault) (rows : List Row) (last : ℕ) (row : Row) (decls : List Decl) (start : ℕ) (winners : List ℕ)
    (below : List Row) → Blocks children rows start winners below → last < start + length below → slice_get rows last ≡ Some row
    → children row.app row.decl (Ok decls) → Blocks children rows start (winners ++ last ∷ []) (below ++ rows_from (Some last) 0 decls)
blocks_push children rows last row decls start _ _ none within stands answer =
    subst (λ (rs : List Row). Blocks children rows start (last ∷ []) rs) (append-nil (rows_from (Some last) 0 decls)) (next (omega (arith, within)) stands answer none)
blocks_push children rows last row decls start _ _ (next {winner = winner} {winners = winners} {row = first} {decls = firsts} {more = below} before at known rest) within stands answer =
    let long = length-append (rows_from (Some winner) 0 firsts) below in
    let firsts_long = length-rows_from (Some winner) 0 firsts in
    subst (λ (rs : List Row). Blocks children rows start (winner ∷ winners ++ last ∷ []) rs) (sym (append_assoc (rows_from (Some winner) 0 firsts) below (rows_from (Some last) 0 decls)))
    (next before at known (blocks_push children rows last row decls (start + length firsts) winners below rest (omega (arith, within, long, firsts_long)) stands answer))
