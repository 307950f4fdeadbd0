-- The rows so far while the winners are asked one by one.
use Rattle.std.proofs.Common.{◌≡◌, ℕ, ◌+◌, ◌<◌, ◌≤◌, List, [], ◌∷◌, ◌++◌, length, get_or, take, drop, slice_get, Option, Some, None, Result, Ok, Err, IsErrAnd, IfSome, Contains, sym, ◌∙◌, ap, subst, arith}
use Rattle.std.proofs.lemmas.List.{length-append, drop_more, take_more, take-append-le, drop-append-le, drop_all, take_all}
use Rattle.std.proofs.lemmas.List.Elements.{Contains-get_or}
use Rattle.std.proofs.lemmas.Option.{slice_get_within}
use Rattle.dep_options.specs.declared.decl.Decl.{Decl}
use Rattle.dep_rows.specs.declared.row.Row.{Row}
use Rattle.dep_rows.specs.declared.error.RowsError.{RowsError}
use Rattle.dep_rows.specs.declared.error.RowsError.TheVariants.{Children, TooManyRows, OutOfMemory}
use Rattle.mx_base.specs.Blame.{Blame, Answers}
use Rattle.mx_base.specs.Blame.Blame.{Input}
use Rattle.dep_rows.specs.Children.{rows_blame}
use Rattle.dep_rows.specs.Growing.{next_winners, BringsIn, Hinders}
use Rattle.dep_rows.specs.Refusal.{IsListing}
use Rattle.dep_rows.specs.Rows.{ChildrenOf, AreWellFormed, AreRows, AreRowsSoFar, rows_from, most_rows}
use Rattle.dep_rows.proofs.Blocks.{length-rows_from}
use Rattle.dep_rows.proofs.Standing.{well_formed_more, nothing_well_formed, so_far_root, so_far_more}
use Rattle.dep_rows.proofs.Winners.{few_winners}

-- the rows so far, when so many winners were asked
pub record Stands {Known Fault : Type 0} (children_of : Known → ChildrenOf Fault) (meaning : Option Known) (root : List Decl) (rows : List Row) (winners : List ℕ) (asked : ℕ) : Type 0 where
  pub well_formed : AreWellFormed rows winners
  pub few : length rows ≤ most_rows
  pub short : length winners ≤ length rows
  pub within : asked ≤ length winners
  pub told : IfSome meaning (λ known. AreRowsSoFar (children_of known) root rows (take asked winners) (drop asked winners))

if_told : {A : Type 0} (meaning : Option A) (P Q : A → Type 0) → ((told : A) → P told → Q told) → IfSome meaning P → IfSome meaning Q
if_told None P Q step h = h
if_told (Some told) P Q step h = step told h

if_any : {A : Type 0} (meaning : Option A) (Q : A → Type 0) → ((told : A) → Q told) → IfSome meaning Q
if_any None Q all = tt
if_any (Some told) Q all = all told

both_told : {A : Type 0} (meaning : Option A) (P Q : A → Type 0) → IfSome meaning (λ told. P told → Q told) → IfSome meaning P → IfSome meaning Q
both_told None P Q step h = h
both_told (Some told) P Q step h = step h

-- the winner's children are refused
pub hinders : {Known Fault : Type 0} (children_of : Known → ChildrenOf Fault) (blame : Fault → Blame) (meaning : Option Known) (winner : ℕ) (row : Row)
    (rows : List Row) (fault : Fault) →
    slice_get rows winner ≡ Some row → IfSome meaning (λ known. blame fault ≡ Input → children_of known row.app row.decl (Err fault)) →
    IfSome meaning (λ known. Hinders blame (children_of known) rows winner (Children fault))
hinders children_of blame None winner row rows fault stands refused = tt
hinders children_of blame (Some known) winner row rows fault stands refused = (row, stands, refused)

-- the winner's children are too many
pub overflows : {Known Fault : Type 0} (children_of : Known → ChildrenOf Fault) (blame : Fault → Blame) (meaning : Option Known) (winner : ℕ) (row : Row)
    (rows : List Row) (decls : List Decl) →
    slice_get rows winner ≡ Some row → IfSome meaning (λ known. children_of known row.app row.decl (Ok decls)) → most_rows < length rows + length decls →
    IfSome meaning (λ known. Hinders blame (children_of known) rows winner TooManyRows)
overflows children_of blame None winner row rows decls stands declared many = tt
overflows children_of blame (Some known) winner row rows decls stands declared many = (row, decls, stands, declared, many)

pub root_stands : {Known Fault : Type 0} (children_of : Known → ChildrenOf Fault) (meaning : Option Known) (root : List Decl) → length root ≤ most_rows
    → Stands children_of meaning root (rows_from None 0 root) (next_winners [] (rows_from None 0 root)) 0
root_stands children_of meaning root few =
    let long = length-rows_from None 0 root in
    record {
      well_formed = well_formed_more [] [] None root nothing_well_formed tt;
      few = omega (arith, few, long);
      short = few_winners [] (rows_from None 0 root);
      within = omega arith;
      told = if_any meaning (λ known. AreRowsSoFar (children_of known) root (rows_from None 0 root) [] (next_winners [] (rows_from None 0 root))) (λ known. so_far_root (children_of known) root);
    }

-- the rows of the root, before a winner is asked
pub stands_root : {Known Fault : Type 0} (children_of : Known → ChildrenOf Fault) (meaning : Option Known) (root decls : List Decl) (no_rows rows : List Row)
    (nowhere winners : List ℕ) → no_rows ≡ [] → nowhere ≡ [] → decls ≡ root → rows ≡ no_rows ++ rows_from None 0 decls
    → winners ≡ nowhere ++ next_winners no_rows (rows_from None 0 decls) → length root ≤ most_rows → Stands children_of meaning root rows winners 0
stands_root children_of meaning root decls no_rows rows nowhere winners none at_none same rows_are winners_are few =
    let all_rows : rows ≡ rows_from None 0 root = rows_are ∙ ap (λ (rs : List Row). rs ++ rows_from None 0 decls) none ∙ ap (λ (ds : List Decl). rows_from None 0 ds) same in
    let all_winners : winners ≡ next_winners [] (rows_from None 0 root) =
    winners_are
    ∙ ap (λ (ws : List ℕ). ws ++ next_winners no_rows (rows_from None 0 decls)) at_none
    ∙ ap (λ (rs : List Row). next_winners rs (rows_from None 0 decls)) none
    ∙ ap (λ (ds : List Decl). next_winners [] (rows_from None 0 ds)) same
    in
    subst (λ (rs : List Row). Stands children_of meaning root rs winners 0) (sym all_rows)
    (subst (λ (ws : List ℕ). Stands children_of meaning root (rows_from None 0 root) ws 0) (sym all_winners) (root_stands children_of meaning root few))

-- the winner that is asked next
module _ {Known Fault : Type 0} (children_of : Known → ChildrenOf Fault) (meaning : Option Known) (root : List Decl) (rows : List Row) (winners : List ℕ) (asked winner : ℕ) (stands : Stands children_of meaning root rows winners asked) (next : asked < length winners) (is : winner ≡ get_or winners asked winner) where
  pub winner_within : winner < length rows
  winner_within =
      let wins = stands.well_formed.winning.only asked winner next in
      subst (λ (n : ℕ). n < length rows) (sym is) (slice_get_within rows (get_or winners asked winner) wins.0 wins.1.stands)

  left_is : drop asked winners ≡ winner ∷ drop (asked + 1) winners
  left_is = drop_more winners asked winner next ∙ ap (λ (n : ℕ). n ∷ drop (asked + 1) winners) (sym is)

  next_told : (children : ChildrenOf Fault) → AreRowsSoFar children root rows (take asked winners) (drop asked winners)
      → AreRowsSoFar children root rows (take asked winners) (winner ∷ drop (asked + 1) winners)
  next_told children so_far = subst (λ (ws : List ℕ). AreRowsSoFar children root rows (take asked winners) ws) left_is so_far

  asked_more : (more : List ℕ) → take (asked + 1) (winners ++ more) ≡ take asked winners ++ winner ∷ []
  asked_more more = take-append-le (asked + 1) winners more (omega (arith, next)) ∙ take_more winners asked winner next ∙ ap (λ (n : ℕ). take asked winners ++ n ∷ []) (sym is)

  left_more : (more : List ℕ) → drop (asked + 1) (winners ++ more) ≡ drop (asked + 1) winners ++ more
  left_more more = drop-append-le (asked + 1) winners more (omega (arith, next))

  has_winner : Contains winners winner
  has_winner = subst (λ (n : ℕ). Contains winners n) (sym is) (Contains-get_or winners asked winner next)

  -- its children came
  pub stands_more : (new_rows : List Row) (new_winners : List ℕ) → BringsIn children_of meaning winner rows new_rows winners new_winners
      → Stands children_of meaning root new_rows new_winners (asked + 1)
  stands_more new_rows new_winners brings =
      let block = rows_from (Some winner) 0 brings.decls in
      let new = next_winners rows block in
      let few = brings.few in
      let few_new = few_winners rows block in
      let short = stands.short in
      let long = length-append rows block in
      let long_winners = length-append winners new in
      let told_now = if_told meaning
      (λ known. AreRowsSoFar (children_of known) root rows (take asked winners) (drop asked winners))
      (λ known. children_of known brings.row.app brings.row.decl (Ok brings.decls) → AreRowsSoFar (children_of known) root (rows ++ block) (take (asked + 1) (winners ++ new)) (drop (asked + 1) (winners ++ new)))
      (λ known so_far answer.
      subst (λ (ws : List ℕ). AreRowsSoFar (children_of known) root (rows ++ block) (take (asked + 1) (winners ++ new)) ws) (sym (left_more new))
      (subst (λ (ws : List ℕ). AreRowsSoFar (children_of known) root (rows ++ block) ws (drop (asked + 1) winners ++ new)) (sym (asked_more new))
      (so_far_more (children_of known) root rows (take asked winners) winner (drop (asked + 1) winners) brings.row brings.decls (next_told (children_of known) so_far) brings.stands answer)))
      stands.told
      in
      let all : Stands children_of meaning root (rows ++ block) (winners ++ new) (asked + 1) = record {
        well_formed = well_formed_more rows winners (Some winner) brings.decls stands.well_formed (winner_within, has_winner);
        few = subst (λ (rs : List Row). length rs ≤ most_rows) brings.rows brings.few;
        short = omega (arith, few_new, short, long, long_winners);
        within = omega (arith, next, long_winners);
        told = both_told meaning (λ known. children_of known brings.row.app brings.row.decl (Ok brings.decls)) (λ known. AreRowsSoFar (children_of known) root (rows ++ block) (take (asked + 1) (winners ++ new)) (drop (asked + 1) (winners ++ new))) told_now brings.answer;
      } in
      subst (λ (rs : List Row). Stands children_of meaning root rs new_winners (asked + 1)) (sym brings.rows)
      (subst (λ (ws : List ℕ). Stands children_of meaning root (rows ++ block) ws (asked + 1)) (sym brings.winners) all)

  -- its children can't come
  pub stands_hindered : (blame : Fault → Blame) (error : RowsError Fault) → IfSome meaning (λ known. Hinders blame (children_of known) rows winner error)
      → IfSome meaning (λ known. rows_blame blame error ≡ Input → IsListing (children_of known) root (Err error))
  stands_hindered blame error hindered =
      both_told meaning (λ known. Hinders blame (children_of known) rows winner error) (λ known. rows_blame blame error ≡ Input → IsListing (children_of known) root (Err error))
      (if_told meaning
      (λ known. AreRowsSoFar (children_of known) root rows (take asked winners) (drop asked winners))
      (λ known. Hinders blame (children_of known) rows winner error → rows_blame blame error ≡ Input → IsListing (children_of known) root (Err error))
      (λ known so_far. cause (children_of known) error (next_told (children_of known) so_far))
      stands.told)
      hindered
    where
      cause : (children : ChildrenOf Fault) (error : RowsError Fault)
          → AreRowsSoFar children root rows (take asked winners) (winner ∷ drop (asked + 1) winners) → Hinders blame children rows winner error
          → rows_blame blame error ≡ Input → IsListing children root (Err error)
      cause children (Children fault) so_far (row, there, ends) input =
          record { rows = rows; asked = take asked winners; winner = winner; later = drop (asked + 1) winners; row = row; so_far = so_far; few = stands.few; stands = there; answer = ends input }
      cause children TooManyRows so_far (row, decls, there, answer, many) input =
          let long = length-append rows (rows_from (Some winner) 0 decls) in
          let block_long = length-rows_from (Some winner) 0 decls in
          record {
            rows = rows ++ rows_from (Some winner) 0 decls;
            asked = take asked winners ++ winner ∷ [];
            later = drop (asked + 1) winners ++ next_winners rows (rows_from (Some winner) 0 decls);
            so_far = so_far_more children root rows (take asked winners) winner (drop (asked + 1) winners) row decls so_far there answer;
            many = omega (arith, many, long, block_long);
          }
      cause children OutOfMemory so_far h input = cc

-- all winners were asked
pub stands_end : {Known Fault : Type 0} (children_of : Known → ChildrenOf Fault) (meaning : Option Known) (root : List Decl) (rows : List Row)
    (winners : List ℕ) (asked : ℕ) → Stands children_of meaning root rows winners asked → length winners ≤ asked
    → IfSome meaning (λ known. AreRows (children_of known) root rows winners)
stands_end children_of meaning root rows winners asked stands past =
    if_told meaning
    (λ known. AreRowsSoFar (children_of known) root rows (take asked winners) (drop asked winners))
    (λ known. AreRows (children_of known) root rows winners)
    (λ known so_far.
    subst (λ (ws : List ℕ). AreRowsSoFar (children_of known) root rows ws []) (take_all asked winners past)
    (subst (λ (ws : List ℕ). AreRowsSoFar (children_of known) root rows (take asked winners) ws) (drop_all asked winners past) so_far))
    stands.told

-- the root alone passes the limit
pub root_many : {Known Fault : Type 0} (children_of : Known → ChildrenOf Fault) (meaning : Option Known) (blame : Fault → Blame) (root : List Decl)
    → most_rows < length root → IfSome meaning (λ known. rows_blame blame TooManyRows ≡ Input → IsListing (children_of known) root (Err TooManyRows))
root_many children_of meaning blame root many =
    let long = length-rows_from None 0 root in
    if_any meaning (λ known. rows_blame blame TooManyRows ≡ Input → IsListing (children_of known) root (Err TooManyRows))
    (λ known input. record { rows = rows_from None 0 root; asked = []; later = next_winners [] (rows_from None 0 root); so_far = so_far_root (children_of known) root; many = omega (arith, many, long) })

pub brings_in : {Known Fault : Type 0} (children_of : Known → ChildrenOf Fault) (meaning : Option Known) (winner : ℕ) (row : Row) (decls : List Decl)
    (old_rows new_rows : List Row) (old_winners new_winners : List ℕ) → slice_get old_rows winner ≡ Some row
    → IfSome meaning (λ known. children_of known row.app row.decl (Ok decls)) → new_rows ≡ old_rows ++ rows_from (Some winner) 0 decls
    → new_winners ≡ old_winners ++ next_winners old_rows (rows_from (Some winner) 0 decls) → length old_rows + length decls ≤ most_rows
    → BringsIn children_of meaning winner old_rows new_rows old_winners new_winners
brings_in children_of meaning winner row decls old_rows new_rows old_winners new_winners stands answer rows_are winners_are few =
    let long : length new_rows ≡ length old_rows + length decls = ap length rows_are ∙ length-append old_rows (rows_from (Some winner) 0 decls) ∙ ap (λ (n : ℕ). length old_rows + n) (length-rows_from (Some winner) 0 decls) in
    record {
      row = row;
      decls = decls;
      stands = stands;
      answer = answer;
      rows = rows_are;
      winners = winners_are;
      few = omega (arith, few, long);
    }

-- an error that is handed on
pub told_on : {Known X E : Type 0} (meaning : Option Known) (blame : E → Blame) (Is : Known → Result X E → Type 0) (result : Result X E) (error : E)
    → IsErrAnd result (λ e. e ≡ error) → IfSome meaning (λ known. blame error ≡ Input → Is known (Err error))
    → IfSome meaning (λ known. Answers blame result (Is known))
told_on meaning blame Is (Ok x) error is refused = absurd is
told_on meaning blame Is (Err e) error is refused = subst (λ x. IfSome meaning (λ known. blame x ≡ Input → Is known (Err x))) (sym is) refused
