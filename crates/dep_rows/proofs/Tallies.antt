-- What is asked of the children, call by call.
use Rattle.std.proofs.Common.{◌≡◌, ℕ, ◌+◌, ◌≤◌, inr, List, [], ◌++◌, length, Option, Some, None, Result, Ok, Err, IsErrAnd, sym, ◌∙◌, ap, subst, arith}
use Rattle.std.proofs.lemmas.List.{length-append}
use Rattle.dep_options.specs.declared.decl.Decl.{Decl}
use Rattle.dep_rows.specs.declared.error.RowsError.{RowsError}
use Rattle.dep_rows.specs.declared.error.RowsError.TheVariants.{Children, TooManyRows, OutOfMemory}
use Rattle.dep_rows.specs.declared.row.Row.{Row}
use Rattle.dep_rows.specs.declared.tally.Tally.{Tally}
use Rattle.dep_rows.specs.Listed.{Listed}
use Rattle.dep_rows.specs.Rows.{most_rows, rows_from}
use Rattle.dep_rows.specs.Tally.{one_more, AsksOne, Asks, HasAsked, EndsWith}
use Rattle.dep_rows.proofs.Blocks.{length-rows_from}

long_more : (by : Option ℕ) (decls : List Decl) (old new : List Row) → new ≡ old ++ rows_from by 0 decls → length new ≡ length old + length decls
long_more by decls old new is = ap length is ∙ length-append old (rows_from by 0 decls) ∙ ap (λ (n : ℕ). length old + n) (length-rows_from by 0 decls)

-- nobody was asked yet
pub asked_none : (root decls : List Decl) (no_rows rows : List Row) (tally : Tally) → no_rows ≡ [] → decls ≡ root → rows ≡ no_rows ++ rows_from None 0 decls
    → HasAsked (length root) (length rows) 0 tally tally
asked_none root decls no_rows rows tally none same is =
    let long = long_more None decls no_rows rows is in
    let empty = ap (λ (rs : List Row). length rs) none in
    let copied = ap (λ (ds : List Decl). length ds) same in
    record { calls = omega arith; given = omega (arith, long, empty, copied) }

-- a winner's children came
pub asks_one : (winner : ℕ) (decls : List Decl) (old_rows new_rows : List Row) (old new : Tally) → new_rows ≡ old_rows ++ rows_from (Some winner) 0 decls
    → new ≡ one_more old (length decls) → AsksOne (length old_rows) (length new_rows) old new
asks_one winner decls old_rows new_rows old new is more =
    let long = long_more (Some winner) decls old_rows new_rows is in
    let given = ap (λ (t : Tally). t.given) more in
    record { calls = ap (λ (t : Tally). t.calls) more; given = omega (arith, long, given) }

pub asked_more : (root rows new_rows asked : ℕ) (start old new : Tally) → HasAsked root rows asked start old → AsksOne rows new_rows old new
    → HasAsked root new_rows (asked + 1) start new
asked_more root rows new_rows asked start old new so_far one =
    let calls = so_far.calls in
    let given = so_far.given in
    let one_call = one.calls in
    let one_given = one.given in
    record { calls = omega (arith, calls, one_call); given = omega (arith, given, one_given) }

-- all were asked
pub asked_all : (root : ℕ) (rows : List Row) (winners : List ℕ) (asked : ℕ) (start now : Tally) (listed : Listed) → HasAsked root (length rows) asked start now
    → asked ≤ length winners → length winners ≤ asked → listed ≡ record { rows = rows; winners = winners }
    → HasAsked root (length listed.rows) (length listed.winners) start now
asked_all root rows winners asked start now listed so_far within past is =
    let calls = so_far.calls in
    let given = so_far.given in
    let long = ap (λ (l : Listed). length l.rows) is in
    let long_winners = ap (λ (l : Listed). length l.winners) is in
    record { calls = omega (arith, calls, within, past, long_winners); given = omega (arith, given, long) }

-- the next one's children can't come
asks_at : {Fault : Type 0} (root rows asked : ℕ) (start old new : Tally) → HasAsked root rows asked start old → rows ≤ most_rows → (error : RowsError Fault)
    → EndsWith rows old new error → Asks root start new (Err error)
asks_at root rows asked start old new so_far few (Children fault) same =
    let given = so_far.given in
    let none = ap (λ (t : Tally). t.given) same in
    omega (arith, given, none, few)
asks_at root rows asked start old new so_far few OutOfMemory h = tt
asks_at root rows asked start old new so_far few TooManyRows (count, more, many) =
    let calls = so_far.calls in
    let given = so_far.given in
    let new_calls = ap (λ (t : Tally). t.calls) more in
    let new_given = ap (λ (t : Tally). t.given) more in
    let new_before = ap (λ (t : Tally). t.before) more in
    inr (record {
      asked = omega (arith, calls, new_calls);
      within = omega (arith, given, new_before, few);
      past = omega (arith, given, new_given, many);
    })

pub asks_on : {Fault : Type 0} (root rows asked : ℕ) (start old new : Tally) → HasAsked root rows asked start old → rows ≤ most_rows → (error : RowsError Fault)
    → EndsWith rows old new error → (result : Result Listed (RowsError Fault)) → IsErrAnd result (λ e. e ≡ error) → Asks root start new result
asks_on root rows asked start old new so_far few error overflows (Ok listed) is = absurd is
asks_on root rows asked start old new so_far few error overflows (Err e) is =
    subst (λ x. Asks root start new (Err x)) (sym is) (asks_at root rows asked start old new so_far few error overflows)
