-- A root has an outcome where each winner has an answer.
use Rattle.std.proofs.Common.{◌≡◌, ℕ, zero, suc, ◌+◌, ◌<◌, ◌≤◌, inl, inr, List, [], ◌++◌, length, get_or, slice_get, Some, None, Result, Ok, Err, refl, arith}
use Rattle.std.proofs.lemmas.Bool.{cases_lt}
use Rattle.std.proofs.lemmas.List.{get_or_default}
use Rattle.dep_options.specs.declared.decl.Decl.{Decl}
use Rattle.mx_base.specs.Blame.{Blame}
use Rattle.mx_base.specs.Blame.Blame.{Input}
use Rattle.dep_rows.specs.declared.row.Row.{Row}
use Rattle.dep_rows.specs.declared.error.RowsError.{RowsError}
use Rattle.dep_rows.specs.declared.error.RowsError.TheVariants.{Children, TooManyRows}
use Rattle.dep_rows.specs.Children.{rows_blame}
use Rattle.dep_rows.specs.Growing.{next_winners, Hinders}
use Rattle.dep_rows.specs.Refusal.{HasOutcome}
use Rattle.dep_rows.specs.Rows.{ChildrenOf, AnswersEach, rows_from, most_rows}
use Rattle.dep_rows.proofs.Asking.{Stands, root_stands, root_many, stands_more, stands_hindered, stands_end, brings_in}

-- so many winners were asked, and the next one stands there
record IsNext (rows : List Row) (winners : List ℕ) (asked : ℕ) (row : Row) : Type 0 where
  next : asked < length winners
  stands : slice_get rows (get_or winners asked 0) ≡ Some row

module _ {Known Fault : Type 0} (children_of : Known → ChildrenOf Fault) (known : Known) (each : AnswersEach (children_of known)) (root : List Decl) where
  abbrev Outcome : Type 0
  Outcome = HasOutcome (children_of known) root

  abbrev IsAt : List Row → List ℕ → ℕ → Type 0
  IsAt rows winners asked = Stands children_of (Some known) root rows winners asked

  abbrev all_input : Fault → Blame
  all_input fault = Input

  -- the next winner's children are refused, or too many
  hindered : (rows : List Row) (winners : List ℕ) (asked : ℕ) → IsAt rows winners asked → asked < length winners → (error : RowsError Fault)
      → rows_blame all_input error ≡ Input → Hinders all_input (children_of known) rows (get_or winners asked 0) error → Outcome
  hindered rows winners asked at next error input hinders = record {
    outcome = Err error;
    is = stands_hindered children_of (Some known) root rows winners asked (get_or winners asked 0) at next (get_or_default winners asked 0 (get_or winners asked 0) next) all_input error hinders input;
    within = tt;
  }

  -- all winners were asked
  ended : (rows : List Row) (winners : List ℕ) (asked : ℕ) → IsAt rows winners asked → length winners ≤ asked → Outcome
  ended rows winners asked at past = record {
    outcome = Ok (record { rows = rows; winners = winners });
    is = stands_end children_of (Some known) root rows winners asked at past;
    within = record { well_formed = at.well_formed; few = at.few };
  }

  abbrev GoesOn : ℕ → Type 0
  GoesOn left = (rows : List Row) (winners : List ℕ) (asked : ℕ) → IsAt rows winners asked → most_rows ≤ asked + left → Outcome

  -- the next winner has an answer
  answered : (left : ℕ) → GoesOn left → (rows : List Row) (winners : List ℕ) (asked : ℕ) → IsAt rows winners asked → most_rows ≤ asked + suc left → (row : Row)
      → IsNext rows winners asked row → (answer : Result (List Decl) Fault) → children_of known row.app row.decl answer → Outcome
  answered left on rows winners asked at enough row is (Err fault) answer = hindered rows winners asked at is.next (Children fault) refl (row, is.stands, λ input. answer)
  answered left on rows winners asked at enough row is (Ok decls) answer =
      elim (cases_lt most_rows (length rows + length decls)) [
        | inl many ↦ hindered rows winners asked at is.next TooManyRows refl (row, decls, is.stands, answer, many)
        | inr few ↦
            let winner = get_or winners asked 0 in
            let block = rows_from (Some winner) 0 decls in
            let new = next_winners rows block in
            let brings = brings_in children_of (Some known) winner row decls rows (rows ++ block) winners (winners ++ new) is.stands answer refl refl (omega (arith, few)) in
            on (rows ++ block) (winners ++ new) (asked + 1)
            (stands_more children_of (Some known) root rows winners asked winner at is.next (get_or_default winners asked 0 winner is.next) (rows ++ block) (winners ++ new) brings)
            (omega (arith, enough))
      ]

  goes_on : (left : ℕ) → GoesOn left
  goes_on zero rows winners asked at enough =
      let few = at.few in
      let short = at.short in
      ended rows winners asked at (omega (arith, few, short, enough))
  goes_on (suc left) rows winners asked at enough =
      elim (cases_lt asked (length winners)) [
        | inl next ↦
            let wins = at.well_formed.winning.only asked 0 next in
            let row = wins.0 in
            let known_answer = each row.app row.decl in
            answered left (goes_on left) rows winners asked at enough row (record { next = next; stands = wins.1.stands }) known_answer.0 known_answer.1
        | inr past ↦ ended rows winners asked at past
      ]

  pub some_outcome : Outcome
  some_outcome =
      elim (cases_lt most_rows (length root)) [
        | inl many ↦ record {
          outcome = Err TooManyRows;
          is = root_many children_of (Some known) all_input root many refl;
          within = tt;
        }
        | inr few ↦ goes_on most_rows (rows_from None 0 root) (next_winners [] (rows_from None 0 root)) 0 (root_stands children_of (Some known) root few) (omega arith)
      ]
