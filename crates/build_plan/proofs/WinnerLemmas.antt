-- What was found for winners.
use Rattle.std.proofs.Common.{◌≡◌, ℕ, ◌<◌, ◌++◌, get_or, List, [], ◌∷◌, length, slice_get, Option, Some, None, Result, Ok, Err, IfSome, IsTrue, refl, sym, ◌∙◌, subst}
use Rattle.std.specs.List.{All, Contains}
use Rattle.std.proofs.lemmas.List.Elements.{All-nil, All-cons, All-contains, All-push}
use Rattle.std.proofs.lemmas.Option.{same_Some, slice_get_read, slice_get_within}
use Rattle.mx_base.specs.Blame.Blame.{Input}
use Rattle.mx_base.specs.declared.file.File.{File}
use Rattle.dep_options.specs.declared.decl.Decl.{Decl}
use Rattle.dep_options.specs.declared.decl.DepSource.TheVariants.{Path}
use Rattle.build_plan.specs.declared.found.Found.{Found}
use Rattle.build_plan.specs.Found.{IsFound, IsFoundAt, IsSound}
use Rattle.dep_rows.specs.declared.error.RowsError.{RowsError}
use Rattle.dep_rows.specs.declared.error.RowsError.TheVariants as listing
use Rattle.dep_rows.specs.declared.row.Row.{Row}
use Rattle.dep_rows.specs.Children.{rows_blame}
use Rattle.dep_rows.specs.Listed.{Listed, IsWithinLimit}
use Rattle.dep_rows.specs.Refusal.{IsListing}
use Rattle.dep_rows.specs.Rows.{ChildrenOf, Blocks, AreRows, AreWinners, IsWinner}
use Rattle.dep_rows.specs.Rows.Blocks.{none, next}
use Rattle.build_plan.specs.declared.error.PlanError.{PlanError}
use Rattle.build_plan.specs.Blame.{blame_of}
use Rattle.build_plan.specs.Dependencies.{AreChildren, has_files}
use Rattle.build_plan.specs.Kept.{RefusesWinner}
use Rattle.build_plan.specs.Refusals.{of_rows}
use Rattle.build_plan.specs.Stages.{ListsRows}
use Rattle.build_plan.specs.Stages.ListsRows.{meets, passes, lists}
use Rattle.build_plan.specs.ChildLaws.{OneProject, once}

-- the children of the winner at a place are known
pub record IsAnswered {Fault : Type 0} (children : ChildrenOf Fault) (rows : List Row) (place : ℕ) : Type 0 where
  pub row : Row
  pub decls : List Decl
  pub stands : slice_get rows place ≡ Some row
  pub answer : children row.app row.decl (Ok decls)

pub all_answered : {Fault : Type 0} (children : ChildrenOf Fault) (rows : List Row) {start : ℕ} {winners : List ℕ} {below : List Row} → Blocks children rows start winners below → All (IsAnswered children rows) winners
all_answered children rows none = All-nil (IsAnswered children rows)
all_answered children rows (next {winner = winner} {winners = winners} {row = row} {decls = decls} before stands answer rest) =
    All-cons (IsAnswered children rows) winner winners (record { row = row; decls = decls; stands = stands; answer = answer }) (all_answered children rows rest)

not_both : (decls : List Decl) (error : PlanError) → ◌≡◌ {A = Result (List Decl) PlanError} (Ok decls) (Err error) → ⊥
not_both decls error is = cc

-- no winner of the rows is refused
pub none_refused : OneProject → (files : List File) (root : List Decl) (listed : Listed) (error : PlanError) → AreRows (AreChildren files) root listed.rows listed.winners → RefusesWinner files listed error → ⊥
none_refused one files root listed error are refused =
    let known = All-contains (IsAnswered (AreChildren files) listed.rows) listed.winners refused.place (all_answered (AreChildren files) listed.rows are.blocks) refused.wins in
    let same : known.row ≡ refused.row = same_Some known.row refused.row (sym known.stands ∙ refused.stands) in
    not_both known.decls error (once one (subst (λ (row : Row). AreChildren files row.app row.decl (Ok known.decls)) same known.answer) refused.answer)

-- a winner is a row
pub winner_stands : (rows : List Row) (winners : List ℕ) (winner : ℕ) → AreWinners rows winners → Contains winners winner → winner < length rows
winner_stands rows winners winner are among =
    let wins = All-contains (λ place. (row : Row) × IsWinner rows place row) winners winner are.only among in
    slice_get_within rows winner wins.0 wins.1.stands

pub rows_blamed : (error : RowsError PlanError) → blame_of (of_rows error) ≡ rows_blame blame_of error
rows_blamed (listing.Children error) = refl
rows_blamed listing.TooManyRows = refl
rows_blamed listing.OutOfMemory = refl

-- what refuses the rows
refuses : (files : List File) (root : List Decl) (error : RowsError PlanError) → IsListing (AreChildren files) root (Err error) → ListsRows files root (Err (of_rows error))
refuses files root (listing.Children error) met = meets met
refuses files root listing.TooManyRows many = passes many
refuses files root listing.OutOfMemory never = absurd never

pub if_refuses : (told : Option (List File)) (root : List Decl) (error : RowsError PlanError) → IfSome told (λ files. rows_blame blame_of error ≡ Input → IsListing (AreChildren files) root (Err error)) → blame_of (of_rows error) ≡ Input → IfSome told (λ files. ListsRows files root (Err (of_rows error)))
if_refuses None root error says input = tt
if_refuses (Some files) root error says input = refuses files root error (says (sym (rows_blamed error) ∙ input))

pub if_lists : (told : Option (List File)) (root : List Decl) (listed : Listed) → IsWithinLimit listed → IfSome told (λ files. AreRows (AreChildren files) root listed.rows listed.winners) → IfSome told (λ files. ListsRows files root (Ok listed))
if_lists None root listed within are = tt
if_lists (Some files) root listed within are = lists listed are within.few

-- a second look refuses no winner of the rows
pub refused_later : OneProject → (told : Option (List File)) (root : List Decl) (listed : Listed) (error : PlanError) → IfSome told (λ files. AreRows (AreChildren files) root listed.rows listed.winners) → IfSome told (λ files. RefusesWinner files listed error) → IfSome told (λ files. ListsRows files root (Err error))
refused_later one None root listed error are refused = tt
refused_later one (Some files) root listed error are refused = absurd (none_refused one files root listed error are refused)

-- the winner at a place is refused
pub winner_refused : (told : Option (List File)) (listed : Listed) (place : ℕ) (row : Row) (error : PlanError) → Contains listed.winners place → place < length listed.rows → row ≡ get_or listed.rows place row → IfSome told (λ files. AreChildren files row.app row.decl (Err error)) → IfSome told (λ files. RefusesWinner files listed error)
winner_refused None listed place row error among below is answer = tt
winner_refused (Some files) listed place row error among below is answer =
    record { place = place; row = row; wins = among; stands = slice_get_read listed.rows (length listed.rows) place row refl below is; answer = answer }

-- this was found for the winner at a place
pub found_at : (rows : List Row) (place : ℕ) (row : Row) (found : Found) → place < length rows → row ≡ get_or rows place row → row.decl.source ≡ Path found.dir → IsSound found → IsFoundAt rows place found
found_at rows place row found below is lies sound =
    record { row = row; stands = slice_get_read rows (length rows) place row refl below is; source = lies; sound = sound }

pub found_more : (told : Option (List File)) (all more : List Found) (found : Found) → more ≡ all ++ found ∷ [] → IfSome told (λ files. All (IsFound files) all) → IfSome told (λ files. IsTrue (has_files files found.dir) × IsFound files found) → IfSome told (λ files. All (IsFound files) more)
found_more None all more found is are here = tt
found_more (Some files) all more found is are here = subst (λ (fs : List Found). All (IsFound files) fs) (sym is) (All-push (IsFound files) all found are here.1)
