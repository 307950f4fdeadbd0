use Rattle.std.proofs.Common.{◌≡◌, length, sym, ◌∙◌, refl, Some, None}
use Rattle.std.specs.List.{slice_get}
use Rattle.std.proofs.lemmas.Bool.{false≢true}
use Rattle.std.proofs.lemmas.Option.{slice_get_read}
use Rattle.dep_rows.specs.Rows.{winner_of}
use Rattle.dep_rows.proofs.WinnerOf.{winner_within}
use Rattle.converger.proofs.StrayLemmas.{stray_is, no_stray_winner, no_stray_by, declared_by}
use Rattle.converger.proofs.strays.is_stray.Goals as goal

pub returns-in_default : goal.returns-in_default
returns-in_default c =
    let rows = c.args.web.now.rows.now.rows in
    let row = c.index-list-other.result in
    let is = rw c.rows-list.ensures.rows at c.index-list-other.is in
    let stands : slice_get rows c.args.other ≡ Some row = slice_get_read rows (length rows) c.args.other row refl c.requires.other is in
    let none : winner_of rows row.app ≡ None = sym c.winner_of.ensures ∙ c.in_default.is in
    (λ h. absurd (false≢true h), λ s. absurd (no_stray_winner rows c.args.env.now c.args.web.now.target.now c.args.other row stands none s))

pub returns-in_default-by : goal.returns-in_default-by
returns-in_default-by c =
    let rows = c.args.web.now.rows.now.rows in
    let row = c.index-list-other.result in
    let is = rw c.rows-list.ensures.rows at c.index-list-other.is in
    let stands : slice_get rows c.args.other ≡ Some row = slice_get_read rows (length rows) c.args.other row refl c.requires.other is in
    (λ h. absurd (false≢true h), λ s. absurd (no_stray_by rows c.args.env.now c.args.web.now.target.now c.args.other row stands c.in_default-by.is s))

pub bounds-list-place : goal.bounds-list-place
bounds-list-place c =
    let rows = c.args.web.now.rows.now.rows in
    let row = c.index-list-other.result in
    rw c.rows-list.ensures.rows (winner_within rows row.app c.in-Some.place (sym c.winner_of.ensures ∙ c.in-Some.is))

pub returns : goal.returns
returns c =
    let listed = c.args.web.now.rows.now in
    let rows = listed.rows in
    let row = c.index-list-other.result in
    let winner = c.index-list-place.result in
    let place = c.in-Some.place in
    let by = c.in-Some-by.by in
    let is = rw c.rows-list.ensures.rows at c.index-list-other.is in
    let winner_is = rw c.rows-list.ensures.rows at c.index-list-place.is in
    let stands : slice_get rows c.args.other ≡ Some row = slice_get_read rows (length rows) c.args.other row refl c.requires.other is in
    let wins : winner_of rows row.app ≡ Some place = sym c.winner_of.ensures ∙ c.in-Some.is in
    let there : slice_get rows place ≡ Some winner = slice_get_read rows (length rows) place winner refl (winner_within rows row.app place wins) winner_is in
    let declared : row.by ≡ Some by = c.in-Some-by.is in
    let parent = (declared_by listed c.rows-list.ensures.within c.args.other by row stands declared).1 in
    rw c.is_stray_beside.ensures
    (stray_is rows c.args.env.now c.args.web.now.target.now c.args.reached.now c.requires.reached
    c.args.other place by row winner parent.0 stands wins there declared parent.1
    c.has_place-is_reached.result c.has_place-is_reached.ensures)
