use Rattle.std.proofs.Common.{◌≡◌, length, sym, ◌∙◌, subst, refl, Some}
use Rattle.std.specs.List.{slice_get}
use Rattle.std.specs.Option.{option_copied}
use Rattle.std.proofs.lemmas.Option.{slice_get_read, slice_get_within}
use Rattle.dep_rows.specs.declared.row.Row.{Row}
use Rattle.converger.specs.Divergence.{IsUnder}
use Rattle.converger.proofs.CaseLemmas.{case_in_scene}
use Rattle.converger.proofs.WebLemmas.{one_value}
use Rattle.converger.proofs.scene.Scene.case_at.Goals as goal

pub returns : goal.returns
returns c =
    let listed = c.args.self.now.rows.now in
    let rows = listed.rows in
    let place = c.args.place in
    let other = c.args.other in
    let u = c.requires.under in
    let winner = c.index-rows-place.result in
    let row = c.index-rows-other.result in
    let there : slice_get rows place ≡ Some winner = slice_get_read rows (length rows) place winner refl
    (slice_get_within rows place u.winner u.under.wins.stands) (rw c.rows.ensures.rows at c.index-rows-place.is) in
    let stands : slice_get rows other ≡ Some row = slice_get_read rows (length rows) other row refl (slice_get_within rows other u.row u.under.stands)
    (rw c.rows-2.ensures.rows at c.index-rows-other.is) in
    let same_winner : u.winner ≡ winner = one_value (sym u.under.wins.stands ∙ there) in
    let same_row : u.row ≡ row = one_value (sym u.under.stands ∙ stands) in
    let under : IsUnder rows place winner other row = subst (λ (r : Row). IsUnder rows place winner other r) same_row
    (subst (λ (w : Row). IsUnder rows place w other u.row) same_winner u.under) in
    case_in_scene listed c.args.self.now.versions.now c.args.self.now.strays.now c.requires.scene place other winner row under
    (option_copied c.version_of.result) (rw c.winners.ensures.winners at c.version_of.ensures)
