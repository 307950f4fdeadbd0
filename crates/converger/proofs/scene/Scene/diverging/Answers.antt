use Rattle.std.proofs.Common.{◌≡◌, length, sym, ◌∙◌, refl, Some, None}
use Rattle.std.specs.List.{slice_get}
use Rattle.std.proofs.lemmas.Bool.{both_ways}
use Rattle.std.proofs.lemmas.Option.{slice_get_read}
use Rattle.dep_rows.specs.Rows.{winner_of}
use Rattle.converger.specs.Divergence.{parts_in}
use Rattle.converger.proofs.CaseLemmas.{under_at, none_diverges, one_diverges, not_diverging}
use Rattle.converger.proofs.scene.Scene.diverging.Goals as goal

pub returns-in_err-place : goal.returns-in_err-place
returns-in_err-place c =
    let listed = c.args.self.now.rows.now in
    let row = c.index-rows-other.result in
    let stands : slice_get listed.rows c.args.other ≡ Some row = slice_get_read listed.rows (length listed.rows) c.args.other row refl c.requires.other
    (rw c.rows.ensures.rows at c.index-rows-other.is) in
    let none : winner_of listed.rows row.app ≡ None = sym c.winner_of.ensures ∙ c.in_err-place.was in
    rw c.from_residual.ensures (none_diverges listed.rows listed.winners (parts_in c.args.self.now.versions.now) c.args.rule c.args.other row stands none)

pub case_at-requires-clause-under : goal.case_at-requires-clause-under
case_at-requires-clause-under c =
    let rows = c.args.self.now.rows.now.rows in
    let row = c.index-rows-other.result in
    let stands : slice_get rows c.args.other ≡ Some row = slice_get_read rows (length rows) c.args.other row refl c.requires.other
    (rw c.rows.ensures.rows at c.index-rows-other.is) in
    under_at rows c.in_ok-place.place c.args.other row stands (sym c.winner_of.ensures ∙ c.in_ok-place.was)

pub returns-then-meets : goal.returns-then-meets
returns-then-meets c =
    let listed = c.args.self.now.rows.now in
    let diverges = (c.case_at.ensures c.args.rule).0 (c.meets.ensures.0 c.if-meets.true) in
    one_diverges listed.rows listed.winners (parts_in c.args.self.now.versions.now) c.args.rule c.in_ok-place.place c.args.other diverges

pub returns-else-meets : goal.returns-else-meets
returns-else-meets c =
    let listed = c.args.self.now.rows.now in
    let row = c.index-rows-other.result in
    let stands : slice_get listed.rows c.args.other ≡ Some row = slice_get_read listed.rows (length listed.rows) c.args.other row refl c.requires.other
    (rw c.rows.ensures.rows at c.index-rows-other.is) in
    not_diverging listed.rows listed.winners (parts_in c.args.self.now.versions.now) c.args.rule c.in_ok-place.place c.args.other row stands
    (sym c.winner_of.ensures ∙ c.in_ok-place.was)
    (λ d. both_ways c.meets.result c.if-meets.false (c.meets.ensures.1 ((c.case_at.ensures c.args.rule).1 d)))
