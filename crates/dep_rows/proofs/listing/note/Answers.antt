use Rattle.std.proofs.Common.{◌≡◌, sym, ◌∙◌, rules, arith}
use Rattle.std.proofs.lemmas.Bool.{both_ways}
use Rattle.dep_rows.proofs.WinnerOf.{knows_same, knows_more}
use Rattle.dep_rows.proofs.listing.note.Goals as goal

pub returns-then-not-row-clause-knows : goal.returns-then-not-row-clause-knows
returns-then-not-row-clause-knows c =
    knows_same c.args.by_app.now c.args.rows.now.items c.args.row.now c.requires.knows (λ required. absurd (both_ways _ c.if-not-row.true required))

pub returns-then-contains_key-clause-knows : goal.returns-then-contains_key-clause-knows
returns-then-contains_key-clause-knows c =
    knows_same c.args.by_app.now c.args.rows.now.items c.args.row.now c.requires.knows (λ required. sym c.contains_key.ensures ∙ c.if-contains_key.true)

pub returns-clause-knows : goal.returns-clause-knows
returns-clause-knows c =
    let counted = c.len-place.ensures in
    let long = c.args.rows.now.ok.0 in
    let named : c.in_ok-clone.field-0 ≡ c.args.row.now.app = search rules in
    knows_more c.args.by_app.now c.insert.new.self c.args.rows.now.items c.args.row.now c.in_ok-clone.field-0 _ c.requires.knows c.if-not-row.false
    (sym c.contains_key.ensures ∙ c.if-contains_key.false) named (omega (arith, counted, long)) c.in_ok-insert.ensures.updates
