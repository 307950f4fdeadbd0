use Rattle.std.proofs.Common.{◌∷◌, [], ◌++◌, ap, arith, length, length-append, subst, sym, ◌∙◌}
use Rattle.std.specs.Option.{option_copied}
use Rattle.std.specs.Prelude.{flat_map}
use Rattle.std.proofs.lemmas.Result.{err_from_is_err_and}
use Rattle.reading.specs.Field.{ListFits, Stops}
use Rattle.build_manifest.specs.Fields.{IsEarlier, NextLine, last_path}
use Rattle.build_manifest.specs.Lines.{digest_of}
use Rattle.build_manifest.specs.Mark.{LineFits}
use Rattle.build_manifest.specs.Text.{line_text}
use Rattle.build_manifest.proofs.LinesSoFar.{HaveCome, all_come, come_again, is_earlier, lines_stop, one_line_more}
use Rattle.build_manifest.proofs.RowStops.{stops_by}
use Rattle.build_manifest.proofs.rows.read_lines.Goals as goal

pub read_line-requires : goal.read_line-requires
read_line-requires c =
    let inv = c.lines.invariant in
    let come : HaveCome c.args.with_digests c.lines.rows.digests.items c.lines.rows.rows.items c.args.text.now c.lines.rest.now =
    record { has = inv.leads; fits = inv.fits; cut = inv.cut } in
    subst IsEarlier (sym (c.last_path-before.ensures ∙ ap last_path c.deref.ensures.value))
    (is_earlier c.args.with_digests c.lines.rows.digests.items c.lines.rows.rows.items c.args.text.now c.lines.rest.now come)

pub returns-in_err-line : goal.returns-in_err-line
returns-in_err-line c =
    let leads = c.args.with_digests in
    let text = c.args.text.now in
    let digests = c.lines.rows.digests.items in
    let rows = c.lines.rows.rows.items in
    let rest = c.lines.rest.now in
    let before = option_copied c.last_path-before.result in
    let inv = c.lines.invariant in
    let come : HaveCome leads digests rows text rest = record { has = inv.leads; fits = inv.fits; cut = inv.cut } in
    let p = err_from_is_err_and c.from_residual.result c.from_residual.ensures.1 in
    rw (p.1, p.2)
    (stops_by line_text (NextLine leads before) rest (flat_map line_text) (ListFits (LineFits leads) c.args.count []) text
    (λ left s. lines_stop leads digests rows text rest come c.args.count left (omega (arith, inv.many, c.lines-test.true))
    (subst (λ b. Stops line_text (NextLine leads b) rest left) (c.last_path-before.ensures ∙ ap last_path c.deref.ensures.value) s))
    c.in_err-line.field-0.0 c.in_err-line.ensures)

pub lines-preserved : goal.lines-preserved
lines-preserved c =
    let leads = c.args.with_digests in
    let text = c.args.text.now in
    let digests = c.lines.rows.digests.items in
    let rows = c.lines.rows.rows.items in
    let rest = c.lines.rest.now in
    let line = c.in_ok-line.line in
    let inv = c.lines.invariant in
    let come : HaveCome leads digests rows text rest = record { has = inv.leads; fits = inv.fits; cut = inv.cut } in
    let next : NextLine leads (last_path rows) line =
    subst (λ b. NextLine leads b line) (c.last_path-before.ensures ∙ ap last_path c.deref.ensures.value) c.in_ok-line.ensures.0 in
    let more = come_again leads (digests ++ digest_of line.0) c.push.new.self.digests.items (rows ++ line.1 ∷ []) c.push.new.self.rows.items text
    c.in_ok-line.after.now c.in_ok-push.ensures.digests c.in_ok-push.ensures.rows
    (one_line_more leads digests rows text rest c.in_ok-line.after.now line come next c.in_ok-line.ensures.1) in
    record {
      leads = more.has;
      many = omega (arith, ap length c.in_ok-push.ensures.rows, length-append rows (line.1 ∷ []), inv.many);
      fits = more.fits;
      cut = more.cut;
    }

pub returns : goal.returns
returns c =
    let inv = c.lines.invariant in
    let come : HaveCome c.args.with_digests c.lines.rows.digests.items c.lines.rows.rows.items c.args.text.now c.lines.rest.now =
    record { has = inv.leads; fits = inv.fits; cut = inv.cut } in (
      all_come c.args.with_digests c.lines.rows.digests.items c.lines.rows.rows.items c.args.text.now c.lines.rest.now
          come c.args.count (omega (arith, inv.many)),
      inv.cut,
    )
