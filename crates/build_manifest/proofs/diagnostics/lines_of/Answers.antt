use Rattle.std.proofs.Common.{◌≡◌, ℕ, ◌+◌, List, ◌++◌, length, map, drop, rules, sym, ap, ap₂, ◌∙◌, arith}
use Rattle.std.specs.List.{slice_range}
use Rattle.build_manifest.specs.Diagnostics.{lines_of}
use Rattle.build_manifest.proofs.DiagnosticsLemmas.{glue, last_line, line_pushed, newline, no_last_line, other_byte}
use Rattle.build_manifest.proofs.diagnostics.lines_of.Goals as goal
use Rattle.build_manifest.proofs.diagnostics.lines_of.Goals.{then-text-at-eq10+in_ok-push, else-text-at-eq10, then-start-text+in_ok-push-2, else-start-text}

pub loop-at-preserved : goal.loop-at-preserved
loop-at-preserved c =
    let text = c.args.text.now in
    let start = c.loop-at.start in
    let at = c.loop-at.at in
    let made = map (λ line. line.now) c.loop-at.lines.items in
    let after = lines_of (drop (at + 1) text) in
    let below = c.loop-at-test.true in
    let held = c.loop-at.invariant in
    elim c.if-text-at-eq10.branch [
      | then-text-at-eq10+in_ok-push w ↦ record {
        low = omega (arith, w.start-is);
        made =
            ap₂ (λ (ls : List (List ℕ)) (s : ℕ). ls ++ glue (slice_range text s (at + 1)) after)
            (ap (λ v. map (λ line. line.now) v.items) w.lines-is ∙ line_pushed _ _ _
            (slice_range text start (at + 1)) w.in_ok-push.ensures.items (search rules))
            w.start-is
            ∙ newline text start at held.low below made (lines_of text) w.if-text-at-eq10.true held.made;
      }
      | else-text-at-eq10 w ↦ record {
        low = omega (arith, w.start-is, held.low);
        made =
            ap₂ (λ (ls : List (List ℕ)) (s : ℕ). ls ++ glue (slice_range text s (at + 1)) after)
            (ap (λ v. map (λ line. line.now) v.items) w.lines-is) w.start-is
            ∙ other_byte text start at held.low below made (lines_of text) w.if-text-at-eq10.false held.made;
      }
    ]

pub returns : goal.returns
returns c =
    let text = c.args.text.now in
    let start = c.loop-at.start in
    let made = map (λ line. line.now) c.loop-at.lines.items in
    let held = c.loop-at.invariant in
    let end : length text ≡ c.loop-at.at = omega arith in
    let all = ap (λ (n : ℕ). made ++ glue (slice_range text start n) (lines_of (drop n text))) end ∙ held.made in
    elim c.if-start-text.branch [
      | then-start-text+in_ok-push-2 w ↦
          ap (λ v. map (λ line. line.now) v.items) w.lines-is ∙ line_pushed _ _ _
          (slice_range text start (length text)) w.in_ok-push-2.ensures.items (search rules)
          ∙ sym (last_line text start made w.if-start-text.true) ∙ all
      | else-start-text w ↦
          ap (λ v. map (λ line. line.now) v.items) w.lines-is
          ∙ sym (no_last_line text start made (omega (arith, held.low, end, w.if-start-text.false))) ∙ all
    ]
