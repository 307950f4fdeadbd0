use Rattle.std.proofs.Common.{◌≡◌, ℕ, ◌+◌, ◌<◌, List, [], ◌∷◌, map, length, drop, get_or, Bor, Some, true, arith, subst}
use Rattle.std.specs.Ordering.{is_lt}
use Rattle.std.proofs.lemmas.Grind.{common_steps}
use Rattle.mx_base.specs.Order.{text_cmp}
use Rattle.unit_compile.specs.Faces.{export_in}
use Rattle.unit_compile.specs.Views.{export_of}
use Rattle.unit_compile.proofs.FaceLemmas.{IsReadUpTo, first_line, more_lines, next_export}
use Rattle.unit_compile.proofs.face.read_face.Goals as goal

pub loop-line-preserved : goal.loop-line-preserved
loop-line-preserved c =
    let items = c.deref-line-items.result.now in
    let place = c.loop-line.line-index in
    let none : Bor (List ℕ) = record { ref_ptr = (0, 0); now = [] } in
    let line : List ℕ = (get_or items place none).now in
    let lines : List (List ℕ) = map (λ (l : Bor (List ℕ)). l.now) (drop (place + 1) items) in
    let less : place < length items = omega arith in
    let export : export_in line ≡ Some (export_of c.in-Some.export) = grind (arith, common_steps) in
    let order : is_lt (text_cmp c.loop-line.before.now c.in-Some.export.0.now) ≡ true = grind (arith, common_steps) in
    record {
      left = omega arith;
      read = next_export c.loop-line.exports.items c.push.new.self.items c.loop-line.before.now line lines c.args.text.now c.in-Some.export
          (more_lines items place c.loop-line.left c.loop-line.invariant.left c.if-left-eq0.false)
          (subst (λ (ls : List (List ℕ)). IsReadUpTo c.loop-line.exports.items c.loop-line.before.now ls c.args.text.now) (first_line items place none less) c.loop-line.invariant.read)
          export order c.in_ok-push.ensures.items;
    }
