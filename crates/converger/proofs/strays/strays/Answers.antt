use Rattle.std.proofs.Common.{◌≡◌, ◌<◌, ◌∙◌, sym, subst, [], false, replicate, length, get_or, ap, rules, arith}
use Rattle.std.specs.List.{list_any}
use Rattle.std.specs.Ordering.{is_eq}
use Rattle.std.proofs.lemmas.List.{get_or_default, length-replicate}
use Rattle.mx_base.specs.Order.{text_cmp}
use Rattle.converger.specs.Strays.{AreNamed, IsStrayFor, only_of, targets_of}
use Rattle.converger.proofs.EnvLemmas.{tried_first, tried_more, all_tried}
use Rattle.converger.proofs.UnnamedLemmas.{target_stray}
use Rattle.converger.proofs.strays.strays.Goals as goal

pub loop-target-init : goal.loop-target-init
loop-target-init c =
    let rows = c.args.rows.now.rows in
    let none : c.in_ok-strays.strays.items ≡ replicate (length rows) false = search rules in
    record {
      long = c.in_ok-add_for_target.ensures.long ∙ ap length none ∙ length-replicate (length rows) false;
      marks = tried_first (replicate (length rows) false) (λ target other. IsStrayFor rows target other) c.deref-target-items.result.now
          c.add_for_target.new.strays.items (rw none at c.in_ok-add_for_target.ensures.marks);
    }

pub loop-target-preserved : goal.loop-target-preserved
loop-target-preserved c =
    let rows = c.args.rows.now.rows in
    let names = c.deref-target-items.result.now in
    let i = c.loop-target.target-index in
    let within : i < length names = omega arith in
    record {
      long = c.in_ok-add_for_target-2.ensures.long ∙ c.loop-target.invariant.long;
      marks = tried_more (replicate (length rows) false) (λ target other. IsStrayFor rows target other) names i
          (get_or names i (record { ref_ptr = (0, 0); now = [] })) (get_or_default names i _ _ within) within c.loop-target.strays.items
          c.add_for_target-in-loop-target.new.strays.items c.loop-target.invariant.marks c.in_ok-add_for_target-2.ensures.marks;
    }

pub returns-clause-marks : goal.returns-clause-marks
returns-clause-marks c =
    let rows = c.args.rows.now.rows in
    let names = c.deref-target-items.result.now in
    let named : AreNamed targets_of rows (λ target. list_any (λ name. is_eq (text_cmp target name.now)) names) = subst
    (λ l. AreNamed targets_of rows (λ target. list_any (λ name. is_eq (text_cmp target name.now)) l)) (sym c.deref-target-items.ensures.value)
    (rw c.rows-list.ensures.rows at c.in_ok-targets.ensures.named) in
    all_tried (length rows) (λ target other. IsStrayFor rows target other) names
    (λ target q none s. (
      s.0,
      target_stray rows (λ t. list_any (λ name. is_eq (text_cmp t name.now)) names) named s.0 target [] none
          (rw c.rows-list.ensures.rows at c.in_ok-targets.ensures.unnamed) q s.1,
    ))
    c.loop-target.target-index (omega arith) c.loop-target.strays.items c.loop-target.invariant.marks
