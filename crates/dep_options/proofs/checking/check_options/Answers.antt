use Rattle.std.proofs.Common.{◌<◌, [], length, take, ◌∙◌, arith}
use Rattle.mx_base.proofs.BlameLemmas.{answers_on}
use Rattle.term_values.specs.Views.{named}
use Rattle.dep_options.specs.Blame.{cause_blame, Finds}
use Rattle.dep_options.specs.Options.{has_name, fault_of, first_fault}
use Rattle.dep_options.proofs.OptionLemmas.{fault_past, fault_found, free_new, free_again, seen_has, seen_push, seen_again}
use Rattle.dep_options.proofs.checking.check_options.Goals as goal
use Rattle.dep_options.proofs.checking.check_options.Goals.{then-not-is_among+in_ok-check_option+in_ok-push, else-not-is_among}

pub returns-in_err-check_option : goal.returns-in_err-check_option
returns-in_err-check_option c =
    let base = c.args.base.now in
    let xs = c.args.options.now in
    let i = c.loop-name.name-index in
    let o = c.loop-name-item.result in
    let cause = c.in_err-check_option.field-0.0 in
    let within : i < length xs = omega arith in
    let has = seen_has c.is_among.result o.0.now c.deref.result.now c.loop-name.seen.items (named (take i xs)) c.is_among.ensures c.deref.ensures.value c.loop-name.invariant.seen in
    answers_on cause_blame (Finds (first_fault base [] (named xs))) c.from_residual.result cause c.from_residual.ensures.1
    (λ input. fault_found base xs i o (first_fault base [] (named xs)) cause within c.loop-name-item.is (has ∙ c.if-not-is_among.true) (c.in_err-check_option.ensures input) c.loop-name.invariant.faults)

pub loop-name-preserved : goal.loop-name-preserved
loop-name-preserved c =
    let base = c.args.base.now in
    let xs = c.args.options.now in
    let i = c.loop-name.name-index in
    let o = c.loop-name-item.result in
    let is = c.loop-name-item.is in
    let within : i < length xs = omega arith in
    let before = named (take i xs) in
    let first = first_fault base [] (named xs) in
    let has = seen_has c.is_among.result o.0.now c.deref.result.now c.loop-name.seen.items before c.is_among.ensures c.deref.ensures.value c.loop-name.invariant.seen in
    elim c.if-not-is_among.branch [
      | then-not-is_among+in_ok-check_option+in_ok-push w ↦
          let free = free_new (has_name o.0.now before) (fault_of base (o.0.now, o.1.now)) (has ∙ w.if-not-is_among.true) w.in_ok-check_option.ensures in
          record {
            faults = fault_past base xs i o first within is free c.loop-name.invariant.faults;
            seen = rw w.seen-is (seen_push xs i o c.loop-name.seen.items w.push.new.self.items within is w.in_ok-push.ensures.items c.loop-name.invariant.seen);
          }
      | else-not-is_among w ↦
          let again = has ∙ w.if-not-is_among.false in
          record {
            faults = fault_past base xs i o first within is (free_again (has_name o.0.now before) (fault_of base (o.0.now, o.1.now)) again) c.loop-name.invariant.faults;
            seen = rw w.seen-is (seen_again xs i o c.loop-name.seen.items within is again c.loop-name.invariant.seen);
          }
    ]
