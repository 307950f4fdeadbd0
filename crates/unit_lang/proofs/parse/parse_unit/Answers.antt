use Rattle.std.proofs.Common.{◌+◌, arith, subst}
use Rattle.unit_lang.specs.declared.error.UnitCause.TheVariants.{TooLong, NoUnit}
use Rattle.unit_lang.specs.Faults.{HeadingFault, FirstFault}
use Rattle.unit_lang.proofs.FileLemmas.{Sought, sought_first, sought_next, blank_fault}
use Rattle.unit_lang.proofs.FileOutcomes.{headed_read, headed_by, headed_memory, refused_read, none_left}
use Rattle.unit_lang.proofs.parse.parse_unit.Goals as goal

pub loop-rest-init : goal.loop-rest-init
loop-rest-init c = record { sought = sought_first c.args.text.now; room = omega arith }

pub loop-rest-preserved : goal.loop-rest-preserved
loop-rest-preserved c =
    let h = rw c.in-Some.is at c.loop-rest.invariant in
    record {
      sought = sought_next c.args.text.now c.loop-rest.number (c.loop-rest.number + 1) c.first_line.result.0.now _ (omega arith) (subst (λ l. Sought c.args.text.now c.loop-rest.number l) c.first_line.ensures.lines h.sought) (omega arith) (c.is_blank_line.ensures.0 (cc));
      room = omega (arith, h.room, c.first_line.ensures.shorter);
    }

pub loop-rest-smaller : goal.loop-rest-smaller
loop-rest-smaller c = rw c.in-Some.is (omega (arith, c.first_line.ensures.shorter))

pub returns-then-text-gt-LONGEST_FILE-clause-answer : goal.returns-then-text-gt-LONGEST_FILE-clause-answer
returns-then-text-gt-LONGEST_FILE-clause-answer c = λ input. FirstFault.long (omega arith)

pub returns-then-line-gt-LONGEST_LINE-clause-answer : goal.returns-then-line-gt-LONGEST_LINE-clause-answer
returns-then-line-gt-LONGEST_LINE-clause-answer c =
    let h = rw c.in-Some.is at c.loop-rest.invariant in
    λ input. refused_read c.args.text.now c.loop-rest.number c.first_line.result.0.now _ _ TooLong c.refusal.result (omega arith) h.sought c.first_line.ensures.lines (HeadingFault.long (omega arith)) c.refusal.ensures

pub returns-in-Some-heading-clause-answer : goal.returns-in-Some-heading-clause-answer
returns-in-Some-heading-clause-answer c =
    let h = rw c.in-Some.is at c.loop-rest.invariant in
    headed_read c.args.text.now c.loop-rest.number c.first_line.result.0.now c.in-Some-heading.name.now _ _ c.unit_after.result (omega arith) h.sought c.first_line.ensures.lines (omega arith) c.in-Some-heading.ensures c.unit_after.ensures

pub returns-in-Some-heading-clause-memory : goal.returns-in-Some-heading-clause-memory
returns-in-Some-heading-clause-memory c =
    let h = rw c.in-Some.is at c.loop-rest.invariant in
    headed_memory c.args.text.now c.unit_after.result (headed_by c.args.text.now c.loop-rest.number c.first_line.result.0.now c.in-Some-heading.name.now _ _ (omega arith) h.sought c.first_line.ensures.lines (omega arith) c.in-Some-heading.ensures)

pub returns-then-not-is_blank_line-clause-answer : goal.returns-then-not-is_blank_line-clause-answer
returns-then-not-is_blank_line-clause-answer c =
    let h = rw c.in-Some.is at c.loop-rest.invariant in
    λ input. refused_read c.args.text.now c.loop-rest.number c.first_line.result.0.now _ _ NoUnit c.refusal-then-not-is_blank_line.result (omega arith) h.sought c.first_line.ensures.lines (HeadingFault.none (omega arith) (λ b. let e = c.is_blank_line.ensures.1 b in cc) (λ name n. c.in_default-heading.ensures (name, n))) c.refusal-then-not-is_blank_line.ensures

pub returns-clause-answer : goal.returns-clause-answer
returns-clause-answer c =
    let e = none_left c.loop-rest.rest c.in_default.not-Some in
    let h = rw e at c.loop-rest.invariant in
    λ input. blank_fault c.args.text.now c.loop-rest.number (omega arith) h.sought
