use Rattle.std.proofs.Common.{◌≡◌, ◌==◌, ◌∙◌, length, slice_index, true, false, rules, sym, arith}
use Rattle.std.proofs.lemmas.List.{drop_all, take_rest}
use Rattle.semver.specs.Grammar.{is_identifier_byte}
use Rattle.version_req.specs.Reading.{is_identifier}
use Rattle.version_req.proofs.ScanSteps.{ids_dot, ids_end, ids_end_stuck, ids_letter, ids_stop, ids_stuck, part, stuck_at, stuck_end}
use Rattle.version_req.proofs.identifiers.read_identifiers.Goals as goal
use Rattle.version_req.proofs.identifiers.read_identifiers.Goals.{then-not-is_identifier_byte+else-not-is_identifier+else-byte-ne46, else-not-is_identifier_byte}

pub returns-then-not-is_identifier : goal.returns-then-not-is_identifier
returns-then-not-is_identifier c =
    let text = c.args.text.now in
    let b : is_identifier_byte (slice_index text c.bytes.i) ≡ false = search rules in
    let bad : is_identifier c.args.kind (part text c.bytes.start c.bytes.i) ≡ false = search rules in
    stuck_at text c.bytes.i _ c.stuck_at.ensures
    ∙ sym (c.bytes.invariant.same ∙ ids_stuck c.args.kind text c.bytes.start c.bytes.i c.bytes-test.true b bad)

pub returns-then-byte-ne46 : goal.returns-then-byte-ne46
returns-then-byte-ne46 c =
    let text = c.args.text.now in
    let b : is_identifier_byte (slice_index text c.bytes.i) ≡ false = search rules in
    let good : is_identifier c.args.kind (part text c.bytes.start c.bytes.i) ≡ true = search rules in
    let other : (slice_index text c.bytes.i == 46) ≡ false = grind arith in
    rw (take_rest text c.bytes.i)
    (sym (c.bytes.invariant.same ∙ ids_stop c.args.kind text c.bytes.start c.bytes.i c.bytes-test.true b good other))

pub bytes-preserved : goal.bytes-preserved
bytes-preserved c =
    let text = c.args.text.now in
    let inv = c.bytes.invariant in
    elim c.if-not-is_identifier_byte.branch [
      | then-not-is_identifier_byte+else-not-is_identifier+else-byte-ne46 w ↦
          let b : is_identifier_byte (slice_index text c.bytes.i) ≡ false = search rules in
          let good : is_identifier c.args.kind (part text c.bytes.start c.bytes.i) ≡ true = search rules in
          let dot : slice_index text c.bytes.i ≡ 46 = omega arith in
          let more = ids_dot c.args.kind text c.bytes.start c.bytes.i c.bytes-test.true b good dot in
          rw w.start-is record { within = omega arith; bytes = more.1; same = inv.same ∙ more.0 }
      | else-not-is_identifier_byte w ↦
          let b : is_identifier_byte (slice_index text c.bytes.i) ≡ true = search rules in
          let more = ids_letter c.args.kind text c.bytes.start c.bytes.i inv.within c.bytes-test.true b inv.bytes in
          rw w.start-is record { within = omega arith; bytes = more.1; same = inv.same ∙ more.0 }
    ]

pub returns-then-not-is_identifier-2 : goal.returns-then-not-is_identifier-2
returns-then-not-is_identifier-2 c =
    let text = c.args.text.now in
    let all : c.bytes.i ≡ length text = omega arith in
    let bad : is_identifier c.args.kind (part text c.bytes.start c.bytes.i) ≡ false = rw all
    (sym c.is_identifier-2.ensures ∙ c.if-not-is_identifier-2.true) in
    stuck_end text _ c.stuck_at-then-not-is_identifier-2.ensures
    ∙ sym (c.bytes.invariant.same ∙ ids_end_stuck c.args.kind text c.bytes.start c.bytes.i (omega arith) bad)

pub returns : goal.returns
returns c =
    let text = c.args.text.now in
    let all : c.bytes.i ≡ length text = omega arith in
    let good : is_identifier c.args.kind (part text c.bytes.start c.bytes.i) ≡ true = rw all
    (sym c.is_identifier-2.ensures ∙ c.if-not-is_identifier-2.false) in
    let whole = ids_end c.args.kind text c.bytes.start c.bytes.i (omega arith) good in
    rw (take_rest text (length text), drop_all (length text) text (omega arith))
    (sym (c.bytes.invariant.same ∙ whole))
