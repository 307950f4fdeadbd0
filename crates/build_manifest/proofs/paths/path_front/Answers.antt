use Rattle.std.proofs.Common.{◌≡◌, ℕ, ◌+◌, List, ◌++◌, length, take, drop, get_or, refl, sym, ap, ◌∙◌, subst, arith}
use Rattle.std.specs.Option.{option_copied}
use Rattle.std.proofs.lemmas.List.{take_rest}
use Rattle.reading.specs.Field.{Stops}
use Rattle.reading.specs.declared.stuck.Stuck.{Stuck}
use Rattle.build_manifest.specs.Fields.{NextPath, ended}
use Rattle.build_manifest.specs.Paths.{MayEnd}
use Rattle.build_manifest.proofs.PathFronts.{get_at, led_further, led_nowhere, path_read, path_stuck_at}
use Rattle.build_manifest.proofs.paths.path_front.Goals as goal
use Rattle.build_manifest.proofs.paths.path_front.Goals.{else-text-i-eq10-via-then-text-i-eq10+else-may_end, else-text-i-eq10-via-else-text-i-eq10}

pub bytes-init : goal.bytes-init
bytes-init c = led_nowhere (option_copied c.args.before) c.start.result.0.now c.args.text.now c.start.result.1 c.start.ensures

pub returns-then-may_end : goal.returns-then-may_end
returns-then-may_end c =
    let text = c.args.text.now in
    let read = path_read (option_copied c.args.before) c.start.result.0.now text c.bytes.i c.bytes.place c.bytes.invariant c.bytes-test.true
    c.if-text-i-eq10.true (c.may_end.ensures.0 c.if-may_end.true) in
    (read.0, read.1 ∙ ap (λ (t : List ℕ). ended (take c.bytes.i text) ++ t) (sym (take_rest text (c.bytes.i + 1))))

pub returns-in_default : goal.returns-in_default
returns-in_default c =
    let text = c.args.text.now in
    let earlier = c.start.result.0.now in
    let left : c.stuck_at.result.left ≡ length (drop c.bytes.i text) =
    ap (λ (s : Stuck). s.left) c.stuck_at.ensures ∙ ap length (take_rest text c.bytes.i) in
    let unended : get_or text c.bytes.i 0 ≡ 10 → MayEnd c.bytes.place c.bytes.i → ⊥ =
    elim c.else-text-i-eq10.branch [
      | else-text-i-eq10-via-then-text-i-eq10+else-may_end w ↦ λ is may. cc (w.if-may_end.false, w.may_end.ensures.1 may)
      | else-text-i-eq10-via-else-text-i-eq10 w ↦ λ is may. absurd (omega (arith, is))
    ] in
    subst (λ (n : ℕ). Stops ended (NextPath (option_copied c.args.before)) text n) (sym left)
    (path_stuck_at (option_copied c.args.before) earlier text c.bytes.i c.bytes.place c.bytes.invariant (omega arith)
    (λ inside. (unended, λ bytes. c.in_default.ensures.none (drop c.bytes.i earlier) bytes (get_at earlier c.bytes.i ∙ sym c.byte_at.ensures))))

pub bytes-preserved : goal.bytes-preserved
bytes-preserved c =
    let text = c.args.text.now in
    let earlier = c.start.result.0.now in
    led_further (option_copied c.args.before) earlier text c.bytes.i (get_or text c.bytes.i 0) c.byte_at.result c.bytes.place c.in-Some.next
    c.bytes.invariant c.bytes-test.true refl c.byte_at.ensures c.in-Some.ensures.some c.in-Some.ensures.goes_on c.in-Some.ensures.same

pub returns : goal.returns
returns c =
    let text = c.args.text.now in
    let at : length text ≡ c.bytes.i = omega arith in
    let left : c.stuck_at-2.result.left ≡ length (drop c.bytes.i text) =
    ap (λ (s : Stuck). s.left) c.stuck_at-2.ensures ∙ ap length (take_rest text (length text)) ∙ ap (λ (n : ℕ). length (drop n text)) at in
    subst (λ (n : ℕ). Stops ended (NextPath (option_copied c.args.before)) text n) (sym left)
    (path_stuck_at (option_copied c.args.before) c.start.result.0.now text c.bytes.i c.bytes.place c.bytes.invariant (omega arith)
    (λ inside. absurd (omega arith)))
