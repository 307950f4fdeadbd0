use Rattle.std.proofs.Common.{◌≡◌, true, false, List, ℕ, ◌++◌, Some, take, cond, sym, ap, ◌∙◌}
use Rattle.std.proofs.lemmas.List.{take_at}
use Rattle.term_tokens.specs.Lexed.{can_become, kept, stuck_item, stuck_past}
use Rattle.term_tokens.specs.Lexing.{spelled, next_at}
use Rattle.term_tokens.proofs.StuckItems.{stuck_next}
use Rattle.term_tokens.proofs.stuck.stuck.Goals as goal

goes_on : (text value after bytes more : List ℕ) → next_at text ≡ Some (value, after) → more ≡ bytes ++ value → can_become more ≡ true → stuck_past text 0 bytes ≡ stuck_past after 0 (kept more)
goes_on text value after bytes more n m c =
    stuck_next text value after bytes n
    ∙ ap (λ l. cond (can_become l) (stuck_past after 0 (kept l)) (Some (stuck_item bytes text))) (sym m)
    ∙ ap (λ can. cond can (stuck_past after 0 (kept more)) (Some (stuck_item bytes text))) c

stops : (text value after bytes more : List ℕ) → next_at text ≡ Some (value, after) → more ≡ bytes ++ value → can_become more ≡ false → stuck_past text 0 bytes ≡ Some (stuck_item bytes text)
stops text value after bytes more n m c =
    stuck_next text value after bytes n
    ∙ ap (λ can. cond can (stuck_past after 0 (kept (bytes ++ value))) (Some (stuck_item bytes text))) (ap can_become (sym m) ∙ c)

pub returns-then-not-branch : goal.returns-then-not-branch
returns-then-not-branch c =
    let bytes = c.loop-value.bytes.items in
    let value = spelled c.in-Some.value in
    let back : c.as_slice-then-not-branch.result.now ≡ bytes =
    c.as_slice-then-not-branch.ensures.value ∙ c.truncate.ensures.items ∙ ap (take c.len-len.result) c.in_ok-push.ensures ∙ take_at bytes value c.len-len.result (sym (c.len-len.ensures ∙ c.loop-value.bytes.ok.0)) in
    let more : c.as_slice.result.now ≡ bytes ++ value = c.as_slice.ensures.value ∙ c.in_ok-push.ensures in
    ap Some (c.in_ok-place.ensures ∙ ap (λ l. stuck_item l c.loop-value.rest.now) back)
    ∙ sym (stops c.loop-value.rest.now value c.in-Some.after.now bytes c.as_slice.result.now (sym c.in-Some.ensures.value) more (sym c.in_ok-can_become.ensures ∙ c.if-not-branch.true))
    ∙ c.loop-value.invariant

pub loop-value-preserved : goal.loop-value-preserved
loop-value-preserved c =
    let bytes = c.loop-value.bytes.items in
    let can : can_become c.push.new.bytes.items ≡ true = ap can_become (sym c.as_slice.ensures.value) ∙ sym c.in_ok-can_become.ensures ∙ c.if-not-branch.false in
    ap (λ l. stuck_past c.in-Some.after.now 0 l) c.forget_whole.ensures
    ∙ sym (goes_on c.loop-value.rest.now (spelled c.in-Some.value) c.in-Some.after.now bytes c.push.new.bytes.items (sym c.in-Some.ensures.value) c.in_ok-push.ensures can)
    ∙ c.loop-value.invariant
