use Rattle.std.proofs.Common.{◌≡◌, ℕ, zero, suc, ◌+◌, ◌*◌, ◌<◌, true, false, List, [], ◌∷◌, ◌++◌, refl, sym, ◌∙◌, arith, subst, ⊎_elim}
use Rattle.std.proofs.lemmas.Bool.{or_left, or_right, or_from, cases_lt}
use Rattle.term_tokens.specs.Lexed.{can_become, some_low}
use Rattle.term_tokens.proofs.stuck.some_low.Goals as goal

low_found : (bytes : List ℕ) (high n low : ℕ) → low < n → can_become (bytes ++ (high * 16 + low) ∷ []) ≡ true → some_low bytes high n ≡ true
unfolding some_low
low_found bytes high zero low l c = absurd (omega (arith, l))
low_found bytes high (suc n) low l c =
    ⊎_elim (λ k. or_right (can_become (bytes ++ (high * 16 + n) ∷ [])) (some_low bytes high n) (low_found bytes high n low k c))
    (λ k. let same : low ≡ n = omega (arith, k, l) in or_left (can_become (bytes ++ (high * 16 + n) ∷ [])) (some_low bytes high n) (subst (λ j. can_become (bytes ++ (high * 16 + j) ∷ []) ≡ true) same c))
    (cases_lt low n)

none_more : (bytes : List ℕ) (high low : ℕ) → can_become (bytes ++ (high * 16 + low) ∷ []) ≡ false → some_low bytes high low ≡ false → some_low bytes high (suc low) ≡ false
unfolding some_low
none_more bytes high low c s = or_from (can_become (bytes ++ (high * 16 + low) ∷ [])) (some_low bytes high low) c s

pub loop-low-init : goal.loop-low-init
unfolding some_low
loop-low-init c = refl

pub returns-then-branch : goal.returns-then-branch
returns-then-branch c = sym (low_found c.args.bytes.now c.args.high 16 c.loop-low.low c.loop-low-test.true (sym c.in_ok-may_follow.ensures ∙ c.if-branch.true))

pub loop-low-preserved : goal.loop-low-preserved
loop-low-preserved c =
    let more : suc c.loop-low.low ≡ c.loop-low.low + 1 = omega arith in
    subst (λ low. some_low c.args.bytes.now c.args.high low ≡ false) more (none_more c.args.bytes.now c.args.high c.loop-low.low (sym c.in_ok-may_follow.ensures ∙ c.if-branch.false) c.loop-low.invariant)
