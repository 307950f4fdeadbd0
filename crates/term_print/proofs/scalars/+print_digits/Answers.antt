use Rattle.std.proofs.Common.{◌≡◌, ℕ, ◌+◌, ◌/◌, ◌%◌, ◌^◌, ◌<◌, ◌≤◌, List, [], ◌∷◌, ◌++◌, ap, sym, ◌∙◌, append_assoc, arith}
use Rattle.std.specs.Fmt.{decimal}
use Rattle.std.proofs.lemmas.Fmt.{decimal_digit, decimal_step_wide}
use Rattle.term_print.proofs.scalars.+print_digits.Goals as goal
use Rattle.term_print.proofs.scalars.+print_digits.Goals.{then-n-ge10+in_ok-print_digits, else-n-ge10}

more_digits : (old front new : List ℕ) (n : ℕ) → 10 ≤ n → n < 2 ^ 128 → front ≡ old ++ decimal (n / 10) → new ≡ front ++ (48 + n % 10) ∷ [] → new ≡ old ++ decimal n
more_digits old front new n many small before after =
    after ∙ ap (λ (w : List ℕ). w ++ (48 + n % 10) ∷ []) before ∙ append_assoc old (decimal (n / 10)) ((48 + n % 10) ∷ []) ∙ ap (λ (w : List ℕ). old ++ w) (sym (decimal_step_wide n many (omega arith)))

one_digit : (old new : List ℕ) (n : ℕ) → n < 10 → new ≡ old ++ (48 + n % 10) ∷ [] → new ≡ old ++ decimal n
one_digit old new n few after =
    let same : n % 10 ≡ n = omega arith in
    after ∙ ap (λ (k : ℕ). old ++ (48 + k) ∷ []) same ∙ ap (λ (w : List ℕ). old ++ w) (sym (decimal_digit n few))

pub returns : goal.returns
returns t c = elim c.if-n-ge10.branch [
  | then-n-ge10+in_ok-print_digits w ↦ more_digits c.args.out.now.items c.if-n-ge10.out.items c.push.new.self.items c.args.n w.if-n-ge10.true (omega arith) (ap (λ v. v.items) w.out-is ∙ w.in_ok-print_digits.ensures) c.in_ok-push.ensures.items
  | else-n-ge10 w ↦ one_digit c.args.out.now.items c.push.new.self.items c.args.n w.if-n-ge10.false (c.in_ok-push.ensures.items ∙ ap (λ v. v.items ++ (48 + c.args.n % 10) ∷ []) w.out-is)
]
