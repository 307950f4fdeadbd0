use Rattle.std.specs.Prelude.{Ok, Err}
use Rattle.std.proofs.Common.{◌≡◌, ◌&&◌, false, eqb, arith, ap, sym, ◌∙◌, eq-eqb}
use Rattle.std.proofs.lemmas.Bool.{and_from, and_left, and_right, ne_eqb}
use Rattle.term_tokens.specs.declared.cause.Feature.TheVariants.{Float}
use Rattle.term_tokens.specs.declared.cause.TermCause.TheVariants.{Unsupported, NumberTooBig}
use Rattle.term_tokens.specs.declared.token.Token.TheVariants.{Int}
use Rattle.term_tokens.specs.Lexed.{measured, opens_fraction}
use Rattle.term_tokens.specs.Lexing.{are_signed_digits, signed_value}
use Rattle.term_tokens.proofs.ScanLemmas.{written_digits, said_at_end, end_big, end_float, end_ok, narrow_false, true_narrow, kept_value}
use Rattle.term_tokens.proofs.numbers.signed.Goals as goal
use Rattle.term_tokens.proofs.numbers.signed.Goals.{then-base-eq10+else-opens_fraction, else-base-eq10}

pub value-requires-clause-digits : goal.value-requires-clause-digits
value-requires-clause-digits c =
    let f = c.in_ok-after_digit.ensures in
    let w = written_digits c.args.negative c.base_of-base.result.0 c.base_of-base.result.1.now c.in_ok-written.written.items c.push_digits.new.written.items f.0 c.in_ok-after_digit.rest.now c.in_ok-after_digit.after_digit (omega (arith, c.base_of-base.ensures.most)) f.1 c.if-not-after_digit.false c.in_ok-written.ensures f.2 in
    ap (are_signed_digits c.base_of-base.result.0) c.as_slice.ensures.value ∙ w.0

pub returns-in-None : goal.returns-in-None
returns-in-None c _ =
    let f = c.in_ok-after_digit.ensures in
    let n = signed_value c.base_of-base.result.0 c.as_slice.result.now in
    let said = said_at_end c.args.text.now c.args.numeral.now c.base_of-base.result.1.now c.args.negative c.base_of-base.result.0 c.in_ok-after_digit.after_digit f.0 c.in_ok-after_digit.rest.now c.in_ok-written.written.items c.push_digits.new.written.items c.as_slice.result.now (omega (arith, c.base_of-base.ensures.most)) c.base_of-base.ensures.value f.1 c.if-not-after_digit.false (sym c.ends_integer.ensures ∙ c.if-not-ends_integer.false) c.in_ok-written.ensures f.2 c.as_slice.ensures.value in
    let m = ap measured (said ∙ end_big c.args.text.now c.in_ok-after_digit.rest.now c.base_of-base.result.0 n (narrow_false n c.in-None.ensures)) in
    m ∙ ap (λ k. Err (k, NumberTooBig)) (sym c.before-in-None.ensures.place) ∙ ap (λ k. Err (c.before-in-None.result.left, k)) (sym c.before-in-None.ensures.cause)

pub returns-in-Some : goal.returns-in-Some
returns-in-Some c _ =
    let f = c.in_ok-after_digit.ensures in
    let n = signed_value c.base_of-base.result.0 c.as_slice.result.now in
    let said = said_at_end c.args.text.now c.args.numeral.now c.base_of-base.result.1.now c.args.negative c.base_of-base.result.0 c.in_ok-after_digit.after_digit f.0 c.in_ok-after_digit.rest.now c.in_ok-written.written.items c.push_digits.new.written.items c.as_slice.result.now (omega (arith, c.base_of-base.ensures.most)) c.base_of-base.ensures.value f.1 c.if-not-after_digit.false (sym c.ends_integer.ensures ∙ c.if-not-ends_integer.false) c.in_ok-written.ensures f.2 c.as_slice.ensures.value in
    let ten = and_from (eqb c.base_of-base.result.0 10) (opens_fraction c.in_ok-after_digit.rest.now) (eq-eqb c.base_of-base.result.0 10 c.if-base-eq10.true) (sym c.opens_fraction.ensures ∙ c.if-opens_fraction.true) in
    let m = ap measured (said ∙ end_float c.args.text.now c.in_ok-after_digit.rest.now c.base_of-base.result.0 n (true_narrow n c.in-Some.ensures.0) ten) in
    m ∙ ap (λ k. Err (k, Unsupported Float)) (sym c.before-in-Some.ensures.place) ∙ ap (λ k. Err (c.before-in-Some.result.left, k)) (sym c.before-in-Some.ensures.cause)

pub returns : goal.returns
returns c =
    let f = c.in_ok-after_digit.ensures in
    let base = c.base_of-base.result.0 in
    let rest = c.in_ok-after_digit.rest.now in
    let n = signed_value base c.as_slice.result.now in
    let said = said_at_end c.args.text.now c.args.numeral.now c.base_of-base.result.1.now c.args.negative c.base_of-base.result.0 c.in_ok-after_digit.after_digit f.0 c.in_ok-after_digit.rest.now c.in_ok-written.written.items c.push_digits.new.written.items c.as_slice.result.now (omega (arith, c.base_of-base.ensures.most)) c.base_of-base.ensures.value f.1 c.if-not-after_digit.false (sym c.ends_integer.ensures ∙ c.if-not-ends_integer.false) c.in_ok-written.ensures f.2 c.as_slice.ensures.value in
    let whole : (eqb base 10 && opens_fraction rest) ≡ false =
    elim c.if-base-eq10.branch [
      | then-base-eq10+else-opens_fraction w ↦ and_right (eqb base 10) (opens_fraction rest) (sym w.opens_fraction.ensures ∙ w.if-opens_fraction.false)
      | else-base-eq10 w ↦ and_left (eqb base 10) (opens_fraction rest) (ne_eqb base 10 w.if-base-eq10.false)
    ] in
    let m = ap measured (said ∙ end_ok c.args.text.now rest base n (true_narrow n c.in-Some.ensures.0) whole) in
    m ∙ ap (λ k. Ok (Int k, rest)) (kept_value c.in-Some.field-0 n c.in-Some.ensures)
