use Rattle.std.proofs.Common.{◌≡◌, sym, ◌∙◌, ap, subst, rules, pos, true, false}
use Rattle.std.specs.Prelude.{unwrap_or}
use Rattle.std.proofs.lemmas.Int.{to_z-of_z}
use Rattle.unit_lang.specs.Gives.{Gives}
use Rattle.unit_lang.specs.Names.{is_name, are_digits}
use Rattle.unit_lang.specs.Lexing.{dotted, reference_of, number_of}
use Rattle.unit_lang.proofs.WordLemmas.{operand_digits, operand_name, operand_else}
use Rattle.unit_lang.proofs.words.operand.Goals as goal

pub returns-then-are_digits : goal.returns-then-are_digits
returns-then-are_digits c =
    let digits : are_digits c.args.word ≡ true = ap are_digits (sym c.as_slice.ensures) ∙ sym c.are_digits.ensures ∙ c.if-are_digits.true in
    let is = operand_digits c.args.word c.kept_number-number.result digits (c.kept_number-number.ensures ∙ ap (λ l. pos (unwrap_or (number_of l) 0)) c.as_slice-then-are_digits.ensures) in
    rw is (search (rules, to_z-of_z))

pub returns-then-is_name : goal.returns-then-is_name
returns-then-is_name c = operand_name c.args.word (ap is_name (sym c.as_slice-2.ensures) ∙ sym c.is_name.ensures ∙ c.if-is_name.true)

pub returns : goal.returns
returns c =
    let digits : are_digits c.args.word ≡ false = ap are_digits (sym c.as_slice.ensures) ∙ sym c.are_digits.ensures ∙ c.if-are_digits.false in
    let named : is_name c.args.word ≡ false = ap is_name (sym c.as_slice-2.ensures) ∙ sym c.is_name.ensures ∙ c.if-is_name.false in
    subst (λ o. Gives c.reference.result o) (ap (λ l. reference_of (dotted l)) c.as_slice-3.ensures ∙ sym (operand_else c.args.word digits named)) c.reference.ensures
