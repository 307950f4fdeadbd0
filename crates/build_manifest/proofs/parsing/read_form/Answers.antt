use Rattle.std.proofs.Common.{ℕ, List, Bool, ◌≡◌, ◌∷◌, length, get_or, sym, ap, ◌∙◌, subst, arith}
use Rattle.std.proofs.lemmas.Result.{err_from_is_err_and}
use Rattle.reading.specs.Field.{Stops}
use Rattle.reading.specs.Plain.{Always}
use Rattle.reading.specs.declared.stuck.Stuck.{Stuck}
use Rattle.build_manifest.specs.Fields.{form_text, tag_digit}
use Rattle.build_manifest.proofs.FieldLemmas.{behind_first, first_and_rest}
use Rattle.build_manifest.proofs.TagStops.{form_end_stops, form_read, no_digit_stops}
use Rattle.build_manifest.proofs.parsing.read_form.Goals as goal

pub returns-in_default : goal.returns-in_default
returns-in_default c =
    let text = c.args.text.now in
    subst (λ (n : ℕ). Stops {A = Bool} form_text (Always {A = Bool}) text n) (sym (ap (λ (s : Stuck). s.left) c.stuck_at.ensures))
    (no_digit_stops text (λ next others tag e. absurd (omega (arith, ap length e))))

pub returns-in_default-is_second_form : goal.returns-in_default-is_second_form
returns-in_default-is_second_form c =
    let text = c.args.text.now in
    subst (λ (n : ℕ). Stops {A = Bool} form_text (Always {A = Bool}) text n)
    (sym (ap (λ (s : Stuck). s.left) c.stuck_at-in_default-is_second_form.ensures))
    (no_digit_stops text (λ next others tag e is.
    c.in_default-is_second_form.ensures.none tag (ap (λ (t : List ℕ). get_or t 0 0) e ∙ is)))

pub returns-in_err-rest : goal.returns-in_err-rest
returns-in_err-rest c =
    let text = c.args.text.now in
    let tag = c.in-Some.is_second in
    let cut : text ≡ tag_digit tag ∷ behind_first text =
    first_and_rest text (omega arith) ∙ ap (λ (b : ℕ). b ∷ behind_first text) c.in-Some.ensures.some in
    let p = err_from_is_err_and c.from_residual.result c.from_residual.ensures.1 in
    rw (p.1, p.2) (form_end_stops tag text (behind_first text) c.in_err-rest.field-0.0.left cut c.in_err-rest.ensures)

pub returns : goal.returns
returns c =
    let text = c.args.text.now in
    let tag = c.in-Some.is_second in
    let cut : text ≡ tag_digit tag ∷ behind_first text =
    first_and_rest text (omega arith) ∙ ap (λ (b : ℕ). b ∷ behind_first text) c.in-Some.ensures.some in
    form_read tag text (behind_first text) c.in_ok-rest.rest.now cut c.in_ok-rest.ensures
