use Rattle.std.proofs.Common.{◌≡◌, List, ℕ, map, refl, subst, sym, ◌∙◌}
use Rattle.std.specs.Prelude.{Err, string_bytes}
use Rattle.mx_base.specs.Blame.{Computes}
use Rattle.mix_words.specs.declared.error.WordsError.{WordsError}
use Rattle.mix_words.specs.Reading.{IsBehind, blame_of}
use Rattle.mix_words.specs.Table.{name_of}
use Rattle.mix_words.proofs.WordsLemmas.{computes_reading, refused_behind_name, refused_first, refused_no_words}
use Rattle.mix_words.proofs.read.read_words.Goals as goal

pub returns-in_default : goal.returns-in_default
returns-in_default c = computes_reading _ 0 (refused_no_words (λ word. string_bytes word) c.args.words.now c.in_default.ensures.cases)

pub returns-in_default-named : goal.returns-in_default-named
returns-in_default-named c = computes_reading _ 0 (refused_first (λ word. string_bytes word) c.args.words.now c.in-Some.rest.now c.in-Some.first.now
    c.in-Some.ensures.cases.0
    (λ verb e. c.in_default-named.ensures.none verb (c.as_str.ensures.value ∙ e)))

pub returns-in-Err-Refused : goal.returns-in-Err-Refused
returns-in-Err-Refused c =
    let verb = c.in-Some-named.verb in
    let behind = subst (λ (e : WordsError). Computes blame_of (Err e) (IsBehind verb (map (λ word. string_bytes word) c.in-Some.rest.now)))
    c.in-Err-Refused.field-0-is c.in-Err-Refused.ensures in
    computes_reading _ _ (refused_behind_name (λ word. string_bytes word) verb c.args.words.now c.in-Some.rest.now c.in-Some.first.now c.in-Err-Refused.at
    c.in-Some.ensures.cases.0 (sym c.as_str.ensures.value ∙ c.in-Some-named.ensures.some) (behind.answer refl))
