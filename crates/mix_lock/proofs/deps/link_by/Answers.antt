use Rattle.std.proofs.Common.{◌≡◌, sym, ◌∙◌, arith}
use Rattle.std.proofs.lemmas.Result.{IfOk-weaker}
use Rattle.term_values.specs.Views.{named}
use Rattle.mix_lock.specs.Terms.{three, link_in}
use Rattle.mix_lock.proofs.OptionLemmas.{three_of, not_three}
use Rattle.mix_lock.proofs.deps.link_by.Goals as goal

pub returns-then-options-eq3 : goal.returns-then-options-eq3
returns-then-options-eq3 c =
    let os = c.args.options.now in
    IfOk-weaker c.link_in.result (λ found. found ≡ link_in (named os)) (λ found. found ≡ three (named os))
    (λ found e. e ∙ sym (three_of os (omega arith))) c.link_in.ensures

pub returns-else-options-eq3 : goal.returns-else-options-eq3
returns-else-options-eq3 c = sym (not_three c.args.options.now (λ three. omega arith))
