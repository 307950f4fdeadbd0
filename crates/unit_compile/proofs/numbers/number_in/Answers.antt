use Rattle.std.proofs.Common.{ℕ, List, sym, subst, w64}
use Rattle.std.specs.Str.Parse.{ParsesSigned}
use Rattle.unit_compile.proofs.NumberLemmas.{none_unless_utf8, none_unless_read}
use Rattle.unit_compile.proofs.numbers.number_in.Goals as goal

pub returns-in_default : goal.returns-in_default
returns-in_default c = sym (none_unless_utf8 c.args.text.now c.in_default.ensures.cases.0)

pub returns-in_default-parse : goal.returns-in_default-parse
returns-in_default-parse c =
    sym (none_unless_read c.args.text.now c.parse.result (subst (λ (t : List ℕ). ParsesSigned w64 10 t c.parse.result) c.in-Ok.ensures.cases.0 c.parse.ensures.value.0) c.in_default-parse.not-Ok)
