use Rattle.std.proofs.Common.{refl, inr}
use Rattle.unit_lang.specs.declared.error.UnitCause.TheVariants.{BadLine}
use Rattle.unit_lang.proofs.Reached.{more_is}
use Rattle.unit_lang.proofs.Outcomes.{warning_none}
use Rattle.unit_lang.proofs.WarnLemmas.{is_warning}
use Rattle.unit_lang.proofs.line.warning.Goals as goal

pub returns-then-is_empty : goal.returns-then-is_empty
returns-then-is_empty c = inr (refl, warning_none c.args.rest.now c.trim_end-text.result.now c.skip_blanks.result.now BadLine c.is_empty.result c.skip_blanks.ensures.value c.trim_end-text.ensures.blanks c.is_empty.ensures c.if-is_empty.true)

pub returns : goal.returns
returns c =
    let a = c.trim_end-text.ensures.blanks in
    rw c.in_ok-from_slice.ensures (is_warning c.args.rest.now c.trim_end-text.result.now c.skip_blanks.result.now a.0 c.skip_blanks.ensures.value a.1 a.2 (more_is c.trim_end-text.result.now c.is_empty.result c.is_empty.ensures c.if-is_empty.false) c.trim_end-text.ensures.solid)
