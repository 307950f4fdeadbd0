use Rattle.std.proofs.Common.{ℕ, List, sym, ap, ◌∙◌, subst}
use Rattle.std.specs.Prelude.{Result}
use Rattle.mx_base.specs.Blame.{Answers}
use Rattle.unit_lang.specs.declared.error.UnitError.{UnitError}
use Rattle.unit_lang.specs.declared.unit.Unit.{Unit as UnitFile}
use Rattle.unit_lang.specs.Blame.{blame_of}
use Rattle.unit_lang.specs.Faults.{IsRead}
use Rattle.unit_compile.specs.Units.{Source}
use Rattle.unit_compile.proofs.ReadLemmas.{answered_is, read_named}
use Rattle.unit_compile.proofs.source.Source.of.Goals as goal

pub invariant_of-result : goal.invariant_of-result
invariant_of-result c = record { named = read_named c.as_slice.result.now c.parse_unit-read.result c.parse_unit-read.ensures.answer }

pub returns : goal.returns
returns c =
    ap (λ (r : Result UnitFile UnitError). let s : Source = record { path = c.args.file.now.path; read = r } in s)
    (answered_is c.args.file.now.bytes c.parse_unit-read.result (subst (λ (t : List ℕ). Answers blame_of c.parse_unit-read.result (IsRead t)) c.as_slice.ensures c.parse_unit-read.ensures.answer) (sym c.ran_out.ensures ∙ c.if-ran_out.false))
