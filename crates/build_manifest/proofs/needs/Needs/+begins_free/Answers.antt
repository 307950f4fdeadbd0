use Rattle.std.proofs.Common.{◌∙◌, arith, sym, true≢false}
use Rattle.build_manifest.proofs.NameTree.{fits_low, none_begins}
use Rattle.build_manifest.proofs.needs.Needs.+begins_free.Goals as goal

pub returns : goal.returns
returns t c = (
  λ yes. absurd (true≢false (sym yes)),
  λ begins. absurd (none_begins c.args.self.now.listed.items c.args.name.now
      (λ is. true≢false (sym (c.is_free.ensures.1 is.free) ∙ c.if-is_free.false))
      (λ byte short fits more. c.bytes.invariant byte (omega (arith, c.bytes-test.false, fits_low _ byte fits)) fits more) begins),
)
