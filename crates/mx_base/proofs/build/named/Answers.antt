use Rattle.std.proofs.Common.{◌≡◌}
use Rattle.mx_base.specs.BuildName.{tagged}
use Rattle.mx_base.proofs.BuildNameLemmas.{named, taken_is_short}
use Rattle.mx_base.proofs.build.named.Goals as goal

pub returns-clause-answer : goal.returns-clause-answer
returns-clause-answer c =
    let text : c.as_bytes.result.now ≡ tagged c.args.env.now c.args.target.now = cc (c.as_bytes.ensures.value, c.in_ok-text.ensures, c.as_str.ensures.value, c.as_str-2.ensures.value) in
    named c.args.env.now c.args.target.now c.as_bytes.result.now c.of.result text c.as_str.ensures.name c.as_str-2.ensures.name
    c.of.ensures.ok c.of.ensures.empty c.of.ensures.too_long c.of.ensures.bad_byte

pub returns-clause-fits : goal.returns-clause-fits
returns-clause-fits c =
    let text : c.as_bytes.result.now ≡ tagged c.args.env.now c.args.target.now =
    cc (c.as_bytes.ensures.value, c.in_ok-text.ensures, c.as_str.ensures.value, c.as_str-2.ensures.value) in
    taken_is_short c.args.env.now c.args.target.now c.as_bytes.result.now c.of.result text c.of.ensures.too_long
