use Rattle.std.proofs.Common.{◌≡◌, ◌<◌, true, length, arith}
use Rattle.std.proofs.lemmas.Grind.{common_steps}
use Rattle.unit_compile.specs.Units.{is_unit_file}
use Rattle.unit_compile.proofs.SourceLemmas.{taken}
use Rattle.unit_compile.proofs.source.Source.all_of.Goals as goal

pub loop-file-preserved : goal.loop-file-preserved
loop-file-preserved c =
    let less : c.loop-file.file-index < length c.args.files.now = omega arith in
    let unit : is_unit_file c.file-item.result ≡ true = grind (arith, common_steps) in
    taken c.loop-file.sources.items c.push.new.self.items c.in_ok-of.field-0 c.args.files.now c.loop-file.file-index c.file-item.result _ less c.file-item.is unit c.in_ok-of.ensures c.in_ok-push.ensures.items c.loop-file.invariant
