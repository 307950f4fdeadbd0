use Rattle.std.proofs.Common.{◌≡◌, List, map, sym, subst, arith}
use Rattle.std.proofs.lemmas.Grind.{common_steps}
use Rattle.mx_base.specs.declared.file.File.{File}
use Rattle.mx_base.specs.Order.{AreInOrder}
use Rattle.unit_compile.specs.Units.{file_of}
use Rattle.unit_compile.proofs.compile.files_of.Goals as goal

pub from_vec-requires : goal.from_vec-requires
from_vec-requires c =
    let all : c.loop-path.files.items ≡ map file_of c.args.faces.entries = grind (arith, common_steps) in
    subst (λ (files : List File). AreInOrder files) (sym all) c.requires
