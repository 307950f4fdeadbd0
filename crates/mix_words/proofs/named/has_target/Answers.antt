use Rattle.std.proofs.Common.{◌≡◌, true, false}
use Rattle.mix_words.proofs.ChoiceLemmas.{target_by_short}
use Rattle.mix_words.proofs.named.has_target.Goals as goal

pub returns-else-has_build_name : goal.returns-else-has_build_name
returns-else-has_build_name c = rw c.in-None.is (target_by_short c.args.env.now c.has_build_name-else-has_build_name.result c.requires
    (λ has. let never : false ≡ true = c.if-has_build_name.ensures.1 has in cc) c.has_build_name-else-has_build_name.ensures)
