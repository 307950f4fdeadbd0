use Rattle.std.proofs.Common.{◌≡◌, ◌∷◌, ◌++◌, [], take}
use Rattle.std.specs.Prelude.{flat_map, string_bytes}
use Rattle.mix_words.specs.Table.{name_of}
use Rattle.mix_words.proofs.help.help_text.Given as goal

abbrev pub invariant-loop-verb : goal.invariant-loop-verb
invariant-loop-verb l = string_bytes l.text ≡ flat_map (λ verb. name_of verb ++ 10 ∷ []) (take l.verb-index l.verb-items)
