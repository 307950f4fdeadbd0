use Rattle.std.proofs.Common.{◌≡◌, Option, Some, None}
use Rattle.std.specs.Prelude.{IfNone}
use Rattle.mix_words.proofs.settings.or_named.Goals as goal

named_none : {A : Type 0} (P : Type 0) (o : Option A) → IfNone o (P → ⊥) → o ≡ None → P → ⊥
named_none P None h e p = h p
named_none P (Some x) h e p = cc

pub unreachable-requires : goal.unreachable-requires
unreachable-requires c = named_none _ c.in_ok-name-in-None.field-0 c.in_ok-name-in-None.ensures.none c.in-None-2.is c.requires
