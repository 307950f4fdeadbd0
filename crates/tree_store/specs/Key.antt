-- The order of builds.
use Rattle.std.specs.Prelude.{Bool}
use Rattle.std.specs.declared.cmp.Ordering.{Ordering}
use Rattle.std.specs.Ordering.{ordering_then, is_eq}
use Rattle.mx_base.specs.Order.{text_cmp}
use Rattle.tree_store.specs.declared.key.BuildKey.{BuildKey}

-- by environment, and then by app
abbrev pub key_cmp : BuildKey → BuildKey → Ordering
key_cmp a b = ordering_then (text_cmp a.env b.env) (text_cmp a.app b.app)

abbrev pub is_same_build : BuildKey → BuildKey → Bool
is_same_build a b = is_eq (key_cmp a b)
