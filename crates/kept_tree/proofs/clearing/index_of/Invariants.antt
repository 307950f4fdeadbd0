use Rattle.std.proofs.Common.{◌≡◌, ℕ, List, take, bytes_eq}
use Rattle.std.specs.List.{list_any}
use Rattle.std.specs.BTreeSet.{contains_by}
use Rattle.mx_base.specs.Order.{text_cmp}
use Rattle.kept_tree.proofs.clearing.index_of.Given as goal

abbrev pub invariant-loop-name : goal.invariant-loop-name
invariant-loop-name l = record {
  indexed : (t : List ℕ) → contains_by (λ name. text_cmp t name.now) l.index ≡ list_any (λ name. bytes_eq t name.now) (take l.name-index l.names);
}
