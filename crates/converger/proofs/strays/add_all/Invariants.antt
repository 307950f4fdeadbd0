use Rattle.std.proofs.Common.{◌≡◌, ◌||◌, ℕ, List, [], false, take, bytes_eq}
use Rattle.std.specs.List.{list_any}
use Rattle.std.specs.BTreeSet.{contains_by}
use Rattle.mx_base.specs.Order.{text_cmp}
use Rattle.converger.proofs.strays.add_all.Given as goal

abbrev pub invariant-loop-name : goal.invariant-loop-name
invariant-loop-name l = record {
  names : (text : List ℕ)
      → contains_by (λ name. text_cmp text name.now) l.names ≡
      (contains_by (λ name. text_cmp text name.now) l.fn.names || list_any (bytes_eq text) (take l.name-index l.list));
  not_empty : list_any (bytes_eq []) (take l.name-index l.list) ≡ false;
}
