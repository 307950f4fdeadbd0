use Rattle.std.proofs.Common.{◌≡◌, filter, rules, ◌∙◌, ap, subst, sym}
use Rattle.std.proofs.lemmas.Fn.{filter_same}
use Rattle.mx_base.specs.Order.{ArePathsInOrder}
use Rattle.tree_store.proofs.FilesLemmas.{outside, paths_outside, all_below, all_outside}
use Rattle.tree_store.proofs.OrderLemmas.{in_order_filter}
use Rattle.tree_store.proofs.mem_store.listed.Goals as goal

pub returns : goal.returns
returns c =
    let kept : c.retain.new.self.items ≡ filter outside c.in_ok-paths.paths.items = filter_same _ outside _ (λ p b f' k. search rules) _ _ c.retain.ensures.filtered in
    let paths = kept ∙ ap (filter outside) c.in_ok-paths.ensures.paths ∙ paths_outside c.args.dir.now c.args.sources.now in
    record {
      paths = paths;
      in_order = subst (λ ps. ArePathsInOrder ps) (sym kept) (in_order_filter outside c.in_ok-paths.paths.items c.in_ok-paths.ensures.in_order);
      below = all_below c.retain.new.self.items c.args.dir.now _ paths;
      outside = all_outside c.retain.new.self.items c.in_ok-paths.paths.items kept;
    }
