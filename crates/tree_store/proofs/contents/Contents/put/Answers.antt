use Rattle.std.proofs.Common.{List, subst}
use Rattle.mx_base.specs.declared.file.File.{File}
use Rattle.mx_base.specs.Order.{AreInOrder}
use Rattle.tree_store.proofs.FilesLemmas.{entries_in_order}
use Rattle.tree_store.proofs.contents.Contents.put.Goals as goal

pub returns-clause-in_order : goal.returns-clause-in_order
returns-clause-in_order c =
    subst (λ (fs : List File). AreInOrder fs) c.self.view_is (entries_in_order c.self.inside.by_path.entries c.in_ok-insert.ensures.was_ordered)
