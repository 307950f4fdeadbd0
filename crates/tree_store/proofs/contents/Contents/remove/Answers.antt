use Rattle.std.proofs.Common.{List, map, ◌∙◌, ap}
use Rattle.mx_base.specs.declared.file.File.{File}
use Rattle.tree_store.specs.Contents.{file_of}
use Rattle.tree_store.specs.Files.{without_file}
use Rattle.tree_store.proofs.FilesLemmas.{map_remove_entry}
use Rattle.tree_store.proofs.contents.Contents.remove.Goals as goal

pub returns : goal.returns
returns c =
    ap (map file_of) c.remove.ensures.entries ∙ map_remove_entry c.args.path.now c.self.inside.by_path.entries c.len.ensures.ordered
    ∙ ap (λ (fs : List File). without_file c.args.path.now fs) c.self.view_is
