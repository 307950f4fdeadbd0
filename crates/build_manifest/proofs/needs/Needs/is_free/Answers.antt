use Rattle.build_manifest.proofs.NameTree.{free_by_set}
use Rattle.build_manifest.proofs.needs.Needs.is_free.Goals as goal

pub returns : goal.returns
returns c = free_by_set c.args.self.now.apps c.args.self.now.listed.items c.args.name.now c.contains.result c.args.self.now.same c.contains.ensures
