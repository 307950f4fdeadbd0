use Rattle.std.proofs.Common.{Some}
use Rattle.std.proofs.lemmas.Map.Text.{hash_map_updates_str}
use Rattle.unit_compile.proofs.table.Table.insert.Goals as goal

pub returns : goal.returns
returns g c = λ other. hash_map_updates_str c.args.name.now c.args.self.now.by_name c.insert.new.self (Some c.args.value) c.in_ok-insert.ensures.updates other
