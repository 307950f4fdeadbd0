use Rattle.std.proofs.Common.{rules, ◌≡◌, [], ◌∷◌}
use Rattle.std.proofs.lemmas.List.Elements.{All-nil}
use Rattle.tree_host.specs.Walk.{Area}
use Rattle.tree_host.proofs.WalkLemmas.{begins_with_folder}
use Rattle.tree_host.proofs.walk.Walk.new.Goals as goal

pub invariant_of-result : goal.invariant_of-result
invariant_of-result c =
    let area : Area = record { dir = c.in_ok-clone-2.field-0; scope = c.args.scope } in
    let one : c.push.new.self.items ≡ c.args.dir.now ∷ [] = search rules in
    let own : area.dir ≡ c.args.dir.now = search rules in
    (rw c.new.ensures.empty (All-nil _), begins_with_folder area c.args.dir.now _ own one)
