use Rattle.std.proofs.Common.{◌≡◌, rules}
use Rattle.build_manifest.proofs.NameTree.{set_with_more}
use Rattle.build_manifest.proofs.needs.Needs.with.Goals as goal

pub invariant_of-result : goal.invariant_of-result
invariant_of-result c =
    let named : c.in_ok-clone.field-0 ≡ c.args.need.1 = search rules in
    record {
      same = set_with_more c.args.self.apps c.insert.new.self c.args.self.listed.items c.push.new.self.items c.args.need c.in_ok-clone.field-0
          c.args.self.same c.requires.differs named c.in_ok-insert.ensures.keys c.in_ok-push.ensures.items;
    }
