use Rattle.std.proofs.Common.{refl}
use Rattle.converger.specs.Divergence.{parts_in}
use Rattle.converger.proofs.Turns.{before_found, before_none}
use Rattle.converger.proofs.scene.Scene.add.Goals as goal

pub returns-in_ok-push : goal.returns-in_ok-push
returns-in_ok-push c =
    let winner = c.in-Some.winner in
    rw c.in_ok-push.ensures.ok
    (before_found c.args.self.now.rows.now (parts_in c.args.self.now.versions.now)
    (record { rule = c.args.rule; winner = winner; other = c.args.other }) c.args.list.now c.requires.before ((c.in-Some.ensures winner).0 refl))

pub returns-in_default : goal.returns-in_default
returns-in_default c =
    before_none c.args.self.now.rows.now (parts_in c.args.self.now.versions.now) c.args.rule c.args.other c.args.list.now c.requires.before
    (λ p d. let h = (c.diverging.ensures p).1 d in cc)
