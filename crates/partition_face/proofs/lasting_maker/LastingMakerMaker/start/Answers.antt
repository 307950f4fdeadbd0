use Rattle.std.proofs.Common.{◌≡◌, ℕ, ap, arith, refl}
use Rattle.partition_face.specs.Counts.{raised_by}
use Rattle.partition_face.specs.Makers.{maker_of}
use Rattle.partition_face.proofs.LastingLemmas.{seen}
use Rattle.partition_face.proofs.StartLemmas.{starts_all}
use Rattle.partition_face.proofs.lasting_maker.LastingMakerMaker.start.Goals as goal

pub returns : goal.returns
returns g c =
    let maker = λ (asked : ℕ). maker_of c.args.self.now.stopped asked 0 in
    let asked : c.saturating_add-self.result ≡ raised_by c.args.n c.args.self.now.asked = omega (arith, c.saturating_add-self.ensures) in
    starts_all seen c.args.n c.loop-made.started.items (maker c.args.self.now.asked) (maker c.saturating_add-self.result)
    c.loop-made.invariant.each (omega (arith, c.loop-made.invariant.all, c.loop-made-test.false, c.loop-made.auto.made-end))
    (ap maker asked) refl
