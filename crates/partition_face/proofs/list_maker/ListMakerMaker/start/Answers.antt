use Rattle.std.proofs.Common.{◌≡◌, ℕ, ap, arith, nat_lt, subst}
use Rattle.mx_base.specs.Causes.{Counted}
use Rattle.partition_face.specs.Counts.{raised_by}
use Rattle.partition_face.specs.Makers.{maker_of}
use Rattle.partition_face.proofs.StartLemmas.{starts_first}
use Rattle.partition_face.proofs.list_maker.ListMakerMaker.start.Goals as goal

pub returns : goal.returns
returns g c =
    let self = c.args.self.now in
    let given = c.min-given.result in
    let maker = λ (asked : ℕ). maker_of self.stopped asked c.count_missing.new.plan in
    let same : c.fails.new.self ≡ self.plan = c.fails.ensures.kept c.if-fails.false in
    let asked : c.saturating_add-self.result ≡ raised_by c.args.n self.asked = omega (arith, c.saturating_add-self.ensures) in
    let cause = subst (λ (count : ℕ). Counted count c.count_missing.new.plan (nat_lt given c.args.n)) same c.count_missing.ensures in
    rw c.in_ok-started.ensures.taken (starts_first g.P.Partition.counted c.args.n given self.waiting.items
    (maker_of self.stopped self.asked self.plan) (maker c.saturating_add-self.result) self.ready
    (omega (arith, c.min-given.ensures, c.len.ensures)) (omega (arith, c.min-given.ensures))
    c.else-given-eq0.either (ap maker asked) cause)
