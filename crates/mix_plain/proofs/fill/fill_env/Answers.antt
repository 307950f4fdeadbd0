use Rattle.std.proofs.Common.{◌≡◌, ◌∙◌, length, refl, sym, arith}
use Rattle.mix_plain.proofs.FillLemmas.{tree_begins, tree_ends}
use Rattle.mix_plain.proofs.PutLemmas.{fills_twice, same_partly}
use Rattle.mix_plain.proofs.fill.fill_env.Goals as goal

pub loop-place-init : goal.loop-place-init
loop-place-init g c =
    let slots = (g.S.Store.known c.args.store.now).slot in
    record {
      tree = tree_begins c.args.plan.now c.args.fates.now slots c.requires.here c.requires.empty;
      part = same_partly c.args.plan.now c.args.fates.now slots slots refl;
      here = c.requires.here;
      sources = refl;
      faults = refl;
      returned = refl;
    }

pub loop-place-preserved : goal.loop-place-preserved
loop-place-preserved g c = record {
  tree = c.in_ok-fill_place.ensures.after;
  part = fills_twice c.args.plan.now c.args.fates.now (g.S.Store.known c.args.store.now).slot (g.S.Store.known c.loop-place.store).slot
      (g.S.Store.known c.fill_place.new.store).slot c.loop-place.invariant.part c.fill_place.ensures.part;
  here = c.fill_place.ensures.keeps.here;
  sources = c.fill_place.ensures.keeps.sources ∙ c.loop-place.invariant.sources;
  faults = c.in_ok-fill_place.ensures.counts.0 ∙ c.loop-place.invariant.faults;
  returned = c.in_ok-fill_place.ensures.counts.1 ∙ c.loop-place.invariant.returned;
}

pub returns-in_err-fill_place-clause-part : goal.returns-in_err-fill_place-clause-part
returns-in_err-fill_place-clause-part g c =
    fills_twice c.args.plan.now c.args.fates.now (g.S.Store.known c.args.store.now).slot (g.S.Store.known c.loop-place.store).slot
    (g.S.Store.known c.fill_place.new.store).slot c.loop-place.invariant.part c.fill_place.ensures.part

pub returns-clause-tree : goal.returns-clause-tree
returns-clause-tree g c =
    let all : length c.args.plan.now.jobs ≡ c.loop-place.place = sym c.requires.fates.each ∙ omega arith in
    tree_ends c.args.plan.now c.args.fates.now c.loop-place.place (g.S.Store.known c.loop-place.store).slot all c.loop-place.invariant.tree
