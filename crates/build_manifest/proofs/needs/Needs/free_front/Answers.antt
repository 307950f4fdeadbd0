use Rattle.std.proofs.Common.{length, sym, ◌∙◌, subst}
use Rattle.std.proofs.lemmas.Bool.{eqb-true}
use Rattle.build_manifest.specs.Names.{BeginsFree}
use Rattle.build_manifest.proofs.FreeNames.{some_free}
use Rattle.build_manifest.proofs.NameTree.{any_begins, free_at}
use Rattle.build_manifest.proofs.needs.Needs.free_front.Goals as goal

pub returns-then-branch : goal.returns-then-branch
returns-then-branch c =
    let inv = c.fronts.invariant in
    free_at c.args.self.now.listed.items c.args.name.now c.fronts.front.now inv.cut inv.within inv.used
    (subst (BeginsFree c.args.self.now.listed.items) c.in_ok-begun.ensures (c.in_ok-begins_free.ensures.0 c.if-branch.true))

pub returns : goal.returns
returns c =
    let inv = c.fronts.invariant in
    free_at c.args.self.now.listed.items c.args.name.now c.fronts.front.now inv.cut inv.within inv.used
    (any_begins c.args.self.now.listed.items c.fronts.front.now (some_free c.args.self.now.listed.items c.requires.few)
    (eqb-true (length c.fronts.front.now) 0 (sym c.is_empty.ensures ∙ c.fronts-test.false)))
