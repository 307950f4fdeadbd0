use Rattle.std.proofs.Common.{sym, subst}
use Rattle.std.proofs.lemmas.List.Elements.{All-push}
use Rattle.std.proofs.lemmas.Map.Views.{All-insert_key}
use Rattle.mx_base.specs.Order.{text_cmp}
use Rattle.tree_host.specs.Walk.{Area, IsIn, LeadsBelow}
use Rattle.tree_host.proofs.WalkLemmas.{leads_below}
use Rattle.tree_host.proofs.walk.Walk.note.Goals as goal

pub invariant_of-self : goal.invariant_of-self
invariant_of-self c =
    let area : Area = record { dir = c.self.inside.dir; scope = c.self.inside.scope } in
    let own : IsIn area c.args.path = subst (λ (a : Area). IsIn a c.args.path) (sym c.self.view_is) c.requires in
    (rw c.in_ok-insert-in-File.ensures.keys (All-insert_key text_cmp c.args.path (IsIn area) c.self.inside.files.keys c.self.invariant.0 own), c.self.invariant.1)

pub invariant_of-self-in-Continue-branch-2 : goal.invariant_of-self-in-Continue-branch-2
invariant_of-self-in-Continue-branch-2 c =
    let area : Area = record { dir = c.self.inside.dir; scope = c.self.inside.scope } in
    let own : IsIn area c.args.path = subst (λ (a : Area). IsIn a c.args.path) (sym c.self.view_is) c.requires in
    (c.self.invariant.0, rw c.in_ok-push-in-Folder.ensures.items (All-push (LeadsBelow area) c.self.inside.folders.items c.args.path c.self.invariant.1 (λ name. leads_below area.dir c.args.path name own.below)))
