use Rattle.std.proofs.Common.{◌≡◌, ◌∙◌, ℕ, List, Option, Some, IfSome, false, ap, subst, sym, rules}
use Rattle.tree_store.specs.FolderKnown.{FolderKnown}
use Rattle.kept_tree.specs.Rewriting.{IsTextIn}
use Rattle.kept_tree.proofs.RewriteLemmas.{rewriting_stops}
use Rattle.kept_tree.proofs.rewriting.rewrite_mark.Goals as goal

pub returns-in-Ok-clause-stops : goal.returns-in-Ok-clause-stops
returns-in-Ok-clause-stops g c =
    let old : FolderKnown = g.F.Folder.known c.args.folder.now in
    let same : c.as_slice.result.now ≡ c.in-Some.text = search rules in
    rewriting_stops c.as_slice.result.now old (g.F.Folder.known c.newer_text.new.folder) (g.F.Folder.known c.replace.new.folder) false
    c.in_ok-text.ensures.looks
    (subst (λ (t : Option (List ℕ)). IfSome old.held (λ held. IsTextIn held t)) (c.in-Some.is ∙ ap (λ (t : List ℕ). Some t) (sym same))
    c.in_ok-text.ensures.text)
    c.replace.ensures.stops

pub returns-clause-stops : goal.returns-clause-stops
returns-clause-stops g c =
    let old : FolderKnown = g.F.Folder.known c.args.folder.now in
    let same : c.as_slice.result.now ≡ c.in-Some.text = search rules in
    rewriting_stops c.as_slice.result.now old (g.F.Folder.known c.newer_text.new.folder) (g.F.Folder.known c.replace.new.folder) false
    c.in_ok-text.ensures.looks
    (subst (λ (t : Option (List ℕ)). IfSome old.held (λ held. IsTextIn held t)) (c.in-Some.is ∙ ap (λ (t : List ℕ). Some t) (sym same))
    c.in_ok-text.ensures.text)
    c.replace.ensures.stops
