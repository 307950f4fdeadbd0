-- Paths below the folder of a walk.
use Rattle.std.proofs.Common.{◌≡◌, ℕ, Bool, true, false, cond, ◌==◌, List, [], ◌∷◌, ◌++◌, Some, None, is_some, refl, sym, ◌∙◌, ap, subst, append_assoc}
use Rattle.std.proofs.lemmas.Bool.{eq-eqb}
use Rattle.std.specs.List.{All}
use Rattle.std.proofs.lemmas.List.Elements.{All-nil, All-cons, All-same}
use Rattle.mx_base.specs.Path.{text_after, folder_text, is_below, child_of}
use Rattle.tree_host.specs.Walk.{Area, LeadsBelow}

after_itself : (p rest : List ℕ) → text_after p (p ++ rest) ≡ Some rest
after_itself [] rest = refl
after_itself (b ∷ bs) rest = ap (λ (t : Bool). cond t (text_after bs (bs ++ rest)) None) (eq-eqb b b refl) ∙ after_itself bs rest

-- each name in a folder gives a path below it
pub leads_below_itself : (dir name : List ℕ) → is_below dir (child_of dir name) ≡ true
leads_below_itself dir name = ap is_some (after_itself (folder_text dir) name)

more_after : (p text more : List ℕ) → is_some (text_after p text) ≡ true → is_some (text_after p (text ++ more)) ≡ true
more_after [] text more e = refl
more_after (b ∷ bs) [] more e = cc
more_after (b ∷ bs) (c ∷ cs) more e = at (b == c) e (more_after bs cs more)
  where
    at : (t : Bool) → is_some (cond t (text_after bs cs) None) ≡ true → (is_some (text_after bs cs) ≡ true → is_some (text_after bs (cs ++ more)) ≡ true) → is_some (cond t (text_after bs (cs ++ more)) None) ≡ true
    at true e next = next e
    at false e next = cc

-- and so does each name in a folder that is below it
pub leads_below : (dir folder name : List ℕ) → is_below dir folder ≡ true → is_below dir (child_of folder name) ≡ true
leads_below [] folder name e = refl
leads_below (d ∷ ds) [] name e = cc
leads_below (d ∷ ds) (b ∷ bs) name e =
    ap (λ (t : List ℕ). is_some (text_after (folder_text (d ∷ ds)) t)) (append_assoc (b ∷ bs) (47 ∷ []) name)
    ∙ more_after (folder_text (d ∷ ds)) (b ∷ bs) (47 ∷ name) e

-- a walk begins with its own folder
pub begins_with_folder : (area : Area) (dir : List ℕ) (folders : List (List ℕ)) → area.dir ≡ dir → folders ≡ dir ∷ [] → All (LeadsBelow area) folders
begins_with_folder area dir folders own one =
    All-same (LeadsBelow area) folders (dir ∷ []) one
    (All-cons (LeadsBelow area) dir [] (λ name. subst (λ (d : List ℕ). is_below d (child_of dir name) ≡ true) (sym own) (leads_below_itself dir name)) (All-nil (LeadsBelow area)))
