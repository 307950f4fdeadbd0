-- Folders that are taken in and given out one after another.
use Rattle.std.proofs.Common.{◌≡◌, ℕ, suc, ◌+◌, ◌<◌, ◌≤◌, List, [], ◌∷◌, ◌++◌, length, map, reverse, Option, Some, slice_get, refl, sym, ◌∙◌, ap, subst, arith, append_assoc}
use Rattle.std.proofs.lemmas.List.{length-append, reverse-append}
use Rattle.partition_board.specs.Homes.{AllHere}

cons_here : {F : Type 0} (f : F) (rest : List (Option F)) → AllHere rest → AllHere (Some f ∷ rest)
cons_here f rest here = (f ∷ here.0, ap (λ hs. Some f ∷ hs) here.1)

pub here_all : {F : Type 0} (homes : List (Option F)) → ((i : ℕ) → i < length homes → (f : F) × (slice_get homes i ≡ Some (Some f))) → AllHere homes
here_all [] there = ([], refl)
here_all (h ∷ hs) there =
    let first = there 0 (omega arith) in
    let is : h ≡ Some first.0 = let e = first.1 in cc in
    subst (λ x. AllHere (x ∷ hs)) (sym is) (cons_here first.0 hs (here_all hs (λ i within. there (suc i) (omega arith))))

here_parts : {F : Type 0} (front : List (Option F)) (last : Option F) (all : List F) → front ++ last ∷ [] ≡ map Some all → AllHere front
    × ((f : F) × (last ≡ Some f))
here_parts [] last [] e = cc
here_parts [] last (f ∷ fs) e = (([], refl), (f, cc))
here_parts (h ∷ hs) last [] e = cc
here_parts (h ∷ hs) last (f ∷ fs) e =
    let rest = here_parts hs last fs (cc) in
    let is : h ≡ Some f = cc in
    (subst (λ x. AllHere (x ∷ hs)) (sym is) (cons_here f hs rest.0), rest.1)

pub here_front : {F : Type 0} (front : List (Option F)) (last : Option F) (homes : List (Option F)) → homes ≡ front ++ last ∷ [] → AllHere homes → AllHere front
here_front front last homes e here = (here_parts front last here.0 (sym e ∙ here.1)).0

pub here_last : {F : Type 0} (front : List (Option F)) (last : Option F) (homes : List (Option F)) → homes ≡ front ++ last ∷ [] → AllHere homes → (f : F)
    × (last ≡ Some f)
here_last front last homes e here = (here_parts front last here.0 (sym e ∙ here.1)).1

-- one folder goes from the end of the homes to the end of the list
pub moved : {F : Type 0} (front homes begun : List (Option F)) (f : F) (spare new : List F) → homes ≡ front ++ Some f ∷ [] → new ≡ spare ++ f ∷ []
    → homes ++ map Some (reverse spare) ≡ begun → front ++ map Some (reverse new) ≡ begun
moved front homes begun f spare new e n same =
    ap (λ fs. front ++ map Some (reverse fs)) n ∙ ap (λ fs. front ++ map Some fs) (reverse-append spare (f ∷ [])) ∙ sym
    (append_assoc front (Some f ∷ []) (map Some (reverse spare))) ∙ ap (λ hs. hs ++ map Some (reverse spare)) (sym e) ∙ same

pub map_some : {F : Type 0} (xs ys : List F) → map Some xs ≡ map Some ys → xs ≡ ys
map_some [] [] e = refl
map_some [] (y ∷ ys) e = cc
map_some (x ∷ xs) [] e = cc
map_some (x ∷ xs) (y ∷ ys) e =
    let rest = map_some xs ys (cc) in
    let first : x ≡ y = cc in cc

pub fewer : {F : Type 0} (front homes : List (Option F)) (last : Option F) (f : F) (spare new : List F) (n m : ℕ) → homes ≡ front ++ last ∷ []
    → new ≡ spare ++ f ∷ [] → length homes + length spare ≤ n → m ≡ n → length front + length new ≤ m
fewer front homes last f spare new n m e i room same = omega (arith, ap length e, ap length i, length-append front (last ∷ []), length-append spare (f ∷ []))
