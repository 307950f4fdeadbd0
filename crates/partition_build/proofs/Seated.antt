-- Lists that are taken apart from the end and put together again.
use Rattle.std.proofs.Common.{◌≡◌, List, [], ◌∷◌, ◌++◌, length, map, reverse, refl, sym, ◌∙◌, ap, arith}
use Rattle.std.proofs.lemmas.List.{map-append, reverse-append}

map_reverse : {X Y : Type 0} (f : X → Y) (xs : List X) → map f (reverse xs) ≡ reverse (map f xs)
map_reverse f [] = refl
map_reverse f (x ∷ xs) =
    ap (map f) (reverse-append (x ∷ []) xs) ∙ map-append f (reverse xs) (x ∷ []) ∙ ap (λ ys. ys ++ f x ∷ []) (map_reverse f xs)
    ∙ sym (reverse-append (f x ∷ []) (map f xs))

-- nothing is left, and the list was turned round
pub seated : {X Y : Type 0} (f : X → Y) (xs back : List X) (left all : List Y) → length left ≡ 0 → left ++ reverse (map f xs) ≡ all → back ≡ reverse xs
    → map f back ≡ all
seated f xs back [] all none same turned = ap (map f) turned ∙ map_reverse f xs ∙ same
seated f xs back (y ∷ ys) all none same turned = absurd (omega (arith, none))

pub same_length : {X Y : Type 0} (xs : List X) (ys : List Y) → length xs ≡ length ys → length xs ≡ 0 → length ys ≡ 0
same_length xs ys long none = sym long ∙ none
