-- Texts that are joined.
use Rattle.std.proofs.Common.{◌≡◌, ℕ, ◌+◌, ◌%◌, ◌<◌, List, [], ◌∷◌, ◌++◌, map, flat_map, encode_utf8, refl, sym, ◌∙◌, ap, lit<, arith}
use Rattle.std.proofs.Math.Nat.{mod-lt}
use Rattle.std.proofs.lemmas.Str.{encode_ascii}
use Rattle.std.specs.List.{join_by}

joined_rest : {X : Type 0} (f : X → List ℕ) (sep : List ℕ) (xs : List X) → flat_map (λ y. sep ++ f y) xs ≡ flat_map (λ y. sep ++ y) (map f xs)
joined_rest f sep [] = refl
joined_rest f sep (x ∷ xs) = ap (λ (rest : List ℕ). (sep ++ f x) ++ rest) (joined_rest f sep xs)

joined_pieces : {X : Type 0} (f : X → List ℕ) (sep : List ℕ) (xs : List X) → join_by f sep xs ≡ join_by (λ piece. piece) sep (map f xs)
joined_pieces f sep [] = refl
joined_pieces f sep (x ∷ xs) = ap (λ (rest : List ℕ). f x ++ rest) (joined_rest f sep xs)

-- texts that are the same piece by piece are the same joined
pub same_joined : {X Y : Type 0} (f : X → List ℕ) (h : Y → List ℕ) (sep : List ℕ) (xs : List X) (ys : List Y) → map f xs ≡ map h ys →
    join_by f sep xs ≡ join_by h sep ys
same_joined f h sep xs ys same =
    joined_pieces f sep xs ∙ ap (join_by (λ piece. piece) sep) same ∙ sym (joined_pieces h sep ys)

-- the last digit of a number as a character
pub digit_encoded : (number : ℕ) → encode_utf8 (48 + number % 10) ≡ (48 + number % 10) ∷ []
digit_encoded number = let few : number % 10 < 10 = mod-lt number (lit< tt) in encode_ascii (48 + number % 10) (omega (arith, few))
