-- Lists in strict order that have the same elements are one list.
use Rattle.std.proofs.Common.{◌≡◌, zero, suc, ◌⊎◌, inl, inr, List, [], ◌∷◌, AllPairs, Contains, refl, sym, ap₂, subst, arith}

pub in_front : {X : Type 0} (x : X) (xs : List X) → Contains (x ∷ xs) x
in_front x xs = (0, omega arith, refl)

pub behind : {X : Type 0} (x : X) (xs : List X) (y : X) → Contains xs y → Contains (x ∷ xs) y
behind x xs y (k, within, is) = (suc k, omega (arith, within), is)

pub front_or_behind : {X : Type 0} (x : X) (xs : List X) (y : X) → Contains (x ∷ xs) y → (x ≡ y) ⊎ Contains xs y
front_or_behind x xs y (zero, within, is) = inl is
front_or_behind x xs y (suc k, within, is) = inr (k, omega (arith, within), is)

module _ {X : Type 0} (R : X → X → Type 0) (one_way : (x y : X) → R x y → R y x → ⊥) where
  rest_in_order : (x : X) (xs : List X) → AllPairs R (x ∷ xs) → AllPairs R xs
  rest_in_order x xs ordered i j d before within = ordered (suc i) (suc j) d (omega (arith, before)) (omega (arith, within))

  first_before : (x : X) (xs : List X) (y : X) → AllPairs R (x ∷ xs) → Contains xs y → R x y
  first_before x xs y ordered (k, within, is) = subst (R x) is (ordered 0 (suc k) y (omega arith) (omega (arith, within)))

  first_same : (x y : X) (xs ys : List X) → AllPairs R (x ∷ xs) → AllPairs R (y ∷ ys) → Contains (y ∷ ys) x → Contains (x ∷ xs) y → x ≡ y
  first_same x y xs ys ordered others has also =
      elim (front_or_behind y ys x has) [
        | inl same ↦ sym same
        | inr after ↦ elim (front_or_behind x xs y also) [
          | inl same ↦ same
          | inr later ↦ absurd (one_way x y (first_before x xs y ordered later) (first_before y ys x others after))
        ]
      ]

  in_rest : (x : X) (xs ys : List X) (y : X) → AllPairs R (x ∷ xs) → Contains xs y → Contains (x ∷ ys) y → Contains ys y
  in_rest x xs ys y ordered later has =
      elim (front_or_behind x ys y has) [
        | inl same ↦
            let itself : R x x = subst (R x) (sym same) (first_before x xs y ordered later) in
            absurd (one_way x x itself itself)
        | inr after ↦ after
      ]

  pub one_list : (xs ys : List X) → AllPairs R xs → AllPairs R ys → ((x : X) → Contains xs x → Contains ys x) → ((y : X) → Contains ys y → Contains xs y)
      → xs ≡ ys
  one_list [] [] ordered others into back = refl
  one_list [] (y ∷ ys) ordered others into back = let h = back y (in_front y ys) in let within = h.1 in absurd (omega (arith, within))
  one_list (x ∷ xs) [] ordered others into back = let h = into x (in_front x xs) in let within = h.1 in absurd (omega (arith, within))
  one_list (x ∷ xs) (y ∷ ys) ordered others into back =
      let same : x ≡ y = first_same x y xs ys ordered others (into x (in_front x xs)) (back y (in_front y ys)) in
      let from_x : AllPairs R (x ∷ ys) = subst (λ (z : X). AllPairs R (z ∷ ys)) (sym same) others in
      ap₂ (λ (z : X) (zs : List X). z ∷ zs) same (one_list xs ys (rest_in_order x xs ordered) (rest_in_order x ys from_x)
      (λ z has. in_rest x xs ys z ordered has (subst (λ (w : X). Contains (w ∷ ys) z) (sym same) (into z (behind x xs z has))))
      (λ z has. in_rest x ys xs z from_x has (back z (behind y ys z has))))
