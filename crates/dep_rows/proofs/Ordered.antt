-- Numbers in strict order.
use Rattle.std.proofs.Common.{◌≡◌, ℕ, zero, suc, ◌+◌, ◌<◌, ◌≤◌, List, ◌∷◌, ◌++◌, length, get_or, AllPairs, Contains, refl, ◌∙◌, subst, arith}
use Rattle.std.proofs.lemmas.List.{get_or_append_left, get_or_at, get_or-append-add, length-append}

abbrev pub AreInOrder : List ℕ → Type 0
AreInOrder places = AllPairs (λ earlier later. earlier < later) places

pair_in_order : (places : List ℕ) (i j x y d : ℕ) → AreInOrder places → i < j → j < length places → get_or places i d ≡ x → get_or places j d ≡ y → x < y
pair_in_order places i j x y d ordered before within at_i at_j =
    subst (λ (n : ℕ). n < y) at_i (subst (λ (n : ℕ). get_or places i d < n) at_j (ordered i j d before within))

-- what stands before a number is less
pub less_before : (front : List ℕ) (x : ℕ) (rest : List ℕ) (y : ℕ) → AreInOrder (front ++ x ∷ rest) → Contains front y → y < x
less_before front x rest y ordered (k, within, is) =
    let long = length-append front (x ∷ rest) in
    pair_in_order (front ++ x ∷ rest) k (length front) y x y ordered within (omega (arith, long)) (get_or_append_left front (x ∷ rest) y k within ∙ is) (get_or_at front x rest y (length front) refl)

-- what stands from a number on is no less
pub no_less_after : (front : List ℕ) (x : ℕ) (rest : List ℕ) (y : ℕ) → AreInOrder (front ++ x ∷ rest) → Contains (x ∷ rest) y → x ≤ y
no_less_after front x rest y ordered (zero, within, is) = omega (arith, is)
no_less_after front x rest y ordered (suc k, within, is) =
    let long = length-append front (x ∷ rest) in
    let less : x < y = pair_in_order (front ++ x ∷ rest) (length front) (length front + suc k) x y y ordered (omega arith) (omega (arith, long, within)) (get_or_at front x rest y (length front) refl) (get_or-append-add front (x ∷ rest) (suc k) y ∙ is) in
    omega arith

pub not_itself_before : (front : List ℕ) (x : ℕ) (rest : List ℕ) → AreInOrder (front ++ x ∷ rest) → Contains front x → ⊥
not_itself_before front x rest ordered h = let less = less_before front x rest x ordered h in omega (arith, less)
