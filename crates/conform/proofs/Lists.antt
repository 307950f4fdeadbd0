-- What holds of each element, shown from the front on.
use Rattle.std.proofs.Common.{◌≡◌, ℕ, ◌+◌, ◌<◌, ◌≤◌, List, length, get_or, drop, sym, subst, add-one, drop-cons}
use Rattle.std.proofs.lemmas.List.{drop_all}
use Rattle.std.specs.List.{AllByRecursion}

-- what the rest owes is less by an element of which it holds
pub all_by_rest : {X : Type 0} (P : X → Type 0) (xs : List X) (i : ℕ) (x : X) → i < length xs → x ≡ get_or xs i x → P x
    → (AllByRecursion P (drop i xs) → AllByRecursion P xs) → AllByRecursion P (drop (i + 1) xs) → AllByRecursion P xs
all_by_rest P xs i x lt is holds whole rest =
    whole (subst (AllByRecursion P) (sym (drop-cons xs i x lt)) (subst P is holds, subst (λ (n : ℕ). AllByRecursion P (drop n xs)) (add-one i) rest))

-- no rest owes anything
pub all_by_none : {X : Type 0} (P : X → Type 0) (xs : List X) (i : ℕ) → length xs ≤ i → (AllByRecursion P (drop i xs) → AllByRecursion P xs)
    → AllByRecursion P xs
all_by_none P xs i le whole = whole (subst (AllByRecursion P) (sym (drop_all i xs le)) tt)
