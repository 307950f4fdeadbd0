-- Lists that agree where both have something.
use Rattle.std.proofs.Common.{◌≡◌, ℕ, suc, ◌<◌, Bool, true, false, List, [], ◌∷◌, ◌++◌, length, take, map, filter, Some, refl, sym, ◌∙◌, ap, ap₂, arith}
use Rattle.std.specs.List.{slice_get, AllZip}
use Rattle.std.proofs.Math.Path.{fun_ext}
use Rattle.std.proofs.lemmas.Option.{same_Some}

-- what stands at one place in both is the same
abbrev pub Agree : {X : Type 0} → List X → List X → Type 0
Agree {X = X} xs ys = (k : ℕ) (x y : X) → slice_get xs k ≡ Some x → slice_get ys k ≡ Some y → x ≡ y

-- what stands at a place is one thing
pub one_at : {X : Type 0} (xs : List X) (i j : ℕ) (x y : X) → i ≡ j → slice_get xs i ≡ Some x → slice_get xs j ≡ Some y → x ≡ y
one_at xs i j x y same stands also = same_Some x y (sym stands ∙ ap (slice_get xs) same ∙ also)

pub same_list : {X : Type 0} (xs ys : List X) → length xs ≡ length ys → Agree xs ys → xs ≡ ys
same_list [] [] long agree = refl
same_list [] (y ∷ ys) long agree = absurd (omega (arith, long))
same_list (x ∷ xs) [] long agree = absurd (omega (arith, long))
same_list (x ∷ xs) (y ∷ ys) long agree =
    ap₂ (λ z zs. z ∷ zs) (agree 0 x y refl refl) (same_list xs ys (omega (arith, long)) (λ k a b stands also. agree (suc k) a b stands also))

-- a shorter list with one element more begins a longer one
pub record Begins {X : Type 0} (xs : List X) (x : X) (ys : List X) : Type 0 where
  pub front : take (length xs) ys ≡ xs
  pub next : slice_get ys (length xs) ≡ Some x

pub begins : {X : Type 0} (xs : List X) (x : X) (ys : List X) → length xs < length ys → Agree (xs ++ x ∷ []) ys → Begins xs x ys
begins [] x [] less agree = absurd (omega (arith, less))
begins [] x (y ∷ ys) less agree = record { front = refl; next = ap (λ z. Some z) (sym (agree 0 x y refl refl)) }
begins (z ∷ zs) x [] less agree = absurd (omega (arith, less))
begins (z ∷ zs) x (y ∷ ys) less agree =
    let rest = begins zs x ys (omega (arith, less)) (λ k a b stands also. agree (suc k) a b stands also) in
    record { front = ap₂ (λ w ws. w ∷ ws) (sym (agree 0 z y refl refl)) rest.front; next = rest.next }

-- tests that imply each other leave the same
bool_same : (b c : Bool) → (b ≡ true → c ≡ true) → (c ≡ true → b ≡ true) → b ≡ c
bool_same true c there back = sym (there refl)
bool_same false true there back = back refl
bool_same false false there back = refl

pub same_filter : {X : Type 0} (p q : X → Bool) (xs : List X) → ((x : X) → p x ≡ true → q x ≡ true) → ((x : X) → q x ≡ true → p x ≡ true) → filter p xs ≡ filter q xs
same_filter {X = X} p q xs there back = ap (λ (r : X → Bool). filter r xs) (fun_ext (λ x. bool_same (p x) (q x) (there x) (back x)))

-- place by place one thing, as far as `f` shows
pub same_zip : {A B C : Type 0} (R : A → B → Type 0) (f : B → C) → ((a : A) (b c : B) → R a b → R a c → f b ≡ f c) → (xs : List A) (ys zs : List B) → AllZip R xs ys → AllZip R xs zs → map f ys ≡ map f zs
same_zip R f one [] [] [] are also = refl
same_zip R f one [] [] (z ∷ zs) are also = absurd also
same_zip R f one [] (y ∷ ys) zs are also = absurd are
same_zip R f one (x ∷ xs) [] zs are also = absurd are
same_zip R f one (x ∷ xs) (y ∷ ys) [] are also = absurd also
same_zip R f one (x ∷ xs) (y ∷ ys) (z ∷ zs) are also = ap₂ (λ w ws. w ∷ ws) (one x y z are.0 also.0) (same_zip R f one xs ys zs are.1 also.1)
