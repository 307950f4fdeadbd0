-- The bytes of lists, one value more.
use Rattle.std.proofs.Common.{◌≡◌, ℕ, zero, suc, ◌+◌, ◌<◌, List, [], ◌∷◌, ◌++◌, length, take, get_or, refl, sym, ap, ◌∙◌, arith, subst, add-one, append_assoc}
use Rattle.std.specs.Prelude.{flat_map}
use Rattle.std.specs.List.{AllByRecursion}
use Rattle.std.proofs.Math.Seq.{take-length, take-suc}
use Rattle.partition_frames.specs.Field.{together}
use Rattle.partition_frames.proofs.Lacking.{together_append}
use Rattle.partition_frames.proofs.Sequences.{one_more_fits}

taken_more : {A : Type 0} (items : List A) (i : ℕ) (item : A) → i < length items → item ≡ get_or items i item
    → take (i + 1) items ≡ take i items ++ item ∷ []
taken_more items i item below is =
    rw add-one (take-suc items i item below ∙ ap (λ x. take i items ++ x ∷ []) (sym is))

flat_more : {A : Type 0} (fields : A → List (List ℕ)) (done : List A) (item : A) → flat_map fields (done ++ item ∷ []) ≡ flat_map fields done ++ fields item
flat_more fields [] item = none (fields item)
  where
    none : (l : List (List ℕ)) → l ++ [] ≡ l
    none [] = refl
    none (x ∷ xs) = ap (λ t. x ∷ t) (none xs)
flat_more fields (d ∷ done) item =
    ap (λ t. fields d ++ t) (flat_more fields done item) ∙ sym (append_assoc (fields d) (flat_map fields done) (fields item))

-- one value more was pushed behind these fields and so many values
pub one_pushed : {A : Type 0} (fields : A → List (List ℕ)) (head : List (List ℕ)) (items : List A) (i : ℕ) (item : A) (old before after : List ℕ)
    → i < length items → item ≡ get_or items i item → before ≡ old ++ together (head ++ flat_map fields (take i items))
    → after ≡ before ++ together (fields item) → after ≡ old ++ together (head ++ flat_map fields (take (i + 1) items))
one_pushed fields head items i item old before after below is so_far pushed =
    let some = head ++ flat_map fields (take i items) in
    let more : head ++ flat_map fields (take (i + 1) items) ≡ some ++ fields item =
    ap (λ l. head ++ flat_map fields l) (taken_more items i item below is) ∙ ap (λ t. head ++ t) (flat_more fields (take i items) item)
    ∙ sym (append_assoc head (flat_map fields (take i items)) (fields item)) in
    pushed ∙ ap (λ t. t ++ together (fields item)) so_far ∙ append_assoc old (together some) (together (fields item))
    ∙ ap (λ t. old ++ t) (sym (together_append some (fields item))) ∙ ap (λ l. old ++ together l) (sym more)

pub all_pushed : {A : Type 0} (fields : A → List (List ℕ)) (head : List (List ℕ)) (items : List A) (i : ℕ) (old after : List ℕ) → i ≡ length items
    → after ≡ old ++ together (head ++ flat_map fields (take i items)) → after ≡ old ++ together (head ++ flat_map fields items)
all_pushed fields head items i old after end so_far =
    so_far ∙ ap (λ n. old ++ together (head ++ flat_map fields (take n items))) end
    ∙ ap (λ l. old ++ together (head ++ flat_map fields l)) (take-length items)

-- ---- what holds of each

pub one_at : {A : Type 0} (Fits : A → Type 0) (items : List A) (i : ℕ) (item : A) → AllByRecursion Fits items → i < length items
    → item ≡ get_or items i item → Fits item
one_at Fits [] i item fits below is = absurd (omega (arith, below))
one_at Fits (x ∷ items) zero item fits below is = subst Fits (sym is) fits.0
one_at Fits (x ∷ items) (suc i) item fits below is = one_at Fits items i item fits.1 (omega (arith, below)) is

pub one_known : {A : Type 0} (Fits : A → Type 0) (items : List A) (i : ℕ) (item : A) → AllByRecursion Fits (take i items) → Fits item
    → i < length items → item ≡ get_or items i item → AllByRecursion Fits (take (i + 1) items)
one_known Fits items i item fits one below is =
    subst (AllByRecursion Fits) (sym (taken_more items i item below is)) (one_more_fits Fits (take i items) item fits one)

pub all_known : {A : Type 0} (Fits : A → Type 0) (items : List A) (i : ℕ) → i ≡ length items → AllByRecursion Fits (take i items)
    → AllByRecursion Fits items
all_known Fits items i end fits =
    subst (AllByRecursion Fits) (ap (λ n. take n items) end ∙ take-length items) fits
