-- Where values one behind the other lack a field.
use Rattle.std.proofs.Common.{◌≡◌, ℕ, zero, suc, ◌+◌, ◌-◌, ◌<◌, List, [], ◌∷◌, ◌++◌, length, refl, sym, ap, ◌∙◌, arith, subst, append_assoc, append-nil, length-append}
use Rattle.std.specs.Prelude.{flat_map, replicate}
use Rattle.std.specs.List.{AllByRecursion}
use Rattle.std.proofs.lemmas.List.{length-replicate}
use Rattle.reading.specs.Field.{PairFits}
use Rattle.reading.proofs.Fields.{same_rest}
use Rattle.partition_frames.specs.Field.{Lacks, together}
use Rattle.partition_frames.specs.Pieces.{SoMany}
use Rattle.partition_frames.proofs.Lacking.{Tells, first_lacks, lacks_otherwise, pair_fields, second_lacks, text_by, together_append}

same_cons : {A : Type 0} (a b : A) (s t : List A) → a ≡ b → s ≡ t → a ∷ s ≡ b ∷ t
same_cons a b s t e f = cc

-- ---- a list that isn't empty is its first value and a list

abbrev back_of : {A : Type 0} → A → List A → A × List A
back_of default [] = (default, [])
back_of default (v ∷ vs) = (v, vs)

back_fits : {A : Type 0} (fields : A → List (List ℕ)) (Fits : A → Type 0) (n : ℕ) (default : A) (values : List A) → SoMany Fits (suc n) values
    → PairFits Fits (λ _. SoMany Fits n) (back_of default values)
    × (pair_fields fields (λ _. flat_map fields) (back_of default values) ≡ flat_map fields values)
back_fits fields Fits n default [] fits = absurd (omega (arith, fits.0))
back_fits fields Fits n default (v ∷ vs) fits = ((fits.1.0, (omega (arith, fits.0), fits.1.1)), refl)

as_list : {A : Type 0} (fields : A → List (List ℕ)) (Fits : A → Type 0) (n : ℕ) (bytes : List ℕ) (at : ℕ)
    → Lacks (pair_fields fields (λ _. flat_map fields)) (PairFits Fits (λ _. SoMany Fits n)) bytes at
    → Lacks (flat_map fields) (SoMany Fits (suc n)) bytes at
as_list fields Fits n bytes at l =
    lacks_otherwise (pair_fields fields (λ _. flat_map fields)) (PairFits Fits (λ _. SoMany Fits n)) (flat_map fields) (SoMany Fits (suc n))
    (λ p. p.0 ∷ p.1) (back_of l.begins.value.0)
    (λ p fits. ((omega (arith, fits.1.0), (fits.0, fits.1.1)), refl))
    (λ values fits. back_fits fields Fits n l.begins.value.0 values fits) bytes at l

-- there are so many values that fit
pub copies_fit : {A : Type 0} (Fits : A → Type 0) (some : A) → Fits some → (n : ℕ) → AllByRecursion Fits (replicate n some)
copies_fit Fits some fits zero = tt
copies_fit Fits some fits (suc n) = (fits, copies_fit Fits some fits n)

pub some_values : {A : Type 0} (Fits : A → Type 0) (some : A) → Fits some → (n : ℕ) → (values : List A) × SoMany Fits n values
some_values {A} Fits some fits n = (replicate n some, (length-replicate {A = A} n some, copies_fit Fits some fits n))

-- the values done fit, and the next one lacks a field
pub list_lacks : {A : Type 0} (fields : A → List (List ℕ)) (Fits : A → Type 0) → Tells fields Fits → (some : A) → Fits some
    → (done : List A) (count : ℕ) → AllByRecursion Fits done → length done < count → (bytes after : List ℕ) (at : ℕ)
    → bytes ≡ together (flat_map fields done) ++ after → Lacks fields Fits after at
    → Lacks (flat_map fields) (SoMany Fits count) bytes (length (together (flat_map fields done)) + at)
list_lacks fields Fits tells some some_fits [] count fits less bytes after at cut l =
    let n = count - 1 in
    let more : suc n ≡ count = omega arith in
    let place : at ≡ 0 + at = omega arith in
    subst (λ c. Lacks (flat_map fields) (SoMany Fits c) bytes (0 + at)) more
    (as_list fields Fits n bytes (0 + at)
    (first_lacks fields Fits (λ _. flat_map fields) (λ _. SoMany Fits n) (λ a _. some_values Fits some some_fits n) bytes (0 + at)
    (subst (λ t. Lacks fields Fits t (0 + at)) (sym cut) (subst (λ k. Lacks fields Fits after k) place l))))
list_lacks fields Fits tells some some_fits (v ∷ vs) count fits less bytes after at cut l =
    let n = count - 1 in
    let more : suc n ≡ count = omega arith in
    let behind = together (flat_map fields vs) ++ after in
    let cut_here : bytes ≡ together (fields v) ++ behind =
    cut ∙ ap (λ t. t ++ after) (together_append (fields v) (flat_map fields vs))
    ∙ append_assoc (together (fields v)) (together (flat_map fields vs)) after in
    let inner = list_lacks fields Fits tells some some_fits vs n fits.1 (omega arith) behind after at refl l in
    let whole = second_lacks fields Fits (λ _. flat_map fields) (λ _. SoMany Fits n) tells v fits.0 bytes behind
    (length (together (flat_map fields vs)) + at) cut_here inner in
    let place : length (together (fields v)) + (length (together (flat_map fields vs)) + at) ≡ length (together (flat_map fields (v ∷ vs))) + at =
    omega (arith, ap length (together_append (fields v) (flat_map fields vs)), length-append (together (fields v)) (together (flat_map fields vs))) in
    subst (λ k. Lacks (flat_map fields) (SoMany Fits count) bytes k) place
    (subst (λ c. Lacks (flat_map fields) (SoMany Fits c) bytes (length (together (fields v)) + (length (together (flat_map fields vs)) + at))) more
    (as_list fields Fits n bytes _ whole))

-- ---- lists tell their end

pub values_tell : {A : Type 0} (fields : A → List (List ℕ)) (Fits : A → Type 0) → Tells fields Fits → (count : ℕ)
    → Tells (flat_map fields) (SoMany Fits count)
values_tell fields Fits tells count [] [] x y fa fb e = refl
values_tell fields Fits tells count [] (w ∷ ws) x y fa fb e = absurd (omega (arith, fa.0, fb.0))
values_tell fields Fits tells count (v ∷ vs) [] x y fa fb e = absurd (omega (arith, fa.0, fb.0))
values_tell fields Fits tells count (v ∷ vs) (w ∷ ws) x y fa fb e =
    let flat_v = ap (λ t. t ++ x) (together_append (fields v) (flat_map fields vs)) ∙ append_assoc (together (fields v)) (together (flat_map fields vs)) x in
    let flat_w = ap (λ t. t ++ y) (together_append (fields w) (flat_map fields ws)) ∙ append_assoc (together (fields w)) (together (flat_map fields ws)) y in
    let both = same_rest (text_by fields) Fits tells v w (together (flat_map fields vs) ++ x) (together (flat_map fields ws) ++ y) fa.1.0 fb.1.0
    (sym flat_v ∙ e ∙ flat_w) in
    same_cons v w vs ws both.0
    (values_tell fields Fits tells (length vs) vs ws x y (refl, fa.1.1) (omega (arith, fa.0, fb.0), fb.1.1) both.1)

-- ---- one value more

pub one_more_fits : {A : Type 0} (Fits : A → Type 0) (done : List A) (value : A) → AllByRecursion Fits done → Fits value
    → AllByRecursion Fits (done ++ value ∷ [])
one_more_fits Fits [] value fits next = (next, tt)
one_more_fits Fits (v ∷ vs) value fits next = (fits.0, one_more_fits Fits vs value fits.1 next)

pub together_one_more : {A : Type 0} (fields : A → List (List ℕ)) (done : List A) (value : A)
    → together (flat_map fields (done ++ value ∷ [])) ≡ together (flat_map fields done) ++ together (fields value)
together_one_more fields [] value = together_append (fields value) [] ∙ append-nil (together (fields value))
together_one_more fields (v ∷ vs) value =
    together_append (fields v) (flat_map fields (vs ++ value ∷ []))
    ∙ ap (λ t. together (fields v) ++ t) (together_one_more fields vs value)
    ∙ sym (append_assoc (together (fields v)) (together (flat_map fields vs)) (together (fields value)))
    ∙ ap (λ t. t ++ together (fields value)) (sym (together_append (fields v) (flat_map fields vs)))

pub one_more_read : {A : Type 0} (fields : A → List (List ℕ)) (done : List A) (value : A) (text rest after : List ℕ)
    → text ≡ together (flat_map fields done) ++ rest → rest ≡ together (fields value) ++ after
    → text ≡ together (flat_map fields (done ++ value ∷ [])) ++ after
one_more_read fields done value text rest after cut more =
    cut ∙ ap (λ t. together (flat_map fields done) ++ t) more
    ∙ sym (append_assoc (together (flat_map fields done)) (together (fields value)) after)
    ∙ ap (λ t. t ++ after) (sym (together_one_more fields done value))
