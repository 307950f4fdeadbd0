-- Where values one after another stick.
use Rattle.std.proofs.Common.{◌≡◌, ℕ, suc, ◌+◌, ◌-◌, ◌<◌, List, [], ◌∷◌, ◌++◌, length, refl, sym, ap, ◌∙◌, arith, subst, append_assoc, append-nil, length-append}
use Rattle.std.specs.Prelude.{flat_map}
use Rattle.reading.specs.Field.{FitInTurn, ListFits, PairFits, Stops, TellsItsEnd, pair_text}
use Rattle.reading.proofs.Fields.{first_stops, same_rest, second_stops, told_otherwise}

same_cons : {A : Type 0} (a b : A) (s t : List A) → a ≡ b → s ≡ t → a ∷ s ≡ b ∷ t
same_cons a b s t e f = cc

pub list_tells : {A : Type 0} (text : A → List ℕ) (Fits : List A → A → Type 0) → ((before : List A) → TellsItsEnd text (Fits before))
    → (count : ℕ) (before : List A) → TellsItsEnd (flat_map text) (ListFits Fits count before)
list_tells text Fits tells count before [] [] x y fa fb e = refl
list_tells text Fits tells count before [] (w ∷ ws) x y fa fb e = absurd (omega (arith, fa.0, fb.0))
list_tells text Fits tells count before (v ∷ vs) [] x y fa fb e = absurd (omega (arith, fa.0, fb.0))
list_tells text Fits tells count before (v ∷ vs) (w ∷ ws) x y fa fb e =
    let cut = sym (append_assoc (text v) (flat_map text vs) x) ∙ e ∙ append_assoc (text w) (flat_map text ws) y in
    let first = same_rest text (Fits before) (tells before) v w (flat_map text vs ++ x) (flat_map text ws ++ y) fa.1.0 fb.1.0 cut in
    let fits : FitInTurn Fits (before ++ w ∷ []) vs = subst (λ c. FitInTurn Fits (before ++ c ∷ []) vs) first.0 fa.1.1 in
    let long : length ws ≡ length vs = omega (arith, fa.0, fb.0) in
    same_cons v w vs ws first.0
    (list_tells text Fits tells (length vs) (before ++ w ∷ []) vs ws x y (refl, fits) (long, fb.1.1) first.1)

-- ---- a list that isn't empty is its first value and a list

abbrev back_of : {A : Type 0} → A → List A → A × List A
back_of default [] = (default, [])
back_of default (v ∷ vs) = (v, vs)

back_fits : {A : Type 0} (text : A → List ℕ) (Fits : List A → A → Type 0) (before : List A) (count n : ℕ) → count ≡ suc n → (default : A) (values : List A)
    → ListFits Fits count before values
    → PairFits (Fits before) (λ a. ListFits Fits n (before ++ a ∷ [])) (back_of default values)
    × (pair_text text (λ _. flat_map text) (back_of default values) ≡ flat_map text values)
back_fits text Fits before count n more default [] fits = absurd (omega (arith, fits.0))
back_fits text Fits before count n more default (v ∷ vs) fits = ((fits.1.0, (omega (arith, fits.0), fits.1.1)), refl)

as_list : {A : Type 0} (text : A → List ℕ) (Fits : List A → A → Type 0) (before : List A) (count n : ℕ) → count ≡ suc n → (from : List ℕ) (left : ℕ)
    → Stops (pair_text text (λ _. flat_map text)) (PairFits (Fits before) (λ a. ListFits Fits n (before ++ a ∷ []))) from left
    → Stops (flat_map text) (ListFits Fits count before) from left
as_list text Fits before count n more from left s =
    told_otherwise (pair_text text (λ _. flat_map text)) (PairFits (Fits before) (λ a. ListFits Fits n (before ++ a ∷ [])))
    (flat_map text) (ListFits Fits count before) (λ p. p.0 ∷ p.1) (back_of s.sticks.value.0)
    (λ p fits. ((omega (arith, fits.1.0), (fits.0, fits.1.1)), refl))
    (λ values fits. back_fits text Fits before count n more s.sticks.value.0 values fits) from left s

-- ---- one value more

pub fit_one_more : {A : Type 0} (Fits : List A → A → Type 0) (before done : List A) (value : A) → FitInTurn Fits before done
    → Fits (before ++ done) value → FitInTurn Fits before (done ++ value ∷ [])
fit_one_more Fits before [] value fits next = (subst (λ b. Fits b value) (append-nil before) next, tt)
fit_one_more Fits before (v ∷ vs) value fits next =
    (fits.0, fit_one_more Fits (before ++ v ∷ []) vs value fits.1 (subst (λ b. Fits b value) (sym (append_assoc before (v ∷ []) vs)) next))

-- however far values that fit have come, there are values for the rest of the list
abbrev pub GoesOn : {A : Type 0} → (List A → A → Type 0) → ℕ → Type 0
GoesOn {A} Fits total =
    (before : List A) (n : ℕ) → length before + n ≡ total → FitInTurn Fits [] before → (values : List A) × ListFits Fits n before values

-- the values done fit, and the next one sticks
pub list_stops : {A : Type 0} (text : A → List ℕ) (Fits : List A → A → Type 0) → ((before : List A) → TellsItsEnd text (Fits before))
    → (total : ℕ) → GoesOn Fits total → (before done : List A) (count : ℕ) → length before + count ≡ total → FitInTurn Fits [] before
    → FitInTurn Fits before done → (from after : List ℕ) (left : ℕ) → length done < count → from ≡ flat_map text done ++ after
    → Stops text (Fits (before ++ done)) after left → Stops (flat_map text) (ListFits Fits count before) from left
list_stops text Fits tells total some before [] count sum start fits from after left less cut s =
    let n = count - 1 in
    let more : count ≡ suc n = omega arith in
    as_list text Fits before count n more from left
    (first_stops text (Fits before) (λ _. flat_map text) (λ a. ListFits Fits n (before ++ a ∷ [])) (tells before)
    (λ a next. some (before ++ a ∷ []) n (omega (arith, length-append before (a ∷ []))) (fit_one_more Fits [] before a start next)) from left
    (subst (λ t. Stops text (Fits before) t left) (sym cut) (subst (λ b. Stops text (Fits b) after left) (append-nil before) s)))
list_stops text Fits tells total some before (v ∷ vs) count sum start fits from after left less cut s =
    let n = count - 1 in
    let more : count ≡ suc n = omega arith in
    let here : before ++ v ∷ vs ≡ (before ++ v ∷ []) ++ vs = sym (append_assoc before (v ∷ []) vs) in
    as_list text Fits before count n more from left
    (second_stops text (Fits before) (λ _. flat_map text) (λ a. ListFits Fits n (before ++ a ∷ [])) (tells before) v fits.0
    from (flat_map text vs ++ after) left (cut ∙ append_assoc (text v) (flat_map text vs) after)
    (list_stops text Fits tells total some (before ++ v ∷ []) vs n (omega (arith, length-append before (v ∷ [])))
    (fit_one_more Fits [] before v start fits.0) fits.1 (flat_map text vs ++ after) after left (omega arith) refl
    (subst (λ b. Stops text (Fits b) after left) here s)))

-- ---- the text of one value more

pub flat_map_one_more : {A : Type 0} (text : A → List ℕ) (done : List A) (value : A) → flat_map text (done ++ value ∷ []) ≡ flat_map text done ++ text value
flat_map_one_more text [] value = append-nil (text value)
flat_map_one_more text (v ∷ vs) value =
    ap (λ t. text v ++ t) (flat_map_one_more text vs value) ∙ sym (append_assoc (text v) (flat_map text vs) (text value))
