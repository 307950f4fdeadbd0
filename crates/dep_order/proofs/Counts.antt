-- How often a place stands in a list, and how many needs aren't listed.
use Rattle.std.proofs.Common.{◌≡◌, ℕ, ◌+◌, ◌<◌, ◌≤◌, Bool, true, false, not, cond, ◌||◌, eqb, List, [], ◌∷◌, ◌++◌, length, map, get_or, suc, sym, ◌∙◌, ap, ap₂, refl, inl, inr, arith, eq-eqb, ne_eqb, eqb-true, count_by}
use Rattle.std.specs.List.{list_any}
use Rattle.std.proofs.lemmas.List.{get_or_default, get_or_past, get_or-map, length-map}
use Rattle.std.proofs.lemmas.List.Sums.{sum_by-cons, get_or-le-sum_by}
use Rattle.std.proofs.lemmas.Bool.{eqb-false, both_ways, cases_lt, cases_Bool, not-false, not_from_true, false_from_ne_true}
use Rattle.dep_order.specs.Graph.{needs_of}
use Rattle.dep_order.specs.Listing.{is_listed, IsLeft, IsReady}
use Rattle.dep_order.specs.Pending.{times, ArePending}
use Rattle.dep_order.proofs.Listed.{listed-push}

abbrev pub one_if : Bool → ℕ
one_if b = cond b 1 0

-- one element more in front
pub count_by-cons : (p : ℕ → Bool) (x : ℕ) (xs : List ℕ) → count_by p (x ∷ xs) ≡ one_if (p x) + count_by p xs
count_by-cons p x xs = sum_by-cons (λ y. one_if (p y)) x xs

any_at : (p : ℕ → Bool) (x : ℕ) (xs : List ℕ) → (0 < count_by p xs → list_any p xs ≡ true) → (b : Bool) → 0 < one_if b + count_by p xs → (b || list_any p xs) ≡ true
any_at p x xs rest true some = refl
any_at p x xs rest false some = rest (omega arith)

pub any_from_count : (p : ℕ → Bool) (xs : List ℕ) → 0 < count_by p xs → list_any p xs ≡ true
any_from_count p [] some = absurd (omega arith)
any_from_count p (x ∷ xs) some = any_at p x xs (any_from_count p xs) (p x) (rw count_by-cons at some)

count_at : (p : ℕ → Bool) (x : ℕ) (xs : List ℕ) → (list_any p xs ≡ true → 0 < count_by p xs) → (b : Bool) → (b || list_any p xs) ≡ true → 0 < one_if b + count_by p xs
count_at p x xs rest true any = omega arith
count_at p x xs rest false any = let some = rest any in omega arith

pub count_from_any : (p : ℕ → Bool) (xs : List ℕ) → list_any p xs ≡ true → 0 < count_by p xs
count_from_any p [] any = absurd (both_ways false refl any)
count_from_any p (x ∷ xs) any = rw count_by-cons (count_at p x xs (count_from_any p xs) (p x) any)

-- a place is in a list where it stands in it at all
pub listed_from_times : (place : ℕ) (places : List ℕ) → 0 < times place places → is_listed places place ≡ true
listed_from_times place places some = any_from_count (eqb place) places some

pub times_from_listed : (place : ℕ) (places : List ℕ) → is_listed places place ≡ true → 0 < times place places
times_from_listed place places listed = count_from_any (eqb place) places listed

pub none_passes : (p : ℕ → Bool) (xs : List ℕ) → count_by p xs ≡ 0 → (i : ℕ) → i < length xs → p (get_or xs i 0) ≡ false
none_passes p xs none i within =
    false_from_ne_true (p (get_or xs i 0)) (λ passes.
    let most : one_if (p (get_or xs i 0)) ≤ count_by p xs = get_or-le-sum_by (λ y. one_if (p y)) xs i 0 within in
    let one : 1 ≤ count_by p xs = rw passes at most in
    omega arith)

pub count_none : (p : ℕ → Bool) (xs : List ℕ) → ((i : ℕ) → i < length xs → p (get_or xs i 0) ≡ false) → count_by p xs ≡ 0
count_none p [] none = refl
count_none p (x ∷ xs) none =
    let first : p x ≡ false = none 0 (omega arith) in
    let rest : count_by p xs ≡ 0 = count_none p xs (λ i within. none (suc i) (omega arith)) in
    count_by-cons p x xs ∙ ap₂ (λ b n. one_if b + n) first rest

-- ---- one place listed more

one_less : (listed : List ℕ) (x y : ℕ) → is_listed listed x ≡ false → one_if (not (is_listed listed y || eqb y x)) + one_if (eqb x y) ≡ one_if (not (is_listed listed y))
one_less listed x y new =
    elim (cases_Bool (eqb x y)) [
      | inl same ↦
          let is : x ≡ y = eqb-true x y same in
          let y_new : is_listed listed y ≡ false = rw is at new in
          let back : eqb y x ≡ true = eq-eqb y x (sym is) in
          rw (y_new, back, same) refl
      | inr differ ↦
          let back : eqb y x ≡ false = ne_eqb y x (λ e. eqb-false x y differ (sym e)) in
          rw (back, differ) (one_kept (is_listed listed y))
    ]
  where
    one_kept : (b : Bool) → one_if (not (b || false)) + 0 ≡ one_if (not b)
    one_kept true = refl
    one_kept false = refl

pub count_less : (listed : List ℕ) (x : ℕ) → is_listed listed x ≡ false → (needs : List ℕ) → count_by (λ need. not (is_listed (listed ++ x ∷ []) need)) needs + times x needs ≡ count_by (λ need. not (is_listed listed need)) needs
count_less listed x new [] = refl
count_less listed x new (y ∷ ys) =
    let rest = count_less listed x new ys in
    let here : one_if (not (is_listed (listed ++ x ∷ []) y)) + one_if (eqb x y) ≡ one_if (not (is_listed listed y)) = rw listed-push (one_less listed x y new) in
    omega (
      arith,
      rest,
      here,
      count_by-cons (λ need. not (is_listed (listed ++ x ∷ []) need)) y ys,
      count_by-cons (eqb x) y ys,
      count_by-cons (λ need. not (is_listed listed need)) y ys,
    )

-- ---- ready is what waits for nothing

module _ (graph : List (List ℕ)) (listed pending : List ℕ) (counts : ArePending graph listed pending) where
  pub ready_from_zero : (place : ℕ) → IsLeft graph listed place → get_or pending place 0 ≡ 0 → IsReady graph listed place
  ready_from_zero place left zero_pending = record {
    left = left;
    needs_listed = λ i d within.
        rw (get_or_default (needs_of graph place) i d 0 within)
        (not-false _ (none_passes (λ need. not (is_listed listed need)) (needs_of graph place) (sym (counts.each place) ∙ zero_pending) i within));
  }

  pub zero_from_listed : (place : ℕ) → ((i : ℕ) → i < length (needs_of graph place) → is_listed listed (get_or (needs_of graph place) i 0) ≡ true) → get_or pending place 0 ≡ 0
  zero_from_listed place all =
      counts.each place
      ∙ count_none (λ need. not (is_listed listed need)) (needs_of graph place) (λ i within. not_from_true _ (all i within))

  pub zero_from_ready : (place : ℕ) → IsReady graph listed place → get_or pending place 0 ≡ 0
  zero_from_ready place ready = zero_from_listed place (λ i within. ready.needs_listed i 0 within)

-- ---- before anything is listed

all_counted : (needs : List ℕ) → count_by (λ need. not (is_listed [] need)) needs ≡ length needs
all_counted [] = refl
all_counted (x ∷ xs) = omega (arith, count_by-cons (λ need. not (is_listed [] need)) x xs, all_counted xs)

pub pending_at_first : (graph : List (List ℕ)) → ArePending graph [] (map length graph)
pending_at_first graph = record {
  long = length-map graph length;
  each = λ place. elim (cases_lt place (length graph)) [
    | inl within ↦ get_or-map length graph place [] 0 within ∙ sym (all_counted (needs_of graph place))
    | inr past ↦
        get_or_past (map length graph) place 0 (omega (arith, length-map graph (length {A = ℕ})))
        ∙ ap (count_by (λ need. not (is_listed [] need))) (sym (get_or_past graph place [] past))
  ];
}
