-- Each list of entries of different apps has its order.
use Rattle.std.proofs.Common.{◌≡◌, ℕ, false, List, [], ◌∷◌, refl, sym, ◌∙◌, ap, bytes_eq}
use Rattle.std.specs.List.{AllByRecursion, IsDistinct}
use Rattle.std.specs.List.Sorted.{IsPermutation}
use Rattle.std.specs.declared.cmp.Ordering.{Ordering}
use Rattle.std.specs.declared.cmp.Ordering.TheVariants.{Less, Equal, Greater}
use Rattle.std.specs.Ordering.{is_eq, ordering_reverse}
use Rattle.std.proofs.lemmas.Bool.{true≢false}
use Rattle.std.proofs.lemmas.Cmp.{nat_list_cmp_total}
use Rattle.std.proofs.lemmas.List.Sorted.{IsPermutation-refl, IsPermutation-trans, IsPermutation-cons, IsPermutation-append_left, IsPermutation-append_comm}
use Rattle.std.proofs.lemmas.Map.Text.{is_eq-slice_cmp}
use Rattle.mx_base.specs.Order.{text_cmp, IsBefore}
use Rattle.mix_lock.specs.Lock.{AppEntry, AreInOrder, apps_of}
use Rattle.mix_lock.proofs.ReadLemmas.{all_moved}

record Inserted (x : AppEntry) (ys : List AppEntry) : Type 0 where
  result : List AppEntry
  same : IsPermutation (x ∷ ys) result
  in_order : AreInOrder result
  before : (app : List ℕ) → text_cmp app x.0 ≡ Less → IsBefore app (apps_of ys) → IsBefore app (apps_of result)

below_all : (a b : List ℕ) (entries : List AppEntry) → text_cmp a b ≡ Less → IsBefore b (apps_of entries) → IsBefore a (apps_of entries)
below_all a b [] less before = tt
below_all a b (e ∷ es) less before = (nat_list_cmp_total.trans a b e.0 less before.0, below_all a b es less before.1)

swapped : (x y : AppEntry) (ys : List AppEntry) → IsPermutation (x ∷ y ∷ ys) (y ∷ x ∷ ys)
swapped x y ys = IsPermutation-append_left ys (x ∷ y ∷ []) (y ∷ x ∷ []) (IsPermutation-append_comm (x ∷ []) (y ∷ []))

inserted : (x : AppEntry) (ys : List AppEntry) → AreInOrder ys → AllByRecursion (λ y. bytes_eq x.0 y.0 ≡ false) ys → Inserted x ys
inserted x [] order apart = record { result = x ∷ []; same = IsPermutation-refl (x ∷ []); in_order = (tt, tt); before = λ app less before. (less, tt) }
inserted x (y ∷ ys) order apart = at (text_cmp x.0 y.0) refl (inserted x ys order.1 apart.1)
  where
    at : (o : Ordering) → text_cmp x.0 y.0 ≡ o → Inserted x ys → Inserted x (y ∷ ys)
    at Less e rest = record {
      result = x ∷ y ∷ ys;
      same = IsPermutation-refl (x ∷ y ∷ ys);
      in_order = ((e, below_all x.0 y.0 ys e order.0), order);
      before = λ app less before. (less, before);
    }
    at Equal e rest = absurd (true≢false (sym (ap is_eq e) ∙ is_eq-slice_cmp x.0 y.0 ∙ apart.0))
    at Greater e rest =
        let less : text_cmp y.0 x.0 ≡ Less = nat_list_cmp_total.antisymm y.0 x.0 ∙ ap ordering_reverse e in
        record {
          result = y ∷ rest.result;
          same = IsPermutation-trans (x ∷ y ∷ ys) (y ∷ x ∷ ys) (y ∷ rest.result) (swapped x y ys) (IsPermutation-cons y (x ∷ ys) rest.result rest.same);
          in_order = (rest.before y.0 less order.0, rest.in_order);
          before = λ app below before. (before.0, rest.before app below before.1);
        }

pub record Sorted (xs : List AppEntry) : Type 0 where
  pub result : List AppEntry
  pub same : IsPermutation xs result
  pub in_order : AreInOrder result

entries_apart : (app : List ℕ) (xs : List AppEntry) → AllByRecursion (λ other. bytes_eq app other ≡ false) (apps_of xs)
    → AllByRecursion (λ x. bytes_eq app x.0 ≡ false) xs
entries_apart app [] all = tt
entries_apart app (x ∷ xs) all = (all.0, entries_apart app xs all.1)

pub sorted : (xs : List AppEntry) → IsDistinct bytes_eq (apps_of xs) → Sorted xs
unfolding IsDistinct
sorted [] distinct = record { result = []; same = IsPermutation-refl []; in_order = tt }
sorted (x ∷ xs) distinct =
    let rest = sorted xs distinct.1 in
    let apart = all_moved (λ y. bytes_eq x.0 y.0 ≡ false) xs rest.result rest.same (entries_apart x.0 xs distinct.0) in
    let whole = inserted x rest.result rest.in_order apart in
    record {
      result = whole.result;
      same = IsPermutation-trans (x ∷ xs) (x ∷ rest.result) whole.result (IsPermutation-cons x xs rest.result rest.same) whole.same;
      in_order = whole.in_order;
    }
