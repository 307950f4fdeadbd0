-- What a maker starts that hands out the first of its partitions.
use Rattle.std.proofs.Common.{◌≡◌, ℕ, zero, suc, ◌≤◌, ◌⊎◌, ⊎_elim, Bool, List, take, length, map, nat_lt, Ok, true≢false, refl, sym, ◌∙◌, subst, arith}
use Rattle.std.specs.List.{All}
use Rattle.std.proofs.lemmas.List.{length-map, length-take-le}
use Rattle.std.proofs.lemmas.List.Elements.{All-map, All-take}
use Rattle.std.proofs.lemmas.Bool.{le-ltb}
use Rattle.mx_base.specs.Causes.{Counted}
use Rattle.partition_face.specs.declared.counts.Counts.{Counts}
use Rattle.partition_face.specs.Counts.{fresh, raised_by}
use Rattle.partition_face.specs.Makers.{AreStarted, MakerKnown, Starts}

-- the first of these are as many as are given
pub given_length : {P : Type 0} (counted : P → Counts) (given : ℕ) (waiting : List P) → given ≤ length waiting →
    length (map counted (take given waiting)) ≡ given
given_length counted given waiting few = length-map (take given waiting) counted ∙ length-take-le given waiting few

positive : (count : ℕ) → (count ≡ 0 → ⊥) → 1 ≤ count
positive zero any = absurd (any refl)
positive (suc count) any = omega arith

-- where some are given, or none was asked for, they are started
pub first_started : {P : Type 0} (counted : P → Counts) (n given : ℕ) (waiting : List P) → All (λ partition. counted partition ≡ fresh) waiting →
    given ≤ length waiting → given ≤ n → (((given ≡ 0) × (n ≤ 0)) ⊎ (given ≡ 0 → ⊥)) → AreStarted n (map counted (take given waiting))
first_started counted n given waiting ready few most some = record {
  each = All-map (λ counts. counts ≡ fresh) counted (take given waiting) (All-take (λ partition. counted partition ≡ fresh) given waiting ready);
  enough = omega (arith, given_length counted given waiting few, most);
  some = λ less. ⊎_elim (λ none. omega (arith, none.1, less)) (λ any. omega (arith, given_length counted given waiting few, positive given any)) some;
}

pub starts_first : {P : Type 0} (counted : P → Counts) (n given : ℕ) (waiting : List P) (old new : MakerKnown) →
    All (λ partition. counted partition ≡ fresh) waiting → given ≤ length waiting → given ≤ n →
    (((given ≡ 0) × (n ≤ 0)) ⊎ (given ≡ 0 → ⊥)) → new ≡ record old { asked = raised_by n old.asked; faults = new.faults } →
    Counted old.faults new.faults (nat_lt given n) → Starts n old new (Ok (map counted (take given waiting)))
starts_first counted n given waiting old new ready few most some rest cause = record {
  start = first_started counted n given waiting ready few most some;
  rest = rest;
  cause = subst (λ (count : ℕ). Counted old.faults new.faults (nat_lt count n)) (sym (given_length counted given waiting few)) cause;
}

-- so many that have counted nothing are started, and no fault is counted
pub all_started : {P : Type 0} (counted : P → Counts) (n : ℕ) (started : List P) → All (λ partition. counted partition ≡ fresh) started →
    length started ≡ n → AreStarted n (map counted started)
all_started counted n started ready all = record {
  each = All-map (λ counts. counts ≡ fresh) counted started ready;
  enough = omega (arith, length-map started counted, all);
  some = λ less. absurd (omega (arith, length-map started counted, all, less));
}

pub starts_all : {P : Type 0} (counted : P → Counts) (n : ℕ) (started : List P) (old new : MakerKnown) →
    All (λ partition. counted partition ≡ fresh) started → length started ≡ n →
    new ≡ record old { asked = raised_by n old.asked; faults = new.faults } → new.faults ≡ old.faults → Starts n old new (Ok (map counted started))
starts_all counted n started old new ready all rest same = record {
  start = all_started counted n started ready all;
  rest = rest;
  cause = subst (λ (count : ℕ). Counted old.faults new.faults (nat_lt count n)) (sym (length-map started counted ∙ all)) (none_missing n);
}
  where
    none_missing : (count : ℕ) → Counted old.faults new.faults (nat_lt count count)
    none_missing count = subst (λ (b : Bool). Counted old.faults new.faults b) (sym (le-ltb count count (omega arith))) (record {
      later = omega (arith, same);
      rose = λ never. absurd (true≢false (sym never));
      kept = λ _. same;
    })
