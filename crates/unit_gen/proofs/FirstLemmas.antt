-- Numbers without repeats.
use Rattle.std.proofs.Common.{◌≡◌, ◌≢◌, ℕ, ◌==◌, Bool, true, false, not, cond, ◌||◌, List, [], ◌∷◌, ◌++◌, filter, slice_index_or, refl, sym, ◌∙◌, ap, subst, append-nil, true≢false, arith}
use Rattle.std.specs.List.{All, AllPairs, list_any}
use Rattle.std.proofs.lemmas.Bool.{eq-eqb, eqb-true, both_ways}
use Rattle.std.proofs.lemmas.List.Elements.{All-cons, All-filter, All-head, All-nil, All-tail, filter-append, filter_passes}
use Rattle.std.proofs.lemmas.List.Kept.{AllPairs-cons, AllPairs-filter}
use Rattle.std.proofs.lemmas.Map.Views.{any-filter_same}
use Rattle.unit_gen.specs.Dependency.{firsts}

-- the number is among these
abbrev pub has : ℕ → List ℕ → Bool
has n ns = list_any (λ other. other == n) ns

-- the others than a number
abbrev others : ℕ → List ℕ → List ℕ
others n ns = filter (λ other. not (other == n)) ns

-- a number that isn't another stays where that is left out
stays : (m n other : ℕ) → (m == n) ≡ false → (other == n) ≡ true → not (other == m) ≡ true
stays m n other apart is = at (other == m) refl
  where
    at : (b : Bool) → (other == m) ≡ b → not b ≡ true
    at true e = absurd (both_ways (m == n) apart (subst (λ (k : ℕ). (k == n) ≡ true) (eqb-true other m e) is))
    at false e = refl

pub has-firsts : (ns : List ℕ) (n : ℕ) → has n (firsts ns) ≡ has n ns
has-firsts [] n = refl
has-firsts (m ∷ ms) n = at (has-firsts ms n) (m == n) refl
  where
    at : has n (firsts ms) ≡ has n ms → (b : Bool) → (m == n) ≡ b → ((m == n) || has n (others m (firsts ms))) ≡ ((m == n) || has n ms)
    at rest true e = ap (λ (b : Bool). b || has n (others m (firsts ms))) e ∙ sym (ap (λ (b : Bool). b || has n ms) e)
    at rest false e =
        ap (λ (b : Bool). (m == n) || b)
        (any-filter_same (λ other. other == n) (λ other. not (other == m)) true (λ other is. stays m n other e is) (firsts ms) ∙ rest)

pub firsts_push : (ns : List ℕ) (n : ℕ) → firsts (ns ++ n ∷ []) ≡ cond (has n ns) (firsts ns) (firsts ns ++ n ∷ [])
firsts_push [] n = refl
firsts_push (m ∷ ms) n =
    ap (λ (ks : List ℕ). m ∷ others m ks) (firsts_push ms n) ∙ at (m == n) (has n ms) refl
  where
    at : (b h : Bool) → (m == n) ≡ b →
        m ∷ others m (cond h (firsts ms) (firsts ms ++ n ∷ [])) ≡ cond ((m == n) || h) (m ∷ others m (firsts ms)) (m ∷ others m (firsts ms) ++ n ∷ [])
    at true true e = ap (λ (b : Bool). cond (b || true) (m ∷ others m (firsts ms)) (m ∷ others m (firsts ms) ++ n ∷ [])) (sym e)
    at true false e =
        let same : (n == m) ≡ true = subst (λ (k : ℕ). (k == m) ≡ true) (eqb-true m n e) (subst (λ (k : ℕ). (m == k) ≡ true) (sym (eqb-true m n e)) e) in
        ap (λ (ks : List ℕ). m ∷ ks)
        (filter-append (λ other. not (other == m)) (firsts ms) (n ∷ [])
        ∙ ap (λ (b : Bool). others m (firsts ms) ++ cond (not b) (n ∷ []) []) same ∙ append-nil (others m (firsts ms)))
        ∙ ap (λ (b : Bool). cond (b || false) (m ∷ others m (firsts ms)) (m ∷ others m (firsts ms) ++ n ∷ [])) (sym e)
    at false true e = ap (λ (b : Bool). cond (b || true) (m ∷ others m (firsts ms)) (m ∷ others m (firsts ms) ++ n ∷ [])) (sym e)
    at false false e =
        ap (λ (ks : List ℕ). m ∷ ks)
        (filter-append (λ other. not (other == m)) (firsts ms) (n ∷ [])
        ∙ ap (λ (b : Bool). others m (firsts ms) ++ cond b (n ∷ []) []) (other_stays (n == m) refl))
        ∙ ap (λ (b : Bool). cond (b || false) (m ∷ others m (firsts ms)) (m ∷ others m (firsts ms) ++ n ∷ [])) (sym e)
      where
        other_stays : (b : Bool) → (n == m) ≡ b → not (n == m) ≡ true
        other_stays true is = absurd (both_ways (m == n) e (subst (λ (k : ℕ). (k == n) ≡ true) (eqb-true n m is) (subst (λ (k : ℕ). (n == k) ≡ true) (sym (eqb-true n m is)) is)))
        other_stays false is = ap not is

pub All-firsts : (P : ℕ → Type 0) (ns : List ℕ) → All P ns → All P (firsts ns)
All-firsts P [] all = All-nil P
All-firsts P (n ∷ ns) all =
    All-cons P n (others n (firsts ns)) (All-head P n ns all)
    (All-filter (λ other. not (other == n)) P (firsts ns) (All-firsts P ns (All-tail P n ns all)))

-- what is left out is another number
apart : (n other : ℕ) → not (other == n) ≡ true → n ≢ other
apart n other left same = at (other == n) refl
  where
    at : (b : Bool) → (other == n) ≡ b → ⊥
    at true e = true≢false (sym left ∙ ap not e)
    at false e = both_ways (other == n) e (subst (λ (k : ℕ). (k == n) ≡ true) same (eq-eqb n n refl))

pub firsts_apart : (ns : List ℕ) → AllPairs (λ one other. one ≢ other) (firsts ns)
firsts_apart [] = λ i j d before within. absurd (omega (arith, within))
firsts_apart (n ∷ ns) =
    AllPairs-cons (λ one other. one ≢ other) n (others n (firsts ns))
    (each (filter_passes (λ other. not (other == n)) (firsts ns)))
    (AllPairs-filter (λ one other. one ≢ other) (λ other. not (other == n)) (firsts ns) (firsts_apart ns))
  where
    each : All (λ other. not (other == n) ≡ true) (others n (firsts ns)) → All (λ other. n ≢ other) (others n (firsts ns))
    each all = λ k d within. apart n (slice_index_or (others n (firsts ns)) k d) (all k d within)
