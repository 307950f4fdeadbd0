-- The usable releases up to a place.
use Rattle.std.proofs.Common.{◌≡◌, ℕ, zero, suc, ◌+◌, ◌<◌, ◌≤◌, ◌↔◌, Bool, true, false, cond, append_assoc, append-nil, List, [], ◌∷◌, ◌++◌, map, length, get_or, slice_get, Option, Some, None, IsTrue, ◌⊎◌, inl, inr, refl, sym, ap, subst, ◌∙◌, arith}
use Rattle.std.specs.List.{All, AllPairs, Contains}
use Rattle.std.proofs.lemmas.Bool.{cases_lt, eqb-true, eq-eqb}
use Rattle.std.proofs.lemmas.List.Elements.{All-contains, All-get_or, All-nil, All-push, Contains-append_left, Contains-append_right, Contains-push}
use Rattle.std.proofs.lemmas.List.Quantifiers.{all_pairs_push}
use Rattle.std.proofs.lemmas.Option.{slice_get_past, slice_get_within}
use Rattle.hex_registry.specs.Candidates.{IsCandidate, Ranked, is_place, is_usable_at, is_usable_in, usable_from}
use Rattle.hex_registry.specs.Offers.{is_usable}
use Rattle.hex_registry.specs.declared.offer.Offer.{Offer}
use Rattle.hex_registry.specs.declared.shelf.Stock.{Stock}

-- all usable releases in the order of the message
pub record AreUsable (stock : Stock) (locked : Option ℕ) (candidates : List Ranked) : Type 0 where
  pub in_order : AllPairs (λ earlier later. earlier.place < later.place) candidates
  pub only : All (IsCandidate stock locked) candidates
  pub all : (place : ℕ) → IsTrue (is_usable_at stock place) → Contains (map (λ candidate. candidate.place) candidates) place

-- all usable releases before a place
pub record AreUsableTo (stock : Stock) (locked : Option ℕ) (candidates : List Ranked) (place : ℕ) : Type 0 where
  pub in_order : AllPairs (λ earlier later. earlier.place < later.place) candidates
  pub only : All (IsCandidate stock locked) candidates
  pub below : All (λ candidate. candidate.place < place) candidates
  pub all : (k : ℕ) → k < place → IsTrue (is_usable_at stock k) → Contains (map (λ candidate. candidate.place) candidates) k

pub none_usable : (stock : Stock) (locked : Option ℕ) → AreUsableTo stock locked [] 0
none_usable stock locked =
    record {
      in_order = λ i j d less below. absurd (omega (arith, below));
      only = λ k d below. absurd (omega (arith, below));
      below = λ k d below. absurd
          (omega (arith, below));
      all = λ k less. absurd (omega (arith, less));
    }

map_push : (candidates : List Ranked) (new : Ranked)
    → map (λ (r : Ranked). r.place) (candidates ++ new ∷ []) ≡ map (λ (r : Ranked). r.place) candidates ++ new.place ∷ []
map_push [] new = refl
map_push (x ∷ xs) new = ap (λ (ns : List ℕ). x.place ∷ ns) (map_push xs new)

pub one_usable : (stock : Stock) (locked : Option ℕ) (candidates : List Ranked) (new : Ranked) (next : ℕ) → AreUsableTo stock locked candidates new.place
    → IsCandidate stock locked new → next ≡ new.place + 1 → AreUsableTo stock locked (candidates ++ new ∷ []) next
one_usable stock locked candidates new next u is e =
    record {
      in_order = all_pairs_push (λ (earlier later : Ranked). earlier.place < later.place) candidates new u.in_order (λ k d below. u.below k d below);
      only = All-push (IsCandidate stock locked) candidates new u.only is;
      below = All-push (λ (c : Ranked). c.place < next) candidates new (λ k d below. (let low = u.below k d below in omega (arith, low, e)))
          (omega (arith, e));
      all = λ k less usable. subst (λ (ns : List ℕ). Contains ns k) (sym (map_push candidates new)) (elim (cases_lt k new.place) [
        | inl low ↦ Contains-append_left (map (λ (r : Ranked). r.place) candidates) (new.place ∷ []) k (u.all k low usable)
        | inr high ↦ (let same : new.place ≡ k = omega (arith, high, less, e) in subst
            (λ (n : ℕ). Contains (map (λ (r : Ranked). r.place) candidates ++ new.place ∷ []) n) same
            (Contains-push (map (λ (r : Ranked). r.place) candidates) new.place))
      ]);
    }

pub one_unusable : (stock : Stock) (locked : Option ℕ) (candidates : List Ranked) (offer : Offer) (place next : ℕ) → AreUsableTo stock locked candidates place
    → slice_get stock.offers place ≡ Some offer → is_usable offer ≡ false → next ≡ place + 1 → AreUsableTo stock locked candidates next
one_unusable stock locked candidates offer place next u at unfit e =
    record {
      in_order = u.in_order;
      only = u.only;
      below = λ k d below. (let low = u.below k d below in omega (arith, low, e));
      all = λ k less usable. elim (cases_lt k place) [
        | inl low ↦ u.all k low usable
        | inr high ↦ absurd (let same : k ≡ place = omega (arith, high, less, e) in
            let is : is_usable_at stock k ≡ false = ap (is_usable_at stock) same ∙ ap is_usable_in at ∙ unfit in
            let clash : true ≡ false = sym usable ∙ is in cc)
      ];
    }

pub all_usable : (stock : Stock) (locked : Option ℕ) (candidates : List Ranked) (place : ℕ) → AreUsableTo stock locked candidates place
    → length stock.offers ≤ place → AreUsable stock locked candidates
all_usable stock locked candidates place u past =
    record {
      in_order = u.in_order;
      only = u.only;
      all = λ k usable. elim (cases_lt k place) [
        | inl low ↦ u.all k low usable
        | inr high ↦ absurd (let at : slice_get stock.offers k ≡ None = slice_get_past stock.offers k (omega (arith, high, past)) in
            let clash : true ≡ false = sym usable ∙ ap is_usable_in at in cc)
      ];
    }

pub is_place_decides : (locked : Option ℕ) (place : ℕ) → IsTrue (is_place locked place) ↔ (locked ≡ Some place)
is_place_decides None place = ((λ h. absurd (cc)), (λ e. absurd (cc)))
is_place_decides (Some locked) place = ((λ h. ap Some (eqb-true locked place h)), (λ e. (let same : locked ≡ place = cc in eq-eqb locked place same)))

past_end : (xs : List Offer) (m : ℕ) → slice_get xs m ≡ None → length xs ≤ m
past_end [] m e = omega arith
past_end (x ∷ xs) zero e = absurd (cc)
past_end (x ∷ xs) (suc m) e = let k = past_end xs m e in omega (arith, k)

-- a release at its place
abbrev ranked_at : Option ℕ → ℕ → Offer → Ranked
ranked_at locked place offer = record { place = place; locked = is_place locked place; offer = offer }

usable_on : (stock : Stock) (locked : Option ℕ) (done : List Ranked) (n : ℕ) (offers : List Offer) → AreUsableTo stock locked done n
    → ((k at : ℕ) → at ≡ n + k → slice_get offers k ≡ slice_get stock.offers at) → AreUsable stock locked (done ++ usable_from locked n offers)
usable_on stock locked done n [] u same =
    subst (λ (cs : List Ranked). AreUsable stock locked cs) (sym (append-nil done))
    (all_usable stock locked done n u (past_end stock.offers n (sym (same 0 n (omega arith)))))
usable_on stock locked done n (offer ∷ offers) u same =
    let at : slice_get stock.offers n ≡ Some offer = sym (same 0 n (omega arith)) in
    let later : (k at : ℕ) → at ≡ suc n + k → slice_get offers k ≡ slice_get stock.offers at = λ k place e. same (suc k) place (omega (arith, e)) in
    (elim (is_usable offer) as (λ b. is_usable offer ≡ b → AreUsable stock locked
    (done ++ cond b (ranked_at locked n offer ∷ usable_from locked (suc n) offers) (usable_from locked (suc n) offers))) [
      | true ↦ (λ e.
          let is : IsCandidate stock locked (record { place = n; locked = is_place locked n; offer = offer }) = record
          { at = at; usable = e; is_locked = is_place_decides locked n } in
          subst (λ (cs : List Ranked). AreUsable stock locked cs) (append_assoc done (ranked_at locked n offer ∷ []) (usable_from locked (suc n) offers))
          (usable_on stock locked (done ++ ranked_at locked n offer ∷ []) (suc n) offers
          (one_usable stock locked done (record { place = n; locked = is_place locked n; offer = offer }) (suc n) u is (omega arith)) later))
      | false ↦ (λ e. usable_on stock locked done (suc n) offers (one_unusable stock locked done offer n (suc n) u at e (omega arith)) later)
    ]) refl

pub usable_are : (stock : Stock) (locked : Option ℕ) → AreUsable stock locked (usable_from locked 0 stock.offers)
usable_are stock locked =
    usable_on stock locked [] 0 stock.offers (none_usable stock locked) (λ k place e.
    (let same : k ≡ place = omega (arith, e) in ap (slice_get stock.offers) same))
