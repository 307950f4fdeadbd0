-- Only so many packages can be needed, and each decision leaves fewer of them undecided.
use Rattle.std.proofs.Common.{◌≡◌, ℕ, zero, suc, ◌+◌, ◌<◌, ◌≤◌, Bool, true, false, not, ◌||◌, cond, List, [], ◌∷◌, ◌++◌, map, find, filter, flat_map, length, bytes_eq, Option, Some, None, slice_get, option_and_then, ◌⊎◌, inl, inr, refl, sym, ap, subst, ◌∙◌, arith}
use Rattle.std.specs.List.{Contains}
use Rattle.std.proofs.lemmas.List.Elements.{Contains-append_left, Contains-append_right}
use Rattle.std.proofs.lemmas.Option.{option_and_then_some, slice_get-get_or, slice_get_within, get_or_from_slice_get}
use Rattle.hex_registry.specs.Picks.{Picked, IsAsked, demands_at, has_package, with_picked}
use Rattle.hex_registry.specs.Picks.IsAsked.{wanted, demanded}
use Rattle.hex_registry.specs.Shelves.{demands_of, is_among, listed_demands, offer_at, shelf_of, stock_of}
use Rattle.hex_registry.specs.declared.offer.Demand.{Demand}
use Rattle.hex_registry.specs.declared.offer.Offer.{Offer}
use Rattle.hex_registry.specs.declared.shelf.Shelf.{Shelf}
use Rattle.hex_registry.specs.declared.shelf.Stock.{Stock}
use Rattle.hex_registry.specs.declared.wants.Want.{Want}
use Rattle.hex_pick.specs.Problem.{Problem}
use Rattle.hex_registry.proofs.Lists.{contains_cases, contains_none, filtered_of, find_some, in_joined, in_mapped}
use Rattle.hex_registry.proofs.ValidLemmas.{bytes_itself}
use Rattle.hex_registry.proofs.PickLists.{has_decided}

pub contains_get : {A : Type 0} (xs : List A) (k : ℕ) (x : A) → slice_get xs k ≡ Some x → Contains xs x
contains_get xs k x e = (k, slice_get_within xs k x e, get_or_from_slice_get xs k x x e)

pub get_contains : {A : Type 0} (xs : List A) (x : A) → (c : Contains xs x) → slice_get xs c.0 ≡ Some x
get_contains xs x c = slice_get-get_or xs c.0 x c.1 ∙ ap Some c.2

pub stock_names : Option Stock → List (List ℕ)
stock_names None = []
stock_names (Some stock) = flat_map (λ (offer : Offer). map (λ (demand : Demand). demand.«package») (listed_demands offer.demands)) stock.offers

-- the packages of wants, and all that releases name
abbrev pub universe : Problem → List (List ℕ)
universe problem = map (λ (want : Want). want.«package») problem.wants.wants ++ flat_map (λ (shelf : Shelf). stock_names shelf.stock) problem.shelves

named_at : (shelf : Shelf) (stock : Stock) (offer : Offer) (demand : Demand) → shelf.stock ≡ Some stock → Contains stock.offers offer
    → Contains (listed_demands offer.demands) demand → Contains (stock_names shelf.stock) demand.«package»
unfolding stock_names
named_at shelf stock offer demand is c d =
    subst (λ (o : Option Stock). Contains (stock_names o) demand.«package») (sym is)
    (in_joined (λ (o : Offer). map (λ (w : Demand). w.«package») (listed_demands o.demands)) stock.offers offer demand.«package» c
    (in_mapped (λ (w : Demand). w.«package») (listed_demands offer.demands) demand d))

demanded_within : (problem : Problem) (by : Picked) (demand : Demand) (o : Option Offer) → offer_at problem.shelves by ≡ o → Contains (demands_of o) demand
    → Contains (universe problem) demand.«package»
demanded_within problem by demand None e c = absurd (contains_none demand c)
demanded_within problem by demand (Some offer) e c =
    option_and_then_some (λ (stock : Stock). slice_get stock.offers by.1) (stock_of problem.shelves by.0) offer e (λ stock stock_is at.
    option_and_then_some (λ (shelf : Shelf). shelf.stock) (shelf_of problem.shelves by.0) stock stock_is (λ shelf shelf_is has.
    (let f = find_some (λ (s : Shelf). bytes_eq by.0 s.name) problem.shelves shelf shelf_is in
    Contains-append_right (map (λ (want : Want). want.«package») problem.wants.wants) (flat_map
    (λ (s : Shelf). stock_names s.stock) problem.shelves) demand.«package»
    (in_joined (λ (s : Shelf). stock_names s.stock) problem.shelves shelf demand.«package» f.0
    (named_at shelf stock offer demand has (contains_get stock.offers by.1 offer at) c)))))

-- what is asked is one of them
pub asked_within : (problem : Problem) (pick : List Picked) (name : List ℕ) → IsAsked problem.shelves problem.wants pick name → Contains (universe problem) name
asked_within problem pick _ (wanted want c required) =
    Contains-append_left (map (λ (w : Want). w.«package») problem.wants.wants) (flat_map (λ
    (shelf : Shelf). stock_names shelf.stock) problem.shelves) want.«package»
    (in_mapped (λ (w : Want). w.«package») problem.wants.wants want c)
asked_within problem pick _ (demanded by demand c d required) =
    let f = filtered_of (λ (w : Demand). not (is_among w.app problem.wants.pinned)) (demands_of (offer_at problem.shelves by)) demand d in
    demanded_within problem by demand (offer_at problem.shelves by) refl f.0

-- how many of these are undecided
abbrev pub gaps : List (List ℕ) → List Picked → ℕ
gaps [] pick = 0
gaps (name ∷ names) pick = cond (has_package pick name) (gaps names pick) (suc (gaps names pick))

kept_at : (a b : Bool) (x y : ℕ) → x ≤ y → cond (a || b) x (suc x) ≤ cond b y (suc y)
kept_at true true x y h = h
kept_at true false x y h = omega (arith, h)
kept_at false true x y h = h
kept_at false false x y h = omega (arith, h)

fewer_at : (a b : Bool) (x y : ℕ) → x < y → cond (a || b) x (suc x) < cond b y (suc y)
fewer_at true true x y h = h
fewer_at true false x y h = omega (arith, h)
fewer_at false true x y h = h
fewer_at false false x y h = omega (arith, h)

gone_at : (a b : Bool) (x y : ℕ) → a ≡ true → b ≡ false → x ≤ y → cond (a || b) x (suc x) < cond b y (suc y)
gone_at true false x y e f h = omega (arith, h)
gone_at false b x y e f h = absurd (cc)
gone_at true true x y e f h = absurd (cc)

gaps_kept : (names : List (List ℕ)) (pick : List Picked) (p : Picked) → gaps names (with_picked pick p) ≤ gaps names pick
gaps_kept [] pick p = omega arith
gaps_kept (n ∷ names) pick p =
    subst (λ (b : Bool). cond b (gaps names (with_picked pick p)) (suc (gaps names (with_picked pick p))) ≤ gaps (n ∷ names) pick) (sym (has_decided pick p n))
    (kept_at (bytes_eq n p.0) (has_package pick n) (gaps names (with_picked pick p)) (gaps names pick) (gaps_kept names pick p))

pub gaps_fewer : (names : List (List ℕ)) (pick : List Picked) (p : Picked) → Contains names p.0 → has_package pick p.0 ≡ false
    → gaps names (with_picked pick p) < gaps names pick
gaps_fewer [] pick p c u = absurd (contains_none p.0 c)
gaps_fewer (n ∷ names) pick p c u =
    subst (λ (b : Bool). cond b (gaps names (with_picked pick p)) (suc (gaps names (with_picked pick p))) < gaps (n ∷ names) pick) (sym (has_decided pick p n))
    (elim (contains_cases n p.0 names c) [
      | inl e ↦ gone_at (bytes_eq n p.0) (has_package pick n) (gaps names (with_picked pick p)) (gaps names pick)
          (ap (λ (m : List ℕ). bytes_eq m p.0) e ∙ bytes_itself p.0) (ap (λ (m : List ℕ). has_package pick m) e ∙ u) (gaps_kept names pick p)
      | inr more ↦ fewer_at (bytes_eq n p.0) (has_package pick n) (gaps names (with_picked pick p)) (gaps names pick) (gaps_fewer names pick p more u)
    ])
