-- A pick is valid exactly where it has no breach.
use Rattle.std.proofs.Common.{◌≡◌, ℕ, Bool, true, false, not, ◌&&◌, List, find, position, bytes_eq, Option, Some, None, IsTrue, IsFalse, IsNone, IfNone, ◌↔◌, ◌⊎◌, inl, inr, refl, sym, ap, subst, ◌∙◌}
use Rattle.std.specs.List.{Contains, list_any, All}
use Rattle.std.proofs.lemmas.Bool.{and_from, and_parts, cases_Bool}
use Rattle.std.proofs.lemmas.List.Elements.{All-contains}
use Rattle.std.proofs.lemmas.Slice.Eq.{bytes_eq-Decides}
use Rattle.hex_registry.specs.declared.breach.Breach.{Breach}
use Rattle.hex_registry.specs.declared.breach.Breach.TheVariants.{NotPicked, NotCandidate, Unmet, Unreached}
use Rattle.hex_registry.specs.declared.offer.Demand.{Demand}
use Rattle.hex_registry.specs.declared.offer.Offer.{Offer}
use Rattle.hex_registry.specs.declared.shelf.Shelf.{Shelf}
use Rattle.hex_registry.specs.declared.unmet.By.{By}
use Rattle.hex_registry.specs.declared.wants.Want.{Want}
use Rattle.hex_registry.specs.declared.wants.Wants.{Wants}
use Rattle.hex_registry.specs.Breaches.{IsAgainst, IsBreach, IsFirst, IsOfKind, SaysBreach, first_demand_against, first_want_against}
use Rattle.hex_registry.specs.Breaches.IsAgainst.{want as by_want, demand as by_demand}
use Rattle.hex_registry.specs.Breaches.IsBreach.{not_picked, not_candidate, unmet, unreached}
use Rattle.hex_registry.specs.Breaches.IsFirst.{none, first}
use Rattle.hex_registry.specs.Picks.{Picked, ArePicks, IsAsked, IsReached, demand_refuses, demand_takes, demands_at, has_package, is_candidate, want_refuses, want_takes}
use Rattle.hex_registry.specs.Shelves.{offer_at}
use Rattle.hex_registry.specs.Valid.{IsValid}
use Rattle.hex_registry.proofs.KindLemmas.{first_3, no_kind}
use Rattle.hex_registry.proofs.Lists.{any_found, any_from, find_some, found_one, position_found, position_one}

pub same_bytes : (a b : List ℕ) → bytes_eq a b ≡ true → a ≡ b
same_bytes a b h = (bytes_eq-Decides a b).0 h

pub bytes_itself : (a : List ℕ) → bytes_eq a a ≡ true
bytes_itself a = (bytes_eq-Decides a a).1 refl

clash : (b : Bool) → b ≡ true → b ≡ false → ⊥
clash true h k = cc
clash false h k = cc

-- what refuses
pub want_against : (name : List ℕ) (offer : Offer) (want : Want) → name ≡ want.«package» → want_takes offer want ≡ false → want_refuses name offer want ≡ true
want_against name offer want same lacking =
    and_from (bytes_eq name want.«package») (not (want_takes offer want)) (ap (λ (n : List ℕ). bytes_eq n want.«package») same ∙ bytes_itself want.«package»)
    (ap not lacking)

pub demand_against : (overridden : List (List ℕ)) (name : List ℕ) (offer : Offer) (demand : Demand) → name ≡ demand.«package»
    → demand_takes overridden offer demand ≡ false → demand_refuses overridden name offer demand ≡ true
demand_against overridden name offer demand same lacking =
    and_from (bytes_eq name demand.«package») (not (demand_takes overridden offer demand))
    (ap (λ (n : List ℕ). bytes_eq n demand.«package») same ∙ bytes_itself demand.«package») (ap not lacking)

against_none : (shelves : List Shelf) (wants : Wants) (pick : List Picked) (picked : Picked) (by : By) → IsValid shelves wants pick → Contains pick picked
    → IsAgainst shelves wants pick picked by → ⊥
against_none shelves wants pick picked _ v c (by_want {index = index} offer e at) =
    let k = position_found (want_refuses picked.0 offer) wants.wants index at in
    let both = and_parts (bytes_eq picked.0 k.0.«package») (not (want_takes offer k.0)) k.2 in
    let taken = v.wants_met k.0 picked offer k.1 c (same_bytes picked.0 k.0.«package» both.0) e in
    clash (not (want_takes offer k.0)) both.1 (ap not taken)
against_none shelves wants pick picked _ v c (by_demand by offer e at found) =
    let f = find_some (λ (q : Picked). list_any (demand_refuses wants.overridden picked.0 offer) (demands_at shelves wants q)) pick by found in
    let k = any_found (demand_refuses wants.overridden picked.0 offer) (demands_at shelves wants by) f.1 in
    let both = and_parts (bytes_eq picked.0 k.0.«package») (not (demand_takes wants.overridden offer k.0)) k.2 in
    let taken = v.demands_met by picked k.0 offer f.0 k.1 c (same_bytes picked.0 k.0.«package» both.0) e in
    clash (not (demand_takes wants.overridden offer k.0)) both.1 (ap not taken)

pub breach_not_valid : (shelves : List Shelf) (wants : Wants) (pick : List Picked) (breach : Breach) → IsBreach shelves wants pick breach
    → IsValid shelves wants pick → ⊥
breach_not_valid shelves wants pick _ (not_picked {name = name} asked lacking) v = clash (has_package pick name) (v.whole name asked) lacking
breach_not_valid shelves wants pick _ (not_candidate picked c lacking) v = clash (is_candidate shelves picked) (v.candidates picked c) lacking
breach_not_valid shelves wants pick _ (unmet picked {by = by} c against) v = against_none shelves wants pick picked by v c against
breach_not_valid shelves wants pick _ (unreached picked c never) v = never (v.reached picked c)

pub first_not_valid : (shelves : List Shelf) (wants : Wants) (pick : List Picked) (breach : Breach) → SaysBreach shelves wants pick (Some breach)
    → IsValid shelves wants pick → ⊥
first_not_valid shelves wants pick breach (first is least) v = breach_not_valid shelves wants pick breach is v

-- a release that isn't taken has someone against it, the first
pub some_against : (shelves : List Shelf) (wants : Wants) (pick : List Picked) (picked : Picked) (offer : Offer) → offer_at shelves picked ≡ Some offer
    → (want : Want) → Contains wants.wants want → want_refuses picked.0 offer want ≡ true → (by : By) × IsAgainst shelves wants pick picked by
some_against shelves wants pick picked offer e want c refused =
    let k = position_one (want_refuses picked.0 offer) wants.wants want c refused in
    (_, by_want offer e k.1)

pub some_demand_against : (shelves : List Shelf) (wants : Wants) (pick : List Picked) (picked by : Picked) (offer : Offer) (demand : Demand)
    → offer_at shelves picked ≡ Some offer → Contains pick by → Contains (demands_at shelves wants by) demand
    → demand_refuses wants.overridden picked.0 offer demand ≡ true → (who : By) × IsAgainst shelves wants pick picked who
some_demand_against shelves wants pick picked by offer demand e b c refused = at (first_want_against wants picked.0 offer) refl
  where
    at : (o : Option ℕ) → first_want_against wants picked.0 offer ≡ o → (who : By) × IsAgainst shelves wants pick picked who
    at (Some index) f = (_, by_want offer e f)
    at None f =
        let any = any_from (demand_refuses wants.overridden picked.0 offer) (demands_at shelves wants by) demand c refused in
        let k = found_one (λ (q : Picked). list_any (demand_refuses wants.overridden picked.0 offer) (demands_at shelves wants q)) pick by b any in
        (_, by_demand k.0 offer e f k.1)

-- a pick with none of the four kinds is valid
pub valid_of : (shelves : List Shelf) (wants : Wants) (pick : List Picked) → ArePicks pick → IsFirst (IsOfKind (IsBreach shelves wants pick) 0) None
    → IsFirst (IsOfKind (IsBreach shelves wants pick) 1) None → IsFirst (IsOfKind (IsBreach shelves wants pick) 2) None
    → All (λ picked. IsReached shelves wants pick picked.0) pick → IsValid shelves wants pick
valid_of shelves wants pick in_order no_0 no_1 no_2 all =
    record {
      in_order = in_order;
      whole = λ name asked. elim (cases_Bool (has_package pick name)) [
        | inl having ↦ having
        | inr lacking ↦ absurd (no_kind (IsBreach shelves wants pick) 0 no_0 (NotPicked name) refl (not_picked asked lacking))
      ];
      candidates = λ picked c. elim (cases_Bool (is_candidate shelves picked)) [
        | inl having ↦ having
        | inr lacking ↦ absurd (no_kind (IsBreach shelves wants pick) 1 no_1 (NotCandidate picked.0) refl (not_candidate picked c lacking))
      ];
      wants_met = λ want picked offer w c same e. elim (cases_Bool (want_takes offer want)) [
        | inl having ↦ having
        | inr lacking ↦ (let k = some_against shelves wants pick picked offer e want w (want_against picked.0 offer want same lacking) in
            absurd (no_kind (IsBreach shelves wants pick) 2 no_2 (Unmet picked.0 k.0) refl (unmet picked c k.1)))
      ];
      demands_met = λ by picked demand offer b d c same e. elim (cases_Bool (demand_takes wants.overridden offer demand)) [
        | inl having ↦ having
        | inr lacking ↦ (let k = some_demand_against shelves wants pick picked by offer demand e b d
            (demand_against wants.overridden picked.0 offer demand same lacking) in
            absurd (no_kind (IsBreach shelves wants pick) 2 no_2 (Unmet picked.0 k.0) refl (unmet picked c k.1)))
      ];
      reached = λ picked c. All-contains (λ (q : Picked). IsReached shelves wants pick q.0) pick picked all c;
    }

-- where there is a breach the pick isn't valid, and where there is none it is
pub first_refuses : (shelves : List Shelf) (wants : Wants) (pick : List Picked) (breach : Breach) → SaysBreach shelves wants pick (Some breach)
    → IsNone (Some breach) ↔ IsValid shelves wants pick
first_refuses shelves wants pick breach says =
    ((λ h. absurd (let e : true ≡ false = h in cc)), (λ v. absurd (first_not_valid shelves wants pick breach says v)))

pub last_decides : (shelves : List Shelf) (wants : Wants) (pick : List Picked) (found : Option Breach)
    → IsFirst (IsOfKind (IsBreach shelves wants pick) 0) None → IsFirst (IsOfKind (IsBreach shelves wants pick) 1) None
    → IsFirst (IsOfKind (IsBreach shelves wants pick) 2) None → IsFirst (IsOfKind (IsBreach shelves wants pick) 3) found
    → IfNone found (ArePicks pick × All (λ picked. IsReached shelves wants pick picked.0) pick) → IsNone found ↔ IsValid shelves wants pick
last_decides shelves wants pick None no_0 no_1 no_2 no_3 all = ((λ h. valid_of shelves wants pick all.0 no_0 no_1 no_2 all.1), (λ v. refl))
last_decides shelves wants pick (Some breach) no_0 no_1 no_2 is all =
    first_refuses shelves wants pick breach (first_3 (IsBreach shelves wants pick) (Some breach) no_0 no_1 no_2 is)
