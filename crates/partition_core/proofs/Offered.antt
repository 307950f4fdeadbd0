-- Places that offer an event, by their flags.
use Rattle.std.proofs.Common.{◌≡◌, ℕ, zero, suc, ◌+◌, ◌<◌, ◌||◌, ◌&&◌, not, Bool, true, false, cond, List, [], ◌∷◌, length, count_by, Option, Some, None, is_some, is_none, slice_get, refl, sym, ◌∙◌, ap, arith}
use Rattle.std.proofs.lemmas.Option.{slice_get_within}
use Rattle.std.proofs.lemmas.List.Sums.{sum_by-cons}
use Rattle.compile_model.specs.declared.outcome.Fate.{Fate}
use Rattle.partition_core.specs.declared.event.Next.{Next}
use Rattle.partition_core.specs.declared.event.Next.TheVariants.{Skip as ToSkip}
use Rattle.partition_core.specs.declared.outlook.Outlook.{Outlook}
use Rattle.partition_core.specs.State.{Opening, State, at, missing, stands, is_running}
use Rattle.partition_core.specs.Nexts.{offer, offer_by, AreSettled, IsFirst}
use Rattle.partition_core.specs.PlaceSets.{IsFirstOf}
use Rattle.partition_core.specs.Agendas.{is_decided, offers, IsOutlook}

and_no : (b : Bool) → (b && false) ≡ false
and_no true = refl
and_no false = refl

made_is : (s : State) (place : ℕ) (need : Option ℕ) (kept : Bool) → is_some (offer_by s place need kept) ≡ (is_decided s.fates need && true)
made_is s place None true = refl
made_is s place None false = refl
made_is s place (Some need) kept = by_fate (is_some (at s.fates need))
  where
    by_fate : (b : Bool) → is_some (cond b (Some (ToSkip place need)) None) ≡ (b && true)
    by_fate true = refl
    by_fate false = refl

offer_cases : (s : State) (place : ℕ) (fate : Option Fate) (runs : Bool) (need : Option ℕ) (kept : Bool) →
    is_some (cond (is_some fate || runs) None (offer_by s place need kept)) ≡ (is_none fate && (is_decided s.fates need && not runs))
offer_cases s place (Some fate) runs need kept = refl
offer_cases s place None true need kept = sym (and_no (is_decided s.fates need))
offer_cases s place None false need kept = made_is s place need kept

-- a place offers an event exactly where the test says so
pub offers_is : (o : Opening) (s : State) (place : ℕ) → is_some (offer o s place) ≡ offers o.plan.jobs s place
offers_is o s place = offer_cases s place (at s.fates place) (is_running s.standings place) (missing o s place) (stands o s place)

not_some : (made : Option Next) → is_some made ≡ false → made ≡ None
not_some None e = refl
not_some (Some next) e = cc

flag_false : (flag : Bool) → (flag ≡ true → ⊥) → flag ≡ false
flag_false true h = absurd (h refl)
flag_false false h = refl

-- a place whose flag isn't true offers nothing
pub none_at : (o : Opening) (s : State) (outlook : Outlook) → IsOutlook o.plan.jobs s [] outlook → (place : ℕ) → place < length o.plan.jobs →
    (slice_get outlook.offering place ≡ Some true → ⊥) → offer o s place ≡ None
none_at o s outlook known place within dark =
    not_some (offer o s place) (offers_is o s place ∙ flag_false (offers o.plan.jobs s place)
    (λ e. dark (known.right place within refl ∙ ap Some e)))

-- a place whose flag is true offers something
pub some_at : (o : Opening) (s : State) (outlook : Outlook) → IsOutlook o.plan.jobs s [] outlook → (place : ℕ) →
    slice_get outlook.offering place ≡ Some true → (place < length o.plan.jobs) × (is_some (offer o s place) ≡ true)
some_at o s outlook known place lit =
    let here : place < length outlook.offering = slice_get_within outlook.offering place true lit in
    let within : place < length o.plan.jobs = let long = known.fronts.flags in omega arith in
    let same : Some (offers o.plan.jobs s place) ≡ Some true = sym (known.right place within refl) ∙ lit in
    let yes : offers o.plan.jobs s place ≡ true = cc in
    (within, offers_is o s place ∙ yes)

-- what the first place of these offers is the first offer
pub first_at : (o : Opening) (s : State) (outlook : Outlook) → IsOutlook o.plan.jobs s [] outlook → length s.fates ≡ length o.plan.jobs →
    (place : ℕ) → IsFirstOf outlook.offering place → (next : Next) → offer o s place ≡ Some next → IsFirst o s next
first_at o s outlook known places place first next here =
    let within = (some_at o s outlook known place first.here).0 in
    record {
      place = place;
      here = here;
      within = omega arith;
      before = λ p earlier. none_at o s outlook known p (omega arith) (first.before p earlier);
    }

count_cons : (fate : Option Fate) (fates : List (Option Fate)) → count_by is_none (fate ∷ fates) ≡ cond (is_none fate) 1 0 + count_by is_none fates
count_cons fate fates = sum_by-cons (λ (x : Option Fate). cond (is_none x) 1 0) fate fates

-- no place is left without a fate
pub none_left : (fates : List (Option Fate)) → count_by is_none fates ≡ 0 → AreSettled fates
none_left [] e place within = absurd (omega arith)
none_left (Some fate ∷ fates) e zero within = refl
none_left (None ∷ fates) e place within =
    let h : count_by is_none (None ∷ fates) ≡ 1 + count_by is_none fates = count_cons None fates in absurd (omega arith)
none_left (Some fate ∷ fates) e (suc place) within =
    let h : count_by is_none (Some fate ∷ fates) ≡ 0 + count_by is_none fates = count_cons (Some fate) fates in
    none_left fates (omega arith) place (omega arith)

pub settled_left : (fates : List (Option Fate)) → AreSettled fates → count_by is_none fates ≡ 0
settled_left [] settled = refl
settled_left (None ∷ fates) settled = let h = settled 0 (omega arith) in cc
settled_left (Some fate ∷ fates) settled =
    let h : count_by is_none (Some fate ∷ fates) ≡ 0 + count_by is_none fates = count_cons (Some fate) fates in
    omega (arith, h, settled_left fates (λ place within. settled (suc place) (omega arith)))
