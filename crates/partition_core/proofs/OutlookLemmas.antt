-- Outlooks, of which places are looked at.
use Rattle.std.proofs.Common.{◌≡◌, ℕ, ◌+◌, ◌<◌, ◌==◌, ◌||◌, ◌&&◌, inl, inr, Bool, false, not, List, [], ◌∷◌, length, replicate, drop, count_by, cond, ◌*◌, is_none, Option, Some, None, slice_get, slice_set, get_or, refl, sym, ◌∙◌, ap, subst, arith}
use Rattle.std.proofs.lemmas.Bool.{cases_eq, ne_eqb}
use Rattle.std.proofs.lemmas.List.{length-set, length-replicate, drop_more}
use Rattle.std.proofs.lemmas.List.Folds.{sum_by-replicate}
use Rattle.std.proofs.lemmas.Option.{slice_get-get_or}
use Rattle.compile_model.specs.declared.job.Job.{Job}
use Rattle.compile_model.specs.declared.outcome.Fate.{Fate}
use Rattle.partition_core.specs.declared.outlook.Outlook.{Outlook}
use Rattle.partition_core.specs.State.{State, at, first_open, needs_of, is_running}
use Rattle.partition_core.specs.Agendas.{has, needs_in, is_decided, offers, IsFront, HasFronts, IsOutlook}
use Rattle.partition_core.proofs.Places.{get_set, set_same, set_other, get_replicate}

-- a place has a new front
pub fronts_set : (jobs : List Job) (fates : List (Option Fate)) (old new : Outlook) (place front : ℕ) → HasFronts jobs fates old →
    new.fronts.items ≡ slice_set old.fronts.items place front → length new.offering ≡ length old.offering →
    IsFront fates (needs_in jobs place) front → HasFronts jobs fates new
fronts_set jobs fates old new place front known set flags is = record {
  fronts = ap length set ∙ length-set old.fronts.items place front ∙ known.fronts;
  flags = flags ∙ known.flags;
  each = λ p f there. elim (get_set old.fronts.items place p front f (ap (λ (xs : List ℕ). slice_get xs p) (sym set) ∙ there)) [
    | inl same ↦ subst (λ (q : ℕ). IsFront fates (needs_in jobs q) f) (sym same.0) (subst (IsFront fates (needs_in jobs place)) same.1 is)
    | inr other ↦ known.each p f other.1
  ];
}

-- one of the places was looked at
pub outlook_looked : (jobs : List Job) (s : State) (place : ℕ) (rest : List ℕ) (old new : Outlook) → IsOutlook jobs s (place ∷ rest) old →
    place < length jobs → HasFronts jobs s.fates new → new.offering ≡ slice_set old.offering place (offers jobs s place) → IsOutlook jobs s rest new
outlook_looked jobs s place rest old new known within fronts set = record {
  fronts = fronts;
  right = λ p inside apart. elim (cases_eq p place) [
    | inl same ↦
        let long : place < length old.offering = let h = known.fronts.flags in omega arith in
        ap (λ (xs : List Bool). slice_get xs p) set ∙ ap (slice_get (slice_set old.offering place (offers jobs s place))) same
        ∙ set_same old.offering place (offers jobs s place) (get_or old.offering place false) (slice_get-get_or old.offering place false long)
        ∙ ap (λ (q : ℕ). Some (offers jobs s q)) (sym same)
    | inr other ↦
        ap (λ (xs : List Bool). slice_get xs p) set ∙ set_other old.offering place p (offers jobs s place) other
        ∙ known.right p inside (or_none (place == p) (has rest p) (ne_eqb place p (λ e. other (sym e))) apart)
  ];
}
  where
    or_none : (a b : Bool) → a ≡ false → b ≡ false → (a || b) ≡ false
    or_none a b e f = ap (λ (x : Bool). x || b) e ∙ f

-- the first of what is left was looked at
pub outlook_dropped : (jobs : List Job) (s : State) (places : List ℕ) (k d : ℕ) (old new : Outlook) → k < length places →
    IsOutlook jobs s (drop k places) old → get_or places k d < length jobs → HasFronts jobs s.fates new →
    new.offering ≡ slice_set old.offering (get_or places k d) (offers jobs s (get_or places k d)) → IsOutlook jobs s (drop (k + 1) places) new
outlook_dropped jobs s places k d old new within known inside fronts set =
    outlook_looked jobs s (get_or places k d) (drop (k + 1) places) old new
    (subst (λ (left : List ℕ). IsOutlook jobs s left old) (drop_more places k d within) known) inside fronts set

-- no need of a place is built
pub front_zero : (fates : List (Option Fate)) (needs : List ℕ) → IsFront fates needs 0
front_zero fates [] = record { within = omega arith; built = refl }
front_zero fates (need ∷ needs) = record { within = omega arith; built = refl }

-- nothing was looked at
pub fronts_begin : (jobs : List Job) (fates : List (Option Fate)) (outlook : Outlook) → outlook.offering ≡ replicate (length jobs) false →
    outlook.fronts.items ≡ replicate (length jobs) 0 → HasFronts jobs fates outlook
fronts_begin jobs fates outlook flags fronts = record {
  fronts = ap length fronts ∙ length-replicate (length jobs) 0;
  flags = ap length flags ∙ length-replicate (length jobs) false;
  each = λ place front there.
      subst (IsFront fates (needs_in jobs place)) (get_replicate (length jobs) place 0 front (ap (λ (xs : List ℕ). slice_get xs place) (sym fronts) ∙ there))
      (front_zero fates (needs_in jobs place));
}

-- the flags of the places so far, and of one more
pub flags_more : (jobs : List Job) (s : State) (old new : List Bool) (place : ℕ) → place < length old →
    new ≡ slice_set old place (offers jobs s place) → ((p : ℕ) → p < place → slice_get old p ≡ Some (offers jobs s p)) →
    (p : ℕ) → p < place + 1 → slice_get new p ≡ Some (offers jobs s p)
flags_more jobs s old new place within set so_far p below =
    ap (λ (xs : List Bool). slice_get xs p) set
    ∙ elim (cases_eq p place) [
      | inl same ↦
          ap (slice_get (slice_set old place (offers jobs s place))) same
          ∙ set_same old place (offers jobs s place) (get_or old place false) (slice_get-get_or old place false within)
          ∙ ap (λ (q : ℕ). Some (offers jobs s q)) (sym same)
      | inr other ↦ set_other old place p (offers jobs s place) other ∙ so_far p (let h = other in omega arith)
    ]

-- all places were looked at
pub outlook_begins : (jobs : List Job) (s : State) (outlook : Outlook) → HasFronts jobs s.fates outlook →
    ((p : ℕ) → p < length jobs → slice_get outlook.offering p ≡ Some (offers jobs s p)) → IsOutlook jobs s [] outlook
outlook_begins jobs s outlook fronts right = record { fronts = fronts; right = λ p within apart. right p within }

-- each place is left
pub left_begins : (fates : List (Option Fate)) (n : ℕ) → fates ≡ replicate n None → n ≡ count_by is_none fates
left_begins fates n is =
    let h : count_by is_none (replicate n None) ≡ n * 1 = sum_by-replicate (λ (fate : Option Fate). cond (is_none fate) 1 0) n None in
    omega (arith, h, ap (count_by is_none) is)

-- the needs of a place, as they are read
pub needs_here : (jobs items : List Job) (place : ℕ) (d : Job) (needs : List ℕ) → items ≡ jobs → place < length items →
    needs ≡ (get_or items place d).needs → needs ≡ needs_in jobs place
needs_here jobs items place d needs e within is =
    is ∙ ap needs_of (sym (slice_get-get_or items place d within) ∙ ap (λ (js : List Job). slice_get js place) e)

-- the front of a place, as it is read
pub front_known : (jobs : List Job) (fates : List (Option Fate)) (outlook : Outlook) (place front : ℕ) (needs : List ℕ) → HasFronts jobs fates outlook →
    place < length jobs → needs ≡ needs_in jobs place → front ≡ get_or outlook.fronts.items place front → IsFront fates needs front
front_known jobs fates outlook place front needs known within same is =
    let long : place < length outlook.fronts.items = let h = known.fronts in omega arith in
    subst (λ (ns : List ℕ). IsFront fates ns front) (sym same)
    (known.each place front (slice_get-get_or outlook.fronts.items place front long ∙ ap Some (sym is)))

-- the flag of a place, as the test says it
pub flag_known : (jobs : List Job) (s : State) (place : ℕ) (needs : List ℕ) (first : Option ℕ) (flag : Bool) → needs ≡ needs_in jobs place →
    first ≡ first_open s.fates needs → flag ≡ (is_none (at s.fates place) && (is_decided s.fates first && not (is_running s.standings place))) →
    flag ≡ offers jobs s place
flag_known jobs s place needs first flag same e is =
    is
    ∙ ap (λ (f : Option ℕ). is_none (at s.fates place) && (is_decided s.fates f && not (is_running s.standings place)))
    (e ∙ ap (first_open s.fates) same)
