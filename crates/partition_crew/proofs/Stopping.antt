-- What stops leave while a place is worked on.
use Rattle.std.proofs.Common.{◌≡◌, ◌⊎◌, inl, inr, ℕ, suc, List, ◌∷◌, Option, Some, None, IfSome, Result, Contains, refl, sym, ◌∙◌, ap, subst, arith}
use Rattle.compile_model.specs.declared.outcome.Outcome.{Outcome}
use Rattle.compile_model.specs.Content.{Content}
use Rattle.build_manifest.specs.MarkOf.{mark_of}
use Rattle.build_manifest.specs.Text.{Spells}
use Rattle.tree_store.specs.declared.holding.Holding.{Holding}
use Rattle.tree_store.specs.declared.store.StoreFault.{StoreFault}
use Rattle.tree_store.specs.FolderKnown.{FolderKnown, IsUnmarked, StopsIn, Writes}
use Rattle.tree_store.specs.Holding.{only_files}
use Rattle.tree_store.specs.Moment.{Part, IsImage, leaves}
use Rattle.tree_store.specs.Moment.Write.{Unmark, Clear, Mark}
use Rattle.tree_store.specs.Moment.Part.{Whole, Untouched, Gone, Begun, Those}
use Rattle.tree_store.proofs.MomentLemmas.{if_told, told_has, stops_at_write, stops_end, stops_still, stops_then}
use Rattle.honest_tree.specs.Given.{Given, outcome_of}
use Rattle.honest_tree.specs.Honest.{IsHonest}
use Rattle.honest_tree.proofs.HonestLemmas.{marking_honest, more_holding, unmarked_honest}
use Rattle.partition_face.specs.Runs.{NeverMarks}
use Rattle.partition_crew.specs.Work.{IsAsBefore, StaysHonest}

pub stops_wider : (P Q : Holding → Type 0) (old new : FolderKnown) → ((image : Holding) → P image → Q image) → StopsIn P old new → StopsIn Q old new
stops_wider P Q old new wider stops = record {
  more = stops.more;
  told = stops.told;
  held = stops.held;
  key = stops.key;
  each = if_told old.held (λ held is image i.
      wider image (told_has (λ h. (image : Holding) → IsImage stops.more h image → P image) old.held held is stops.each image i));
}

first_among : (given : Given) (known : List Given) → Contains (given ∷ known) given
first_among given known = (0, omega arith, refl)

later_among : (one : Given) (known : List Given) (given : Given) → Contains known given → Contains (one ∷ known) given
later_among one known given c = (suc c.0, omega (arith, c.1), c.2)

-- ---- while the folder is emptied

unmark_part : (part : Part) (held : Holding) → (held ≡ leaves Unmark part held) ⊎ ((leaves Unmark part held).mark ≡ None)
unmark_part Whole held = inr refl
unmark_part Untouched held = inl refl
unmark_part Gone held = inr refl
unmark_part (Begun count) held = inl refl
unmark_part (Those stays) held = inl refl

unmark_as_before : (told : Option Holding) (held : Holding) → told ≡ Some held → (part : Part) → IsAsBefore told (leaves Unmark part held)
unmark_as_before told held is part =
    elim (unmark_part part held) [ inl same ↦ inl (is ∙ ap (λ (h : Holding). Some h) same) | inr none ↦ inr none ]

clear_keeps_mark : (part : Part) (held : Holding) → (leaves Clear part held).mark ≡ held.mark
clear_keeps_mark Whole held = refl
clear_keeps_mark Untouched held = refl
clear_keeps_mark Gone held = refl
clear_keeps_mark (Begun count) held = refl
clear_keeps_mark (Those stays) held = refl

pub stops_unmark : {X : Type 0} (a b : FolderKnown) (result : Result X StoreFault) → Writes Unmark a b result → StopsIn (IsAsBefore a.held) a b
stops_unmark a b result writes = stops_at_write (IsAsBefore a.held) Unmark a b result writes
    (if_told a.held (λ held is part. unmark_as_before a.held held is part))

pub stops_clear : {X : Type 0} (told : Option Holding) (b c : FolderKnown) (result : Result X StoreFault) → IsUnmarked b → Writes Clear b c result
    → StopsIn (IsAsBefore told) b c
stops_clear told b c result bare writes =
    stops_at_write (IsAsBefore told) Clear b c result writes
    (if_told b.held (λ held is part. inr (clear_keeps_mark part held ∙ told_has (λ h. h.mark ≡ None) b.held held is bare)))

pub never_clear : {X : Type 0} (b c : FolderKnown) (result : Result X StoreFault) → IsUnmarked b → Writes Clear b c result → NeverMarks b c
never_clear b c result bare writes =
    stops_at_write (λ h. h.mark ≡ None) Clear b c result writes
    (if_told b.held (λ held is part. clear_keeps_mark part held ∙ told_has (λ h. h.mark ≡ None) b.held held is bare))

-- ---- what stays honest

-- nothing was begun, or no mark stands
pub stops_before : (compile : Content → Outcome) (given : Given) (known : List Given) (a b : FolderKnown) → IfSome a.held (IsHonest compile known)
    → StopsIn (IsAsBefore a.held) a b → StopsIn (IsHonest compile (given ∷ known)) a b
stops_before compile given known a b honest stops = stops_wider (IsAsBefore a.held) (IsHonest compile (given ∷ known)) a b at stops
  where
    at : (image : Holding) → IsAsBefore a.held image → IsHonest compile (given ∷ known) image
    at image (inl same) =
        more_holding compile known (given ∷ known) image (later_among given known) (told_has (IsHonest compile known) a.held image same honest)
    at image (inr none) = unmarked_honest compile (given ∷ known) image none

pub stops_never : (compile : Content → Outcome) (known : List Given) (a b : FolderKnown) → NeverMarks a b → StopsIn (IsHonest compile known) a b
stops_never compile known a b never = stops_wider (λ h. h.mark ≡ None) (IsHonest compile known) a b (unmarked_honest compile known) never

pub stops_look : (compile : Content → Outcome) (known : List Given) (a b : FolderKnown) → IsUnmarked a → b ≡ record a { faults = b.faults }
    → StopsIn (IsHonest compile known) a b
stops_look compile known a b bare same =
    stops_still (IsHonest compile known) a b same (if_told a.held (λ held is. unmarked_honest compile known held
    (told_has (λ h. h.mark ≡ None) a.held held is bare)))

-- while the mark of an input is written beside its outcome's files
pub stops_marking : {X : Type 0} (compile : Content → Outcome) (given : Given) (known : List Given) (outcome : Outcome) (bytes : List ℕ) (a b : FolderKnown)
    (result : Result X StoreFault)
    → IsUnmarked a → Spells bytes (mark_of given.job given.needs outcome) → outcome.status ≡ 0
    → IfSome a.held (λ held. (held.files ≡ outcome.files) × (outcome ≡ outcome_of compile given)) → Writes (Mark bytes) a b result
    → StopsIn (IsHonest compile (given ∷ known)) a b
stops_marking compile given known outcome bytes a b result bare spells built meant writes =
    stops_at_write (IsHonest compile (given ∷ known)) (Mark bytes) a b result writes
    (if_told a.held (λ held is part. at held (told_has (λ h. h.mark ≡ None) a.held held is bare)
    (told_has (λ h. (h.files ≡ outcome.files) × (outcome ≡ outcome_of compile given)) a.held held is meant) part))
  where
    at : (held : Holding) → held.mark ≡ None → (held.files ≡ outcome.files) × (outcome ≡ outcome_of compile given) → (part : Part)
        → IsHonest compile (given ∷ known) (leaves (Mark bytes) part held)
    at held none is part =
        let files : held.files ≡ (outcome_of compile given).files = is.0 ∙ ap (λ (o : Outcome). o.files) is.1 in
        let own : held ≡ only_files (outcome_of compile given).files =
        ap (λ (m : Option (List ℕ)). record { files = held.files; mark = m }) none ∙ ap only_files files in
        subst (λ (h : Holding). IsHonest compile (given ∷ known) (leaves (Mark bytes) part h)) (sym own)
        (marking_honest compile (given ∷ known) given (first_among given known) (ap (λ (o : Outcome). o.status) (sym is.1) ∙ built) bytes
        (mark_of given.job given.needs outcome) spells
        (inr (ap (mark_of given.job given.needs) is.1)) part)

-- what stays honest wherever a stop comes is honest in the end
pub stays_honest : (compile : Content → Outcome) (given : Given) (a b : FolderKnown)
    → ((known : List Given) → IfSome a.held (IsHonest compile known) → StopsIn (IsHonest compile (given ∷ known)) a b) → StaysHonest compile given a b
stays_honest compile given a b stops = record {
  stops = stops;
  ends = λ known honest. stops_end (IsHonest compile (given ∷ known)) a b (stops known honest);
}

-- it was emptied, and then what came wrote no mark, or one that is honest
pub stays_then : (compile : Content → Outcome) (given : Given) (a b c : FolderKnown) → StopsIn (IsAsBefore a.held) a b
    → ((known : List Given) → StopsIn (IsHonest compile (given ∷ known)) b c) → StaysHonest compile given a c
stays_then compile given a b c before rest = stays_honest compile given a c (λ known honest.
    stops_then (IsHonest compile (given ∷ known)) a b c (stops_before compile given known a b honest before) (rest known))
