-- Marks that are replaced.
use Rattle.std.proofs.Common.{◌≡◌, inl, inr, ℕ, Bool, Option, Some, None, IfSome, List, Contains, option_map, Result, refl, sym, ◌∙◌, ap, subst}
use Rattle.mx_base.specs.declared.file.File.{File}
use Rattle.compile_model.specs.declared.outcome.Outcome.{Outcome}
use Rattle.compile_model.specs.Content.{Content}
use Rattle.build_manifest.specs.Mark.{MarkView}
use Rattle.build_manifest.specs.MarkOf.{mark_of, upgraded}
use Rattle.tree_store.specs.declared.holding.Holding.{Holding}
use Rattle.tree_store.specs.declared.store.StoreFault.{StoreFault}
use Rattle.tree_store.specs.FolderKnown.{FolderKnown, Looks, StopsIn, Writes}
use Rattle.tree_store.specs.Holding.{marked, only_files, unmarked}
use Rattle.tree_store.specs.Moment.{IsImage, Part, leaves}
use Rattle.tree_store.specs.Moment.Part.{Whole, Untouched, Gone, Begun, Those}
use Rattle.tree_store.specs.Moment.Write.{Mark, Unmark}
use Rattle.tree_store.specs.Moment.{after_all}
use Rattle.tree_store.specs.Slot.{Slot}
use Rattle.tree_store.specs.Slot.Slot.{Here, Out}
use Rattle.tree_store.proofs.MomentLemmas.{if_told, stops_at_write, stops_end, stops_still, stops_then, told_has}
use Rattle.honest_tree.specs.Given.{Given, outcome_of}
use Rattle.honest_tree.specs.Honest.{IsHonest, IsHonestSlot, IsMadeFrom, IsMarkOf}
use Rattle.honest_tree.proofs.HonestLemmas.{marking_honest}
use Rattle.kept_tree.specs.Rewriting.{IsRewritingAt, IsRewrittenAt, IsRewrittenIn, IsRenewal, IsReplacing, IsReplacingIn, IsRewriting, IsRewritingIn, IsTextIn}

unmark_replaces : (text : List ℕ) (held : Holding) (part : Part) → IsReplacing text held (leaves Unmark part held)
unmark_replaces text held Whole = inr (Untouched, refl)
unmark_replaces text held Untouched = inl refl
unmark_replaces text held Gone = inr (Untouched, refl)
unmark_replaces text held (Begun count) = inl refl
unmark_replaces text held (Those stays) = inl refl

pub unmark_stops : {X : Type 0} (text : List ℕ) (old new : FolderKnown) (result : Result X StoreFault) → Writes Unmark old new result →
    StopsIn (IsReplacingIn text old.held) old new
unmark_stops text old new result writes = stops_at_write (IsReplacingIn text old.held) Unmark old new result writes (each old.held)
  where
    each : (told : Option Holding) → IfSome told (λ held. (part : Part) → IsReplacingIn text told (leaves Unmark part held))
    each None = tt
    each (Some held) = unmark_replaces text held

pub mark_stops : {X : Type 0} (text : List ℕ) (old mid new : FolderKnown) (result : Result X StoreFault) →
    mid.held ≡ option_map (leaves Unmark Whole) old.held → Writes (Mark text) mid new result → StopsIn (IsReplacingIn text old.held) mid new
mark_stops text old mid new result gone writes =
    stops_at_write (IsReplacingIn text old.held) (Mark text) mid new result writes
    (subst (λ (t : Option Holding). IfSome t (λ held. (part : Part) → IsReplacingIn text old.held (leaves (Mark text) part held))) (sym gone) (each old.held))
  where
    each : (told : Option Holding) →
        IfSome (option_map (leaves Unmark Whole) told) (λ held. (part : Part) → IsReplacingIn text told (leaves (Mark text) part held))
    each None = tt
    each (Some held) = λ part. inr (part, refl)

pub replaced_by_both : (text : List ℕ) (told : Option Holding) →
    option_map (leaves (Mark text) Whole) (option_map (leaves Unmark Whole) told) ≡ option_map (marked text) told
replaced_by_both text None = refl
replaced_by_both text (Some held) = refl

stops_weaker : (P Q : Holding → Type 0) (old new : FolderKnown) → ((image : Holding) → P image → Q image) → StopsIn P old new → StopsIn Q old new
stops_weaker P Q old new weak stops = record {
  more = stops.more;
  told = stops.told;
  held = stops.held;
  key = stops.key;
  each = if_told old.held (λ held is image i. weak image
      (told_has (λ h. (image : Holding) → IsImage stops.more h image → P image) old.held held is stops.each image i));
}

replacing_rewrites : (text : List ℕ) (told : Option Holding) → IfSome told (λ held. IsTextIn held (Some text)) → (image : Holding) →
    IsReplacingIn text told image → IsRewritingIn told image
replacing_rewrites text None renews image is = tt
replacing_rewrites text (Some held) renews image is = inr (text, renews, is)

-- a mark was read, and then another text put in its place
pub rewriting_stops : (text : List ℕ) (old mid new : FolderKnown) (failed : Bool) → Looks old mid failed →
    IfSome old.held (λ held. IsTextIn held (Some text)) → StopsIn (IsReplacingIn text mid.held) mid new → StopsIn (IsRewritingIn old.held) old new
rewriting_stops text old mid new failed looks renews stops =
    stops_then (IsRewritingIn old.held) old mid new (stops_still (IsRewritingIn old.held) old mid looks.same (itself old.held))
    (stops_weaker (IsReplacingIn text mid.held) (IsRewritingIn old.held) mid new
    (λ image is. replacing_rewrites text old.held renews image (subst (λ (t : Option Holding). IsReplacingIn text t image) same is)) stops)
  where
    same : mid.held ≡ old.held
    same = ap (λ (f : FolderKnown). f.held) looks.same

    itself : (told : Option Holding) → IfSome told (IsRewritingIn told)
    itself None = tt
    itself (Some held) = inl refl

-- the second form of an input's mark is its mark
upgraded_own : (given : Given) (outcome : Outcome) (mark : MarkView) → IsMarkOf given outcome mark → upgraded mark ≡ mark_of given.job given.needs outcome
upgraded_own given outcome mark (inl is) = ap upgraded is
upgraded_own given outcome mark (inr is) = ap upgraded is

renewed_honest : (compile : Content → Outcome) (known : List Given) (held image : Holding) (text : List ℕ) → IsHonest compile known held →
    IsRenewal held text → (part : Part) → image ≡ leaves (Mark text) part (unmarked held) → IsHonest compile known image
renewed_honest compile known held image text honest renewal part is = at (honest renewal.bytes renewal.mark renewal.stands renewal.read)
  where
    at : (given : Given) × Contains known given × IsMadeFrom compile given held renewal.mark → IsHonest compile known image
    at (given, among, from) =
        subst (IsHonest compile known) (ap (λ (files : List File). leaves (Mark text) part (only_files files)) (sym from.files) ∙ sym is)
        (marking_honest compile known given among from.built text (upgraded renewal.mark) renewal.newer
        (inr (upgraded_own given (outcome_of compile given) renewal.mark from.own)) part)

pub rewriting_honest : (compile : Content → Outcome) (known : List Given) (held image : Holding) → IsHonest compile known held →
    IsRewriting held image → IsHonest compile known image
rewriting_honest compile known held image honest (inl same) = subst (IsHonest compile known) (sym same) honest
rewriting_honest compile known held image honest (inr (text, renewal, inl same)) = subst (IsHonest compile known) (sym same) honest
rewriting_honest compile known held image honest (inr (text, renewal, inr (part, is))) =
    renewed_honest compile known held image text honest renewal part is

-- ---- in a store

-- what stops leave in a folder is left of its build
pub rewriting_at : (first last : FolderKnown) (old new : Slot) → StopsIn (IsRewritingIn first.held) first last → Here first.held ≡ old →
    new ≡ Here last.held → IsRewritingAt old new
rewriting_at first last old new stops was is =
    subst (λ (s : Slot). IsRewritingAt s new) was (subst (λ (s : Slot). IsRewritingAt (Here first.held) s) (sym is)
    (at first.held last.held stops.held (stops_end (IsRewritingIn first.held) first last stops)))
  where
    at : (told now : Option Holding) → now ≡ option_map (after_all stops.more) told → IfSome now (IsRewritingIn told) → IsRewritingAt (Here told) (Here now)
    at None now is left = ap Here is
    at (Some held) None is left = cc
    at (Some held) (Some image) is left = left

pub rewritten_at : (told now : Option Holding) (old new : Slot) → IsRewrittenIn told now → Here told ≡ old → new ≡ Here now → IsRewrittenAt old new
rewritten_at told now old new rewritten was is =
    subst (λ (s : Slot). IsRewrittenAt s new) was (subst (λ (s : Slot). IsRewrittenAt (Here told) s) (sym is) rewritten)

pub rewriting_slot_honest : (compile : Content → Outcome) (known : List Given) (old new : Slot) → IsHonestSlot compile known old →
    IsRewritingAt old new → IsHonestSlot compile known new
rewriting_slot_honest compile known (Here (Some held)) (Here (Some image)) honest is = rewriting_honest compile known held image honest is
rewriting_slot_honest compile known (Here (Some held)) (Here None) honest is = tt
rewriting_slot_honest compile known (Here (Some held)) Out honest is = tt
rewriting_slot_honest compile known (Here None) new honest is = subst (IsHonestSlot compile known) (sym is) tt
rewriting_slot_honest compile known Out new honest is = subst (IsHonestSlot compile known) (sym is) tt
