-- Honest folders.
use Rattle.std.proofs.Common.{◌≡◌, ℕ, List, [], ◌++◌, take, drop, Some, None, Contains, refl, sym, ◌∙◌, ap, subst}
use Rattle.std.proofs.lemmas.List.{take-append-drop, append-nil}
use Rattle.mx_base.specs.declared.file.File.{File}
use Rattle.compile_model.specs.declared.outcome.Outcome.{Outcome}
use Rattle.compile_model.specs.Content.{Content}
use Rattle.build_manifest.specs.Mark.{MarkView}
use Rattle.build_manifest.specs.Text.{IsSpelled, Spells}
use Rattle.build_manifest.proofs.Whole.{one_mark, no_mark_begins_another}
use Rattle.tree_store.specs.declared.holding.Holding.{Holding}
use Rattle.tree_store.specs.declared.key.BuildKey.{BuildKey}
use Rattle.tree_store.specs.Holding.{marked, only_files}
use Rattle.tree_store.specs.Moment.{Part, leaves}
use Rattle.tree_store.specs.Moment.Write.{Mark}
use Rattle.tree_store.specs.Moment.Part.{Whole, Untouched, Gone, Begun, Those}
use Rattle.tree_store.specs.Slot.{Slot}
use Rattle.tree_store.specs.Slot.Slot.{Here, Out}
use Rattle.honest_tree.specs.Given.{Given, outcome_of}
use Rattle.honest_tree.specs.Honest.{Honest, IsHonest, IsHonestSlot, IsMarkOf}

abbrev Bytes : Type 0
Bytes = List ℕ

pub same_bytes : (a b : Bytes) → Some a ≡ Some b → a ≡ b
same_bytes a b e = cc

pub more_holding : (compile : Content → Outcome) (known more : List Given) (held : Holding) →
    ((given : Given) → Contains known given → Contains more given) → IsHonest compile known held → IsHonest compile more held
more_holding compile known more held among honest bytes mark stands spells =
    let made = honest bytes mark stands spells in (made.0, among made.0 made.1, made.2)

more_slot : (compile : Content → Outcome) (known more : List Given) (slot : Slot) → ((given : Given) → Contains known given → Contains more given) →
    IsHonestSlot compile known slot → IsHonestSlot compile more slot
more_slot compile known more (Here None) among honest = tt
more_slot compile known more (Here (Some held)) among honest = more_holding compile known more held among honest
more_slot compile known more Out among honest = tt

pub more_tree : (compile : Content → Outcome) (known more : List Given) (slots : BuildKey → Slot) →
    ((given : Given) → Contains known given → Contains more given) → Honest compile known slots → Honest compile more slots
more_tree compile known more slots among honest q = more_slot compile known more (slots q) among (honest q)

pub unmarked_honest : (compile : Content → Outcome) (known : List Given) (held : Holding) → held.mark ≡ None → IsHonest compile known held
unmarked_honest compile known held none bytes mark stands spells = let clash : None ≡ Some bytes = sym none ∙ stands in cc

pub unread_honest : (compile : Content → Outcome) (known : List Given) (held : Holding) (bytes : Bytes) → held.mark ≡ Some bytes → (IsSpelled bytes → ⊥) →
    IsHonest compile known held
unread_honest compile known held bytes stands unread other mark stands' spells =
    absurd (unread (mark, subst (λ (b : Bytes). Spells b mark) (sym (same_bytes bytes other (sym stands ∙ stands'))) spells))

-- a beginning of a mark's text that is a mark's text is all of it
whole_text : (bytes : Bytes) (n : ℕ) (mark other : MarkView) → Spells bytes mark → Spells (take n bytes) other → take n bytes ≡ bytes
whole_text bytes n mark other spells begun =
    let parts : take n bytes ++ drop n bytes ≡ bytes = take-append-drop n bytes in
    let rest : drop n bytes ≡ [] =
    no_mark_begins_another (take n bytes) (drop n bytes) other mark begun (subst (λ (b : Bytes). Spells b mark) (sym parts) spells) in
    sym (append-nil (take n bytes)) ∙ ap (λ (b : Bytes). take n bytes ++ b) (sym rest) ∙ parts

-- files of an outcome with a text that is its mark's, or none
module _ (compile : Content → Outcome) (known : List Given) (given : Given) (among : Contains known given) (built : (outcome_of compile given).status ≡ 0)
    (bytes : Bytes) (mark : MarkView) (spells : Spells bytes mark) (own : IsMarkOf given (outcome_of compile given) mark) where
  abbrev files : List File
  files = (outcome_of compile given).files

  text_honest : (text : Bytes) → ((other : MarkView) → Spells text other → text ≡ bytes) → IsHonest compile known (marked text (only_files files))
  text_honest text is other read stands says =
      let same : text ≡ other = same_bytes text other stands in
      let whole : other ≡ bytes = sym same ∙ is read (subst (λ (b : Bytes). Spells b read) (sym same) says) in
      let one : read ≡ mark = one_mark bytes read mark (subst (λ (b : Bytes). Spells b read) whole says) spells in
      (given, among, record { built = built; own = subst (λ (m : MarkView). IsMarkOf given (outcome_of compile given) m) (sym one) own; files = refl })

  at : (part : Part) → IsHonest compile known (leaves (Mark bytes) part (only_files files))
  at Whole = text_honest bytes (λ other says. refl)
  at Untouched = unmarked_honest compile known (only_files files) refl
  at Gone = unmarked_honest compile known (only_files files) refl
  at (Begun n) = text_honest (take n bytes) (λ other says. whole_text bytes n mark other spells says)
  at (Those stays) = unmarked_honest compile known (only_files files) refl

pub marking_honest : (compile : Content → Outcome) (known : List Given) (given : Given) → Contains known given → (outcome_of compile given).status ≡ 0 →
    (bytes : Bytes) (mark : MarkView) → Spells bytes mark → IsMarkOf given (outcome_of compile given) mark → (part : Part) →
    IsHonest compile known (leaves (Mark bytes) part (only_files (outcome_of compile given).files))
marking_honest compile known given among built bytes mark spells own part = at compile known given among built bytes mark spells own part
