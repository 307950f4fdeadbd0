-- Trees whose marks tell what they were made from.
use Rattle.std.specs.Prelude.{◌≡◌, ◌⊎◌, ℕ, List, Some, None, Contains}
use Rattle.compile_model.specs.declared.outcome.Outcome.{Outcome}
use Rattle.compile_model.specs.Content.{Content}
use Rattle.build_manifest.specs.declared.mark.MarkFormat.TheVariants.{One}
use Rattle.build_manifest.specs.Mark.{MarkView}
use Rattle.build_manifest.specs.MarkOf.{mark_in, mark_of}
use Rattle.build_manifest.specs.Text.{Spells}
use Rattle.tree_store.specs.declared.holding.Holding.{Holding}
use Rattle.tree_store.specs.declared.key.BuildKey.{BuildKey}
use Rattle.tree_store.specs.Slot.{Slot}
use Rattle.tree_store.specs.Slot.Slot.{Here, Out}
use Rattle.honest_tree.specs.Given.{Given, description, outcome_of}

-- the mark of an input and its outcome, in the first form
abbrev pub older_mark : Given → Outcome → MarkView
older_mark given outcome = mark_in One (description given) outcome.rows outcome.text

-- the mark of an input and its outcome, in either form
abbrev pub IsMarkOf : Given → Outcome → MarkView → Type 0
IsMarkOf given outcome mark = (mark ≡ older_mark given outcome) ⊎ (mark ≡ mark_of given.job given.needs outcome)

-- what is held was made from this input: it was built, the mark is its own, and the files are its outcome's
pub record IsMadeFrom (compile : Content → Outcome) (given : Given) (held : Holding) (mark : MarkView) : Type 0 where
  pub built : (outcome_of compile given).status ≡ 0
  pub own : IsMarkOf given (outcome_of compile given) mark
  pub files : held.files ≡ (outcome_of compile given).files

-- where the mark reads, what is held was made from one of these inputs
abbrev pub IsHonest : (Content → Outcome) → List Given → Holding → Type 0
IsHonest compile known held = (bytes : List ℕ) (mark : MarkView) → held.mark ≡ Some bytes → Spells bytes mark →
    (given : Given) × Contains known given × IsMadeFrom compile given held mark

-- the same of a build, where it tells what it holds
abbrev pub IsHonestSlot : (Content → Outcome) → List Given → Slot → Type 0
IsHonestSlot compile known (Here (Some held)) = IsHonest compile known held
IsHonestSlot compile known (Here None) = Unit {0}
IsHonestSlot compile known Out = Unit {0}

-- each build by itself
abbrev pub Honest : (Content → Outcome) → List Given → (BuildKey → Slot) → Type 0
Honest compile known slots = (q : BuildKey) → IsHonestSlot compile known (slots q)
