-- What is read of builds.
use Rattle.std.specs.Prelude.{◌≡◌, ℕ, List, Option, Some, None}
use Rattle.mx_base.specs.declared.file.File.{File}
use Rattle.mx_base.specs.Listing.{rows_of}
use Rattle.build_manifest.specs.Mark.{MarkView}
use Rattle.build_manifest.specs.Text.{IsSpelled, Spells}
use Rattle.staleness.specs.declared.kept.Kept.{Kept}
use Rattle.honest_tree.specs.KeptOf.{kept_with}

-- what holds of each kept entry, whatever the store tells
pub record IsWhole (kept : Kept) : Type 0 where
  pub built : kept.outcome.status ≡ 0
  pub listed : kept.outcome.rows ≡ kept.mark.outputs
  pub text : kept.outcome.text ≡ kept.mark.text

-- the mark whose text the bytes are, or none where they are that of none
abbrev pub IsMarkOf : List ℕ → Option MarkView → Type 0
IsMarkOf bytes (Some mark) = Spells bytes mark
IsMarkOf bytes None = IsSpelled bytes → ⊥

-- the same of a mark's bytes, where one stands
abbrev pub IsMarkIn : Option (List ℕ) → Option MarkView → Type 0
IsMarkIn (Some bytes) mark = IsMarkOf bytes mark
IsMarkIn None mark = mark ≡ None

-- the mark with the outcome of these files, or none where it doesn't list them
abbrev pub IsKeptWith : MarkView → List File → Option Kept → Type 0
IsKeptWith mark files (Some kept) = (mark.outputs ≡ rows_of files) × (kept ≡ kept_with mark files)
IsKeptWith mark files None = mark.outputs ≡ rows_of files → ⊥
