-- Partitions that never die.
use Rattle.std.proofs.Common.{◌≡◌, Option, Some, None, IfSome, List, [], option_map, ◌∙◌, ap}
use Rattle.mx_base.specs.declared.file.File.{File}
use Rattle.mx_base.specs.Order.{AreInOrder}
use Rattle.compile_model.specs.declared.outcome.Outcome.{Outcome}
use Rattle.compile_model.specs.declared.outcome.Verdict.{Verdict}
use Rattle.tree_store.specs.declared.holding.Holding.{Holding}
use Rattle.tree_store.specs.FolderKnown.{FolderKnown, IsBare}
use Rattle.tree_store.specs.Files.{put_all}
use Rattle.tree_store.specs.Holding.{only_files, with_all}
use Rattle.tree_store.proofs.FilesLemmas.{put_all_in_order}
use Rattle.partition_face.specs.declared.counts.Counts.{Counts}
use Rattle.partition_face.specs.declared.lasting_partition.LastingPartition.{LastingPartition}
use Rattle.partition_face.specs.Runs.{IsVerdictOf}

-- what they have counted
abbrev pub seen : {C : Type 0} → LastingPartition C → Counts
seen partition = record { runs = partition.runs; deaths = 0 }

-- files in order that were put where nothing was held
just_these : (files : List File) (held : Holding) → AreInOrder files → (held.files ≡ []) × (held.mark ≡ None) → with_all files held ≡ only_files files
just_these files held order bare =
    (λ i. record { files = put_all (bare.0 i) files; mark = bare.1 i }) ∙ ap only_files (put_all_in_order files order)

-- an outcome's files were put into an empty folder
pub verdict_of : (outcome : Outcome) (old new : FolderKnown) (verdict : Verdict) (files : List File) → IsBare old → files ≡ outcome.files → AreInOrder outcome.files →
    new.held ≡ option_map (with_all files) old.held → verdict.status ≡ outcome.status → verdict.text ≡ outcome.text → IfSome old.held (λ _. IsVerdictOf outcome new verdict)
verdict_of outcome old new verdict files bare are order put status text =
    at old.held bare (put ∙ ap (λ (fs : List File). option_map (with_all fs) old.held) are)
  where
    at : (told : Option Holding) → IfSome told (λ held. (held.files ≡ []) × (held.mark ≡ None)) → new.held ≡ option_map (with_all outcome.files) told →
        IfSome told (λ _. IsVerdictOf outcome new verdict)
    at None bare put = tt
    at (Some held) bare put = record {
      status = status;
      text = text;
      files = λ _. put ∙ ap (λ (h : Holding). Some h) (just_these outcome.files held order bare);
    }
