-- What a store tells of its files.
use Rattle.std.proofs.Common.{List, Option, Some, None, IfSome, Result, Ok, Err}
use Rattle.mx_base.specs.Blame.{Blame, Answers}
use Rattle.mx_base.specs.declared.file.File.{File}
use Rattle.tree_store.specs.Known.{Known, Told}

-- an answer by what was found is what the files say, where the store tells that they have it
pub answers_told : {X E : Type 0} (blame : E → Blame) (known : Known) (Found : List File → Type 0) (Says : List File → Result X E → Type 0) (result : Result X E) → IfSome known.sources Found → ((files : List File) → Found files → Answers blame result (Says files)) → Answers blame result (Told known Says)
answers_told {X = X} {E = E} blame known Found Says result found says = at known.sources found
  where
    at : (told : Option (List File)) → IfSome told Found → Answers blame result (λ r. IfSome told (λ files. Says files r))
    at None found = nothing result
      where
        nothing : (r : Result X E) → Answers blame r (λ x. Unit {0})
        nothing (Ok x) = tt
        nothing (Err e) = λ input. tt
    at (Some files) found = says files found
