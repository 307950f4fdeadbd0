-- What a text at a path says.
use Rattle.std.proofs.Common.{◌≡◌, ℕ, List, Option, Some, None, IfSome, subst}
use Rattle.mx_base.specs.declared.file.File.{File}
use Rattle.mx_base.specs.Order.{bytes_at}
use Rattle.tree_store.specs.Known.{Known}
use Rattle.project_file.specs.Files.{IsOfText}

-- where a store tells its files, the answer is what the file's text says
pub told_of : {A : Type 0} (known : Known) (path : List ℕ) (Says : Option (List ℕ) → A → Type 0) (answer : A) → IsOfText known path Says answer → IfSome known.sources (λ files. Says (bytes_at path files) answer)
told_of {A = A} known path Says answer of = at known.sources of.in_file
  where
    at : (sources : Option (List File)) → IfSome sources (λ files. of.text ≡ bytes_at path files) → IfSome sources (λ files. Says (bytes_at path files) answer)
    at None found = tt
    at (Some files) found = let Is : Option (List ℕ) → Type 0 = λ text. Says text answer in subst Is found of.says
