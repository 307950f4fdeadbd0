-- Files that are found by name.
use Rattle.std.proofs.Common.{◌≡◌, ℕ, Bool, true, false, ◌||◌, cond, List, [], ◌∷◌, find, Some, is_some, option_map, refl, sym, ◌∙◌, bytes_eq}
use Rattle.std.specs.List.{list_any}
use Rattle.std.specs.Ordering.{is_eq}
use Rattle.std.specs.Cmp.Lexicographic.{texts_ties}
use Rattle.std.proofs.lemmas.Cmp.{nat_list_eq_equiv}
use Rattle.mx_base.specs.declared.file.File.{File}
use Rattle.mx_base.specs.Order.{text_cmp, bytes_at}

abbrev is_at : List ℕ → File → Bool
is_at name file = is_eq (text_cmp name file.path)

compared : (name : List ℕ) (file : File) → is_at name file ≡ bytes_eq file.path name
compared name file = sym (texts_ties name file.path) ∙ nat_list_eq_equiv.symm name file.path

-- some file has the name where a file is found at it
pub has_named : (name : List ℕ) (files : List File) → list_any (λ file. bytes_eq file.path name) files ≡ is_some (bytes_at name files)
has_named name [] = refl
has_named name (f ∷ fs) = at (bytes_eq f.path name) (is_at name f) (compared name f) (has_named name fs)
  where
    at : (b c : Bool) → c ≡ b → list_any (λ (file : File). bytes_eq file.path name) fs ≡ is_some (bytes_at name fs) → (b || list_any (λ (file : File). bytes_eq file.path name) fs) ≡ is_some (option_map (λ (file : File). file.bytes) (cond c (Some f) (find (is_at name) fs)))
    at true true e rest = refl
    at true false e rest = cc
    at false true e rest = cc
    at false false e rest = rest
