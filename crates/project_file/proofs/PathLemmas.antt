-- Where manifests lie.
use Rattle.std.proofs.Common.{◌≡◌, ℕ, suc, ◌+◌, Bool, true, false, not, cond, IsFalse, List, [], ◌∷◌, ◌++◌, take, refl, sym, ◌∙◌, ap, append_assoc, codes, bytes_eq, arith}
use Rattle.std.specs.List.{position_or_len}
use Rattle.mx_base.specs.Path.{is_slash, first_segment}
use Rattle.mx_base.specs.Layout.{is_in_build}
use Rattle.project_file.specs.Files.{manifest_at}

one_more : (n : ℕ) (b : ℕ) (bs : List ℕ) → take (1 + n) (b ∷ bs) ≡ b ∷ take n bs
one_more n b bs = let e : 1 + n ≡ suc n = omega arith in ap (λ (k : ℕ). take k (b ∷ bs)) e

kept_at : (b : ℕ) (xs ys : List ℕ) (n m : ℕ) (t : Bool) → take n xs ≡ take m ys → take (cond (not t) (1 + n) 0) (b ∷ xs) ≡ take (cond (not t) (1 + m) 0) (b ∷ ys)
kept_at b xs ys n m true same = refl
kept_at b xs ys n m false same = one_more n b xs ∙ ap (λ (more : List ℕ). b ∷ more) same ∙ sym (one_more m b ys)

-- what stands below a folder has the folder's first segment
first_kept : (dir rest : List ℕ) → first_segment (dir ++ 47 ∷ rest) ≡ first_segment dir
first_kept [] rest = refl
first_kept (b ∷ bs) rest =
    kept_at b (bs ++ 47 ∷ rest) bs (position_or_len is_slash (bs ++ 47 ∷ rest)) (position_or_len is_slash bs) (is_slash b) (first_kept bs rest)

-- a manifest is in the folder of builds where its folder is
manifest_outside : (dir : List ℕ) → is_in_build (manifest_at dir) ≡ is_in_build dir
manifest_outside [] = refl
manifest_outside (b ∷ bs) =
    ap is_in_build (append_assoc (b ∷ bs) (47 ∷ []) (codes "project.exs"))
    ∙ ap (λ (segment : List ℕ). bytes_eq segment (codes "_build")) (first_kept (b ∷ bs) (codes "project.exs"))

-- the manifest of a folder outside of the builds lies outside of them
pub place_outside : (dir path : List ℕ) → path ≡ manifest_at dir → IsFalse (is_in_build dir) → IsFalse (is_in_build path)
place_outside dir path is out = ap is_in_build is ∙ manifest_outside dir ∙ out
