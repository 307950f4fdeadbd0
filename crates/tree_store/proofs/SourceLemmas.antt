-- What writes to all files do to those outside the folder of builds.
use Rattle.std.proofs.Common.{◌≡◌, ℕ, List, [], ◌∷◌, filter, Bool, true, false, not, cond, refl, sym, ◌∙◌, ap}
use Rattle.std.specs.declared.cmp.Ordering.{Ordering}
use Rattle.std.specs.declared.cmp.Ordering.TheVariants.{Less, Equal, Greater}
use Rattle.std.specs.Ordering.{match_ordering, is_eq}
use Rattle.std.proofs.lemmas.Cmp.{nat_list_cmp_total}
use Rattle.mx_base.specs.declared.file.File.{File}
use Rattle.mx_base.specs.Order.{text_cmp, IsBefore, AreInOrder, paths_of}
use Rattle.mx_base.specs.Layout.{is_in_build}
use Rattle.tree_store.specs.Files.{outside_build, put_file, without_file}
use Rattle.tree_store.proofs.OrderLemmas.{same_name}

abbrev stays : File → Bool
stays f = not (is_in_build f.path)

abbrev is_at : List ℕ → File → Bool
is_at path f = is_eq (text_cmp path f.path)

-- tests of which each is made may be made in any order
filters_commute : (p q : File → Bool) (files : List File) → filter p (filter q files) ≡ filter q (filter p files)
filters_commute p q [] = refl
filters_commute p q (f ∷ fs) = at (p f) (q f) refl refl (filters_commute p q fs)
  where
    at : (b c : Bool) → p f ≡ b → q f ≡ c → filter p (filter q fs) ≡ filter q (filter p fs) → filter p (cond c (f ∷ filter q fs) (filter q fs)) ≡ filter q (cond b (f ∷ filter p fs) (filter p fs))
    at true true is has rest =
        ap (λ (t : Bool). cond t (f ∷ filter p (filter q fs)) (filter p (filter q fs))) is ∙ ap (λ (gs : List File). f ∷ gs) rest
        ∙ sym (ap (λ (t : Bool). cond t (f ∷ filter q (filter p fs)) (filter q (filter p fs))) has)
    at true false is has rest = rest ∙ sym (ap (λ (t : Bool). cond t (f ∷ filter q (filter p fs)) (filter q (filter p fs))) has)
    at false true is has rest = ap (λ (t : Bool). cond t (f ∷ filter p (filter q fs)) (filter p (filter q fs))) is ∙ rest
    at false false is has rest = rest

pub removed_outside : (path : List ℕ) (files : List File) → outside_build (without_file path files) ≡ without_file path (outside_build files)
removed_outside path files = filters_commute stays (λ f. not (is_at path f)) files

-- a file that stands before all of these is put before those of them that stay
put_first : (file : File) (files : List File) → IsBefore file.path (paths_of files) → put_file file (outside_build files) ≡ file ∷ outside_build files
put_first file [] before = refl
put_first file (f ∷ fs) before = at (stays f) before.0 (put_first file fs before.1)
  where
    at : (b : Bool) → text_cmp file.path f.path ≡ Less → put_file file (outside_build fs) ≡ file ∷ outside_build fs → put_file file (cond b (f ∷ outside_build fs) (outside_build fs)) ≡ file ∷ cond b (f ∷ outside_build fs) (outside_build fs)
    at true less rest =
        ap (λ (r : Ordering). match_ordering r (file ∷ f ∷ outside_build fs) (record { path = f.path; bytes = file.bytes } ∷ outside_build fs) (f ∷ put_file file (outside_build fs))) less
    at false less rest = rest

before_all : (a b : List ℕ) (fs : List File) → text_cmp a b ≡ Less → IsBefore b (paths_of fs) → IsBefore a (paths_of fs)
before_all a b [] less before = tt
before_all a b (f ∷ fs) less before = (nat_list_cmp_total.trans a b f.path less before.0, before_all a b fs less before.1)

-- a file outside is put among those outside
pub put_outside : (path bytes : List ℕ) (files : List File) → AreInOrder files → is_in_build path ≡ false → outside_build (put_file (record { path = path; bytes = bytes }) files) ≡ put_file (record { path = path; bytes = bytes }) (outside_build files)
put_outside path bytes [] order out = ap (λ (b : Bool). cond b (record { path = path; bytes = bytes } ∷ []) []) (ap not out)
put_outside path bytes (f ∷ fs) order out = at (text_cmp path f.path) (stays f) refl refl (put_outside path bytes fs order.1 out)
  where
    file : File
    file = record { path = path; bytes = bytes }

    out_at : (gs : List File) → outside_build (file ∷ gs) ≡ file ∷ outside_build gs
    out_at gs = ap (λ (b : Bool). cond b (file ∷ outside_build gs) (outside_build gs)) (ap not out)

    kept : Bool → List File → List File
    kept b gs = cond b (f ∷ gs) gs

    at : (r : Ordering) (b : Bool) → text_cmp path f.path ≡ r → stays f ≡ b → outside_build (put_file file fs) ≡ put_file file (outside_build fs) →
        outside_build (match_ordering r (file ∷ f ∷ fs) (record { path = f.path; bytes = bytes } ∷ fs) (f ∷ put_file file fs)) ≡ put_file file (kept b (outside_build fs))
    at Less b is stay rest =
        out_at (f ∷ fs) ∙ ap (λ (c : Bool). file ∷ kept c (outside_build fs)) stay
        ∙ sym (ap (λ (c : Bool). put_file file (kept c (outside_build fs))) (sym stay) ∙ put_first file (f ∷ fs) (is, before_all path f.path fs is order.0) ∙ ap (λ (c : Bool). file ∷ kept c (outside_build fs)) stay)
    at Equal true is stay rest =
        ap (λ (c : Bool). cond c (record { path = f.path; bytes = bytes } ∷ outside_build fs) (outside_build fs)) stay
        ∙ sym (ap (λ (s : Ordering). match_ordering s (file ∷ f ∷ outside_build fs) (record { path = f.path; bytes = bytes } ∷ outside_build fs) (f ∷ put_file file (outside_build fs))) is)
    at Equal false is stay rest =
        let one = same_name path f.path (ap is_eq is) in
        let clash : true ≡ false = sym (ap not out) ∙ ap (λ (p : List ℕ). not (is_in_build p)) one ∙ stay in cc
    at Greater true is stay rest =
        ap (λ (c : Bool). kept c (outside_build (put_file file fs))) stay ∙ ap (λ (gs : List File). f ∷ gs) rest
        ∙ sym (ap (λ (s : Ordering). match_ordering s (file ∷ f ∷ outside_build fs) (record { path = f.path; bytes = bytes } ∷ outside_build fs) (f ∷ put_file file (outside_build fs))) is)
    at Greater false is stay rest = ap (λ (c : Bool). kept c (outside_build (put_file file fs))) stay ∙ rest
