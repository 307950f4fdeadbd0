-- Names and paths have no newline, so a newline ends them.
use Rattle.std.proofs.Common.{◌≡◌, ℕ, ◌<◌, Bool, true, false, cond, ◌||◌, ◌&&◌, not, List, [], ◌∷◌, ◌++◌, length, get_or, refl, sym, ap, ◌∙◌, arith, ⊎_elim, append_assoc, append-nil, length-append}
use Rattle.std.specs.Prelude.{IsTrue, nat_lt}
use Rattle.std.specs.List.{list_all, list_any, onto_first, slice_split}
use Rattle.std.proofs.lemmas.Bool.{eqb-true}
use Rattle.std.proofs.lemmas.List.{get_or-append-add}
use Rattle.std.proofs.lemmas.List.Folds.{list_any-append}
use Rattle.mx_base.specs.AppName.{IsAppName, fits_at}
use Rattle.mx_base.specs.Path.{is_outside, is_path, is_refused, is_segment, is_slash}
use Rattle.mx_base.proofs.PathLemmas.{both, clean_segment, is_clean}
use Rattle.reading.specs.Field.{TellsItsEnd}
use Rattle.build_manifest.specs.Fields.{ended}
use Rattle.reading.proofs.Lists.{GoesFurther, one_goes_further, same_head}

-- ---- what has no newline ends where one stands

abbrev pub HasNoBreak : List ℕ → Type 0
HasNoBreak text = (front more : List ℕ) → text ≡ front ++ 10 ∷ more → ⊥

same_line : (a b x y between : List ℕ) → HasNoBreak a → a ≡ b ++ between → 10 ∷ y ≡ between ++ 10 ∷ x → a ≡ b
same_line a b x y [] none front back = front ∙ append-nil b
same_line a b x y (c ∷ between) none front back =
    absurd (none b between (front ∙ ap (λ d. b ++ d ∷ between) (sym (same_head 10 c y (between ++ 10 ∷ x) back))))

pub line_tells : (Fits : List ℕ → Type 0) → ((text : List ℕ) → Fits text → HasNoBreak text) → TellsItsEnd ended Fits
line_tells Fits none a b x y fa fb e =
    let cut = sym (append_assoc a (10 ∷ []) x) ∙ e ∙ append_assoc b (10 ∷ []) y in
    ⊎_elim (λ (h : GoesFurther a (10 ∷ x) b (10 ∷ y)). same_line a b x y h.0 (none a fa) h.1 h.2)
    (λ (h : GoesFurther b (10 ∷ y) a (10 ∷ x)). sym (same_line b a y x h.0 (none b fb) h.1 h.2))
    (one_goes_further a (10 ∷ x) b (10 ∷ y) cut)

-- ---- names

no_and : (t : Bool) → (t && false && true) ≡ false
no_and true = refl
no_and false = refl

no_break_fits : (k : ℕ) → fits_at k 10 ≡ false
no_break_fits k = no_and (nat_lt 0 k)

pub name_has_no_break : (name : List ℕ) → IsAppName name → HasNoBreak name
name_has_no_break name is front more e =
    let within : length front < length name = omega (arith, ap length e, length-append front (10 ∷ more)) in
    let byte : get_or name (length front) 0 ≡ 10 =
    ap (λ t. get_or t (length front) 0) e ∙ ap (λ n. get_or (front ++ 10 ∷ more) n 0) (omega arith) ∙ get_or-append-add front (10 ∷ more) 0 0 in
    let fits = is.bytes (length front) within in
    cc (fits, ap (fits_at (length front)) byte, no_break_fits (length front))

-- ---- paths

either : (a b : Bool) → (a || b) ≡ false → (a ≡ false) × (b ≡ false)
either true b e = cc
either false b e = (refl, e)

not_true : (b : Bool) → not b ≡ true → b ≡ false
not_true true e = cc
not_true false e = refl

pub from_onto : (b : ℕ) (parts : List (List ℕ)) → list_all is_clean (onto_first b parts) ≡ true → (is_outside b ≡ false) × (list_all is_clean parts ≡ true)
from_onto b [] e = ((either (is_outside b) false (not_true (is_outside b || false) (both (not (is_outside b || false)) true e).0)).0, refl)
from_onto b (part ∷ parts) e =
    let first = both (not (is_outside b || list_any is_outside part)) (list_all is_clean parts) e in
    let own = either (is_outside b) (list_any is_outside part) (not_true (is_outside b || list_any is_outside part) first.0) in
    (own.0, ap (λ t. not t && list_all is_clean parts) own.1 ∙ first.1)

slash_is_let : (b : ℕ) → is_slash b ≡ true → is_refused b ≡ false
slash_is_let b e = rw (eqb-true b 47 e) refl

or_false : (a b : Bool) → a ≡ false → b ≡ false → (a || b) ≡ false
or_false a b e f = rw (e, f) refl

none_refused : (text : List ℕ) → list_all is_clean (slice_split is_slash text) ≡ true → list_any is_refused text ≡ false
none_refused [] e = refl
none_refused (b ∷ bs) e = at (is_slash b) refl (none_refused bs) e
  where
    at : (t : Bool) → is_slash b ≡ t → (list_all is_clean (slice_split is_slash bs) ≡ true → list_any is_refused bs ≡ false)
        → list_all is_clean (cond t ([] ∷ slice_split is_slash bs) (onto_first b (slice_split is_slash bs))) ≡ true → list_any is_refused (b ∷ bs) ≡ false
    at true slash rest all = or_false (is_refused b) (list_any is_refused bs) (slash_is_let b slash) (rest all)
    at false other rest all =
        let parts = from_onto b (slice_split is_slash bs) all in
        or_false (is_refused b) (list_any is_refused bs) (either (is_slash b) (is_refused b) parts.0).1 (rest parts.1)

pub clean_all : (names : List (List ℕ)) → list_all is_segment names ≡ true → list_all is_clean names ≡ true
clean_all [] e = refl
clean_all (name ∷ names) e =
    let parts = both (is_segment name) (list_all is_segment names) e in
    rw (clean_segment name parts.0) (clean_all names parts.1)

clean_path : (path : List ℕ) → is_path path ≡ true → list_any is_refused path ≡ false
clean_path [] e = refl
clean_path (b ∷ bs) e = none_refused (b ∷ bs) (clean_all (slice_split is_slash (b ∷ bs)) e)

or_true : (a : Bool) → (a || true) ≡ true
or_true true = refl
or_true false = refl

pub path_has_no_break : (path : List ℕ) → IsTrue (is_path path) → HasNoBreak path
path_has_no_break path is front more e =
    let refused : list_any is_refused (front ++ 10 ∷ more) ≡ true = list_any-append is_refused front (10 ∷ more) ∙ or_true (list_any is_refused front) in
    cc (clean_path path is, ap (list_any is_refused) e, refused)
