-- The first path of which two listings say different things.
use Rattle.std.proofs.Common.{◌≡◌, ℕ, zero, suc, ◌+◌, ◌<◌, ◌≤◌, ◌⊎◌, inl, inr, Bool, true, false, cond, List, [], ◌∷◌, length, take, drop, get_or, Some, None, bytes_eq, refl, sym, ◌∙◌, ap, subst, arith}
use Rattle.std.specs.declared.cmp.Ordering.{Ordering}
use Rattle.std.specs.declared.cmp.Ordering.TheVariants.{Less, Equal, Greater}
use Rattle.std.specs.Ordering.{ordering_reverse, is_lt}
use Rattle.std.proofs.lemmas.Cmp.{nat_list_cmp_total, tied_itself}
use Rattle.std.proofs.lemmas.Map.Lookups.{exact_bytes}
use Rattle.std.proofs.lemmas.Slice.Eq.{bytes_eq-Decides}
use Rattle.mx_base.specs.declared.row.FileRow.{FileRow}
use Rattle.mx_base.specs.Order.{text_cmp, IsBefore}
use Rattle.mx_base.specs.Listing.{AreRowsInOrder, row_paths}
use Rattle.std.proofs.lemmas.List.{take_more_same}
use Rattle.std.proofs.lemmas.Option.{slice_get-get_or}
use Rattle.staleness.specs.Matching.{same_row}
use Rattle.staleness.specs.Report.{row_at, IsFirstChange}
use Rattle.staleness.proofs.DescribedLemmas.{row_is, row_itself}

-- two texts are one, or the test tells them apart
same_or_apart : (a b : List ℕ) → ((a ≡ b) × (bytes_eq a b ≡ true)) ⊎ (bytes_eq a b ≡ false)
same_or_apart a b = by_test (bytes_eq a b) refl
  where
    by_test : (t : Bool) → bytes_eq a b ≡ t → ((a ≡ b) × (bytes_eq a b ≡ true)) ⊎ (bytes_eq a b ≡ false)
    by_test true e = inl ((bytes_eq-Decides a b).0 e, e)
    by_test false e = inr e

not_itself : (a b : List ℕ) → text_cmp a b ≡ Less → a ≡ b → ⊥
not_itself a b less same =
    let h : text_cmp a b ≡ Equal = ap (text_cmp a) (sym same) ∙ tied_itself nat_list_cmp_total a in cc

before_more : (a b : List ℕ) (paths : List (List ℕ)) → text_cmp a b ≡ Less → IsBefore b paths → IsBefore a paths
before_more a b [] less before = tt
before_more a b (p ∷ ps) less before = (nat_list_cmp_total.trans a b p less before.0, before_more a b ps less before.1)

row_first : (path : List ℕ) (row : FileRow) (rows : List FileRow) → bytes_eq row.path path ≡ true → row_at path (row ∷ rows) ≡ Some row
row_first path row rows e = ap (λ (t : Bool). cond t (Some row) (row_at path rows)) e

row_later : (path : List ℕ) (row : FileRow) (rows : List FileRow) → bytes_eq row.path path ≡ false → row_at path (row ∷ rows) ≡ row_at path rows
row_later path row rows e = ap (λ (t : Bool). cond t (Some row) (row_at path rows)) e

-- no row has a path that stands before all of them
not_there : (path : List ℕ) (rows : List FileRow) → IsBefore path (row_paths rows) → row_at path rows ≡ None
not_there path [] before = refl
not_there path (row ∷ rows) before =
    elim (same_or_apart row.path path) [
      | inl same ↦ absurd (not_itself path row.path before.0 (sym same.0))
      | inr apart ↦ row_later path row rows apart ∙ not_there path rows before.1
    ]

before_both : (path : List ℕ) (row : FileRow) (rows : List FileRow) → text_cmp path row.path ≡ Less → IsBefore row.path (row_paths rows) →
    row_at path (row ∷ rows) ≡ None
before_both path row rows less before = not_there path (row ∷ rows) (less, before_more path row.path (row_paths rows) less before)

-- below the path the listings say the same
starts : (rows others : List FileRow) (path : List ℕ) → (row_at path rows ≡ row_at path others → ⊥) →
    ((other : List ℕ) → text_cmp other path ≡ Less → row_at other rows ≡ row_at other others) → IsFirstChange rows others path
starts rows others path differs same = record {
  differs = differs;
  first = λ other apart. by_order other apart (text_cmp path other) refl;
}
  where
    by_order : (other : List ℕ) → (row_at other rows ≡ row_at other others → ⊥) → (o : Ordering) → text_cmp path other ≡ o →
        (other ≡ path) ⊎ (text_cmp path other ≡ Less)
    by_order other apart Less e = inr e
    by_order other apart Equal e = inl (sym (exact_bytes path other e))
    by_order other apart Greater e = absurd (apart (same other (nat_list_cmp_total.antisymm other path ∙ ap ordering_reverse e)))

turned : (rows others : List FileRow) (path : List ℕ) → IsFirstChange others rows path → IsFirstChange rows others path
turned rows others path is = record { differs = λ e. is.differs (sym e); first = λ other apart. is.first other (λ e. apart (sym e)) }

-- one of them begins with a path that stands before all of the other's
lower : (row other : FileRow) (rows others : List FileRow) → IsBefore row.path (row_paths rows) → IsBefore other.path (row_paths others) →
    text_cmp row.path other.path ≡ Less → IsFirstChange (row ∷ rows) (other ∷ others) row.path
lower row other rows others a b less =
    starts (row ∷ rows) (other ∷ others) row.path
    (λ same. let here : Some row ≡ None = sym (row_first row.path row rows ((bytes_eq-Decides row.path row.path).1 refl)) ∙ same
    ∙ before_both row.path other others less b in cc)
    (λ path below. before_both path row rows below a
    ∙ sym (before_both path other others (nat_list_cmp_total.trans path row.path other.path below less) b))

-- both begin with one path
level : (row other : FileRow) (rows others : List FileRow) → IsBefore row.path (row_paths rows) → IsBefore other.path (row_paths others) →
    row.path ≡ other.path → (row ≡ other → ⊥) → IsFirstChange (row ∷ rows) (other ∷ others) other.path
level row other rows others a b same differ =
    starts (row ∷ rows) (other ∷ others) other.path
    (λ e. let here : Some row ≡ Some other = sym (row_first other.path row rows ((bytes_eq-Decides row.path other.path).1 same)) ∙ e
    ∙ row_first other.path other others ((bytes_eq-Decides other.path other.path).1 refl) in
    let is : row ≡ other = cc in differ is)
    (λ path below. before_both path row rows (ap (text_cmp path) same ∙ below) a ∙ sym (before_both path other others below b))

-- the lesser of the paths that two listings begin with
least : (row other : FileRow) (rows others : List FileRow) → IsBefore row.path (row_paths rows) → IsBefore other.path (row_paths others) →
    (row ≡ other → ⊥) → IsFirstChange (row ∷ rows) (other ∷ others) (cond (is_lt (text_cmp row.path other.path)) row.path other.path)
least row other rows others a b differ = by_order (text_cmp row.path other.path) refl
  where
    by_order : (o : Ordering) → text_cmp row.path other.path ≡ o → IsFirstChange (row ∷ rows) (other ∷ others) (cond (is_lt o) row.path other.path)
    by_order Less e = lower row other rows others a b e
    by_order Equal e = level row other rows others a b (exact_bytes row.path other.path e) differ
    by_order Greater e =
        turned (row ∷ rows) (other ∷ others) other.path
        (lower other row others rows b a (nat_list_cmp_total.antisymm other.path row.path ∙ ap ordering_reverse e))

-- only one of them has a row
alone : (row : FileRow) (rows : List FileRow) → IsBefore row.path (row_paths rows) → IsFirstChange (row ∷ rows) [] row.path
alone row rows a =
    starts (row ∷ rows) [] row.path
    (λ same. let here : Some row ≡ None = sym (row_first row.path row rows ((bytes_eq-Decides row.path row.path).1 refl)) ∙ same in cc)
    (λ path below. before_both path row rows below a)

-- behind a row that both begin with
past : (row : FileRow) (rows others : List FileRow) (path : List ℕ) → IsBefore row.path (row_paths rows) → IsBefore row.path (row_paths others) →
    IsFirstChange rows others path → IsFirstChange (row ∷ rows) (row ∷ others) path
past row rows others path a b is = record { differs = differs; first = first }
  where
    differs : row_at path (row ∷ rows) ≡ row_at path (row ∷ others) → ⊥
    differs e = elim (same_or_apart row.path path) [
      | inl same ↦
          is.differs (ap (λ (p : List ℕ). row_at p rows) (sym same.0) ∙ not_there row.path rows a
          ∙ sym (not_there row.path others b) ∙ ap (λ (p : List ℕ). row_at p others) same.0)
      | inr apart ↦ is.differs (sym (row_later path row rows apart) ∙ e ∙ row_later path row others apart)
    ]

    first : (other : List ℕ) → (row_at other (row ∷ rows) ≡ row_at other (row ∷ others) → ⊥) → (other ≡ path) ⊎ (text_cmp path other ≡ Less)
    first other ne = elim (same_or_apart row.path other) [
      | inl same ↦ absurd (ne (row_first other row rows same.1 ∙ sym (row_first other row others same.1)))
      | inr apart ↦ is.first other (λ e. ne (row_later other row rows apart ∙ e ∙ sym (row_later other row others apart)))
    ]

-- behind rows that both begin with
behind : (k : ℕ) (rows others : List FileRow) (path : List ℕ) → AreRowsInOrder rows → AreRowsInOrder others → take k rows ≡ take k others →
    (AreRowsInOrder (drop k rows) → AreRowsInOrder (drop k others) → IsFirstChange (drop k rows) (drop k others) path) → IsFirstChange rows others path
behind zero [] [] path a b e is = is a b
behind zero [] (y ∷ ys) path a b e is = is a b
behind zero (x ∷ xs) [] path a b e is = is a b
behind zero (x ∷ xs) (y ∷ ys) path a b e is = is a b
behind (suc k) [] [] path a b e is = is a b
behind (suc k) [] (y ∷ ys) path a b e is = cc
behind (suc k) (x ∷ xs) [] path a b e is = cc
behind (suc k) (x ∷ xs) (y ∷ ys) path a b e is =
    let head : x ≡ y = cc in
    let tail : take k xs ≡ take k ys = cc in
    subst (λ (row : FileRow). IsFirstChange (x ∷ xs) (row ∷ ys) path) head
    (past x xs ys path a.0 (subst (λ (row : FileRow). IsBefore row.path (row_paths ys)) (sym head) b.0) (behind k xs ys path a.1 b.1 tail is))

dropped : (rows : List FileRow) (k : ℕ) (d : FileRow) → k < length rows → drop k rows ≡ get_or rows k d ∷ drop (suc k) rows
dropped [] k d h = absurd (omega arith)
dropped (x ∷ []) zero d h = refl
dropped (x ∷ (y ∷ ys)) zero d h = refl
dropped (x ∷ xs) (suc k) d h = dropped xs k d (omega arith)

nothing_left : (rows : List FileRow) (k : ℕ) → length rows ≤ k → drop k rows ≡ []
nothing_left [] zero h = refl
nothing_left [] (suc k) h = refl
nothing_left (x ∷ xs) zero h = absurd (omega arith)
nothing_left (x ∷ xs) (suc k) h = nothing_left xs k (omega arith)

heads : (left others : List FileRow) (row other : FileRow) (rest more : List FileRow) → left ≡ row ∷ rest → others ≡ other ∷ more → (row ≡ other → ⊥) →
    AreRowsInOrder left → AreRowsInOrder others → IsFirstChange left others (cond (is_lt (text_cmp row.path other.path)) row.path other.path)
heads left others row other rest more e f differ a b =
    let p : AreRowsInOrder (row ∷ rest) = subst AreRowsInOrder e a in
    let q : AreRowsInOrder (other ∷ more) = subst AreRowsInOrder f b in
    subst (λ (xs : List FileRow). IsFirstChange xs others (cond (is_lt (text_cmp row.path other.path)) row.path other.path)) (sym e)
    (subst (λ (ys : List FileRow). IsFirstChange (row ∷ rest) ys (cond (is_lt (text_cmp row.path other.path)) row.path other.path)) (sym f)
    (least row other rest more p.0 q.0 differ))

-- the rows at a place differ, and those before it don't
pub change_at : (rows others : List FileRow) (k : ℕ) (d e : FileRow) → AreRowsInOrder rows → AreRowsInOrder others → take k rows ≡ take k others →
    k < length rows → k < length others → (get_or rows k d ≡ get_or others k e → ⊥) →
    IsFirstChange rows others (cond (is_lt (text_cmp (get_or rows k d).path (get_or others k e).path)) (get_or rows k d).path (get_or others k e).path)
change_at rows others k d e a b same within inside differ =
    behind k rows others (cond (is_lt (text_cmp (get_or rows k d).path (get_or others k e).path)) (get_or rows k d).path (get_or others k e).path) a b same
    (heads (drop k rows) (drop k others) (get_or rows k d) (get_or others k e) (drop (suc k) rows) (drop (suc k) others)
    (dropped rows k d within) (dropped others k e inside) differ)

lone : (left others : List FileRow) (row : FileRow) (rest : List FileRow) → left ≡ row ∷ rest → others ≡ [] →
    AreRowsInOrder left → AreRowsInOrder others → IsFirstChange left others row.path
lone left others row rest e f a b =
    let p : AreRowsInOrder (row ∷ rest) = subst AreRowsInOrder e a in
    subst (λ (xs : List FileRow). IsFirstChange xs others row.path) (sym e)
    (subst (λ (ys : List FileRow). IsFirstChange (row ∷ rest) ys row.path) (sym f) (alone row rest p.0))

-- one of them goes on where the other ends
pub change_past : (rows others : List FileRow) (k : ℕ) (d : FileRow) → AreRowsInOrder rows → AreRowsInOrder others → take k rows ≡ take k others →
    k < length rows → length others ≤ k → IsFirstChange rows others (get_or rows k d).path
change_past rows others k d a b same within ended =
    behind k rows others (get_or rows k d).path a b same
    (lone (drop k rows) (drop k others) (get_or rows k d) (drop (suc k) rows) (dropped rows k d within) (nothing_left others k ended))

differ : (rows others : List FileRow) (k : ℕ) (row other : FileRow) → k < length rows → k < length others → row ≡ get_or rows k row →
    other ≡ get_or others k other → same_row row other ≡ false → get_or rows k row ≡ get_or others k other → ⊥
differ rows others k row other within inside is are test e =
    let same : row ≡ other = is ∙ e ∙ sym are in
    let h : same_row row other ≡ true = ap (same_row row) (sym same) ∙ row_itself row in cc

there : (xs : List FileRow) (k : ℕ) (d e : FileRow) → k < length xs → get_or xs k d ≡ get_or xs k e
there xs k d e h = let s : Some (get_or xs k d) ≡ Some (get_or xs k e) = sym (slice_get-get_or xs k d h) ∙ slice_get-get_or xs k e h in cc

-- the rows at a place differ, as a test says
pub change_here : (rows others : List FileRow) (k : ℕ) (row other x y : FileRow) (path : List ℕ) → AreRowsInOrder rows → AreRowsInOrder others →
    take k rows ≡ take k others → k < length rows → k < length others → row ≡ get_or rows k row → other ≡ get_or others k other →
    same_row row other ≡ false →
    path ≡ cond (is_lt (text_cmp (get_or rows k x).path (get_or others k y).path)) (get_or rows k x).path (get_or others k y).path →
    IsFirstChange rows others path
change_here rows others k row other x y path a b same within inside is are test e =
    subst (IsFirstChange rows others) (sym e)
    (change_at rows others k x y a b same within inside
    (λ f. differ rows others k row other within inside is are test (there rows k row x within ∙ f ∙ there others k y other inside)))

-- the rows at a place are one, as a test says
pub same_more : (rows others : List FileRow) (k : ℕ) (row other : FileRow) → take k rows ≡ take k others → k < length rows → k < length others →
    row ≡ get_or rows k row → other ≡ get_or others k other → same_row row other ≡ true → take (k + 1) rows ≡ take (k + 1) others
same_more rows others k row other same within inside is are test =
    let e : row ≡ other = row_is row other test in
    let d : get_or others k other ≡ get_or others k row =
    let s : Some (get_or others k other) ≡ Some (get_or others k row) = sym (slice_get-get_or others k other inside) ∙ slice_get-get_or others k row inside in
    cc in
    take_more_same rows others k row within inside same (sym is ∙ e ∙ are ∙ d)

-- one of them is longer than what both begin with
pub longer_rows : (rows others : List FileRow) (k common : ℕ) (row : FileRow) → AreRowsInOrder rows → AreRowsInOrder others → take k rows ≡ take k others →
    k ≡ common → common < length rows → length others ≤ common → row ≡ get_or rows common row → IsFirstChange rows others row.path
longer_rows rows others k common row a b same e within ended is =
    subst (λ (r : FileRow). IsFirstChange rows others r.path) (sym is)
    (change_past rows others common row a b (subst (λ (n : ℕ). take n rows ≡ take n others) e same) within ended)

pub longer_others : (rows others : List FileRow) (k common : ℕ) (row : FileRow) → AreRowsInOrder rows → AreRowsInOrder others → take k rows ≡ take k others →
    k ≡ common → common < length others → length rows ≤ common → row ≡ get_or others common row → IsFirstChange rows others row.path
longer_others rows others k common row a b same e within ended is =
    turned rows others row.path (longer_rows others rows k common row b a (sym same) e within ended is)
