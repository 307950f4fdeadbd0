-- Rows that are reached in an environment or for a target that their winner isn't for.
use Rattle.std.proofs.Common.{◌≡◌, ◌↔◌, ℕ, ◌+◌, ◌<◌, ◌≤◌, Bool, true, false, not, ◌&&◌, ◌⊎◌, inl, inr, Contains, List, length, set, sym, ◌∙◌, ap, subst, refl, arith, IsTrue, Option, Some, None, is_none}
use Rattle.std.specs.List.{slice_get}
use Rattle.std.proofs.lemmas.List.{get_or-set_same, get_or-set_other}
use Rattle.std.proofs.lemmas.List.Elements.{All-contains}
use Rattle.std.proofs.lemmas.Bool.{false≢true, and_parts, and_from, cases_eq, not-true}
use Rattle.std.proofs.lemmas.Option.{slice_get_within}
use Rattle.dep_order.specs.Reach.{AreReachedFrom}
use Rattle.dep_rows.specs.declared.row.Row.{Row}
use Rattle.dep_rows.specs.Listed.{Listed, IsWithinLimit}
use Rattle.dep_rows.specs.Rows.{IsWinner, IsDeclaredBy, winner_of}
use Rattle.dep_rows.proofs.WinnerOf.{winner_is, is_winner}
use Rattle.converger.specs.Reach.{admits, is_for, links_of, starts_of}
use Rattle.converger.specs.Strays.{is_marked, IsStray, is_stray_beside}
use Rattle.converger.proofs.Reached.{at_reached, reached_at}
use Rattle.converger.proofs.WebLemmas.{one_value}

-- ---- the row that declares another one

-- it stands before, and wins
pub declared_by : (listed : Listed) → IsWithinLimit listed → (place by : ℕ) (row : Row) → slice_get listed.rows place ≡ Some row → row.by ≡ Some by
    → (by < place) × ((parent : Row) × IsWinner listed.rows by parent)
declared_by listed within place by row stands declared =
    let h : IsDeclaredBy listed.winners place (Some by) = subst (IsDeclaredBy listed.winners place) declared
    (within.well_formed.declared_by place row stands) in
    (h.0, All-contains (λ (p : ℕ). (parent : Row) × IsWinner listed.rows p parent) listed.winners by within.well_formed.winning.only h.1)

pub declared_within : (listed : Listed) → IsWithinLimit listed → (place by : ℕ) (row : Row) → slice_get listed.rows place ≡ Some row → row.by ≡ Some by
    → by < length listed.rows
declared_within listed within place by row stands declared =
    let before = declared_by listed within place by row stands declared in
    omega (arith, before.0, slice_get_within listed.rows place row stands)

-- ---- one row

stray_row : (rows : List Row) (env target : List ℕ) (other : ℕ) (row : Row) → slice_get rows other ≡ Some row → (s : IsStray rows env target other)
    → s.row ≡ row
stray_row rows env target other row stands s = one_value (sym s.under.stands ∙ stands)

stray_winner : (rows : List Row) (env target : List ℕ) (other : ℕ) (row : Row) → slice_get rows other ≡ Some row → (s : IsStray rows env target other)
    → winner_of rows row.app ≡ Some s.place
stray_winner rows env target other row stands s =
    is_winner rows row.app s.place s.winner s.under.wins (s.under.app ∙ ap (λ (r : Row). r.app) (stray_row rows env target other row stands s))

pub no_stray_winner : (rows : List Row) (env target : List ℕ) (other : ℕ) (row : Row) → slice_get rows other ≡ Some row → winner_of rows row.app ≡ None
    → IsStray rows env target other → ⊥
no_stray_winner rows env target other row stands none s = let has = stray_winner rows env target other row stands s in cc

pub no_stray_by : (rows : List Row) (env target : List ℕ) (other : ℕ) (row : Row) → slice_get rows other ≡ Some row → row.by ≡ None
    → IsStray rows env target other → ⊥
no_stray_by rows env target other row stands none s =
    let declared : row.by ≡ Some s.by = rw (stray_row rows env target other row stands s) at s.declared in cc

is_none_from : (o : Option ℕ) → is_none o ≡ true → o ≡ None
is_none_from None h = refl
is_none_from (Some x) h = absurd (false≢true h)

module _ (rows : List Row) (env target reached : List ℕ)
    (are : AreReachedFrom (links_of rows target) (starts_of rows env target) reached) (other place by : ℕ)
    (row winner parent : Row) (stands : slice_get rows other ≡ Some row) (wins : winner_of rows row.app ≡ Some place)
    (stands_winner : slice_get rows place ≡ Some winner) (declared : row.by ≡ Some by) (parent_wins : IsWinner rows by parent) (has : Bool)
    (tell : IsTrue has ↔ Contains reached by) where
  is_there : is_stray_beside winner row has env target ≡ true → IsStray rows env target other
  is_there h =
      let barred = not (is_for env target winner.decl) in
      let a = and_parts row.required (admits row.decl.targets target && (is_none winner.by && (has && barred))) h in
      let m = and_parts (admits row.decl.targets target) (is_none winner.by && (has && barred)) a.1 in
      let b = and_parts (is_none winner.by) (has && barred) m.1 in
      let d = and_parts has barred b.1 in
      let w = winner_is rows row.app place wins in
      let same : w.row ≡ winner = one_value (sym w.wins.stands ∙ stands_winner) in
      record {
        place = place;
        by = by;
        winner = winner;
        row = row;
        parent = parent;
        under = record { wins = subst (IsWinner rows place) same w.wins; stands = stands; app = ap (λ (r : Row). r.app) (sym same) ∙ w.named };
        root = is_none_from winner.by b.0;
        barred = not-true (is_for env target winner.decl) d.1;
        required = a.0;
        meant = m.0;
        declared = declared;
        stands = parent_wins.stands;
        reached = reached_at rows env target by parent parent_wins ((are.each by).0 (tell.0 d.0));
      }

  is_back : IsStray rows env target other → is_stray_beside winner row has env target ≡ true
  is_back s =
      let same_row = stray_row rows env target other row stands s in
      let same_place : s.place ≡ place = one_value (sym (stray_winner rows env target other row stands s) ∙ wins) in
      let stands_there : slice_get rows place ≡ Some s.winner = rw same_place at s.under.wins.stands in
      let same_winner : s.winner ≡ winner = one_value (sym stands_there ∙ stands_winner) in
      let declared_s : row.by ≡ Some s.by = rw same_row at s.declared in
      let same_by : s.by ≡ by = one_value (sym declared_s ∙ declared) in
      let stands_by : slice_get rows by ≡ Some s.parent = rw same_by at s.stands in
      let same_parent : s.parent ≡ parent = one_value (sym stands_by ∙ parent_wins.stands) in
      let reached_app = ap (λ (r : Row). r.app) same_parent in
      let there = at_reached rows env target by parent parent_wins (rw reached_app at s.reached) in
      let root : winner.by ≡ None = rw same_winner at s.root in
      let barred : is_for env target winner.decl ≡ false = rw same_winner at s.barred in
      let required : row.required ≡ true = rw same_row at s.required in
      let meant : admits row.decl.targets target ≡ true = rw same_row at s.meant in
      and_from _ _ required (and_from _ _ meant (and_from _ _ (ap (λ (o : Option ℕ). is_none o) root)
      (and_from _ _ (tell.1 ((are.each by).1 there)) (ap (λ (b : Bool). not b) barred))))

  pub stray_is : IsTrue (is_stray_beside winner row has env target) ↔ IsStray rows env target other
  stray_is = (is_there, is_back)

-- ---- one environment

pub stray_yes : (rows : List Row) (env target : List ℕ) (first old : List Bool) (i : ℕ) → i < length old
    → ((q : ℕ) → IsTrue (is_marked old q) ↔ (IsTrue (is_marked first q) ⊎ ((q < i) × IsStray rows env target q))) → IsStray rows env target i → (q : ℕ)
    → IsTrue (is_marked (set old i true) q) ↔ (IsTrue (is_marked first q) ⊎ ((q < i + 1) × IsStray rows env target q))
stray_yes rows env target first old i within so_far here q = elim (cases_eq q i) [
  | inl same ↦ (λ marked. inr (omega arith, subst (IsStray rows env target) (sym same) here), λ h. rw same (get_or-set_same old i true false within))
  | inr apart ↦
      let kept : is_marked (set old i true) q ≡ is_marked old q = get_or-set_other old i q true false apart in (
        λ marked. elim ((so_far q).0 (sym kept ∙ marked)) [ inl was ↦ inl was | inr new ↦ inr (omega (arith, new.0), new.1) ],
        λ h. kept ∙ (so_far q).1 (elim h [ inl was ↦ inl was | inr new ↦ inr (omega (arith, new.0), new.1) ]),
      )
]

pub stray_no : (rows : List Row) (env target : List ℕ) (first old : List Bool) (i : ℕ)
    → ((q : ℕ) → IsTrue (is_marked old q) ↔ (IsTrue (is_marked first q) ⊎ ((q < i) × IsStray rows env target q))) → (IsStray rows env target i → ⊥) → (q : ℕ)
    → IsTrue (is_marked old q) ↔ (IsTrue (is_marked first q) ⊎ ((q < i + 1) × IsStray rows env target q))
stray_no rows env target first old i so_far none q =
    (λ marked. elim ((so_far q).0 marked) [ inl was ↦ inl was | inr new ↦ inr (omega (arith, new.0), new.1) ], back)
  where
    back : (is_marked first q ≡ true) ⊎ ((q < i + 1) × IsStray rows env target q) → is_marked old q ≡ true
    back (inl was) = (so_far q).1 (inl was)
    back (inr new) = elim (cases_eq q i) [
      | inl same ↦ absurd (none (subst (IsStray rows env target) same new.1))
      | inr apart ↦ (so_far q).1 (inr (omega (arith, new.0), new.1))
    ]

pub stray_all : (rows : List Row) (env target : List ℕ) (first last : List Bool) (i : ℕ) → length rows ≤ i
    → ((q : ℕ) → IsTrue (is_marked last q) ↔ (IsTrue (is_marked first q) ⊎ ((q < i) × IsStray rows env target q))) → (q : ℕ)
    → IsTrue (is_marked last q) ↔ (IsTrue (is_marked first q) ⊎ IsStray rows env target q)
stray_all rows env target first last i long so_far q = (
  λ marked. elim ((so_far q).0 marked) [ inl was ↦ inl was | inr new ↦ inr new.1 ],
  λ h. (so_far q).1 (elim h [ inl was ↦ inl was | inr s ↦ inr (omega (arith, long, slice_get_within rows q s.row s.under.stands), s) ]),
)
