-- The environments that the root names and the targets that rows name, and one of each that isn't named.
use Rattle.std.proofs.Common.{◌≡◌, ◌↔◌, ℕ, zero, suc, ◌+◌, ◌<◌, ◌≤◌, Bool, true, false, cond, ◌||◌, ◌⊎◌, inl, inr, List, [], ◌∷◌, ◌++◌, Contains, length, get_or, take, replicate, sym, ◌∙◌, ap, ap₂, subst, refl, arith, IsTrue, Option, Some, None, is_none, bytes_eq}
use Rattle.std.specs.List.{slice_get, list_any}
use Rattle.std.specs.Option.{is_some}
use Rattle.std.specs.Ordering.{is_eq}
use Rattle.std.specs.BTreeSet.{BTreeSet, contains_by, UpdatesBy}
use denote.Ref.{Bor}
use Rattle.std.proofs.lemmas.List.{take_more, take_all, get_or_default, get_or_past, get_or-replicate, length-replicate}
use Rattle.std.proofs.lemmas.List.Folds.{list_any_more, Any-from_list_any}
use Rattle.std.proofs.lemmas.Bool.{both_ways, cases_eq, cases_lt}
use Rattle.mx_base.specs.Order.{text_cmp}
use Rattle.mx_base.specs.AppName.{IsAppName}
use Rattle.dep_rows.specs.declared.row.Row.{Row}
use Rattle.converger.specs.Strays.{is_marked, AreNamed, IsUnnamed, is_named, only_of}
use Rattle.converger.proofs.WebLemmas.{one_value, same_bytes, not_same_bytes, ties_bytes}

or_cond : (b c : Bool) → cond b true c ≡ (c || b)
or_cond true true = refl
or_cond true false = refl
or_cond false true = refl
or_cond false false = refl

or_assoc : (a b c : Bool) → ((a || b) || c) ≡ (a || (b || c))
or_assoc true b c = refl
or_assoc false b c = refl

pub names_more : (only : List (List ℕ)) (i : ℕ) (name : List ℕ) → i < length only → name ≡ get_or only i name → (first old new : BTreeSet (Bor (List ℕ)))
    (text : List ℕ) → text ≡ name → UpdatesBy (λ (x y : Bor (List ℕ)). text_cmp x.now y.now) (λ (k : Bor (List ℕ)). text_cmp text k.now) old new true →
    ((env : List ℕ) → contains_by (λ (k : Bor (List ℕ)). text_cmp env k.now) old ≡
    (contains_by (λ (k : Bor (List ℕ)). text_cmp env k.now) first || list_any (bytes_eq env) (take i only))) → (env : List ℕ) → contains_by
    (λ (k : Bor (List ℕ)). text_cmp env k.now) new ≡ (contains_by (λ (k : Bor (List ℕ)). text_cmp env k.now) first || list_any (bytes_eq env)
    (take (i + 1) only))
names_more only i name within is first old new text same updates so_far env =
    updates.0 (record { ref_ptr = (0, 0); now = env })
    ∙ or_cond (is_eq (text_cmp text env)) _
    ∙ ap₂ (λ (a b : Bool). a || b) (so_far env) (ties_bytes text env ∙ ap (bytes_eq env) same)
    ∙ or_assoc _ (list_any (bytes_eq env) (take i only)) (bytes_eq env name)
    ∙ ap (λ (b : Bool). contains_by (λ (k : Bor (List ℕ)). text_cmp env k.now) first || b)
    (ap (λ (n : List ℕ). list_any (bytes_eq env) (take i only) || bytes_eq env n) is ∙ sym (list_any_more (bytes_eq env) only i name within))

pub not_empty_more : (only : List (List ℕ)) (i : ℕ) (name : List ℕ) → i < length only → name ≡ get_or only i name → IsAppName name
    → list_any (bytes_eq []) (take i only) ≡ false → list_any (bytes_eq []) (take (i + 1) only) ≡ false
not_empty_more only i name within is named so_far =
    list_any_more (bytes_eq []) only i name within
    ∙ ap₂ (λ (a b : Bool). a || b) so_far (ap (bytes_eq []) (sym is) ∙ not_same_bytes [] name
    (λ same. absurd (omega (arith, named.not_empty, ap (λ (t : List ℕ). length t) same))))

push_cases : (xs : List Row) (x r : Row) (k : ℕ) → slice_get (xs ++ x ∷ []) k ≡ Some r → (slice_get xs k ≡ Some r) ⊎ (x ≡ r)
push_cases [] x r zero h = inr (one_value h)
push_cases [] x r (suc k) h = absurd (cc)
push_cases (y ∷ xs) x r zero h = inl h
push_cases (y ∷ xs) x r (suc k) h = push_cases xs x r k h

row_cases : (rows : List Row) (i : ℕ) (row : Row) → i < length rows → row ≡ get_or rows i row → (place : ℕ) (r : Row)
    → slice_get (take (i + 1) rows) place ≡ Some r → (slice_get (take i rows) place ≡ Some r) ⊎ (row ≡ r)
row_cases rows i row within is place r stands =
    push_cases (take i rows) row r place (sym (ap (λ (xs : List Row). slice_get xs place)
    (take_more rows i row within ∙ ap (λ (x : Row). take i rows ++ x ∷ []) (sym is))) ∙ stands)

pub named_more : (names_of : Row → Option (List (List ℕ))) (rows : List Row) (i : ℕ) (row : Row) → i < length rows → row ≡ get_or rows i row
    → (old new : List ℕ → Bool) → AreNamed names_of (take i rows) old → ((name : List ℕ) → old name ≡ true → new name ≡ true)
    → ((name : List ℕ) → is_named (names_of row) name ≡ true → new name ≡ true) → AreNamed names_of (take (i + 1) rows) new
named_more names_of rows i row within is old new so_far kept own place r name stands named =
    elim (row_cases rows i row within is place r stands) [
      | inl before ↦ kept name (so_far place r name before named)
      | inr same ↦ own name (rw (← same) at named)
    ]

pub unnamed_more : (names_of : Row → Option (List (List ℕ))) (rows : List Row) (i : ℕ) (row : Row) → i < length rows → row ≡ get_or rows i row
    → (name : List ℕ) → IsUnnamed names_of (take i rows) name → is_named (names_of row) name ≡ false → IsUnnamed names_of (take (i + 1) rows) name
unnamed_more names_of rows i row within is name so_far own place r stands =
    elim (row_cases rows i row within is place r stands) [ inl before ↦ so_far place r before | inr same ↦ rw same at own ]

pub named_all : (names_of : Row → Option (List (List ℕ))) (rows : List Row) (i : ℕ) → length rows ≤ i → (has : List ℕ → Bool)
    → AreNamed names_of (take i rows) has → AreNamed names_of rows has
named_all names_of rows i long has named = rw (take_all i rows long) at named

pub unnamed_all : (names_of : Row → Option (List (List ℕ))) (rows : List Row) (i : ℕ) → length rows ≤ i → (name : List ℕ)
    → IsUnnamed names_of (take i rows) name → IsUnnamed names_of rows name
unnamed_all names_of rows i long name unnamed = rw (take_all i rows long) at unnamed

pub only_named : (row : Row) → is_none row.by ≡ true → (name : List ℕ) → is_named (only_of row) name ≡ is_named row.decl.only name
only_named row root name = ap (λ (b : Bool). is_named (cond b row.decl.only None) name) root

pub nothing_named : (row : Row) → is_some row.by ≡ true → (name : List ℕ) → is_named (only_of row) name ≡ false
nothing_named row outside name = at row.by outside
  where
    at : (o : Option ℕ) → is_some o ≡ true → is_named (cond (is_none o) row.decl.only None) name ≡ false
    at None h = cc
    at (Some by) h = refl

-- ---- all environments, or all targets

pub none_marked : (n place : ℕ) → is_marked (replicate n false) place ≡ false
none_marked n place = elim (cases_lt place n) [
  | inl within ↦ get_or-replicate n place false false within
  | inr past ↦ get_or_past (replicate n false) place false (omega (arith, past, length-replicate n false))
]

-- a row is marked already, or a stray for the text that is no name, or for one of these names
abbrev Tried : List Bool → (List ℕ → ℕ → Type 0) → List (Bor (List ℕ)) → ℕ → ℕ → Type 0
Tried first P names i other =
    IsTrue (is_marked first other) ⊎ (P [] other ⊎ ((k : ℕ) × (name : Bor (List ℕ)) × (k < i) × (get_or names k name ≡ name) × P name.now other))

pub IsTried : List Bool → (List ℕ → ℕ → Type 0) → List (Bor (List ℕ)) → ℕ → ℕ → Type 0
IsTried first P names i other = Tried first P names i other

module _ (first : List Bool) (P : List ℕ → ℕ → Type 0) (names : List (Bor (List ℕ))) where
  pub tried_first : (new : List Bool) → ((q : ℕ) → IsTrue (is_marked new q) ↔ (IsTrue (is_marked first q) ⊎ P [] q))
      → (q : ℕ) → IsTrue (is_marked new q) ↔ IsTried first P names 0 q
  unfolding IsTried
  tried_first new tell q = (
    λ marked. elim ((tell q).0 marked) [ inl was ↦ inl was | inr s ↦ inr (inl s) ],
    λ h. elim h [
      | inl was ↦ (tell q).1 (inl was)
      | inr other ↦ elim other [ inl s ↦ (tell q).1 (inr s) | inr at ↦ absurd (omega (arith, at.2)) ]
    ],
  )

  pub tried_more : (i : ℕ) (name : Bor (List ℕ)) → name ≡ get_or names i name → i < length names → (old new : List Bool)
      → ((q : ℕ) → IsTrue (is_marked old q) ↔ IsTried first P names i q)
      → ((q : ℕ) → IsTrue (is_marked new q) ↔ (IsTrue (is_marked old q) ⊎ P name.now q)) → (q : ℕ)
      → IsTrue (is_marked new q) ↔ IsTried first P names (i + 1) q
  unfolding IsTried
  tried_more i name is within old new so_far tell q = (there, back)
    where
      there : is_marked new q ≡ true → Tried first P names (i + 1) q
      there marked = elim ((tell q).0 marked) [
        | inl was ↦ elim ((so_far q).0 was) [
          | inl before ↦ inl before
          | inr other ↦ elim other [ inl s ↦ inr (inl s) | inr at ↦ inr (inr (at.0, at.1, omega (arith, at.2), at.3, at.4)) ]
        ]
        | inr s ↦ inr (inr (i, name, omega arith, sym is, s))
      ]

      at_name : ((k : ℕ) × (n : Bor (List ℕ)) × (k < i + 1) × (get_or names k n ≡ n) × P n.now q) → is_marked new q ≡ true
      at_name at = elim (cases_eq at.0 i) [
        | inl same ↦
            let here : at.1 ≡ name = sym at.3 ∙ ap (λ (k : ℕ). get_or names k at.1) same ∙ get_or_default names i at.1 name within ∙ sym is in
            (tell q).1 (inr (subst (λ (n : Bor (List ℕ)). P n.now q) here at.4))
        | inr apart ↦ (tell q).1 (inl ((so_far q).1 (inr (inr (at.0, at.1, omega (arith, at.2), at.3, at.4)))))
      ]

      back : Tried first P names (i + 1) q → is_marked new q ≡ true
      back h = elim h [
        | inl was ↦ (tell q).1 (inl ((so_far q).1 (inl was)))
        | inr other ↦ elim other [ inl s ↦ (tell q).1 (inl ((so_far q).1 (inr (inl s)))) | inr at ↦ at_name at ]
      ]

  -- the text of no name stands for all that aren't named
  pub tried_all : ((name : List ℕ) (q : ℕ) → list_any (λ (n : Bor (List ℕ)). is_eq (text_cmp name n.now)) names ≡ false → P name q → P [] q)
      → (i : ℕ) → length names ≤ i → (marks : List Bool) → ((q : ℕ) → IsTrue (is_marked marks q) ↔ IsTried first P names i q) → (q : ℕ)
      → IsTrue (is_marked marks q) ↔ (IsTrue (is_marked first q) ⊎ ((name : List ℕ) × P name q))
  unfolding IsTried
  tried_all other_name i long marks tell q = (there, back)
    where
      there : is_marked marks q ≡ true → IsTrue (is_marked first q) ⊎ ((name : List ℕ) × P name q)
      there marked = elim ((tell q).0 marked) [
        | inl was ↦ inl was
        | inr other ↦ elim other [ inl s ↦ inr ([], s) | inr at ↦ inr (at.1.now, at.4) ]
      ]

      tried : (name : List ℕ) → P name q → (b : Bool) → list_any (λ (n : Bor (List ℕ)). is_eq (text_cmp name n.now)) names ≡ b
          → Tried first P names i q
      tried name s true has =
          let any = Any-from_list_any (λ (n : Bor (List ℕ)). is_eq (text_cmp name n.now)) names has in
          let same : any.1.now ≡ name = same_bytes any.1.now name (sym (ties_bytes name any.1.now) ∙ any.4) in
          inr (inr (any.0, any.1, omega (arith, any.2), any.3, subst (λ (e : List ℕ). P e q) (sym same) s))
      tried name s false none = inr (inl (other_name name q none s))

      back : IsTrue (is_marked first q) ⊎ ((name : List ℕ) × P name q) → is_marked marks q ≡ true
      back h = elim h [
        | inl was ↦ (tell q).1 (inl was)
        | inr at ↦ (tell q).1 (tried at.0 at.1 (list_any (λ (n : Bor (List ℕ)). is_eq (text_cmp at.0 n.now)) names) refl)
      ]

not_first : (n q : ℕ) (P : Type 0) → IsTrue (is_marked (replicate n false) q) ⊎ P → P
not_first n q P (inl was) = absurd (both_ways (is_marked (replicate n false) q) (none_marked n q) was)
not_first n q P (inr p) = p

-- the same where nothing was marked
pub all_tried : (n : ℕ) (P : List ℕ → ℕ → Type 0) (names : List (Bor (List ℕ)))
    → ((name : List ℕ) (q : ℕ) → list_any (λ (m : Bor (List ℕ)). is_eq (text_cmp name m.now)) names ≡ false → P name q → P [] q)
    → (i : ℕ) → length names ≤ i → (marks : List Bool) → ((q : ℕ) → IsTrue (is_marked marks q) ↔ IsTried (replicate n false) P names i q) → (q : ℕ)
    → IsTrue (is_marked marks q) ↔ ((name : List ℕ) × P name q)
all_tried n P names other_name i long marks tell q =
    let t = tried_all (replicate n false) P names other_name i long marks tell q in
    (λ marked. not_first n q ((name : List ℕ) × P name q) (t.0 marked), λ s. t.1 (inr s))
