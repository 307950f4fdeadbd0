-- The winners that rows bring in, as lists and as a graph.
use Rattle.std.proofs.Common.{◌≡◌, ℕ, zero, suc, ◌+◌, ◌<◌, ◌≤◌, Bool, true, false, cond, ◌&&◌, eqb, List, [], ◌∷◌, ◌++◌, length, get_or, take, filter, filter_map, All, Contains, inl, inr, Option, Some, None, sym, ◌∙◌, ap, subst, refl, arith, append-nil}
use Rattle.std.specs.List.{cons_option, slice_get}
use Rattle.std.proofs.lemmas.List.{take_more, take_all, same_lists, get_or_default}
use Rattle.std.proofs.lemmas.List.Elements.{filter-append, filter_map-append, Contains-get_or}
use Rattle.std.proofs.lemmas.Option.{none-some, same_Some}
use Rattle.std.proofs.lemmas.List.FromFn.{get_or-map-range_with_len, length-map-range_with_len}
use Rattle.dep_order.specs.Graph.{needs_of, NeedsAreWithin}
use Rattle.dep_rows.specs.declared.row.Row.{Row}
use Rattle.dep_rows.specs.Rows.{winner_of}
use Rattle.dep_rows.proofs.WinnerOf.{winner_within}
use Rattle.converger.specs.Reach.{admits, is_asked_by, is_declarer, is_wanted, links_of, starts_of, winners_among}
use Rattle.converger.proofs.OneLemmas.{in_front, behind, front_or_behind}

-- ---- one row

pub nothing_added : (winners more : List ℕ) → more ≡ [] → winners ≡ winners ++ more
nothing_added winners more none = sym (ap (λ (l : List ℕ). winners ++ l) none ∙ append-nil winners)

pub nobody_added : (winners : List ℕ) (found : Option ℕ) → found ≡ None → winners ≡ winners ++ cons_option found []
nobody_added winners found none = nothing_added winners (cons_option found []) (ap (λ (o : Option ℕ). cons_option o []) none)

and_false : (b : Bool) → (b && false) ≡ false
and_false true = refl
and_false false = refl

pub not_required : (rows : List Row) (target : List ℕ) (row : Row) (place : ℕ) → row.required ≡ false
    → winners_among rows (is_asked_by target place) (row ∷ []) ≡ []
not_required rows target row place h = rw h refl

pub not_meant : (rows : List Row) (target : List ℕ) (row : Row) (place : ℕ) → admits row.decl.targets target ≡ false
    → winners_among rows (is_asked_by target place) (row ∷ []) ≡ []
not_meant rows target row place h =
    let fails : is_asked_by target place row ≡ false = ap (λ (b : Bool). row.required && (b && is_declarer place row.by)) h ∙ and_false row.required in
    ap (λ (b : Bool). filter_map (λ (r : Row). winner_of rows r.app) (cond b (row ∷ []) [])) fails

pub not_declared : (rows : List Row) (target : List ℕ) (row : Row) (place : ℕ) → row.by ≡ None → winners_among rows (is_asked_by target place) (row ∷ []) ≡ []
not_declared rows target row place h =
    let meant = admits row.decl.targets target in
    let fails : is_asked_by target place row ≡ false = ap (λ (o : Option ℕ). row.required && (meant && is_declarer place o)) h
    ∙ (ap (λ (b : Bool). row.required && b) (and_false meant) ∙ and_false row.required) in
    ap (λ (b : Bool). filter_map (λ (r : Row). winner_of rows r.app) (cond b (row ∷ []) [])) fails

no_winner_at : (rows : List Row) (row : Row) (b : Bool) → winner_of rows row.app ≡ None
    → filter_map (λ (r : Row). winner_of rows r.app) (cond b (row ∷ []) []) ≡ []
no_winner_at rows row true h = ap (λ (o : Option ℕ). cons_option o []) h
no_winner_at rows row false h = refl

pub no_winner : (rows : List Row) (target : List ℕ) (row : Row) (place : ℕ) → winner_of rows row.app ≡ None
    → winners_among rows (is_asked_by target place) (row ∷ []) ≡ []
no_winner rows target row place h = no_winner_at rows row (is_asked_by target place row) h

winner_at : (rows : List Row) (row : Row) (winner : ℕ) (b : Bool) → winner_of rows row.app ≡ Some winner
    → filter_map (λ (r : Row). winner_of rows r.app) (cond b (row ∷ []) []) ≡ cond b (winner ∷ []) []
winner_at rows row winner true h = ap (λ (o : Option ℕ). cons_option o []) h
winner_at rows row winner false h = refl

pub one_link : (rows : List Row) (target : List ℕ) (row : Row) (place by winner : ℕ) → row.required ≡ true → admits row.decl.targets target ≡ true
    → row.by ≡ Some by → winner_of rows row.app ≡ Some winner → winners_among rows (is_asked_by target place) (row ∷ []) ≡ cond (eqb place by) (winner ∷ []) []
one_link rows target row place by winner required meant declared wins =
    let test : is_asked_by target place row ≡ eqb place by = rw (required, meant, declared) refl in
    winner_at rows row winner (is_asked_by target place row) wins ∙ ap (λ (b : Bool). cond b (winner ∷ []) []) test

-- ---- a row more

winners_more : (rows : List Row) (test : Row → Bool) (i : ℕ) (row : Row) → i < length rows → row ≡ get_or rows i row
    → winners_among rows test (take (i + 1) rows) ≡ winners_among rows test (take i rows) ++ winners_among rows test (row ∷ [])
winners_more rows test i row within is =
    let wins : Row → Option ℕ = λ r. winner_of rows r.app in
    ap (winners_among rows test) (take_more rows i row within ∙ ap (λ (r : Row). take i rows ++ r ∷ []) (sym is))
    ∙ ap (filter_map wins) (filter-append test (take i rows) (row ∷ []))
    ∙ filter_map-append wins (filter test (take i rows)) (filter test (row ∷ []))

pub link_more : (rows : List Row) (target : List ℕ) (i : ℕ) (row : Row) (place : ℕ) (old new : List (List ℕ)) → i < length rows → row ≡ get_or rows i row
    → needs_of old place ≡ winners_among rows (is_asked_by target place) (take i rows)
    → needs_of new place ≡ needs_of old place ++ winners_among rows (is_asked_by target place) (row ∷ [])
    → needs_of new place ≡ winners_among rows (is_asked_by target place) (take (i + 1) rows)
link_more rows target i row place old new within is so_far added =
    added
    ∙ ap (λ (l : List ℕ). l ++ winners_among rows (is_asked_by target place) (row ∷ [])) so_far
    ∙ sym (winners_more rows (is_asked_by target place) i row within is)

pub start_more : (rows : List Row) (env target : List ℕ) (i : ℕ) (row : Row) (old new : List ℕ) → i < length rows → row ≡ get_or rows i row
    → old ≡ winners_among rows (is_wanted env target) (take i rows) → is_wanted env target row ≡ true → new ≡ old ++ cons_option (winner_of rows row.app) []
    → new ≡ winners_among rows (is_wanted env target) (take (i + 1) rows)
start_more rows env target i row old new within is so_far wanted added =
    let one : winners_among rows (is_wanted env target) (row ∷ []) ≡ cons_option (winner_of rows row.app) [] = ap
    (λ (b : Bool). filter_map (λ (r : Row). winner_of rows r.app) (cond b (row ∷ []) [])) wanted in
    added
    ∙ ap (λ (l : List ℕ). l ++ cons_option (winner_of rows row.app) []) so_far
    ∙ ap (λ (l : List ℕ). winners_among rows (is_wanted env target) (take i rows) ++ l) (sym one)
    ∙ sym (winners_more rows (is_wanted env target) i row within is)

pub start_same : (rows : List Row) (env target : List ℕ) (i : ℕ) (row : Row) (old : List ℕ) → i < length rows → row ≡ get_or rows i row
    → old ≡ winners_among rows (is_wanted env target) (take i rows) → is_wanted env target row ≡ false
    → old ≡ winners_among rows (is_wanted env target) (take (i + 1) rows)
start_same rows env target i row old within is so_far unwanted =
    let none : winners_among rows (is_wanted env target) (row ∷ []) ≡ [] =
    ap (λ (b : Bool). filter_map (λ (r : Row). winner_of rows r.app) (cond b (row ∷ []) [])) unwanted in
    nothing_added old (winners_among rows (is_wanted env target) (row ∷ [])) none
    ∙ ap (λ (l : List ℕ). l ++ winners_among rows (is_wanted env target) (row ∷ [])) so_far
    ∙ sym (winners_more rows (is_wanted env target) i row within is)

pub starts_done : (rows : List Row) (env target : List ℕ) (i : ℕ) (starts : List ℕ) → length rows ≤ i
    → starts ≡ winners_among rows (is_wanted env target) (take i rows)
    → starts ≡ starts_of rows env target
unfolding starts_of
starts_done rows env target i starts past so_far = so_far ∙ ap (winners_among rows (is_wanted env target)) (take_all i rows past)

-- ---- the graph

pub length-links_of : (rows : List Row) (target : List ℕ) → length (links_of rows target) ≡ length rows
unfolding links_of
length-links_of rows target = length-map-range_with_len (λ (place : ℕ). winners_among rows (is_asked_by target place) rows) 0 (length rows)

pub links_at : (rows : List Row) (target : List ℕ) (place : ℕ) (d : List ℕ) → place < length rows
    → get_or (links_of rows target) place d ≡ winners_among rows (is_asked_by target place) rows
unfolding links_of
links_at rows target place d within =
    get_or-map-range_with_len (λ (p : ℕ). winners_among rows (is_asked_by target p) rows) 0 (length rows) place place d within (omega arith)

pub links_done : (rows : List Row) (target : List ℕ) (i : ℕ) (links : List (List ℕ)) → length rows ≤ i → length links ≡ length rows
    → ((place : ℕ) → place < length rows → needs_of links place ≡ winners_among rows (is_asked_by target place) (take i rows)) → links ≡ links_of rows target
links_done rows target i links past long each =
    same_lists links (links_of rows target) (long ∙ sym (length-links_of rows target))
    (λ k d within.
    let inside : k < length rows = omega (arith, within, long) in
    get_or_default links k d [] within ∙ each k inside ∙ ap (winners_among rows (is_asked_by target k)) (take_all i rows past)
    ∙ sym (links_at rows target k d inside))

-- ---- the rows that bring winners in

-- a row among these passes the test, and its app's winner stands there
pub record Brings (rows : List Row) (test : Row → Bool) (part : List Row) (winner : ℕ) : Type 0 where
  pub place : ℕ
  pub row : Row
  pub stands : slice_get part place ≡ Some row
  pub passes : test row ≡ true
  pub wins : winner_of rows row.app ≡ Some winner

later_brings : (rows : List Row) (test : Row → Bool) (first : Row) (part : List Row) (winner : ℕ) → Brings rows test part winner
    → Brings rows test (first ∷ part) winner
later_brings rows test first part winner b = record { place = suc b.place; row = b.row; stands = b.stands; passes = b.passes; wins = b.wins }

pub who_brings : (rows : List Row) (test : Row → Bool) (part : List Row) (winner : ℕ) → Contains (winners_among rows test part) winner
    → Brings rows test part winner
who_brings rows test [] winner has = absurd (omega (arith, has.1))
who_brings rows test (first ∷ part) winner has = at (who_brings rows test part winner) (test first) refl has
  where
    with_winner : (Contains (winners_among rows test part) winner → Brings rows test part winner) → test first ≡ true → (o : Option ℕ)
        → winner_of rows first.app ≡ o → Contains (cons_option o (winners_among rows test part)) winner → Brings rows test (first ∷ part) winner
    with_winner before passes None none among = later_brings rows test first part winner (before among)
    with_winner before passes (Some place) wins among =
        elim (front_or_behind place (winners_among rows test part) winner among) [
          | inl same ↦ record { place = 0; row = first; stands = refl; passes = passes; wins = wins ∙ ap (λ (n : ℕ). Some n) same }
          | inr among_rest ↦ later_brings rows test first part winner (before among_rest)
        ]

    at : (Contains (winners_among rows test part) winner → Brings rows test part winner) → (b : Bool) → test first ≡ b
        → Contains (filter_map (λ (r : Row). winner_of rows r.app) (cond b (first ∷ filter test part) (filter test part))) winner
        → Brings rows test (first ∷ part) winner
    at before true passes among = with_winner before passes (winner_of rows first.app) refl among
    at before false fails among = later_brings rows test first part winner (before among)

pub brought : (rows : List Row) (test : Row → Bool) (part : List Row) (winner place : ℕ) (row : Row) → slice_get part place ≡ Some row → test row ≡ true
    → winner_of rows row.app ≡ Some winner → Contains (winners_among rows test part) winner
brought rows test [] winner place row stands passes wins = absurd (none-some row stands)
brought rows test (first ∷ part) winner zero row stands passes wins =
    let same : first ≡ row = same_Some first row stands in
    let here : test first ≡ true = ap test same ∙ passes in
    let found : winner_of rows first.app ≡ Some winner = ap (λ (r : Row). winner_of rows r.app) same ∙ wins in
    subst (λ (b : Bool). Contains (filter_map (λ (r : Row). winner_of rows r.app) (cond b (first ∷ filter test part) (filter test part))) winner) (sym here)
    (subst (λ (o : Option ℕ). Contains (cons_option o (winners_among rows test part)) winner) (sym found) (in_front winner (winners_among rows test part)))
brought rows test (first ∷ part) winner (suc place) row stands passes wins = at (test first) (winner_of rows first.app)
    (brought rows test part winner place row stands passes wins)
  where
    behind_option : (o : Option ℕ) (among : List ℕ) → Contains among winner → Contains (cons_option o among) winner
    behind_option None among has = has
    behind_option (Some other) among has = behind other among winner has

    at : (b : Bool) (o : Option ℕ) → Contains (winners_among rows test part) winner
        → Contains (filter_map (λ (r : Row). winner_of rows r.app) (cond b (first ∷ filter test part) (filter test part))) winner
    at true o has = behind_option (winner_of rows first.app) (winners_among rows test part) has
    at false o has = has

-- ---- winners are places of the rows

pub winners_within : (rows : List Row) (test : Row → Bool) (part : List Row) → All (λ place. place < length rows) (winners_among rows test part)
winners_within rows test part k d within =
    let b = who_brings rows test part (get_or (winners_among rows test part) k d) (Contains-get_or (winners_among rows test part) k d within) in
    winner_within rows b.row.app (get_or (winners_among rows test part) k d) b.wins

pub links_within : (rows : List Row) (target : List ℕ) → NeedsAreWithin (links_of rows target)
links_within rows target k d within =
    let long = length-links_of rows target in
    let inside : k < length rows = omega (arith, within, long) in
    let all : All (λ place. place < length rows) (get_or (links_of rows target) k d) =
    subst (All (λ place. place < length rows)) (sym (links_at rows target k d inside))
    (winners_within rows (is_asked_by target k) rows) in
    subst (λ (n : ℕ). All (λ place. place < n) (get_or (links_of rows target) k d)) (sym long) all

pub starts_within : (rows : List Row) (env target : List ℕ) → All (λ start. start < length (links_of rows target)) (starts_of rows env target)
unfolding starts_of
starts_within rows env target = subst (λ (n : ℕ). All (λ place. place < n) (winners_among rows (is_wanted env target) rows)) (sym (length-links_of rows target))
    (winners_within rows (is_wanted env target) rows)
