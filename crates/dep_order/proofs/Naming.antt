-- Which places name a place among their needs.
use Rattle.std.proofs.Common.{◌≡◌, ℕ, ◌+◌, ◌<◌, ◌≤◌, Bool, true, false, cond, eqb, List, [], length, get_or, take, sym, ◌∙◌, ap, refl, inl, inr, arith, eqb-true}
use Rattle.std.proofs.lemmas.List.{get_or_past, get_or-take, length-take}
use Rattle.std.proofs.lemmas.Bool.{cases_order, eqb-false}
use Rattle.dep_order.specs.Graph.{needs_of}
use Rattle.dep_order.specs.Pending.{times}

-- the place was put among the dependents of these needs
abbrev pub Named : List (List ℕ) → List (List ℕ) → ℕ → List ℕ → Type 0
Named old new place needs = (need other : ℕ) → times other (needs_of new need) ≡ times other (needs_of old need) + cond (eqb other place) (times need needs) 0

row_before : (graph : List (List ℕ)) (n other : ℕ) → other < n → needs_of (take n graph) other ≡ needs_of graph other
row_before graph n other before = get_or-take n graph other [] before

row_past : (graph : List (List ℕ)) (n other : ℕ) → n ≤ other → needs_of (take n graph) other ≡ []
row_past graph n other past = get_or_past (take n graph) other [] (omega (arith, length-take n graph))

row_more : (b : Bool) (need : ℕ) (new old row : List ℕ) → (b ≡ true → (new ≡ row) × (old ≡ [])) → (b ≡ false → new ≡ old) → times need new ≡ times need old + cond b (times need row) 0
row_more true need new old row here there = rw ((here refl).0, (here refl).1) (omega arith)
row_more false need new old row here there = rw (there refl) (omega arith)

-- one row more of the graph
pub rows_more : (graph : List (List ℕ)) (i need other : ℕ) → i < length graph → times need (needs_of (take (i + 1) graph) other) ≡ times need (needs_of (take i graph) other) + cond (eqb other i) (times need (get_or graph i [])) 0
rows_more graph i need other within =
    row_more (eqb other i) need _ _ _
    (λ same.
    let is : other ≡ i = eqb-true other i same in
    (row_before graph (i + 1) other (omega arith) ∙ ap (needs_of graph) is, row_past graph i other (omega arith)))
    (λ differ. elim (cases_order other i) [
      | inl same ↦ absurd (eqb-false other i differ same)
      | inr apart ↦ elim apart [
        | inl less ↦ row_before graph (i + 1) other (omega arith) ∙ sym (row_before graph i other less)
        | inr more ↦ row_past graph (i + 1) other (omega arith) ∙ sym (row_past graph i other (omega arith))
      ]
    ])
