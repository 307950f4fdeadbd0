-- Terms of so many levels.
use Rattle.std.specs.Prelude.{ℕ, suc, List, [], ◌∷◌, map, ℤ}
use Rattle.term_values.specs.declared.term.Term.{Term}
use Rattle.term_values.specs.declared.term.Term.TheVariants.{Atom, Int, Str, List as Listed, Tuple, Map}
use Rattle.term_values.specs.Views.{Pair}

-- what is asked of the integers in a term, and of the keys of each map in it
pub record Rules : Type 1 where
  pub integers : ℤ → Type 0
  pub keys : List Term → Type 0

mutual
  -- the term has at most so many levels, and keeps the rules. An atom, an integer and a string have level 0, and a list,
  -- a tuple or a map has one more than the deepest of its parts, the keys and values of a map
  pub data Bounded (r : Rules) : ℕ → Term → Type 0 where
    atom : {levels : ℕ} {name : List ℕ} → Bounded r levels (Atom name)
    integer : {levels : ℕ} {n : ℤ} → r.integers n → Bounded r levels (Int n)
    string : {levels : ℕ} {bytes : List ℕ} → Bounded r levels (Str bytes)
    list : {levels : ℕ} {parts : List Term} → AllBounded r levels parts → Bounded r (suc levels) (Listed parts)
    tuple : {levels : ℕ} {parts : List Term} → AllBounded r levels parts → Bounded r (suc levels) (Tuple parts)
    mapping : {levels : ℕ} {pairs : List Pair} → PairsBounded r levels pairs → r.keys (map (λ p. p.0) pairs) → Bounded r (suc levels) (Map pairs)

  pub data AllBounded (r : Rules) : ℕ → List Term → Type 0 where
    none : {levels : ℕ} → AllBounded r levels []
    more : {levels : ℕ} {t : Term} {ts : List Term} → Bounded r levels t → AllBounded r levels ts → AllBounded r levels (t ∷ ts)

  pub data PairsBounded (r : Rules) : ℕ → List Pair → Type 0 where
    no_pairs : {levels : ℕ} → PairsBounded r levels []
    more_pairs : {levels : ℕ} {key value : Term} {pairs : List Pair} → Bounded r levels key → Bounded r levels value → PairsBounded r levels pairs → PairsBounded r levels ((key, value) ∷ pairs)
