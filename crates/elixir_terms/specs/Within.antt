-- The limits of what is read.
use Rattle.std.specs.Prelude.{◌≡◌, ℕ, ◌^◌, ◌≤◌, List, [], ◌∷◌, length, ℤ, pos, neg_ℤ, ◌≤ℤ◌, ◌<ℤ◌}
use Rattle.term_values.specs.declared.term.Term.{Term}
use Rattle.elixir_terms.specs.Bounded.{Rules, Bounded}

-- the longest text, in bytes
abbrev pub longest : ℕ
longest = 4194304

-- the deepest term, in levels
abbrev pub deepest : ℕ
deepest = 64

-- none of the terms
abbrev pub IsNone : Term → List Term → Type 0
IsNone t [] = Unit {0}
IsNone t (other ∷ others) = ((t ≡ other) → ⊥) × IsNone t others

-- no term stands twice
abbrev pub Differ : List Term → Type 0
Differ [] = Unit {0}
Differ (t ∷ ts) = IsNone t ts × Differ ts

-- the integer has 128 bits
abbrev pub HasBits : ℤ → Type 0
HasBits n = (neg_ℤ (pos (2 ^ 127)) ≤ℤ n) × (n <ℤ pos (2 ^ 127))

-- integers have 128 bits, and the keys of a map differ
abbrev pub limits : Rules
limits = record { integers = HasBits; keys = Differ }

-- the term has at most so many levels, its integers have 128 bits, and the keys of each map in it differ
abbrev pub Fits : ℕ → Term → Type 0
Fits = Bounded limits

-- the text and the term are within the limits
pub record Within (text : List ℕ) (t : Term) : Type 0 where
  pub short : length text ≤ longest
  pub fits : Fits deepest t
