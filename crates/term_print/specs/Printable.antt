-- The terms whose text spells them.
use Rattle.std.specs.Prelude.{ℕ, ◌^◌, ◌<◌, List, [], ◌∷◌, ℤ, pos, neg_ℤ, ◌≤ℤ◌, ◌<ℤ◌}
use Rattle.std.specs.Str.{IsUtf8}
use Rattle.term_values.specs.declared.term.Term.{Term}
use Rattle.term_values.specs.declared.term.Term.TheVariants.{Atom, Int, Str, List as Listed, Tuple, Map}
use Rattle.term_values.specs.Views.{Pair}

-- each is a byte
abbrev pub AreBytes : List ℕ → Type 0
AreBytes [] = Unit {0}
AreBytes (byte ∷ bytes) = (byte < 256) × AreBytes bytes

mutual
  -- the term's atoms are UTF-8, and its integers have 128 bits
  pub data IsPrintable : Term → Type 0 where
    atom : {name : List ℕ} → IsUtf8 name → IsPrintable (Atom name)
    integer : {n : ℤ} → neg_ℤ (pos (2 ^ 127)) ≤ℤ n → n <ℤ pos (2 ^ 127) → IsPrintable (Int n)
    string : {bytes : List ℕ} → AreBytes bytes → IsPrintable (Str bytes)
    list : {parts : List Term} → ArePrintable parts → IsPrintable (Listed parts)
    tuple : {parts : List Term} → ArePrintable parts → IsPrintable (Tuple parts)
    mapping : {pairs : List Pair} → PairsArePrintable pairs → IsPrintable (Map pairs)

  pub data ArePrintable : List Term → Type 0 where
    none : ArePrintable []
    more : {t : Term} {ts : List Term} → IsPrintable t → ArePrintable ts → ArePrintable (t ∷ ts)

  pub data PairsArePrintable : List Pair → Type 0 where
    no_pairs : PairsArePrintable []
    more_pairs : {key value : Term} {pairs : List Pair} → IsPrintable key → IsPrintable value → PairsArePrintable pairs → PairsArePrintable ((key, value) ∷ pairs)
