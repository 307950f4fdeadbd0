-- The keys of an open bracket, and their codes.
use Rattle.std.specs.Prelude.{◌≡◌, ℕ, Bool, List, ◌++◌, map}
use Rattle.std.specs.List.{list_any}
use Rattle.std.specs.Str.{bytes_eq}
use Rattle.std.specs.BTreeSet.{BTreeSet, contains}
use Rattle.mx_base.specs.Order.{text_cmp}
use Rattle.elixir_terms.specs.declared.frame.Frame.{Frame}
use Rattle.term_values.specs.declared.term.Term.{Term}
use Rattle.elixir_terms.specs.KeyCode.{term_code}

-- the keys that were read in a bracket
abbrev pub keys_in : Frame → List Term
keys_in frame = map (λ p. p.0) (frame.entries ++ frame.keywords)

-- whether one of the terms has this code
abbrev pub has_code : List Term → List ℕ → Bool
has_code ts code = list_any (bytes_eq code) (map term_code ts)

-- the set has the codes of the keys that were read in the bracket
abbrev pub HoldsCodes : Frame → BTreeSet (List ℕ) → Type 0
HoldsCodes frame codes = (code : List ℕ) → contains text_cmp codes code ≡ has_code (keys_in frame) code
