-- What terms are, seen from outside.
use Rattle.std.proofs.Common.{◌≡◌, ℕ, List, Option, Some, None, refl, sym, ◌∙◌, ap}
use Rattle.std.proofs.lemmas.Option.{same_Some, none-some}
use Rattle.term_values.specs.declared.term.Term.{Term}
use Rattle.term_values.specs.declared.term.Term.TheOpen.{Term-F}
use Rattle.term_values.specs.declared.term.Term.TheVariants as term
use Rattle.term_values.specs.declared.term.Term.TheViews.{out-Term, roll-Term, out-roll-Term, roll-out-Term}
use Rattle.term_values.specs.Views.{Pair, atom_of, string_of, list_of, tuple_of, map_of}

pub out_atom : (name : List ℕ) → out-Term (term.Atom name) ≡ Term-F.Atom name
out_atom name = ap out-Term (sym (term.rolls-Atom name)) ∙ out-roll-Term (Term-F.Atom name)

out_string : (bytes : List ℕ) → out-Term (term.Str bytes) ≡ Term-F.Str bytes
out_string bytes = ap out-Term (sym (term.rolls-Str bytes)) ∙ out-roll-Term (Term-F.Str bytes)

out_list : (parts : List Term) → out-Term (term.List parts) ≡ Term-F.List parts
out_list parts = ap out-Term (sym (term.rolls-List parts)) ∙ out-roll-Term (Term-F.List parts)

pub out_tuple : (parts : List Term) → out-Term (term.Tuple parts) ≡ Term-F.Tuple parts
out_tuple parts = ap out-Term (sym (term.rolls-Tuple parts)) ∙ out-roll-Term (Term-F.Tuple parts)

out_map : (pairs : List Pair) → out-Term (term.Map pairs) ≡ Term-F.Map pairs
out_map pairs = ap out-Term (sym (term.rolls-Map pairs)) ∙ out-roll-Term (Term-F.Map pairs)

pub atom_is : (name : List ℕ) → atom_of (term.Atom name) ≡ Some name
atom_is name = rw (out_atom name) refl

pub string_is : (bytes : List ℕ) → string_of (term.Str bytes) ≡ Some bytes
string_is bytes = rw (out_string bytes) refl

pub list_is : (parts : List Term) → list_of (term.List parts) ≡ Some parts
list_is parts = rw (out_list parts) refl

pub tuple_is : (parts : List Term) → tuple_of (term.Tuple parts) ≡ Some parts
tuple_is parts = rw (out_tuple parts) refl

pub map_is : (pairs : List Pair) → map_of (term.Map pairs) ≡ Some pairs
map_is pairs = rw (out_map pairs) refl

-- an atom is known by its name
pub atom_named : (t : Term) (name : List ℕ) → atom_of t ≡ Some name → t ≡ term.Atom name
atom_named t name e = at (out-Term t) refl
  where
    at : (x : Term-F Term) → out-Term t ≡ x → t ≡ term.Atom name
    at (Term-F.Atom other) is =
        let same : other ≡ name = same_Some other name (rw is at e) in
        sym (roll-out-Term t) ∙ ap roll-Term is ∙ term.rolls-Atom other ∙ ap term.Atom same
    at (Term-F.Int n) is = absurd (none-some name (rw is at e))
    at (Term-F.Str bytes) is = absurd (none-some name (rw is at e))
    at (Term-F.List parts) is = absurd (none-some name (rw is at e))
    at (Term-F.Tuple parts) is = absurd (none-some name (rw is at e))
    at (Term-F.Map pairs) is = absurd (none-some name (rw is at e))

-- a map is known by its pairs
pub map_named : (t : Term) (pairs : List Pair) → map_of t ≡ Some pairs → t ≡ term.Map pairs
map_named t pairs e = at (out-Term t) refl
  where
    at : (x : Term-F Term) → out-Term t ≡ x → t ≡ term.Map pairs
    at (Term-F.Map others) is =
        let same : others ≡ pairs = same_Some others pairs (rw is at e) in
        sym (roll-out-Term t) ∙ ap roll-Term is ∙ term.rolls-Map others ∙ ap term.Map same
    at (Term-F.Int n) is = absurd (none-some pairs (rw is at e))
    at (Term-F.Str bytes) is = absurd (none-some pairs (rw is at e))
    at (Term-F.List parts) is = absurd (none-some pairs (rw is at e))
    at (Term-F.Tuple parts) is = absurd (none-some pairs (rw is at e))
    at (Term-F.Atom name) is = absurd (none-some pairs (rw is at e))

-- a term that is no map has no pairs
pub no_map_of : (t : Term) → ((pairs : List Pair) → t ≡ term.Map pairs → ⊥) → map_of t ≡ None
no_map_of t other = at (map_of t) refl
  where
    at : (found : Option (List Pair)) → map_of t ≡ found → found ≡ None
    at None e = refl
    at (Some pairs) e = absurd (other pairs (map_named t pairs e))
