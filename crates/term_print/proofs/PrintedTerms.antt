-- The text of a printable term spells it.
use Rattle.std.proofs.Common.{◌≡◌, ℕ, Bool, true, false, List, [], ◌∷◌, ◌++◌, map, Option, Some, is_some, unwrap_or, refl, sym, ◌∙◌, ap, subst, append-nil}
use Rattle.std.specs.List.{list_all}
use Rattle.std.specs.Fmt.{signed_decimal}
use Rattle.std.specs.Str.{IsUtf8}
use Rattle.std.proofs.lemmas.Bool.{and_parts}
use Rattle.term_tokens.specs.declared.bracket.Bracket.TheVariants as bracket
use Rattle.term_values.specs.declared.term.Term.{Term}
use Rattle.term_values.specs.declared.term.Term.TheVariants.{Int, Str, Map}
use Rattle.term_tokens.specs.declared.token.Token.{Token}
use Rattle.term_tokens.specs.declared.token.Token.TheVariants as token
use Rattle.term_print.specs.Grammar.{IsTerm, Inside, Follows}
use Rattle.term_values.specs.Views.{Pair}
use Rattle.term_print.specs.Spells.{Spells}
use Rattle.term_print.specs.Printable.{IsPrintable, ArePrintable, PairsArePrintable}
use Rattle.term_print.specs.Printed.{quoted, key_text, plain, shown, printed, printed_entry, printed_field}
use Rattle.term_print.proofs.PrintedBytes.{utf8_quoted, utf8_bytes}
use Rattle.term_print.proofs.PrintedTokens.{Leads, are_tokens, Stops, string_begins, integer_begins, utf8_integer}
use Rattle.term_print.proofs.Shows.{shown-map, inside-fields, inside-entries}
use Rattle.term_print.proofs.PrintedParts.{Word, one_word, key_word, arrow_word, Parts, no_parts, first_part}
use Rattle.term_print.proofs.PrintedBrackets.{Spelled, shown-int, shown-string, plain_spelled, atom_spelled, bracket_tokens, bracket_text, bracket_word, bracket_grammar}
use Rattle.term_print.proofs.PrintedLists.{AllSpelled, map_enclosed, list_spelled, tuple_spelled}

-- ---- maps

abbrev PairsSpelled : List Pair → Type 0
PairsSpelled [] = Unit {0}
PairsSpelled (p ∷ ps) = Spelled p.0 × Spelled p.1 × PairsSpelled ps

abbrev are_fields : List Pair → Bool
are_fields ps = list_all (λ p. is_some (shown p.0).key) ps

entries_parts : (ps : List Pair) → PairsSpelled ps → Parts [] ps [] (map printed_entry ps)
entries_parts [] all = no_parts
entries_parts (p ∷ ps) all =
    let others = (entries_parts ps all.2).after in
    let word = all.0.tokens ++ (token.Arrow ∷ all.1.tokens) in
    let reads = arrow_word all.0.tokens all.1.tokens (printed p.0) (printed p.1) all.0.word all.1.word in
    first_part word [] [] (p ∷ ps) ps [] [] (printed_entry p) (map printed_entry ps) reads others (Inside.entry all.0.grammar all.1.grammar others.grammar)

-- a pair whose key is an atom, as a keyword
record Field (p : Pair) : Type 0 where
  name : List ℕ
  tokens : List Token
  word : Word (token.Key name ∷ tokens) (printed_field p)
  inside : (more : List Token) (ps : List Pair) → Follows more [] [] ps → Inside (token.Key name ∷ (tokens ++ more)) [] [] (p ∷ ps)

field : (p : Pair) → Spelled p.0 → Spelled p.1 → is_some (shown p.0).key ≡ true → Field p
field p k v e =
    let key = k.key e in
    let text : printed_field p ≡ key_text key.name ++ printed p.1 = ap (λ (found : Option (List ℕ)). unwrap_or found [] ++ printed p.1) key.key in
    record {
      name = key.name;
      tokens = v.tokens;
      word = subst (Word (token.Key key.name ∷ v.tokens)) (sym text) (key_word key.name v.tokens (printed p.1) key.utf8 key.fit v.word);
      inside = λ more ps follows. subst (λ (x : Term). Inside (token.Key key.name ∷ (v.tokens ++ more)) [] [] ((x, p.1) ∷ ps)) (sym key.is) (Inside.keyword v.grammar follows);
    }

fields_parts : (ps : List Pair) → PairsSpelled ps → are_fields ps ≡ true → Parts [] [] ps (map printed_field ps)
fields_parts [] all each = no_parts
fields_parts (p ∷ ps) all each =
    let tests = and_parts (is_some (shown p.0).key) (are_fields ps) each in
    let f = field p all.0 all.1 tests.0 in
    let others = (fields_parts ps all.2 tests.1).after in
    first_part (token.Key f.name ∷ f.tokens) [] [] [] [] (p ∷ ps) ps (printed_field p) (map printed_field ps) f.word others (f.inside others.tokens ps others.grammar)

map_of_fields : (ps : List Pair) → PairsSpelled ps → are_fields ps ≡ true → Spelled (Map ps)
map_of_fields ps all each =
    let inside = (fields_parts ps all each).between in
    let texts = map printed_field ps in
    plain_spelled (Map ps) (bracket_text bracket.Map [] [] ps texts inside) (bracket_tokens bracket.Map [] [] ps texts inside)
    (shown-map ps ∙ ap (λ (w : List ℕ). plain (37 ∷ 123 ∷ (w ++ 125 ∷ []))) (inside-fields ps each))
    (bracket_grammar bracket.Map [] [] ps texts inside (Map ps) (map_enclosed [] ps))
    (bracket_word bracket.Map [] [] ps texts inside)

map_of_entries : (ps : List Pair) → PairsSpelled ps → are_fields ps ≡ false → Spelled (Map ps)
map_of_entries ps all some =
    let inside = (entries_parts ps all).between in
    let texts = map printed_entry ps in
    plain_spelled (Map ps) (bracket_text bracket.Map [] ps [] texts inside) (bracket_tokens bracket.Map [] ps [] texts inside)
    (shown-map ps ∙ ap (λ (w : List ℕ). plain (37 ∷ 123 ∷ (w ++ 125 ∷ []))) (inside-entries ps some))
    (bracket_grammar bracket.Map [] ps [] texts inside (Map ps) (map_enclosed ps [] ∙ ap (λ (xs : List Pair). Some (Map xs)) (append-nil ps)))
    (bracket_word bracket.Map [] ps [] texts inside)

map_spelled : (ps : List Pair) → PairsSpelled ps → Spelled (Map ps)
map_spelled ps all = at (are_fields ps) refl
  where
    at : (b : Bool) → are_fields ps ≡ b → Spelled (Map ps)
    at true e = map_of_fields ps all e
    at false e = map_of_entries ps all e

-- ---- all terms

mutual
  spelled : {t : Term} → IsPrintable t → Spelled t
  spelled (IsPrintable.atom {name = name} utf8) = atom_spelled name utf8 (utf8_bytes name utf8)
  spelled (IsPrintable.integer {n = n} low high) =
      plain_spelled (Int n) (signed_decimal n) (token.Int n ∷ []) (shown-int n) IsTerm.integer (one_word (token.Int n) (signed_decimal n) (λ rest stops. integer_begins n rest low high stops) (utf8_integer n low high))
  spelled (IsPrintable.string {bytes = bytes} fit) =
      plain_spelled (Str bytes) (quoted bytes) (token.Str bytes ∷ []) (shown-string bytes) IsTerm.string (one_word (token.Str bytes) (quoted bytes) (λ rest stops. string_begins bytes rest fit stops) (utf8_quoted bytes fit))
  spelled (IsPrintable.list {parts = parts} each) = list_spelled parts (all_spelled each)
  spelled (IsPrintable.tuple {parts = parts} each) = tuple_spelled parts (all_spelled each)
  spelled (IsPrintable.mapping {pairs = pairs} each) = map_spelled pairs (pairs_spelled each)

  all_spelled : {ts : List Term} → ArePrintable ts → AllSpelled ts
  all_spelled ArePrintable.none = tt
  all_spelled (ArePrintable.more one others) = (spelled one, all_spelled others)

  pairs_spelled : {ps : List Pair} → PairsArePrintable ps → PairsSpelled ps
  pairs_spelled PairsArePrintable.no_pairs = tt
  pairs_spelled (PairsArePrintable.more_pairs key value others) = (spelled key, spelled value, pairs_spelled others)

pub printed_spells : (t : Term) → IsPrintable t → Spells (printed t) t
printed_spells t printable =
    let s = spelled printable in
    record {
      utf8 = s.word.utf8;
      tokens = s.tokens;
      spelled = are_tokens (subst (λ (w : List ℕ). Leads s.tokens w []) (append-nil (printed t)) (s.word.leads [] tt)) refl;
      grammar = s.grammar;
    }

-- the tokens of a term's text where it stands in a longer one, before what may follow a term
pub record Placed (t : Term) : Type 0 where
  pub tokens : List Token
  pub grammar : IsTerm tokens t
  pub leads : (rest : List ℕ) → Stops rest → Leads tokens (printed t ++ rest) rest
  pub utf8 : IsUtf8 (printed t)

pub printed_placed : (t : Term) → IsPrintable t → Placed t
printed_placed t printable = let s = spelled printable in record { tokens = s.tokens; grammar = s.grammar; leads = s.word.leads; utf8 = s.word.utf8 }
