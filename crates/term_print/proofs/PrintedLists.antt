-- The texts of printable lists and tuples spell them.
use Rattle.std.proofs.Common.{◌≡◌, ℕ, Bool, true, false, List, [], ◌∷◌, ◌++◌, map, Option, Some, is_some, unwrap_or, option_map, refl, sym, ◌∙◌, ap, subst, append-nil}
use Rattle.std.specs.List.{list_all}
use Rattle.std.proofs.lemmas.Bool.{and_parts, false≢true}
use Rattle.term_tokens.specs.declared.bracket.Bracket.TheVariants as bracket
use Rattle.term_values.specs.declared.term.Term.{Term}
use Rattle.term_values.specs.declared.term.Term.TheVariants.{Atom, List as Listed, Tuple, Map}
use Rattle.term_tokens.specs.declared.token.Token.TheVariants as token
use Rattle.term_print.specs.Grammar.{pair_tuple, enclosed, Inside}
use Rattle.term_values.specs.Views.{Pair}
use Rattle.term_print.specs.Printed.{Shown, key_text, plain, keyword_of, shown, printed, printed_keyword}
use Rattle.term_print.proofs.Shows.{shown-list, shown-tuple, inside-keywords, inside-parts, option_some}
use Rattle.term_print.proofs.PrintedParts.{Word, key_word, Parts, no_parts, first_part}
use Rattle.term_print.proofs.PrintedBrackets.{AsKeyword, Spelled, plain_spelled, bracket_tokens, bracket_text, bracket_word, bracket_grammar}

abbrev pub AllSpelled : List Term → Type 0
AllSpelled [] = Unit {0}
AllSpelled (t ∷ ts) = Spelled t × AllSpelled ts

pub items_parts : (ts : List Term) → AllSpelled ts → Parts ts [] [] (map printed ts)
items_parts [] all = no_parts
items_parts (t ∷ ts) all =
    let others = (items_parts ts all.1).after in
    first_part all.0.tokens (t ∷ ts) ts [] [] [] [] (printed t) (map printed ts) all.0.word others (Inside.element all.0.grammar others.grammar)

abbrev pub are_keywords : List Term → Bool
are_keywords ts = list_all (λ t. is_some (shown t).keyword) ts

-- terms that are keywords, and their keys and values
pub record Keywords (ts : List Term) : Type 0 where
  pub pairs : List Pair
  pub are : map pair_tuple pairs ≡ ts
  pub parts : Parts [] [] pairs (map printed_keyword ts)

pub keywords_parts : (ts : List Term) → AllSpelled ts → are_keywords ts ≡ true → Keywords ts
keywords_parts [] all each = record { pairs = []; are = refl; parts = no_parts }
keywords_parts (t ∷ ts) all each =
    let tests = and_parts (is_some (shown t).keyword) (are_keywords ts) each in
    let k = all.0.keyword tests.0 in
    let others = keywords_parts ts all.1 tests.1 in
    let after = others.parts.after in
    record {
      pairs = (Atom k.name, k.value) ∷ others.pairs;
      are = ap (λ (x : Term). x ∷ map pair_tuple others.pairs) (sym k.is) ∙ ap (λ (xs : List Term). t ∷ xs) others.are;
      parts = first_part (token.Key k.name ∷ k.tokens) [] [] [] [] ((Atom k.name, k.value) ∷ others.pairs) others.pairs (printed_keyword t) (map printed_keyword ts)
          k.word after (Inside.keyword k.grammar after.grammar);
    }

pub list_enclosed : (items : List Term) (keywords : List Pair) → enclosed bracket.List items [] keywords ≡ Some (Listed (items ++ map pair_tuple keywords))
list_enclosed [] [] = refl
list_enclosed [] (k ∷ keywords) = refl
list_enclosed (t ∷ items) [] = refl
list_enclosed (t ∷ items) (k ∷ keywords) = refl

pub tuple_enclosed : (items : List Term) → enclosed bracket.Tuple items [] [] ≡ Some (Tuple items)
tuple_enclosed [] = refl
tuple_enclosed (t ∷ items) = refl

pub map_enclosed : (entries keywords : List Pair) → enclosed bracket.Map [] entries keywords ≡ Some (Map (entries ++ keywords))
map_enclosed [] [] = refl
map_enclosed [] (k ∷ keywords) = refl
map_enclosed (e ∷ entries) [] = refl
map_enclosed (e ∷ entries) (k ∷ keywords) = refl

pub list_of_keywords : (ts : List Term) → AllSpelled ts → are_keywords ts ≡ true → Spelled (Listed ts)
list_of_keywords ts all each =
    let k = keywords_parts ts all each in
    let texts = map printed_keyword ts in
    plain_spelled (Listed ts) (bracket_text bracket.List [] [] k.pairs texts k.parts.between) (bracket_tokens bracket.List [] [] k.pairs texts k.parts.between)
    (shown-list ts ∙ ap (λ (w : List ℕ). plain (91 ∷ (w ++ 93 ∷ []))) (inside-keywords ts each))
    (bracket_grammar bracket.List [] [] k.pairs texts k.parts.between (Listed ts) (list_enclosed [] k.pairs ∙ ap (λ (xs : List Term). Some (Listed xs)) k.are))
    (bracket_word bracket.List [] [] k.pairs texts k.parts.between)

pub list_of_items : (ts : List Term) → AllSpelled ts → are_keywords ts ≡ false → Spelled (Listed ts)
list_of_items ts all some =
    let inside = (items_parts ts all).between in
    let texts = map printed ts in
    plain_spelled (Listed ts) (bracket_text bracket.List ts [] [] texts inside) (bracket_tokens bracket.List ts [] [] texts inside)
    (shown-list ts ∙ ap (λ (w : List ℕ). plain (91 ∷ (w ++ 93 ∷ []))) (inside-parts ts some))
    (bracket_grammar bracket.List ts [] [] texts inside (Listed ts) (list_enclosed ts [] ∙ ap (λ (xs : List Term). Some (Listed xs)) (append-nil ts)))
    (bracket_word bracket.List ts [] [] texts inside)

pub list_spelled : (ts : List Term) → AllSpelled ts → Spelled (Listed ts)
list_spelled ts all = at (are_keywords ts) refl
  where
    at : (b : Bool) → are_keywords ts ≡ b → Spelled (Listed ts)
    at true e = list_of_keywords ts all e
    at false e = list_of_items ts all e

pub tuple_keyword : (ts : List Term) → AllSpelled ts → is_some (keyword_of (map shown ts)) ≡ true → AsKeyword (Tuple ts)
tuple_keyword [] all e = absurd (false≢true e)
tuple_keyword (k ∷ []) all e = absurd (false≢true e)
tuple_keyword (k ∷ v ∷ []) all e =
    let key = all.0.key (sym (option_some (shown k).key (shown v).text) ∙ e) in
    let value = all.1.0 in
    let text : printed_keyword (Tuple (k ∷ v ∷ [])) ≡ key_text key.name ++ printed v =
    ap (λ (s : Shown). unwrap_or s.keyword []) (shown-tuple (k ∷ v ∷ []))
    ∙ ap (λ (found : Option (List ℕ)). unwrap_or (option_map (λ text. text ++ printed v) found) []) key.key in
    record {
      name = key.name;
      value = v;
      is = ap (λ (x : Term). Tuple (x ∷ v ∷ [])) key.is;
      tokens = value.tokens;
      grammar = value.grammar;
      word = subst (Word (token.Key key.name ∷ value.tokens)) (sym text) (key_word key.name value.tokens (printed v) key.utf8 key.fit value.word);
    }
tuple_keyword (a ∷ b ∷ c ∷ ts) all e = absurd (false≢true e)

pub tuple_spelled : (ts : List Term) → AllSpelled ts → Spelled (Tuple ts)
tuple_spelled ts all =
    let inside = (items_parts ts all).between in
    let texts = map printed ts in
    record {
      tokens = bracket_tokens bracket.Tuple ts [] [] texts inside;
      grammar = bracket_grammar bracket.Tuple ts [] [] texts inside (Tuple ts) (tuple_enclosed ts);
      word = subst (Word (bracket_tokens bracket.Tuple ts [] [] texts inside)) (sym (ap (λ (s : Shown). s.text) (shown-tuple ts))) (bracket_word bracket.Tuple ts [] [] texts inside);
      key = λ e. absurd (false≢true (sym (ap (λ (s : Shown). is_some s.key) (shown-tuple ts)) ∙ e));
      keyword = λ e. tuple_keyword ts all (sym (ap (λ (s : Shown). is_some s.keyword) (shown-tuple ts)) ∙ e);
    }
