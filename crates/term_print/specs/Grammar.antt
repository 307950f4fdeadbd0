-- The terms that tokens stand for.
use Rattle.std.specs.Prelude.{◌≡◌, ℕ, List, [], ◌∷◌, ◌++◌, map, Option, Some, None, ℤ}
use Rattle.term_tokens.specs.declared.bracket.Bracket.{Bracket}
use Rattle.term_tokens.specs.declared.bracket.Bracket.TheVariants as bracket
use Rattle.term_values.specs.declared.term.Term.{Term}
use Rattle.term_values.specs.declared.term.Term.TheVariants as term
use Rattle.term_tokens.specs.declared.token.Closing.{Closing}
use Rattle.term_tokens.specs.declared.token.Closing.TheVariants.{Square, Curly}
use Rattle.term_tokens.specs.declared.token.Token.{Token}
use Rattle.term_tokens.specs.declared.token.Token.TheVariants.{Atom, Int, Str, Words, Key, Open, Close, Comma, Arrow}
use Rattle.term_tokens.specs.declared.token.WordKind.{WordKind}
use Rattle.term_tokens.specs.declared.token.WordKind.TheVariants.{Strings, Atoms}
use Rattle.term_values.specs.Views.{Pair}

-- a word as a term
abbrev pub word_term : WordKind → List ℕ → Term
word_term Strings word = term.Str word
word_term Atoms word = term.Atom word

-- the list of the words
abbrev pub word_list : WordKind → List (List ℕ) → Term
word_list kind words = term.List (map (word_term kind) words)

-- a pair as an element of a list: the tuple of both
abbrev pub pair_tuple : Pair → Term
pair_tuple pair = term.Tuple (pair.0 ∷ pair.1 ∷ [])

abbrev pub closing_of : Bracket → Closing
closing_of bracket.List = Square
closing_of bracket.Tuple = Curly
closing_of bracket.Map = Curly

-- the term that brackets make of the elements, the entries `key => value` and the keywords in them, where there
-- is one: a list and a tuple take no entries, and a map no elements. In a tuple the keywords are one last
-- element, and need an element before them
abbrev pub enclosed : Bracket → List Term → List Pair → List Pair → Option Term
enclosed bracket.List items [] keywords = Some (term.List (items ++ map pair_tuple keywords))
enclosed bracket.Tuple items [] [] = Some (term.Tuple items)
enclosed bracket.Tuple (item ∷ items) [] (k ∷ keywords) = Some (term.Tuple (item ∷ items ++ term.List (map pair_tuple (k ∷ keywords)) ∷ []))
enclosed bracket.Map [] entries keywords = Some (term.Map (entries ++ keywords))
enclosed bracket items entries keywords = None

mutual
  -- tokens that make one term
  pub data IsTerm : List Token → Term → Type 0 where
    atom : {name : List ℕ} → IsTerm (Atom name ∷ []) (term.Atom name)
    integer : {n : ℤ} → IsTerm (Int n ∷ []) (term.Int n)
    string : {bytes : List ℕ} → IsTerm (Str bytes ∷ []) (term.Str bytes)
    words : {kind : WordKind} {words : List (List ℕ)} → IsTerm (Words kind words ∷ []) (word_list kind words)
    brackets : {kind : Bracket} {inside : List Token} {items : List Term} {entries keywords : List Pair} {t : Term} → Inside inside items entries keywords → enclosed kind items entries keywords ≡ Some t → IsTerm (Open kind ∷ inside ++ Close (closing_of kind) ∷ []) t

  -- what may stand between brackets or after a comma: nothing, or a first part and what follows it. After a
  -- keyword there are only keywords
  pub data Inside : List Token → List Term → List Pair → List Pair → Type 0 where
    nothing : Inside [] [] [] []
    element : {word more : List Token} {t : Term} {items : List Term} {entries keywords : List Pair} → IsTerm word t → Follows more items entries keywords → Inside (word ++ more) (t ∷ items) entries keywords
    entry : {first second more : List Token} {key value : Term} {items : List Term} {entries keywords : List Pair} → IsTerm first key → IsTerm second value → Follows more items entries keywords → Inside (first ++ Arrow ∷ second ++ more) items ((key, value) ∷ entries) keywords
    keyword : {key : List ℕ} {word more : List Token} {t : Term} {keywords : List Pair} → IsTerm word t → Follows more [] [] keywords → Inside (Key key ∷ word ++ more) [] [] ((term.Atom key, t) ∷ keywords)

  -- what may follow a part: nothing, or a comma and what may stand after it
  pub data Follows : List Token → List Term → List Pair → List Pair → Type 0 where
    end : Follows [] [] [] []
    comma : {more : List Token} {items : List Term} {entries keywords : List Pair} → Inside more items entries keywords → Follows (Comma ∷ more) items entries keywords
