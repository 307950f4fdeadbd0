-- Words are cut into pieces in one way.
use Rattle.std.proofs.Common.{◌≡◌, ℕ, Bool, true, false, cond, ◌==◌, List, [], ◌∷◌, ◌++◌, Option, Some, None, refl, sym, ap, ◌∙◌, subst, arith}
use Rattle.std.specs.Prelude.{if◌then◌else◌, codes, bytes_eq, IsFalse}
use Rattle.mx_base.specs.Path.{text_after}
use Rattle.mix_words.specs.declared.option.Valued.{Valued}
use Rattle.mix_words.specs.declared.option.Valued.TheVariants.{Env, Target, Partitions}
use Rattle.mix_words.specs.declared.option.Flag.{Flag}
use Rattle.mix_words.specs.declared.option.Flag.TheVariants.{Plain, Trace}
use Rattle.mix_words.specs.Piece.{Piece, Spaced, Joint, Raised, Other, Word, Stand, Stands, flag_word, is_dashed, valued_word, words_in, words_of}

-- what a word is by itself
pub data Kind : Type 0 where
  Wants : (option : Valued) → Kind
  Raises : (flag : Flag) → Kind
  Assigns : (option : Valued) (value : Word) → Kind
  Plainly : (word : Word) → Kind

abbrev assigned_or : Option Word → Valued → Kind → Kind
assigned_or (Some value) option other = Assigns option value
assigned_or None option other = other

abbrev assigned : Word → Kind
assigned word =
    assigned_or (text_after (codes "--env=") word) Env
    (assigned_or (text_after (codes "--target=") word) Target
    (assigned_or (text_after (codes "--partitions=") word) Partitions (Plainly word)))

abbrev kind_of : Word → Kind
kind_of word =
    if bytes_eq word (codes "--env") then Wants Env
    else if bytes_eq word (codes "--target") then Wants Target
    else if bytes_eq word (codes "--partitions") then Wants Partitions
    else if bytes_eq word (codes "--plain") then Raises Plain
    else if bytes_eq word (codes "--trace") then Raises Trace
    else assigned word

abbrev first_in : Piece → Word
first_in (Spaced option value) = valued_word option
first_in (Joint option value) = valued_word option ++ 61 ∷ value
first_in (Raised flag) = flag_word flag
first_in (Other word) = word

abbrev kind_in : Piece → Kind
kind_in (Spaced option value) = Wants option
kind_in (Joint option value) = Assigns option value
kind_in (Raised flag) = Raises flag
kind_in (Other word) = Plainly word

flipped : (a b : ℕ) → (a == b) ≡ false → (b == a) ≡ false
flipped a b e = grind arith

plain_kind : (byte : ℕ) (bytes : Word) → (byte == 45) ≡ false → (45 == byte) ≡ false → kind_of (byte ∷ bytes) ≡ Plainly (byte ∷ bytes)
plain_kind byte bytes e f = simp (e, f)

wants_kind : (option : Valued) → kind_of (valued_word option) ≡ Wants option
wants_kind Env = refl
wants_kind Target = refl
wants_kind Partitions = refl

assigns_kind : (option : Valued) (value : Word) → kind_of (valued_word option ++ 61 ∷ value) ≡ Assigns option value
assigns_kind Env value = refl
assigns_kind Target value = refl
assigns_kind Partitions value = refl

raises_kind : (flag : Flag) → kind_of (flag_word flag) ≡ Raises flag
raises_kind Plain = refl
raises_kind Trace = refl

kind_first : (piece : Piece) → Stands piece → kind_of (first_in piece) ≡ kind_in piece
kind_first (Spaced option value) s = wants_kind option
kind_first (Joint option value) s = assigns_kind option value
kind_first (Raised flag) s = raises_kind flag
kind_first (Other []) s = refl
kind_first (Other (byte ∷ bytes)) s = plain_kind byte bytes s (flipped byte 45 s)

abbrev head_or : List Word → Word
head_or [] = []
head_or (word ∷ words) = word

first_head : (piece : Piece) (more : List Word) → head_or (words_in piece ++ more) ≡ first_in piece
first_head (Spaced option value) more = refl
first_head (Joint option value) more = refl
first_head (Raised flag) more = refl
first_head (Other word) more = refl

same_kind : (p q : Piece) (x y : List Word) → Stands p → Stands q → words_in p ++ x ≡ words_in q ++ y → kind_in p ≡ kind_in q
same_kind p q x y s t e =
    sym (kind_first p s) ∙ ap kind_of (sym (first_head p x) ∙ ap head_or e ∙ first_head q y) ∙ kind_first q t

pub same_piece : (p q : Piece) (x y : List Word) → Stands p → Stands q → words_in p ++ x ≡ words_in q ++ y → (p ≡ q) × (x ≡ y)
same_piece (Spaced o v) (Spaced n w) x y s t e = let k : Wants o ≡ Wants n = same_kind (Spaced o v) (Spaced n w) x y s t e in ((cc), (cc))
same_piece (Spaced o v) (Joint n w) x y s t e = let k : Wants o ≡ Assigns n w = same_kind (Spaced o v) (Joint n w) x y s t e in ((cc), (cc))
same_piece (Spaced o v) (Raised n) x y s t e = let k : Wants o ≡ Raises n = same_kind (Spaced o v) (Raised n) x y s t e in ((cc), (cc))
same_piece (Spaced o v) (Other w) x y s t e = let k : Wants o ≡ Plainly w = same_kind (Spaced o v) (Other w) x y s t e in ((cc), (cc))
same_piece (Joint o v) (Spaced n w) x y s t e = let k : Assigns o v ≡ Wants n = same_kind (Joint o v) (Spaced n w) x y s t e in ((cc), (cc))
same_piece (Joint o v) (Joint n w) x y s t e = let k : Assigns o v ≡ Assigns n w = same_kind (Joint o v) (Joint n w) x y s t e in ((cc), (cc))
same_piece (Joint o v) (Raised n) x y s t e = let k : Assigns o v ≡ Raises n = same_kind (Joint o v) (Raised n) x y s t e in ((cc), (cc))
same_piece (Joint o v) (Other w) x y s t e = let k : Assigns o v ≡ Plainly w = same_kind (Joint o v) (Other w) x y s t e in ((cc), (cc))
same_piece (Raised o) (Spaced n w) x y s t e = let k : Raises o ≡ Wants n = same_kind (Raised o) (Spaced n w) x y s t e in ((cc), (cc))
same_piece (Raised o) (Joint n w) x y s t e = let k : Raises o ≡ Assigns n w = same_kind (Raised o) (Joint n w) x y s t e in ((cc), (cc))
same_piece (Raised o) (Raised n) x y s t e = let k : Raises o ≡ Raises n = same_kind (Raised o) (Raised n) x y s t e in ((cc), (cc))
same_piece (Raised o) (Other w) x y s t e = let k : Raises o ≡ Plainly w = same_kind (Raised o) (Other w) x y s t e in ((cc), (cc))
same_piece (Other v) (Spaced n w) x y s t e = let k : Plainly v ≡ Wants n = same_kind (Other v) (Spaced n w) x y s t e in ((cc), (cc))
same_piece (Other v) (Joint n w) x y s t e = let k : Plainly v ≡ Assigns n w = same_kind (Other v) (Joint n w) x y s t e in ((cc), (cc))
same_piece (Other v) (Raised n) x y s t e = let k : Plainly v ≡ Raises n = same_kind (Other v) (Raised n) x y s t e in ((cc), (cc))
same_piece (Other v) (Other w) x y s t e = let k : Plainly v ≡ Plainly w = same_kind (Other v) (Other w) x y s t e in ((cc), (cc))

pub no_piece : (p : Piece) (x : List Word) → words_in p ++ x ≡ [] → ⊥
no_piece (Spaced o v) x e = cc
no_piece (Joint o v) x e = cc
no_piece (Raised o) x e = cc
no_piece (Other w) x e = cc

-- the word of an option with a value has its value behind it
pub record HasValue (option : Valued) (piece : Piece) (left more : List Word) : Type 0 where
  pub value : Word
  pub rest : List Word
  pub spaced : piece ≡ Spaced option value
  pub before : left ≡ value ∷ rest
  pub behind : more ≡ rest

wanted : (option : Valued) (left more : List Word) (p : Piece) → valued_word option ∷ left ≡ words_in p ++ more → Wants option ≡ kind_in p
    → HasValue option p left more
wanted option left more (Spaced o v) e k = record { value = v; rest = more; spaced = cc; before = cc; behind = refl }
wanted option left more (Joint o v) e k = cc
wanted option left more (Raised o) e k = cc
wanted option left more (Other w) e k = cc

pub has_value : (option : Valued) (left more : List Word) (p : Piece) → Stands p → valued_word option ∷ left ≡ words_in p ++ more → HasValue option p left more
has_value option left more p s e =
    wanted option left more p e (sym (wants_kind option) ∙ ap kind_of (ap head_or e ∙ first_head p more) ∙ kind_first p s)

-- a word that is nothing else, and begins as options do, is no piece's first
pub record IsUnknown (word : Word) : Type 0 where
  pub no_valued : (option : Valued) → word ≡ valued_word option → ⊥
  pub no_flag : (flag : Flag) → word ≡ flag_word flag → ⊥
  pub no_value : (option : Valued) (value : Word) → word ≡ valued_word option ++ 61 ∷ value → ⊥
  pub dashed : is_dashed word ≡ true

pub unknown_begins_none : (word : Word) (left more : List Word) (p : Piece) → IsUnknown word → Stands p → word ∷ left ≡ words_in p ++ more → ⊥
unknown_begins_none word left more (Spaced o v) u s e = u.no_valued o (ap head_or e)
unknown_begins_none word left more (Joint o v) u s e = u.no_value o v (ap head_or e)
unknown_begins_none word left more (Raised f) u s e = u.no_flag f (ap head_or e)
unknown_begins_none word left more (Other w) u s e =
    let same : is_dashed word ≡ is_dashed w = ap is_dashed (ap head_or e) in
    let both : true ≡ false = sym u.dashed ∙ same ∙ s in cc
