-- Lists of words, as `~w(dev test)a`.
use Rattle.std.specs.Prelude.{ℕ, Bool, true, false, not, ◌&&◌, ◌||◌, ◌==◌, List, [], ◌∷◌, ◌++◌, IsTrue}
use Rattle.std.specs.List.{list_all}
use Rattle.term_tokens.specs.declared.token.WordKind.{WordKind}
use Rattle.term_tokens.specs.declared.token.WordKind.TheVariants.{Strings, Atoms}
use Rattle.term_tokens.specs.Names.{is_blank}
use Rattle.term_tokens.specs.Strings.{opens_interpolation}

-- what may stand between the parentheses: no `)`, no backslash, no `#` before `{`
abbrev pub is_inside : List ℕ → Bool
is_inside [] = true
is_inside (byte ∷ text) = not (byte == 41 || byte == 92 || opens_interpolation byte text) && is_inside text

-- a word: at least one byte, and no blank
abbrev pub is_word : List ℕ → Bool
is_word [] = false
is_word (byte ∷ bytes) = list_all (λ b. not (is_blank b)) (byte ∷ bytes)

-- a word ends before a blank and at the end
abbrev pub is_cut : List ℕ → Bool
is_cut [] = true
is_cut (byte ∷ text) = is_blank byte

-- the text, cut into words at runs of blanks
pub data Cut : List ℕ → List (List ℕ) → Type 0 where
  end : {blanks : List ℕ} → IsTrue (list_all is_blank blanks) → Cut blanks []
  word : (blanks word : List ℕ) {rest : List ℕ} {words : List (List ℕ)} → IsTrue (list_all is_blank blanks) → IsTrue (is_word word) → IsTrue (is_cut rest) → Cut rest words → Cut (blanks ++ word ++ rest) (word ∷ words)

-- what words are by the modifier after them: strings without one and with `s`, atoms with `a`
pub data Modified : List ℕ → WordKind → Type 0 where
  none : Modified [] Strings
  strings : Modified (115 ∷ []) Strings
  atoms : Modified (97 ∷ []) Atoms
