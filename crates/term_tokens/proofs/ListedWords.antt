-- The words of a list of words, and its modifier.
use Rattle.std.specs.Prelude.{not}
use Rattle.std.proofs.Common.{◌≡◌, ℕ, zero, suc, ◌+◌, ◌-◌, ◌<◌, ◌≤◌, Bool, true, false, ◌||◌, List, [], ◌∷◌, ◌++◌, length, take, drop, get_or, cond, eqb, refl, sym, ap, ◌∙◌, arith, subst, append_assoc}
use Rattle.std.proofs.Math.Seq.{drop-cons}
use Rattle.std.proofs.lemmas.Bool.{not-true, not_from_false, and_parts, and_from, and_right, or_parts, or_from, false≢true}
use Rattle.std.proofs.lemmas.Grind.{take_at_read}
use Rattle.std.proofs.lemmas.List.{append-nil, length-drop}
use Rattle.std.specs.List.{list_all}
use Rattle.term_tokens.specs.declared.token.WordKind.{WordKind}
use Rattle.term_tokens.specs.declared.token.WordKind.TheVariants.{Strings}
use Rattle.term_tokens.specs.Names.{is_blank}
use Rattle.term_tokens.specs.Strings.{opens_interpolation}
use Rattle.term_tokens.specs.Tokens.{ends_words}
use Rattle.term_tokens.specs.Words.{is_inside, is_word, is_cut, Cut, end, word as one_word, Modified, none, strings, atoms}
use Rattle.term_tokens.specs.Lexing.{inside_len, kind_of, flushed, words_from}

-- the loop that cuts

pub flushed_before : (word : List ℕ) (words : List (List ℕ)) → flushed word words ≡ flushed word [] ++ words
flushed_before [] words = refl
flushed_before (byte ∷ word) words = refl

-- at a byte inside the text
pub turn : (word text : List ℕ) (at : ℕ) → at < length text → words_from word (drop at text) ≡ cond (is_blank (get_or text at 0)) (flushed word (words_from [] (drop (at + 1) text))) (words_from (word ++ get_or text at 0 ∷ []) (drop (at + 1) text))
turn word text at l =
    let n : suc at ≡ at + 1 = omega arith in
    let e : drop at text ≡ get_or text at 0 ∷ drop (at + 1) text = drop-cons text at 0 l ∙ ap (λ n. get_or text at 0 ∷ drop n text) n in
    ap (words_from word) e

-- a blank ends the word
pub cut_blank : (cut more whole : List (List ℕ)) (word text : List ℕ) (at start : ℕ) → at < length text → is_blank (get_or text at 0) ≡ true → whole ≡ cut ++ words_from word (drop at text) → more ≡ cut ++ flushed word [] → start ≡ at + 1 → (start ≤ at + 1) × (whole ≡ more ++ words_from (take (at + 1 - start) (drop start text)) (drop (at + 1) text))
cut_blank cut more whole word text at start l b h m s =
    let rest = words_from [] (drop (at + 1) text) in
    let zeros : at + 1 - start ≡ 0 = omega (arith, s) in
    let none : take (at + 1 - start) (drop start text) ≡ [] = ap (λ n. take n (drop start text)) zeros in (
      omega (arith, s),
      h
          ∙ ap (λ ws. cut ++ ws) (turn word text at l ∙ ap (λ t. cond t (flushed word rest) (words_from (word ++ get_or text at 0 ∷ []) (drop (at + 1) text))) b)
          ∙ ap (λ x. cut ++ x) (flushed_before word rest)
          ∙ sym (append_assoc cut (flushed word []) rest)
          ∙ ap (λ x. x ++ rest) (sym m)
          ∙ ap (λ w. more ++ words_from w (drop (at + 1) text)) (sym none),
    )

pub get_drop : (text : List ℕ) (start n : ℕ) → get_or (drop start text) n 0 ≡ get_or text (start + n) 0
get_drop text zero n = let e : n ≡ zero + n = omega arith in ap (λ k. get_or text k 0) e
get_drop [] (suc start) n = refl
get_drop (byte ∷ text) (suc start) n = let e : suc (start + n) ≡ suc start + n = omega arith in get_drop text start n ∙ ap (λ k. get_or (byte ∷ text) k 0) e

-- another byte goes on with it
pub cut_more : (cut more whole : List (List ℕ)) (text : List ℕ) (before at start : ℕ) → before ≤ at → at < length text → is_blank (get_or text at 0) ≡ false → whole ≡ cut ++ words_from (take (at - before) (drop before text)) (drop at text) → more ≡ cut → start ≡ before → (start ≤ at + 1) × (whole ≡ more ++ words_from (take (at + 1 - start) (drop start text)) (drop (at + 1) text))
cut_more cut more whole text before at start s l b h m same =
    let word = take (at - before) (drop before text) in
    let there : before + (at - before) ≡ at = omega (arith, s) in
    let one : get_or (drop before text) (at - before) 0 ≡ get_or text at 0 = get_drop text before (at - before) ∙ ap (λ k. get_or text k 0) there in
    let next : at + 1 - before ≡ at - before + 1 = omega (arith, s) in
    let inside : at - before < length (drop before text) = omega (arith, s, l, length-drop before text) in
    let longer : take (at + 1 - before) (drop before text) ≡ word ++ get_or text at 0 ∷ [] =
    ap (λ n. take n (drop before text)) next ∙ (take_at_read (drop before text) (at - before) 0 inside).1 ∙ ap (λ c. word ++ c ∷ []) one in (
      omega (arith, s, same),
      h
          ∙ ap (λ ws. cut ++ ws) (turn word text at l ∙ ap (λ t. cond t (flushed word (words_from [] (drop (at + 1) text))) (words_from (word ++ get_or text at 0 ∷ []) (drop (at + 1) text))) b)
          ∙ ap (λ w. cut ++ words_from w (drop (at + 1) text)) (sym longer)
          ∙ ap (λ k. cut ++ words_from (take (at + 1 - k) (drop k text)) (drop (at + 1) text)) (sym same)
          ∙ ap (λ x. x ++ words_from (take (at + 1 - start) (drop start text)) (drop (at + 1) text)) (sym m),
    )

-- what stands between the parentheses

pub opens_inside : (byte : ℕ) (inside rest : List ℕ) → opens_interpolation byte (inside ++ 41 ∷ rest) ≡ opens_interpolation byte inside
opens_inside byte [] rest = and_right (eqb byte 35) false refl
opens_inside byte (next ∷ inside) rest = refl

pub inside_complete : (inside rest : List ℕ) → is_inside inside ≡ true → inside_len (inside ++ 41 ∷ rest) ≡ length inside
inside_complete [] rest h = refl
inside_complete (byte ∷ inside) rest h =
    let stops = (eqb byte 41 || eqb byte 92) || opens_interpolation byte inside in
    let parts = and_parts (not stops) (is_inside inside) h in
    ap (λ o. cond ((eqb byte 41 || eqb byte 92) || o) 0 (suc (inside_len (inside ++ 41 ∷ rest)))) (opens_inside byte inside rest)
    ∙ ap (λ t. cond t 0 (suc (inside_len (inside ++ 41 ∷ rest)))) (not-true stops parts.0)
    ∙ ap suc (inside_complete inside rest parts.1)

pub opens_take : (byte n : ℕ) (text : List ℕ) → opens_interpolation byte text ≡ false → opens_interpolation byte (take n text) ≡ false
opens_take byte zero text h = refl
opens_take byte (suc n) [] h = refl
opens_take byte (suc n) (next ∷ text) h = h

pub inside_sound : (text : List ℕ) → is_inside (take (inside_len text) text) ≡ true
inside_sound [] = refl
inside_sound (byte ∷ text) = by ((eqb byte 41 || eqb byte 92) || opens_interpolation byte text) refl (inside_sound text)
  where
    by : (stops : Bool) → ((eqb byte 41 || eqb byte 92) || opens_interpolation byte text) ≡ stops → is_inside (take (inside_len text) text) ≡ true → is_inside (take (cond stops 0 (suc (inside_len text))) (byte ∷ text)) ≡ true
    by true s ih = refl
    by false s ih =
        let parts = or_parts (eqb byte 41 || eqb byte 92) (opens_interpolation byte text) s in
        and_from _ (is_inside (take (inside_len text) text)) (not_from_false _ (or_from (eqb byte 41 || eqb byte 92) (opens_interpolation byte (take (inside_len text) text)) parts.0 (opens_take byte (inside_len text) text parts.1))) ih

-- the cut

abbrev pub AreBlank : List ℕ → Type 0
AreBlank text = list_all is_blank text ≡ true

pub blanks_skip : (blanks text : List ℕ) → AreBlank blanks → words_from [] (blanks ++ text) ≡ words_from [] text
blanks_skip [] text h = refl
blanks_skip (byte ∷ blanks) text h =
    let parts = and_parts (is_blank byte) (list_all is_blank blanks) h in
    ap (λ t. cond t (words_from [] (blanks ++ text)) (words_from (byte ∷ []) (blanks ++ text))) parts.0 ∙ blanks_skip blanks text parts.1

abbrev pub AreSolid : List ℕ → Type 0
AreSolid text = list_all (λ b. not (is_blank b)) text ≡ true

pub solid_on : (before word rest : List ℕ) → AreSolid word → words_from before (word ++ rest) ≡ words_from (before ++ word) rest
solid_on before [] rest h = ap (λ w. words_from w rest) (sym (append-nil before))
solid_on before (byte ∷ word) rest h =
    let parts = and_parts (not (is_blank byte)) (list_all (λ b. not (is_blank b)) word) h in
    ap (λ t. cond t (flushed before (words_from [] (word ++ rest))) (words_from (before ++ byte ∷ []) (word ++ rest))) (not-true (is_blank byte) parts.0)
    ∙ solid_on (before ++ byte ∷ []) word rest parts.1
    ∙ ap (λ w. words_from w rest) (append_assoc before (byte ∷ []) word)

-- a word ends there
pub word_ends : (word rest : List ℕ) → is_word word ≡ true → is_cut rest ≡ true → words_from word rest ≡ word ∷ words_from [] rest
word_ends [] rest w c = absurd (false≢true w)
word_ends (byte ∷ word) [] w c = refl
word_ends (byte ∷ word) (blank ∷ rest) w c =
    ap (λ t. cond t ((byte ∷ word) ∷ words_from [] rest) (words_from (byte ∷ word ++ blank ∷ []) rest)) c
    ∙ ap (λ ws. (byte ∷ word) ∷ ws) (sym (ap (λ t. cond t (words_from [] rest) (words_from (blank ∷ []) rest)) c))

pub word_solid : (word : List ℕ) → is_word word ≡ true → AreSolid word
word_solid [] h = refl
word_solid (byte ∷ word) h = h

pub cut_complete : {text : List ℕ} {words : List (List ℕ)} → Cut text words → words_from [] text ≡ words
cut_complete (end {blanks = blanks} h) = ap (words_from []) (sym (append-nil blanks)) ∙ blanks_skip blanks [] h
cut_complete (one_word blanks w {rest = rest} b h c more) =
    ap (words_from []) (append_assoc blanks w rest) ∙ blanks_skip blanks (w ++ rest) b ∙ solid_on [] w rest (word_solid w h) ∙ word_ends w rest h c ∙ ap (λ ws. w ∷ ws) (cut_complete more)

pub blank_before : (byte : ℕ) {text : List ℕ} {words : List (List ℕ)} → is_blank byte ≡ true → Cut text words → Cut (byte ∷ text) words
blank_before byte b (end {blanks = blanks} h) = end (and_from (is_blank byte) (list_all is_blank blanks) b h)
blank_before byte b (one_word blanks w h s c more) = one_word (byte ∷ blanks) w (and_from (is_blank byte) (list_all is_blank blanks) b h) s c more

pub solid_more : (word : List ℕ) (byte : ℕ) → is_word word ≡ true → is_blank byte ≡ false → is_word (word ++ byte ∷ []) ≡ true
solid_more [] byte h b = absurd (false≢true h)
solid_more (first ∷ word) byte h b = onto (first ∷ word) h
  where
    onto : (text : List ℕ) → AreSolid text → AreSolid (text ++ byte ∷ [])
    onto [] h = and_from (not (is_blank byte)) true (not_from_false (is_blank byte) b) refl
    onto (next ∷ text) h =
        let parts = and_parts (not (is_blank next)) (list_all (λ b. not (is_blank b)) text) h in
        and_from (not (is_blank next)) (list_all (λ b. not (is_blank b)) (text ++ byte ∷ [])) parts.0 (onto text parts.1)

-- the text from its beginning, and behind a word that has begun
abbrev pub IsCutAt : List ℕ → Type 0
IsCutAt text = Cut text (words_from [] text) × ((w : List ℕ) → is_word w ≡ true → Cut (w ++ text) (words_from w text))

pub whole_word : (w rest : List ℕ) (words : List (List ℕ)) → is_word w ≡ true → is_cut rest ≡ true → Cut rest words → Cut (w ++ rest) (flushed w words)
whole_word [] rest words h c more = absurd (false≢true h)
whole_word (byte ∷ w) rest words h c more = one_word [] (byte ∷ w) refl h c more

pub cuts : (text : List ℕ) → IsCutAt text
cuts [] = (end refl, λ w h. whole_word w [] [] h refl (end refl))
cuts (byte ∷ text) = by (is_blank byte) refl (cuts text)
  where
    by : (blank : Bool) → is_blank byte ≡ blank → IsCutAt text → Cut (byte ∷ text) (cond blank (words_from [] text) (words_from (byte ∷ []) text)) × ((w : List ℕ) → is_word w ≡ true → Cut (w ++ byte ∷ text) (cond blank (flushed w (words_from [] text)) (words_from (w ++ byte ∷ []) text)))
    by true b ih = let first = blank_before byte b ih.0 in (first, λ w h. whole_word w (byte ∷ text) (words_from [] text) h b first)
    by false b ih = (
      ih.1 (byte ∷ []) (and_from (not (is_blank byte)) true (not_from_false (is_blank byte) b) refl),
      λ w h. subst (λ t. Cut t (words_from (w ++ byte ∷ []) text)) (append_assoc w (byte ∷ []) text) (ih.1 (w ++ byte ∷ []) (solid_more w byte h b)),
    )

pub cut_sound : (text : List ℕ) → Cut text (words_from [] text)
cut_sound text = (cuts text).0

-- the modifier

pub kind_none : (rest : List ℕ) → ends_words [] rest ≡ true → kind_of rest ≡ (Strings, rest)
kind_none [] h = refl
kind_none (byte ∷ rest) h =
    let parts = or_parts (eqb byte 115) (eqb byte 97) (not-true _ h) in
    rw (parts.0, parts.1) refl

pub modified_complete : {modifier : List ℕ} {kind : WordKind} (rest : List ℕ) → Modified modifier kind → ends_words modifier rest ≡ true → kind_of (modifier ++ rest) ≡ (kind, rest)
modified_complete rest none h = kind_none rest h
modified_complete rest strings h = refl
modified_complete rest atoms h = refl
