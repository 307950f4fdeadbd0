-- Lists of words.
use Rattle.std.proofs.Common.{◌≡◌, ℕ, ◌+◌, ◌-◌, Bool, true, false, List, [], ◌∷◌, ◌++◌, Some, length, take, drop, eqb, refl, sym, ap, ◌∙◌, subst}
use Rattle.std.proofs.lemmas.Bool.{not_from_false, or_from, eqb-true}
use Rattle.std.proofs.lemmas.List.{take_at, drop_at, take-append-drop}
use Rattle.term_tokens.specs.declared.token.Token.{Token}
use Rattle.term_tokens.specs.declared.token.Token.TheVariants.{Words}
use Rattle.term_tokens.specs.declared.token.WordKind.{WordKind}
use Rattle.term_tokens.specs.Tokens.{ends_words}
use Rattle.term_tokens.specs.Words.{is_inside, Cut, Modified, none, strings, atoms}
use Rattle.term_tokens.specs.Lexing.{inside_len, kind_of, words_from, words_before, words_in}
use Rattle.term_tokens.proofs.OptionLemmas.{none_some, some_same, cond_some}
use Rattle.term_tokens.proofs.ListedWords.{inside_complete, inside_sound, cut_complete, cut_sound, kind_none, modified_complete}

pub record Modifies (text : List ℕ) : Type 0 where
  pub modifier : List ℕ
  pub says : Modified modifier (kind_of text).0
  pub ends : ends_words modifier (kind_of text).1 ≡ true
  pub split : text ≡ modifier ++ (kind_of text).1

modified_sound : (text : List ℕ) → Modifies text
modified_sound [] = record { modifier = []; says = none; ends = refl; split = refl }
modified_sound (byte ∷ text) = by (eqb byte 115) (eqb byte 97) refl refl
  where
    by : (s a : Bool) → eqb byte 115 ≡ s → eqb byte 97 ≡ a → Modifies (byte ∷ text)
    by true a p q = subst (λ b. Modifies (b ∷ text)) (sym (eqb-true byte 115 p)) (record { modifier = 115 ∷ []; says = strings; ends = refl; split = refl })
    by false true p q = subst (λ b. Modifies (b ∷ text)) (sym (eqb-true byte 97 q)) (record { modifier = 97 ∷ []; says = atoms; ends = refl; split = refl })
    by false false p q =
        let ends : ends_words [] (byte ∷ text) ≡ true = not_from_false _ (or_from (eqb byte 115) (eqb byte 97) p q) in
        let k = kind_none (byte ∷ text) ends in
        record {
          modifier = [];
          says = subst (λ k. Modified [] k.0) (sym k) none;
          ends = subst (λ k. ends_words [] k.1 ≡ true) (sym k) ends;
          split = sym (ap (λ k. k.1) k);
        }

-- words that stand there are found, and the other way round

pub words_complete : (inside modifier rest : List ℕ) (words : List (List ℕ)) (kind : WordKind) → is_inside inside ≡ true → Cut inside words → Modified modifier kind → ends_words modifier rest ≡ true → words_in (inside ++ 41 ∷ (modifier ++ rest)) ≡ Some (Words kind words, rest)
words_complete inside modifier rest words kind i c m ends =
    let after = modifier ++ rest in
    let text = inside ++ 41 ∷ after in
    let k = modified_complete rest m ends in
    ap (λ n. words_before (take n text) (drop n text)) (inside_complete inside after i)
    ∙ ap (λ l. words_before l (drop (length inside) text)) (take_at inside (41 ∷ after) (length inside) refl)
    ∙ ap (words_before inside) (drop_at inside (41 ∷ after) (length inside) refl)
    ∙ ap (λ ws. Some (Words (kind_of after).0 ws, (kind_of after).1)) (cut_complete c)
    ∙ ap (λ k. Some (Words k.0 words, k.1)) k

pub record WordsCut (text : List ℕ) (found : Token × List ℕ) : Type 0 where
  pub inside : List ℕ
  pub modifier : List ℕ
  pub words : List (List ℕ)
  pub kind : WordKind
  pub within : is_inside inside ≡ true
  pub cut : Cut inside words
  pub says : Modified modifier kind
  pub ends : ends_words modifier found.1 ≡ true
  pub token : (Words kind words, found.1) ≡ found
  pub split : text ≡ inside ++ 41 ∷ (modifier ++ found.1)

words_after : (inside tail : List ℕ) (found : Token × List ℕ) → is_inside inside ≡ true → words_before inside tail ≡ Some found → WordsCut (inside ++ tail) found
words_after inside [] found i e = absurd (none_some e)
words_after inside (byte ∷ after) found i e =
    let a = cond_some (eqb byte 41) _ found e in
    let words = words_from [] inside in
    let m = modified_sound after in
    let same : (Words (kind_of after).0 words, (kind_of after).1) ≡ found = some_same a.1 in
    let rest : (kind_of after).1 ≡ found.1 = ap (λ f. f.1) same in
    record {
      inside = inside;
      modifier = m.modifier;
      words = words;
      kind = (kind_of after).0;
      within = i;
      cut = cut_sound inside;
      says = m.says;
      ends = subst (λ r. ends_words m.modifier r ≡ true) rest m.ends;
      token = ap (λ r. (Words (kind_of after).0 words, r)) (sym rest) ∙ same;
      split = ap (λ l. inside ++ l) (ap (λ b. b ∷ after) (eqb-true byte 41 a.0) ∙ ap (λ l. 41 ∷ l) (m.split ∙ ap (λ r. m.modifier ++ r) rest));
    }

pub words_sound : (text : List ℕ) (found : Token × List ℕ) → words_in text ≡ Some found → WordsCut text found
words_sound text found e =
    subst (λ t. WordsCut t found) (take-append-drop (inside_len text) text) (words_after (take (inside_len text) text) (drop (inside_len text) text) found (inside_sound text) e)
