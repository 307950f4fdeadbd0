-- Where the reader of a block stops.
use Rattle.std.proofs.Common.{◌≡◌, ℕ, ◌<◌, List, [], ◌∷◌, ◌++◌, length, refl, sym, ap, ◌∙◌, arith, inl, append_assoc, replicate}
use Rattle.std.proofs.lemmas.List.{length-replicate}
use Rattle.reading.specs.Field.{PairFits, Stops, TellsItsEnd, pair_text}
use Rattle.reading.specs.Plain.{Always, AreSoMany, IsBelow, IsNoDigit, after_text, bytes_text, literal_text, number_text}
use Rattle.reading.proofs.Fields.{first_stops, second_stops, told_otherwise}
use Rattle.reading.proofs.Literals.{literal_first_stops, literal_second_stops}
use Rattle.reading.proofs.Numbers.{bytes_tell, number_tells}
use Rattle.build_manifest.specs.Fields.{Block, ended}
use Rattle.build_manifest.specs.Mark.{limit}
use Rattle.build_manifest.specs.Text.{block_text}
use Rattle.build_manifest.proofs.Parts.{CountedBytes, block_parts, counted_bytes}

told_parts : (word : List ℕ) (p : ℕ × List ℕ) → CountedBytes p → Block p.1 × (block_text word p.1 ≡ after_text word counted_bytes p)
told_parts word p fits = (
  omega (arith, fits.0, fits.1),
  sym (block_parts word p.1) ∙ ap (λ n. after_text word counted_bytes (n, p.1)) fits.1,
)

block_told : (word text : List ℕ) (left : ℕ) → Stops (after_text word counted_bytes) CountedBytes text left → Stops (block_text word) Block text left
block_told word text left s =
    told_otherwise (after_text word counted_bytes) CountedBytes (block_text word) Block (λ p. p.1) (λ bytes. (length bytes, bytes))
    (told_parts word) (λ bytes fits. ((fits, refl), block_parts word bytes)) text left s

break_ends : IsNoDigit 10
break_ends = record { holds = inl (omega arith) }

number_tells_end : TellsItsEnd (number_text 10) (IsBelow limit)
number_tells_end = number_tells 10 limit break_ends (omega arith)

pub word_stops : (word text : List ℕ) (left : ℕ) → Stops (literal_text word) Always text left → Stops (block_text word) Block text left
word_stops word text left s =
    block_told word text left (literal_first_stops word counted_bytes CountedBytes (0, []) (omega arith, refl) text left s)

pub count_stops : (word text rest : List ℕ) (left : ℕ) → text ≡ word ++ rest → Stops (number_text 10) (IsBelow limit) rest left
    → Stops (block_text word) Block text left
count_stops word text rest left cut s =
    block_told word text left (literal_second_stops word counted_bytes CountedBytes text rest left cut
    (first_stops (number_text 10) (IsBelow limit) (λ _. ended) AreSoMany number_tells_end (λ n _. (replicate n 0, length-replicate n 0)) rest left s))

-- the bytes, and the newline behind them
ended_told : (n : ℕ) (text : List ℕ) (left : ℕ)
    → Stops (pair_text bytes_text (λ _. literal_text (10 ∷ []))) (PairFits (AreSoMany n) (λ _. Always)) text left → Stops ended (AreSoMany n) text left
ended_told n text left s =
    told_otherwise (pair_text bytes_text (λ _. literal_text (10 ∷ []))) (PairFits (AreSoMany n) (λ _. Always)) ended (AreSoMany n)
    (λ p. p.0) (λ bytes. (bytes, tt)) (λ p fits. (fits.0, refl)) (λ bytes fits. ((fits, tt), refl)) text left s

after_count : (word text rest after : List ℕ) (n left : ℕ) → text ≡ word ++ rest → n < limit → rest ≡ number_text 10 n ++ after
    → Stops ended (AreSoMany n) after left → Stops (block_text word) Block text left
after_count word text rest after n left cut small next s =
    block_told word text left (literal_second_stops word counted_bytes CountedBytes text rest left cut
    (second_stops (number_text 10) (IsBelow limit) (λ _. ended) AreSoMany number_tells_end n small rest after left next s))

pub bytes_stops : (word text rest after : List ℕ) (n left : ℕ) → text ≡ word ++ rest → n < limit → rest ≡ number_text 10 n ++ after
    → Stops bytes_text (AreSoMany n) after left → Stops (block_text word) Block text left
bytes_stops word text rest after n left cut small next s =
    after_count word text rest after n left cut small next (ended_told n after left
    (first_stops bytes_text (AreSoMany n) (λ _. literal_text (10 ∷ [])) (λ _. Always) (bytes_tell n) (λ _ _. (tt, tt)) after left s))

pub end_stops : (word text rest after bytes last : List ℕ) (n left : ℕ) → text ≡ word ++ rest → n < limit → rest ≡ number_text 10 n ++ after
    → length bytes ≡ n → after ≡ bytes ++ last → Stops (literal_text (10 ∷ [])) Always last left → Stops (block_text word) Block text left
end_stops word text rest after bytes last n left cut small next long there s =
    after_count word text rest after n left cut small next (ended_told n after left
    (second_stops bytes_text (AreSoMany n) (λ _. literal_text (10 ∷ [])) (λ _. Always) (bytes_tell n) bytes long after last left there s))

pub block_read : (word text rest after bytes last more : List ℕ) (n : ℕ) → text ≡ word ++ rest → rest ≡ number_text 10 n ++ after
    → length bytes ≡ n → after ≡ bytes ++ last → last ≡ (10 ∷ []) ++ more → text ≡ block_text word bytes ++ more
block_read word text rest after bytes last more n cut next long there end =
    let counted : rest ≡ number_text 10 (length bytes) ++ after = next ∙ ap (λ k. number_text 10 k ++ after) (sym long) in
    cut ∙ ap (λ t. word ++ t) (counted ∙ ap (λ t. number_text 10 (length bytes) ++ t) (there ∙ ap (λ t. bytes ++ t) end))
    ∙ grouped word (number_text 10 (length bytes)) bytes more
  where
    grouped : (w d b m : List ℕ) → w ++ (d ++ (b ++ ((10 ∷ []) ++ m))) ≡ (w ++ d ++ (b ++ 10 ∷ [])) ++ m
    grouped w d b m = simp append_assoc
