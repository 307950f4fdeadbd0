-- What the readers of fields come to.
use Rattle.std.proofs.Common.{◌≡◌, ◌⊎◌, ℕ, suc, ◌+◌, ◌-◌, ◌*◌, ◌/◌, ◌%◌, ◌^◌, ◌<◌, ◌≤◌, List, [], ◌∷◌, ◌++◌, length, take, drop, get_or, refl, sym, ap, ◌∙◌, arith, subst, append_assoc, decimal, drop-cons}
use Rattle.std.proofs.Math.Seq.{take-length}
use Rattle.std.proofs.lemmas.Fmt.{decimal_digit, decimal_step}
use Rattle.std.proofs.lemmas.List.{length-drop, take-append-drop}
use Rattle.reading.specs.Plain.{Always, IsBelow, IsNoDigit, literal_text, number_text}
use Rattle.reading.specs.Field.{Stops}
use Rattle.reading.proofs.Lists.{same_head}
use Rattle.reading.proofs.Literals.{literal_stops}
use Rattle.reading.proofs.Numbers.{number_stops, number_stops_first}
use Rattle.build_manifest.specs.Mark.{limit}

-- ---- literals

pub literal_stuck : (literal text : List ℕ) (i : ℕ) → i < length literal → i ≤ length text → take i literal ≡ take i text
    → (i < length text → get_or text i 0 ≡ get_or literal i 0 → ⊥) → Stops (literal_text literal) Always text (length (drop i text))
literal_stuck literal text i within below same differs =
    let front : literal ≡ take i text ++ get_or literal i 0 ∷ drop (suc i) literal =
    sym (take-append-drop i literal) ∙ ap (λ t. take i literal ++ t) (drop-cons literal i 0 within)
    ∙ ap (λ t. t ++ get_or literal i 0 ∷ drop (suc i) literal) same in
    subst (λ t. Stops (literal_text literal) Always t (length (drop i text))) (take-append-drop i text)
    (literal_stops literal (take i text) (drop (suc i) literal) (drop i text) (get_or literal i 0) front
    (λ next others e is.
    let inside : i < length text = omega (arith, ap length e, length-drop i text) in
    differs inside (same_head (get_or text i 0) next (drop (suc i) text) others (sym (drop-cons text i 0 inside) ∙ e) ∙ is)))

pub literal_front : (literal text : List ℕ) (n : ℕ) → n ≡ length literal → take n literal ≡ take n text → text ≡ literal ++ drop n text
literal_front literal text n long same =
    sym (take-append-drop n text) ∙ ap (λ t. t ++ drop n text) (sym same ∙ ap (λ k. take k literal) long ∙ take_all literal)
  where
    take_all : (l : List ℕ) → take (length l) l ≡ l
    take_all [] = refl
    take_all (x ∷ l) = ap (λ t. x ∷ t) (take_all l)

-- ---- numbers

decimal_more : (v d : ℕ) → 0 < v → d < 10 → v * 10 + d < 2 ^ 64 → decimal (v * 10 + d) ≡ decimal v ++ (48 + d) ∷ []
decimal_more v d some low fits =
    let whole : (v * 10 + d) / 10 ≡ v = omega arith in
    let rest : (v * 10 + d) % 10 ≡ d = omega arith in
    decimal_step (v * 10 + d) (omega arith) fits ∙ ap (λ k. decimal k ++ (48 + (v * 10 + d) % 10) ∷ []) whole
    ∙ ap (λ k. decimal v ++ (48 + k) ∷ []) rest

-- the digits so far make this number
abbrev pub HasCome : List ℕ → List ℕ → ℕ → ℕ → Type 0
HasCome from text i v = (v < limit) × (from ≡ decimal v ++ drop i text)

-- the text behind its first byte
abbrev pub behind_first : List ℕ → List ℕ
behind_first text = take (length text - 1) (drop 1 text)

pub first_and_rest : (text : List ℕ) → 1 ≤ length text → text ≡ get_or text 0 0 ∷ behind_first text
first_and_rest [] some = absurd (omega arith)
first_and_rest (b ∷ text) some =
    let e : length (b ∷ text) - 1 ≡ length text = omega arith in
    ap (λ t. b ∷ t) (sym (take-length text)) ∙ ap (λ n. b ∷ take n text) (sym e)

pub first_digit : (text : List ℕ) (digit : ℕ) → 1 ≤ length text → get_or text 0 0 ≡ 48 + digit → digit < 10
    → decimal digit ++ behind_first text ≡ text
first_digit text digit some is low =
    ap (λ t. t ++ behind_first text) (decimal_digit digit low) ∙ ap (λ b. b ∷ behind_first text) (sym is) ∙ sym (first_and_rest text some)

pub one_digit_more : (from text : List ℕ) (i v byte more : ℕ) → HasCome from text i v → i < length text → byte ≡ get_or text i 0
    → more ≡ v * 10 + (byte - 48) → more < limit → 48 ≤ byte → byte ≤ 57 → 0 < v → HasCome from text (i + 1) more
one_digit_more from text i v byte more come inside is sum fits low high some =
    let e : 48 + (byte - 48) ≡ byte = omega arith in
    let digits : decimal more ≡ decimal v ++ byte ∷ [] =
    ap decimal sum ∙ decimal_more v (byte - 48) some (omega arith) (omega arith) ∙ ap (λ b. decimal v ++ b ∷ []) e in
    let next : i + 1 ≡ suc i = omega arith in (
      fits,
      come.1 ∙ ap (λ t. decimal v ++ t) (drop-cons text i 0 inside) ∙ ap (λ b. decimal v ++ b ∷ drop (suc i) text) (sym is)
          ∙ sym (append_assoc (decimal v) (byte ∷ []) (drop (suc i) text)) ∙ ap (λ t. t ++ drop (suc i) text) (sym digits)
          ∙ ap (λ n. decimal more ++ drop n text) (sym next),
    )

pub digits_end : (from text : List ℕ) (i v end : ℕ) → HasCome from text i v → i < length text → end ≡ get_or text i 0
    → from ≡ number_text end v ++ drop (i + 1) text
digits_end from text i v end come inside is =
    let next : i + 1 ≡ suc i = omega arith in
    come.1 ∙ ap (λ t. decimal v ++ t) (drop-cons text i 0 inside) ∙ ap (λ b. decimal v ++ b ∷ drop (suc i) text) (sym is)
    ∙ sym (append_assoc (decimal v) (end ∷ []) (drop (suc i) text)) ∙ ap (λ n. number_text end v ++ drop n text) (sym next)

-- a byte that neither goes on with the number nor ends it
abbrev pub StopsNumber : ℕ → ℕ → ℕ → Type 0
StopsNumber end v byte = (byte ≡ end → ⊥) × (IsNoDigit byte ⊎ ((v ≡ 0) ⊎ (limit ≤ v * 10 + (byte - 48))))

pub digits_stuck : (from text : List ℕ) (i v end : ℕ) → HasCome from text i v → (i < length text → StopsNumber end v (get_or text i 0))
    → Stops (number_text end) (IsBelow limit) from (length (drop i text))
digits_stuck from text i v end come stops =
    subst (λ t. Stops (number_text end) (IsBelow limit) t (length (drop i text))) (sym come.1)
    (number_stops end limit v (omega arith) come.0 (drop i text)
    (λ next others e.
    let inside : i < length text = omega (arith, ap length e, length-drop i text) in
    subst (StopsNumber end v) (same_head (get_or text i 0) next (drop (suc i) text) others (sym (drop-cons text i 0 inside) ∙ e)) (stops inside)))

pub no_number : (end : ℕ) (text : List ℕ) → ((next : ℕ) (others : List ℕ) → text ≡ next ∷ others → IsNoDigit next)
    → Stops (number_text end) (IsBelow limit) text (length text)
no_number end text none = number_stops_first end limit (omega arith) (omega arith) text none
