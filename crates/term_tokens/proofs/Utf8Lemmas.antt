-- Bytes that begin a text of UTF-8.
use lib.Utf8.{scalar, scalars, encode, encodes, next, low_scalar, scalar_cases}
use Rattle.std.proofs.Common.{◌≡◌, ℕ, ◌+◌, ◌*◌, ◌/◌, ◌<◌, ◌≤◌, true, false, ◌&&◌, List, [], ◌∷◌, ◌++◌, length, take, drop, refl, sym, ap, ◌∙◌, arith, subst, append_assoc, ⊎_elim, lt-ltb, le-ltb, le-leb}
use Rattle.std.proofs.lemmas.Bool.{cases_lt, and_parts, or_left, or_right, true≢false}
use Rattle.std.proofs.lemmas.List.{take_at, drop_at, append-nil, length-append}
use Rattle.std.proofs.lemmas.Str.{encode_ascii, IsUtf8-nil, IsUtf8-append, IsUtf8-drop, is_utf8-from_IsUtf8, IsUtf8-take, IsUtf8-encode, length-encode, len_utf8_bounds, IsCharBoundary-from_take, IsCharBoundary-from_rest, IsCharBoundary-start}
use Rattle.std.proofs.lemmas.List.{get_or_append_left}
use Rattle.std.specs.Char.{IsScalar}
use Rattle.std.specs.Str.{IsUtf8, is_utf8, IsCharBoundary}
use Rattle.term_tokens.specs.Lexed.{can_become}

two : (c : ℕ) → 128 ≤ c → c < 2048 → encode c ≡ (192 + c / 64) ∷ next c ∷ []
unfolding encode
two c l h = rw (le-ltb c 128 l, lt-ltb c 2048 h)

three : (c : ℕ) → 2048 ≤ c → c < 65536 → encode c ≡ (224 + c / 4096) ∷ next (c / 64) ∷ next c ∷ []
unfolding encode
three c l h = rw (le-ltb c 128 (omega arith), le-ltb c 2048 l, lt-ltb c 65536 h)

four : (c : ℕ) → 65536 ≤ c → encode c ≡ (240 + c / 262144) ∷ next (c / 4096) ∷ next (c / 64) ∷ next c ∷ []
unfolding encode
four c l = rw (le-ltb c 128 (omega arith), le-ltb c 2048 (omega arith), le-ltb c 65536 l)

high_scalar : (c : ℕ) → 57344 ≤ c → c < 1114112 → scalar c ≡ true
high_scalar c l h = rw (le-ltb c 55296 (omega arith), le-leb 57344 c l, lt-ltb c 1114112 h)

-- one of the ends that `can_become` tries
data IsEnd : List ℕ → Type 0 where
  none : IsEnd []
  last_one : IsEnd (128 ∷ [])
  last_two : IsEnd (128 ∷ 128 ∷ [])
  last_three : IsEnd (128 ∷ 128 ∷ 128 ∷ [])
  last_high : IsEnd (160 ∷ 128 ∷ [])
  last_higher : IsEnd (144 ∷ 128 ∷ 128 ∷ [])

abbrev CanEnd : List ℕ → Type 0
CanEnd bytes = (end : List ℕ) × IsEnd end × IsUtf8 (bytes ++ end)

end_tried : (bytes end : List ℕ) → IsEnd end → is_utf8 (bytes ++ end) ≡ true → can_become bytes ≡ true
end_tried bytes end none u = let v : is_utf8 bytes ≡ true = ap is_utf8 (sym (append-nil bytes)) ∙ u in search (or_left, v)
end_tried bytes end last_one u = search (or_left, or_right, u)
end_tried bytes end last_two u = search (or_left, or_right, u)
end_tried bytes end last_three u = search (or_left, or_right, u)
end_tried bytes end last_high u = search (or_left, or_right, u)
end_tried bytes end last_higher u = search (or_left, or_right, u)

pub one_char : (c : ℕ) (bytes : List ℕ) → scalar c ≡ true → encode c ≡ bytes → IsUtf8 bytes
one_char c bytes s e = (c ∷ [], (ap (λ t. t && true) s, append-nil (encode c) ∙ e))

-- the character of the front with the least bits after it
lower : (c d : ℕ) → scalar c ≡ true → d ≤ c → (57344 ≤ c → 57344 ≤ d) → scalar d ≡ true
lower c d s l h = ⊎_elim (λ a. low_scalar d (omega (arith, a, l))) (λ b. high_scalar d (h b.0) (omega (arith, b.1, l))) (scalar_cases c s)

one_of_two : (c : ℕ) → scalar c ≡ true → 128 ≤ c → c < 2048 → CanEnd ((192 + c / 64) ∷ [])
one_of_two c s l h =
    let d = c / 64 * 64 in
    let p : 192 + d / 64 ≡ 192 + c / 64 = omega arith in
    let q : next d ≡ 128 = omega arith in
    (128 ∷ [], last_one, one_char d _ (low_scalar d (omega (arith, h))) (two d (omega (arith, l)) (omega (arith, h)) ∙ (λ i. p i ∷ q i ∷ [])))

least_three : encode 2048 ≡ 224 ∷ 160 ∷ 128 ∷ []
unfolding encode
least_three = refl

least_four : encode 65536 ≡ 240 ∷ 144 ∷ 128 ∷ 128 ∷ []
unfolding encode
least_four = refl

one_of_three : (c : ℕ) → scalar c ≡ true → 2048 ≤ c → c < 65536 → CanEnd ((224 + c / 4096) ∷ [])
one_of_three c s l h = ⊎_elim small large (cases_lt c 4096)
  where
    small : c < 4096 → CanEnd ((224 + c / 4096) ∷ [])
    small k = let p : 224 ≡ 224 + c / 4096 = omega (arith, k) in (160 ∷ 128 ∷ [], last_high, one_char 2048 _ refl (least_three ∙ ap (λ b. b ∷ 160 ∷ 128 ∷ []) p))

    large : 4096 ≤ c → CanEnd ((224 + c / 4096) ∷ [])
    large k =
        let d = c / 4096 * 4096 in
        let p : 224 + d / 4096 ≡ 224 + c / 4096 = omega arith in
        let q : next (d / 64) ≡ 128 = omega arith in
        let r : next d ≡ 128 = omega arith in
        (128 ∷ 128 ∷ [], last_two, one_char d _ (lower c d s (omega arith) (λ g. omega (arith, g))) (three d (omega (arith, k)) (omega (arith, h)) ∙ (λ i. p i ∷ q i ∷ r i ∷ [])))

two_of_three : (c : ℕ) → scalar c ≡ true → 2048 ≤ c → c < 65536 → CanEnd ((224 + c / 4096) ∷ next (c / 64) ∷ [])
two_of_three c s l h =
    let d = c / 64 * 64 in
    let p : 224 + d / 4096 ≡ 224 + c / 4096 = omega arith in
    let e : d / 64 ≡ c / 64 = omega arith in
    let r : next d ≡ 128 = omega arith in
    (128 ∷ [], last_one, one_char d _ (lower c d s (omega arith) (λ g. omega (arith, g))) (three d (omega (arith, l)) (omega (arith, h)) ∙ (λ i. p i ∷ next (e i) ∷ r i ∷ [])))

one_of_four : (c : ℕ) → scalar c ≡ true → 65536 ≤ c → CanEnd ((240 + c / 262144) ∷ [])
one_of_four c s l = ⊎_elim small large (cases_lt c 262144)
  where
    small : c < 262144 → CanEnd ((240 + c / 262144) ∷ [])
    small k = let p : 240 ≡ 240 + c / 262144 = omega (arith, k) in (144 ∷ 128 ∷ 128 ∷ [], last_higher, one_char 65536 _ refl (least_four ∙ ap (λ b. b ∷ 144 ∷ 128 ∷ 128 ∷ []) p))

    large : 262144 ≤ c → CanEnd ((240 + c / 262144) ∷ [])
    large k =
        let d = c / 262144 * 262144 in
        let p : 240 + d / 262144 ≡ 240 + c / 262144 = omega arith in
        let o : next (d / 4096) ≡ 128 = omega arith in
        let q : next (d / 64) ≡ 128 = omega arith in
        let r : next d ≡ 128 = omega arith in
        (128 ∷ 128 ∷ 128 ∷ [], last_three, one_char d _ (lower c d s (omega arith) (λ g. omega (arith, g, k))) (four d (omega (arith, k)) ∙ (λ i. p i ∷ o i ∷ q i ∷ r i ∷ [])))

two_of_four : (c : ℕ) → scalar c ≡ true → 65536 ≤ c → CanEnd ((240 + c / 262144) ∷ next (c / 4096) ∷ [])
two_of_four c s l =
    let d = c / 4096 * 4096 in
    let p : 240 + d / 262144 ≡ 240 + c / 262144 = omega arith in
    let e : d / 4096 ≡ c / 4096 = omega arith in
    let q : next (d / 64) ≡ 128 = omega arith in
    let r : next d ≡ 128 = omega arith in
    (128 ∷ 128 ∷ [], last_two, one_char d _ (lower c d s (omega arith) (λ g. omega (arith, g, l))) (four d (omega (arith, l)) ∙ (λ i. p i ∷ next (e i) ∷ q i ∷ r i ∷ [])))

three_of_four : (c : ℕ) → scalar c ≡ true → 65536 ≤ c → CanEnd ((240 + c / 262144) ∷ next (c / 4096) ∷ next (c / 64) ∷ [])
three_of_four c s l =
    let d = c / 64 * 64 in
    let p : 240 + d / 262144 ≡ 240 + c / 262144 = omega arith in
    let e : d / 4096 ≡ c / 4096 = omega arith in
    let f : d / 64 ≡ c / 64 = omega arith in
    let r : next d ≡ 128 = omega arith in
    (128 ∷ [], last_one, one_char d _ (lower c d s (omega arith) (λ g. omega (arith, g, l))) (four d (omega (arith, l)) ∙ (λ i. p i ∷ next (e i) ∷ next (f i) ∷ r i ∷ [])))

-- a front of a character's bytes that has not all of them
cut_two : (a b : ℕ) (part more : List ℕ) → CanEnd (a ∷ []) → a ∷ b ∷ [] ≡ part ++ more → 0 < length more → CanEnd part
cut_two a b [] more one e l = ([], none, IsUtf8-nil)
cut_two a b (x ∷ []) more one e l = let p : a ≡ x = cc in subst (λ k. CanEnd (k ∷ [])) p one
cut_two a b (x ∷ y ∷ part) more one e l = let p : ◌≡◌ {A = List ℕ} [] (part ++ more) = cc in absurd (omega (arith, l, ap length p, length-append part more))

cut_three : (a b c : ℕ) (part more : List ℕ) → CanEnd (a ∷ []) → CanEnd (a ∷ b ∷ []) → a ∷ b ∷ c ∷ [] ≡ part ++ more → 0 < length more → CanEnd part
cut_three a b c [] more p1 p2 e l = ([], none, IsUtf8-nil)
cut_three a b c (x ∷ []) more p1 p2 e l = let p : a ≡ x = cc in subst (λ k. CanEnd (k ∷ [])) p p1
cut_three a b c (x ∷ y ∷ []) more p1 p2 e l =
    let p : a ≡ x = cc in
    let q : b ≡ y = cc in
    subst CanEnd (λ i. p i ∷ q i ∷ []) p2
cut_three a b c (x ∷ y ∷ z ∷ part) more p1 p2 e l = let p : ◌≡◌ {A = List ℕ} [] (part ++ more) = cc in absurd (omega (arith, l, ap length p, length-append part more))

cut_four : (a b c d : ℕ) (part more : List ℕ) → CanEnd (a ∷ []) → CanEnd (a ∷ b ∷ []) → CanEnd (a ∷ b ∷ c ∷ []) → a ∷ b ∷ c ∷ d ∷ [] ≡ part ++ more → 0 < length more → CanEnd part
cut_four a b c d [] more p1 p2 p3 e l = ([], none, IsUtf8-nil)
cut_four a b c d (x ∷ []) more p1 p2 p3 e l = let p : a ≡ x = cc in subst (λ k. CanEnd (k ∷ [])) p p1
cut_four a b c d (x ∷ y ∷ []) more p1 p2 p3 e l =
    let p : a ≡ x = cc in
    let q : b ≡ y = cc in
    subst CanEnd (λ i. p i ∷ q i ∷ []) p2
cut_four a b c d (x ∷ y ∷ z ∷ []) more p1 p2 p3 e l =
    let p : a ≡ x = cc in
    let q : b ≡ y = cc in
    let r : c ≡ z = cc in
    subst CanEnd (λ i. p i ∷ q i ∷ r i ∷ []) p3
cut_four a b c d (x ∷ y ∷ z ∷ w ∷ part) more p1 p2 p3 e l = let p : ◌≡◌ {A = List ℕ} [] (part ++ more) = cc in absurd (omega (arith, l, ap length p, length-append part more))

cut_one : (a : ℕ) (part more : List ℕ) → a ∷ [] ≡ part ++ more → 0 < length more → CanEnd part
cut_one a [] more e l = ([], none, IsUtf8-nil)
cut_one a (x ∷ part) more e l = let p : ◌≡◌ {A = List ℕ} [] (part ++ more) = cc in absurd (omega (arith, l, ap length p, length-append part more))

cut_char : (c : ℕ) (part more : List ℕ) → scalar c ≡ true → encode c ≡ part ++ more → 0 < length more → CanEnd part
cut_char c part more s e l =
    ⊎_elim (λ a. cut_one c part more (sym (encode_ascii c a) ∙ e) l)
    (λ a. ⊎_elim (λ b. cut_two _ _ part more (one_of_two c s a b) (sym (two c a b) ∙ e) l)
    (λ b. ⊎_elim (λ d. cut_three _ _ _ part more (one_of_three c s b d) (two_of_three c s b d) (sym (three c b d) ∙ e) l)
    (λ d. cut_four _ _ _ _ part more (one_of_four c s d) (two_of_four c s d) (three_of_four c s d) (sym (four c d) ∙ e) l)
    (cases_lt c 65536)) (cases_lt c 2048)) (cases_lt c 128)

-- of two ways to cut a text, the front of one is the front of the other
pub cut_again : (a b c d : List ℕ) → a ++ b ≡ c ++ d → length a ≤ length c → (m : List ℕ) × (c ≡ a ++ m) × (b ≡ m ++ d)
cut_again [] b c d e l = (c, refl, e)
cut_again (x ∷ a) b [] d e l = absurd (omega arith)
cut_again (x ∷ a) b (y ∷ c) d e l =
    let h : a ++ b ≡ c ++ d = cc in
    let k : y ≡ x = cc in
    let m = cut_again a b c d h (omega (arith, l)) in
    (m.0, (λ i. k i ∷ m.1 i), m.2)

front_ends : (cs bytes more : List ℕ) → scalars cs ≡ true → encodes cs ≡ bytes ++ more → CanEnd bytes
front_ends [] [] more s e = ([], none, IsUtf8-nil)
front_ends [] (byte ∷ bytes) more s e = absurd (cc)
front_ends (c ∷ cs) bytes more s e = ⊎_elim inner (whole (front_ends cs)) (cases_lt (length bytes) (length (encode c)))
  where
    inner : length bytes < length (encode c) → CanEnd bytes
    inner l =
        let m = cut_again bytes more (encode c) (encodes cs) (sym e) (omega (arith, l)) in
        cut_char c bytes m.0 (and_parts (scalar c) (scalars cs) s).0 m.1 (omega (arith, l, ap length m.1, length-append bytes m.0))

    whole : ((bytes2 more2 : List ℕ) → scalars cs ≡ true → encodes cs ≡ bytes2 ++ more2 → CanEnd bytes2) → length (encode c) ≤ length bytes → CanEnd bytes
    whole rest l =
        let m = cut_again (encode c) (encodes cs) bytes more e l in
        let p = and_parts (scalar c) (scalars cs) s in
        let r = rest m.0 more p.1 m.2 in
        (r.0, r.1, subst IsUtf8 (sym (append_assoc (encode c) m.0 r.0) ∙ ap (λ x. x ++ r.0) (sym m.1)) (IsUtf8-append (encode c) (m.0 ++ r.0) (one_char c (encode c) p.0 refl) r.2))

-- a front of UTF-8 can become UTF-8
pub front_can : (bytes more : List ℕ) → IsUtf8 (bytes ++ more) → can_become bytes ≡ true
front_can bytes more u = let r = front_ends u.0 bytes more u.1.0 u.1.1 in end_tried bytes r.0 r.1 (is_utf8-from_IsUtf8 (bytes ++ r.0) r.2)

-- what can become no UTF-8 is no front of it
pub never : (bytes more : List ℕ) → can_become bytes ≡ false → IsUtf8 (bytes ++ more) → ⊥
never bytes more n u = true≢false (sym (front_can bytes more u) ∙ n)

-- what follows UTF-8 in it is UTF-8
pub utf8_after : (front rest : List ℕ) → IsUtf8 front → IsUtf8 (front ++ rest) → IsUtf8 rest
utf8_after front rest f u =
    let n = length front in
    let cut : take n (front ++ rest) ≡ front = take_at front rest n refl in
    let boundary = IsCharBoundary-from_take (front ++ rest) n u (omega (arith, length-append front rest)) (subst IsUtf8 (sym cut) f) in
    subst IsUtf8 (drop_at front rest n refl) (IsUtf8-drop (front ++ rest) n u boundary)

char_some : (c : ℕ) → 0 < length (encode c)
char_some c = omega (arith, length-encode c, (len_utf8_bounds c).0)

-- what stands before a character is UTF-8
pub utf8_before : (front rest : List ℕ) (c : ℕ) → IsScalar c → IsUtf8 (front ++ (encode c ++ rest)) → IsUtf8 front
utf8_before front rest c s u =
    let text = front ++ (encode c ++ rest) in
    let n = length front in
    let start = IsCharBoundary-start (encode c) (IsUtf8-encode c s) in
    let some : 0 < length (encode c) = char_some c in
    let first = get_or_append_left (encode c) rest 0 0 some in
    let seam : IsCharBoundary (encode c ++ rest) 0 = (omega arith, λ l a. omega (arith, first, start.1 some (omega (arith, a, first)))) in
    let after : drop n text ≡ encode c ++ rest = drop_at front (encode c ++ rest) n refl in
    let here : n + 0 ≡ n = omega arith in
    let cut = subst (λ k. IsCharBoundary text k) here (IsCharBoundary-from_rest text n 0 (omega (arith, length-append front (encode c ++ rest))) (subst (λ l. IsCharBoundary l 0) (sym after) seam)) in
    subst IsUtf8 (take_at front (encode c ++ rest) n refl) (IsUtf8-take text n u cut)
