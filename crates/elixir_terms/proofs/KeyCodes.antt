-- Terms with equal codes are equal.
use Rattle.std.proofs.Common.{◌≡◌, ℕ, suc, ◌/◌, ◌%◌, ◌<◌, List, [], ◌∷◌, ◌++◌, map, refl, sym, ◌∙◌, ap, append_assoc, arith}
use Rattle.std.specs.Prelude.{ℤ, pos, negsuc}
use Rattle.std.specs.Int.Digits.{digits_of}
use Rattle.std.proofs.lemmas.Int.Digits.{digits_of_step, same_from_digits_of}
use Rattle.term_values.specs.declared.term.Term.{Term}
use Rattle.term_values.specs.declared.term.Term.TheOpen.{Term-F}
use Rattle.term_values.specs.declared.term.Term.TheVariants.{Map, rolls-Map}
use Rattle.term_values.specs.declared.term.Term.TheViews.{out-Term, roll-Term, roll-out-Term}
use Rattle.term_values.specs.declared.term.Term.TheFolds.{fold-roll-Term, ind-Term, map-Term}
use Rattle.term_values.specs.Views.{Pair}
use Rattle.elixir_terms.specs.KeyCode.{marked, bytes_code, integer_code, parts_code, pairs_code, pair_codes, code_step, term_code}

pub marked-append : (a b : List ℕ) → marked (a ++ b) ≡ marked a ++ marked b
marked-append [] b = refl
marked-append (x ∷ a) b = ap (λ (w : List ℕ). 1 ∷ x ∷ w) (marked-append a b)

-- the code of a level
abbrev pub layer_code : Term-F Term → List ℕ
layer_code (Term-F.Atom name) = 0 ∷ bytes_code name
layer_code (Term-F.Int n) = 1 ∷ integer_code n
layer_code (Term-F.Str bytes) = 2 ∷ bytes_code bytes
layer_code (Term-F.List parts) = 3 ∷ parts_code (map term_code parts)
layer_code (Term-F.Tuple parts) = 4 ∷ parts_code (map term_code parts)
layer_code (Term-F.Map pairs) = 5 ∷ pairs_code (map pair_codes pairs)

pub term_code-roll : (x : Term-F Term) → term_code (roll-Term x) ≡ layer_code x
term_code-roll (Term-F.Atom name) = fold-roll-Term (List ℕ) code_step (Term-F.Atom name)
term_code-roll (Term-F.Int n) = fold-roll-Term (List ℕ) code_step (Term-F.Int n)
term_code-roll (Term-F.Str bytes) = fold-roll-Term (List ℕ) code_step (Term-F.Str bytes)
term_code-roll (Term-F.List parts) = fold-roll-Term (List ℕ) code_step (Term-F.List parts)
term_code-roll (Term-F.Tuple parts) = fold-roll-Term (List ℕ) code_step (Term-F.Tuple parts)
term_code-roll (Term-F.Map pairs) = fold-roll-Term (List ℕ) code_step (Term-F.Map pairs)

pub term_code-out : (t : Term) → term_code t ≡ layer_code (out-Term t)
term_code-out t = ap term_code (sym (roll-out-Term t)) ∙ term_code-roll (out-Term t)

pub term_code-map : (pairs : List Pair) → term_code (Map pairs) ≡ 5 ∷ pairs_code (map pair_codes pairs)
term_code-map pairs = ap term_code (sym (rolls-Map pairs)) ∙ term_code-roll (Term-F.Map pairs)

-- ---- where a code ends

-- two codes with what follows them
record Same {X : Type 0} (a b : X) (r s : List ℕ) : Type 0 where
  values : a ≡ b
  rests : r ≡ s

bytes_apart : (a b r s : List ℕ) → bytes_code a ++ r ≡ bytes_code b ++ s → Same a b r s
bytes_apart [] [] r s e = record { values = refl; rests = cc }
bytes_apart [] (y ∷ b) r s e = cc
bytes_apart (x ∷ a) [] r s e = cc
bytes_apart (x ∷ a) (y ∷ b) r s e =
    let same : Same a b r s = bytes_apart a b r s (cc) in
    record { values = cc; rests = same.rests }

integers_apart : (m n : ℤ) (r s : List ℕ) → integer_code m ++ r ≡ integer_code n ++ s → Same m n r s
integers_apart (pos m) (pos n) r s e =
    let same : Same (digits_of 256 m) (digits_of 256 n) r s = bytes_apart (digits_of 256 m) (digits_of 256 n) r s (cc) in
    record { values = ap pos (same_from_digits_of 256 m n (omega arith) same.values); rests = same.rests }
integers_apart (pos m) (negsuc n) r s e = cc
integers_apart (negsuc m) (pos n) r s e = cc
integers_apart (negsuc m) (negsuc n) r s e =
    let same : Same (digits_of 256 (suc m)) (digits_of 256 (suc n)) r s = bytes_apart (digits_of 256 (suc m)) (digits_of 256 (suc n)) r s (cc) in
    let sucs : suc m ≡ suc n = same_from_digits_of 256 (suc m) (suc n) (omega arith) same.values in
    record { values = ap negsuc (omega arith); rests = same.rests }

-- no other term's code begins the code of this one, or is begun by it
abbrev Apart : Term → Type 0
Apart t = (u : Term) (r s : List ℕ) → term_code t ++ r ≡ term_code u ++ s → Same t u r s

abbrev Proved : Type 0
Proved = (t : Term) × Apart t

parts_apart : (ts : List Proved) (us : List Term) (r s : List ℕ) → parts_code (map term_code (map (λ e. e.0) ts)) ++ r ≡ parts_code (map term_code us) ++ s → Same (map (λ e. e.0) ts) us r s
parts_apart [] [] r s e = record { values = refl; rests = cc }
parts_apart [] (u ∷ us) r s e = cc
parts_apart (t ∷ ts) [] r s e = cc
parts_apart (t ∷ ts) (u ∷ us) r s e =
    let more = parts_code (map term_code (map (λ (p : Proved). p.0) ts)) in
    let others = parts_code (map term_code us) in
    let joined : (term_code t.0 ++ more) ++ r ≡ (term_code u ++ others) ++ s = cc in
    let first : Same t.0 u (more ++ r) (others ++ s) = t.1 u (more ++ r) (others ++ s) (sym (append_assoc (term_code t.0) more r) ∙ joined ∙ append_assoc (term_code u) others s) in
    let rest : Same (map (λ (p : Proved). p.0) ts) us r s = parts_apart ts us r s first.rests in
    record { values = cc; rests = rest.rests }

same_pairs : (key value : Term) (u : Pair) (ps us : List Pair) → key ≡ u.0 → value ≡ u.1 → ps ≡ us → (key, value) ∷ ps ≡ u ∷ us
same_pairs key value u ps us k v rest = ap (λ (x : Term). (x, value) ∷ ps) k ∙ ap (λ (x : Term). (u.0, x) ∷ ps) v ∙ ap (λ (xs : List Pair). u ∷ xs) rest

bare_pair : Proved × Proved → Pair
bare_pair e = (e.0.0, e.1.0)

pairs_apart : (ts : List (Proved × Proved)) (us : List Pair) (r s : List ℕ) → pairs_code (map pair_codes (map bare_pair ts)) ++ r ≡ pairs_code (map pair_codes us) ++ s → Same (map bare_pair ts) us r s
unfolding bare_pair
pairs_apart [] [] r s e = record { values = refl; rests = cc }
pairs_apart [] (u ∷ us) r s e = cc
pairs_apart (t ∷ ts) [] r s e = cc
pairs_apart (t ∷ ts) (u ∷ us) r s e =
    let more = pairs_code (map pair_codes (map bare_pair ts)) in
    let others = pairs_code (map pair_codes us) in
    let joined : ((term_code t.0.0 ++ term_code t.1.0) ++ more) ++ r ≡ ((term_code u.0 ++ term_code u.1) ++ others) ++ s = cc in
    let flat : term_code t.0.0 ++ (term_code t.1.0 ++ (more ++ r)) ≡ term_code u.0 ++ (term_code u.1 ++ (others ++ s)) = simp append_assoc at joined in
    let key : Same t.0.0 u.0 (term_code t.1.0 ++ (more ++ r)) (term_code u.1 ++ (others ++ s)) = t.0.1 u.0 _ _ flat in
    let value : Same t.1.0 u.1 (more ++ r) (others ++ s) = t.1.1 u.1 _ _ key.rests in
    let rest : Same (map bare_pair ts) us r s = pairs_apart ts us r s value.rests in
    record { values = same_pairs t.0.0 t.1.0 u _ us key.values value.values rest.values; rests = rest.rests }

-- the level without the proofs
bare : Term-F Proved → Term-F Term
bare (Term-F.Atom name) = Term-F.Atom name
bare (Term-F.Int n) = Term-F.Int n
bare (Term-F.Str bytes) = Term-F.Str bytes
bare (Term-F.List parts) = Term-F.List (map (λ e. e.0) parts)
bare (Term-F.Tuple parts) = Term-F.Tuple (map (λ e. e.0) parts)
bare (Term-F.Map pairs) = Term-F.Map (map bare_pair pairs)

as_values : {X Y : Type 0} {a b : X} {r s : List ℕ} (f : X → Y) → Same a b r s → Same (f a) (f b) r s
as_values f same = record { values = ap f same.values; rests = same.rests }

layers_apart : (y : Term-F Proved) (z : Term-F Term) (r s : List ℕ) → layer_code (bare y) ++ r ≡ layer_code z ++ s → Same (bare y) z r s
unfolding bare
layers_apart (Term-F.Atom name) (Term-F.Atom other) r s e = as_values Term-F.Atom (bytes_apart name other r s (cc))
layers_apart (Term-F.Int n) (Term-F.Int other) r s e = as_values Term-F.Int (integers_apart n other r s (cc))
layers_apart (Term-F.Str bytes) (Term-F.Str other) r s e = as_values Term-F.Str (bytes_apart bytes other r s (cc))
layers_apart (Term-F.List parts) (Term-F.List others) r s e = as_values Term-F.List (parts_apart parts others r s (cc))
layers_apart (Term-F.Tuple parts) (Term-F.Tuple others) r s e = as_values Term-F.Tuple (parts_apart parts others r s (cc))
layers_apart (Term-F.Map pairs) (Term-F.Map others) r s e = as_values Term-F.Map (pairs_apart pairs others r s (cc))
layers_apart y z r s e = cc

bare_is : (y : Term-F Proved) → bare y ≡ map-Term Proved Term (λ e. e.0) y
unfolding bare bare_pair
bare_is (Term-F.Atom name) = refl
bare_is (Term-F.Int n) = refl
bare_is (Term-F.Str bytes) = refl
bare_is (Term-F.List parts) = refl
bare_is (Term-F.Tuple parts) = refl
bare_is (Term-F.Map pairs) = refl

layer_apart : (y : Term-F Proved) (x : Term-F Term) → map-Term Proved Term (λ e. e.0) y ≡ x → Apart (roll-Term x)
layer_apart y x is u r s e =
    let below : layer_code (bare y) ++ r ≡ layer_code (out-Term u) ++ s =
    ap (λ (z : Term-F Term). layer_code z ++ r) (bare_is y ∙ is) ∙ ap (λ (w : List ℕ). w ++ r) (sym (term_code-roll x)) ∙ e ∙ ap (λ (w : List ℕ). w ++ s) (term_code-out u) in
    let same : Same (bare y) (out-Term u) r s = layers_apart y (out-Term u) r s below in
    record { values = ap roll-Term (sym is ∙ sym (bare_is y) ∙ same.values) ∙ roll-out-Term u; rests = same.rests }

terms_apart : (t : Term) → Apart t
terms_apart = ind-Term Apart (λ x y is. layer_apart y x is)

pub same_from_codes : (t u : Term) → term_code t ≡ term_code u → t ≡ u
same_from_codes t u e =
    let same : Same t u [] [] = terms_apart t u [] [] (ap (λ (w : List ℕ). w ++ []) e) in
    same.values

-- ---- the code as it is written

pub marked_digits_step : (n : ℕ) → 0 < n → marked (digits_of 256 n) ≡ marked (digits_of 256 (n / 256)) ++ 1 ∷ n % 256 ∷ []
marked_digits_step n positive = ap marked (digits_of_step 256 n (omega arith) positive) ∙ marked-append (digits_of 256 (n / 256)) (n % 256 ∷ [])
