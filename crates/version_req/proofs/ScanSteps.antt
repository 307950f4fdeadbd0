-- How the readers of specs/Reading.antt follow a text, byte by byte.
use Rattle.std.proofs.Common.{◌≡◌, ◌≢◌, ℕ, ◌+◌, ◌-◌, ◌<◌, ◌≤◌, ◌==◌, ◌++◌, List, [], ◌∷◌, length, take, drop, slice_index, true, false, Result, Ok, Err, Some, None, refl, arith, length-drop}
use Rattle.std.specs.Char.{is_ascii_digit}
use Rattle.std.specs.List.{list_all}
use Rattle.std.proofs.lemmas.List.{drop_all, drop_more, get_or-drop, take_all, take_more, take_rest}
use Rattle.std.proofs.lemmas.List.Folds.{list_all-append}
use Rattle.std.proofs.lemmas.Grind.{common_steps}
use Rattle.semver.specs.Grammar.{is_identifier_byte}
use Rattle.version_req.specs.declared.identifiers.Kind.{Kind}
use Rattle.version_req.specs.declared.scan.Stuck.{Stuck}
use Rattle.version_req.specs.Reading.{Read, digits_of, identifiers_from, is_identifier, stuck, with_digit, without_spaces}

-- being stuck at place i, as the code counts what is left
pub stuck_at : {A : Type 0} (xs : List ℕ) (i : ℕ) (s : Stuck) → s ≡ record { left = length (take (length xs - i) (drop i xs)) }
    → ◌≡◌ {A = Result A Stuck} (Err s) (stuck (drop i xs))
stuck_at {A} xs i s h = rw (h, take_rest xs i) refl

pub stuck_end : {A : Type 0} (xs : List ℕ) (s : Stuck) → s ≡ record { left = length (take (length xs - length xs) (drop (length xs) xs)) }
    → ◌≡◌ {A = Result A Stuck} (Err s) (stuck [])
stuck_end {A} xs s h =
    let here = stuck_at {A = A} xs (length xs) s h in
    rw (drop_all (length xs) xs (omega arith)) at here

-- a space at place i: more may follow
pub spaces_step : (xs : List ℕ) (i : ℕ) → i < length xs → slice_index xs i ≡ 32 → without_spaces (drop i xs) ≡ without_spaces (drop (i + 1) xs)
unfolding without_spaces
spaces_step xs i lt h = rw (drop_more xs i 0 lt, h) refl

-- another byte at place i: the spaces end
pub spaces_stop : (xs : List ℕ) (i : ℕ) → i < length xs → slice_index xs i ≢ 32 → without_spaces (drop i xs) ≡ drop i xs
unfolding without_spaces
spaces_stop xs i lt h = rw (drop_more xs i 0 lt) (grind (arith, common_steps))

-- at the end of the text
pub spaces_end : (xs : List ℕ) (i : ℕ) → length xs ≤ i → without_spaces (drop i xs) ≡ []
unfolding without_spaces
spaces_end xs i h = rw (drop_all i xs h) refl

-- a digit at place i that the number takes, one that it does not take, and no digit
pub digits_step : (value more : ℕ) (xs : List ℕ) (i : ℕ) → i < length xs → is_ascii_digit (slice_index xs i) ≡ true
    → with_digit value (slice_index xs i - 48) ≡ Some more → digits_of value (drop i xs) ≡ digits_of more (drop (i + 1) xs)
unfolding digits_of
digits_step value more xs i lt d h = rw (drop_more xs i 0 lt, d, h) refl

pub digits_stuck : (value : ℕ) (xs : List ℕ) (i : ℕ) → i < length xs → is_ascii_digit (slice_index xs i) ≡ true
    → with_digit value (slice_index xs i - 48) ≡ None → digits_of value (drop i xs) ≡ stuck (drop i xs)
unfolding digits_of
digits_stuck value xs i lt d h = rw (drop_more xs i 0 lt, d, h) refl

pub digits_stop : (value : ℕ) (xs : List ℕ) (i : ℕ) → i < length xs → is_ascii_digit (slice_index xs i) ≡ false
    → digits_of value (drop i xs) ≡ Ok (value, drop i xs)
unfolding digits_of
digits_stop value xs i lt d = rw (drop_more xs i 0 lt, d) refl

pub digits_end : (value : ℕ) (xs : List ℕ) (i : ℕ) → length xs ≤ i → digits_of value (drop i xs) ≡ Ok (value, [])
unfolding digits_of
digits_end value xs i h = rw (drop_all i xs h) refl

-- the bytes of the identifier that begins at start, as far as place i
abbrev pub part : List ℕ → ℕ → ℕ → List ℕ
part xs start i = take (i - start) (drop start xs)

-- what the identifiers of a text are, read as far as place i
abbrev pub ids_at : Kind → List ℕ → ℕ → ℕ → Read (List ℕ)
ids_at kind xs start i = identifiers_from kind (take i xs) (part xs start i) (drop i xs)

part_more : (xs : List ℕ) (start i : ℕ) → start ≤ i → i < length xs → part xs start (i + 1) ≡ part xs start i ++ slice_index xs i ∷ []
part_more xs start i h lt =
    let inside : i - start < length (drop start xs) = omega (arith, length-drop start xs) in
    let e : i + 1 - start ≡ i - start + 1 = omega arith in
    let there : start + (i - start) ≡ i = omega arith in
    rw (e, take_more (drop start xs) (i - start) 0 inside, get_or-drop start xs (i - start) 0, there) refl

part_none : (xs : List ℕ) (i : ℕ) → part xs i i ≡ []
part_none xs i = let e : i - i ≡ 0 = omega arith in rw e refl

-- a byte of identifiers, a dot, another byte, and one at which nothing goes on
pub ids_letter : (kind : Kind) (xs : List ℕ) (start i : ℕ) → start ≤ i → i < length xs → is_identifier_byte (slice_index xs i) ≡ true
    → list_all is_identifier_byte (part xs start i) ≡ true
    → (ids_at kind xs start i ≡ ids_at kind xs start (i + 1)) × (list_all is_identifier_byte (part xs start (i + 1)) ≡ true)
unfolding identifiers_from
ids_letter kind xs start i h lt b all = (
  rw (drop_more xs i 0 lt, b, part_more xs start i h lt, take_more xs i 0 lt) refl,
  rw (part_more xs start i h lt, list_all-append, all, b) refl,
)

pub ids_dot : (kind : Kind) (xs : List ℕ) (start i : ℕ) → i < length xs → is_identifier_byte (slice_index xs i) ≡ false
    → is_identifier kind (part xs start i) ≡ true → slice_index xs i ≡ 46
    → (ids_at kind xs start i ≡ ids_at kind xs (i + 1) (i + 1)) × (list_all is_identifier_byte (part xs (i + 1) (i + 1)) ≡ true)
unfolding identifiers_from
ids_dot kind xs start i lt b good dot = (
  rw (drop_more xs i 0 lt, b, good, part_none xs (i + 1), take_more xs i 0 lt, dot) refl,
  rw (part_none xs (i + 1)) refl,
)

pub ids_stop : (kind : Kind) (xs : List ℕ) (start i : ℕ) → i < length xs → is_identifier_byte (slice_index xs i) ≡ false
    → is_identifier kind (part xs start i) ≡ true → (slice_index xs i == 46) ≡ false
    → ids_at kind xs start i ≡ Ok (take i xs, drop i xs)
unfolding identifiers_from
ids_stop kind xs start i lt b good other = rw (drop_more xs i 0 lt, b, good, other) refl

pub ids_stuck : (kind : Kind) (xs : List ℕ) (start i : ℕ) → i < length xs → is_identifier_byte (slice_index xs i) ≡ false
    → is_identifier kind (part xs start i) ≡ false → ids_at kind xs start i ≡ stuck (drop i xs)
unfolding identifiers_from
ids_stuck kind xs start i lt b bad = rw (drop_more xs i 0 lt, b, bad) refl

pub ids_end : (kind : Kind) (xs : List ℕ) (start i : ℕ) → length xs ≤ i → is_identifier kind (part xs start i) ≡ true
    → ids_at kind xs start i ≡ Ok (xs, [])
unfolding identifiers_from
ids_end kind xs start i h good = rw (drop_all i xs h, good, take_all i xs h) refl

pub ids_end_stuck : (kind : Kind) (xs : List ℕ) (start i : ℕ) → length xs ≤ i → is_identifier kind (part xs start i) ≡ false
    → ids_at kind xs start i ≡ stuck []
unfolding identifiers_from
ids_end_stuck kind xs start i h bad = rw (drop_all i xs h, bad) refl
