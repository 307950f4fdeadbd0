-- From each place some path leads on.
use Rattle.std.proofs.Common.{◌≡◌, ℕ, zero, suc, ◌<◌, ◌≤◌, Bool, true, false, ◌==◌, ◌&&◌, ◌||◌, not, bytes_eq, List, [], ◌∷◌, ◌++◌, length, take, drop, Option, Some, None, refl, sym, ap, ◌∙◌, subst, arith, append_assoc, append-nil, length-append, IsTrue}
use Rattle.std.specs.declared.cmp.Ordering.TheVariants.{Less}
use Rattle.std.specs.List.{list_all, list_any, onto_first, slice_split}
use Rattle.std.specs.Str.{IsUtf8}
use Rattle.std.proofs.lemmas.Bool.Decides.{nat_tests}
use Rattle.std.proofs.lemmas.List.{take-append-drop}
use Rattle.std.proofs.lemmas.List.Splits.{slice_split-cons_no, slice_split-cons_yes}
use Rattle.std.proofs.lemmas.Str.{IsUtf8-append, IsUtf8-nil, encode_ascii}
use Rattle.mx_base.specs.Order.{text_cmp}
use Rattle.mx_base.proofs.OrderLemmas.{same_front}
use Rattle.mx_base.specs.Path.{is_outside, is_path, is_refused, is_segment, is_slash}
use Rattle.build_manifest.specs.declared.paths.Missing.{Missing}
use Rattle.build_manifest.specs.declared.paths.Order.TheVariants.{After}
use Rattle.build_manifest.specs.declared.paths.Place.{Place}
use Rattle.build_manifest.specs.Fields.{ComesAfter, IsEarlier, NextPath, ended}
use Rattle.build_manifest.specs.Paths.{EndsCharacter, EndsOrder, EndsPath, GoesOnAbove}
use Rattle.build_manifest.proofs.Characters.{one_char}
use Rattle.build_manifest.proofs.Segments.{AreHigh, some_segments}

-- ---- an `a` behind a path

a_utf8 : IsUtf8 (97 ∷ [])
a_utf8 = one_char 97 (97 ∷ []) refl (encode_ascii 97 (omega arith))

-- the last part gets it
abbrev onto_last : List (List ℕ) → List (List ℕ)
onto_last [] = (97 ∷ []) ∷ []
onto_last (part ∷ []) = (part ++ 97 ∷ []) ∷ []
onto_last (part ∷ next ∷ parts) = part ∷ onto_last (next ∷ parts)

onto_both : (b : ℕ) (part : List ℕ) (parts : List (List ℕ)) → onto_first b (onto_last (part ∷ parts)) ≡ onto_last (onto_first b (part ∷ parts))
onto_both b part [] = refl
onto_both b part (next ∷ parts) = refl

-- a split has a first part
abbrev HasFirst : List (List ℕ) → Type 0
HasFirst parts = (part : List ℕ) × (others : List (List ℕ)) × (parts ≡ part ∷ others)

first_part : (parts : List (List ℕ)) (b : ℕ) → HasFirst (onto_first b parts)
first_part [] b = (b ∷ [], [], refl)
first_part (part ∷ parts) b = (b ∷ part, parts, refl)

split_first : (text : List ℕ) → HasFirst (slice_split is_slash text)
split_first [] = ([], [], refl)
split_first (b ∷ bs) = at (is_slash b) refl
  where
    at : (t : Bool) → is_slash b ≡ t → HasFirst (slice_split is_slash (b ∷ bs))
    at true e = ([], slice_split is_slash bs, slice_split-cons_yes is_slash b bs e)
    at false e = subst HasFirst (sym (slice_split-cons_no is_slash b bs e)) (first_part (slice_split is_slash bs) b)

onto_skipped : (parts : List (List ℕ)) → HasFirst parts → onto_last ([] ∷ parts) ≡ [] ∷ onto_last parts
onto_skipped parts has = rw has.2 refl

onto_moved : (b : ℕ) (parts : List (List ℕ)) → HasFirst parts → onto_first b (onto_last parts) ≡ onto_last (onto_first b parts)
onto_moved b parts has =
    ap (λ p. onto_first b (onto_last p)) has.2 ∙ onto_both b has.0 has.1 ∙ ap (λ p. onto_last (onto_first b p)) (sym has.2)

split_behind : (text : List ℕ) → slice_split is_slash (text ++ 97 ∷ []) ≡ onto_last (slice_split is_slash text)
split_behind [] = refl
split_behind (b ∷ bs) = at (is_slash b) refl (split_behind bs)
  where
    at : (t : Bool) → is_slash b ≡ t → slice_split is_slash (bs ++ 97 ∷ []) ≡ onto_last (slice_split is_slash bs)
        → slice_split is_slash (b ∷ bs ++ 97 ∷ []) ≡ onto_last (slice_split is_slash (b ∷ bs))
    at true e rest =
        slice_split-cons_yes is_slash b (bs ++ 97 ∷ []) e ∙ ap (λ p. [] ∷ p) rest
        ∙ sym (onto_skipped (slice_split is_slash bs) (split_first bs)) ∙ ap onto_last (sym (slice_split-cons_yes is_slash b bs e))
    at false e rest =
        slice_split-cons_no is_slash b (bs ++ 97 ∷ []) e ∙ ap (onto_first b) rest
        ∙ onto_moved b (slice_split is_slash bs) (split_first bs) ∙ ap onto_last (sym (slice_split-cons_no is_slash b bs e))

any_behind : (part : List ℕ) → list_any is_outside (part ++ 97 ∷ []) ≡ list_any is_outside part
any_behind [] = refl
any_behind (b ∷ part) = ap (λ t. is_outside b || t) (any_behind part)

and_false : (t : Bool) → (t && false) ≡ false
and_false true = refl
and_false false = refl

not_one : (b : ℕ) (part : List ℕ) → bytes_eq ((b ∷ part) ++ 97 ∷ []) (46 ∷ []) ≡ false
not_one b [] = and_false (b == 46)
not_one b (c ∷ part) = and_false (b == 46)

not_two : (b : ℕ) (part : List ℕ) → bytes_eq ((b ∷ part) ++ 97 ∷ []) (46 ∷ 46 ∷ []) ≡ false
not_two b [] = and_false (b == 46)
not_two b (c ∷ part) = ap (λ t. (b == 46) && t) (last c part) ∙ and_false (b == 46)
  where
    last : (c : ℕ) (part : List ℕ) → bytes_eq ((c ∷ part) ++ 97 ∷ []) (46 ∷ []) ≡ false
    last c [] = and_false (c == 46)
    last c (d ∷ part) = and_false (c == 46)

clean_of : (t u v : Bool) → (t && u && v) ≡ true → v ≡ true
clean_of true true true e = refl
clean_of true true false e = e
clean_of true false v e = cc
clean_of false u v e = cc

segment_behind : (part : List ℕ) → is_segment part ≡ true → is_segment (part ++ 97 ∷ []) ≡ true
segment_behind [] e = refl
segment_behind (b ∷ part) e =
    let clean = clean_of (not (bytes_eq (b ∷ part) [] || bytes_eq (b ∷ part) (46 ∷ []))) (not (bytes_eq (b ∷ part) (46 ∷ 46 ∷ [])))
    (not (list_any is_outside (b ∷ part))) e in
    rw (not_one b part, not_two b part, any_behind (b ∷ part)) clean

both : (t u : Bool) → (t && u) ≡ true → (t ≡ true) × (u ≡ true)
both true u e = (refl, e)
both false u e = cc

all_behind : (parts : List (List ℕ)) → list_all is_segment parts ≡ true → list_all is_segment (onto_last parts) ≡ true
all_behind [] e = refl
all_behind (part ∷ []) e = ap (λ t. t && true) (segment_behind part (both (is_segment part) true e).0)
all_behind (part ∷ next ∷ parts) e =
    let here = both (is_segment part) (list_all is_segment (next ∷ parts)) e in
    ap (λ t. t && list_all is_segment (onto_last (next ∷ parts))) here.0 ∙ all_behind (next ∷ parts) here.1

path_behind : (path : List ℕ) → IsTrue (is_path path) → IsTrue (is_path (path ++ 97 ∷ []))
path_behind [] e = refl
path_behind (b ∷ bs) e = ap (list_all is_segment) (split_behind (b ∷ bs)) ∙ all_behind (slice_split is_slash (b ∷ bs)) e

-- ---- a path that has left the one before

abbrev fill : ℕ → List ℕ
fill zero = []
fill (suc n) = 0x80 ∷ fill n

abbrev fill_from : ℕ → ℕ → List ℕ
fill_from zero low = []
fill_from (suc n) low = low ∷ fill n

high_byte : (b : ℕ) → 0x80 ≤ b → b ≤ 0xBF → (is_slash b ≡ false) × (is_refused b ≡ false) × ((b == 46) ≡ false)
high_byte b l h = grind (arith, nat_tests)

fill_high : (n : ℕ) → AreHigh (fill n)
fill_high zero = tt
fill_high (suc n) = (refl, refl, refl, fill_high n)

from_high : (n low : ℕ) → 0x80 ≤ low → low ≤ 0xBF → AreHigh (fill_from n low)
from_high zero low l h = tt
from_high (suc n) low l h = let byte = high_byte low l h in (byte.0, byte.1, byte.2, fill_high n)

fill_ends : (n : ℕ) → EndsCharacter n 0x80 0xBF (fill n ++ 97 ∷ [])
fill_ends zero = a_utf8
fill_ends (suc n) = (omega arith, omega arith, fill_ends n)

from_ends : (n low high : ℕ) → low ≤ high → EndsCharacter n low high (fill_from n low ++ 97 ∷ [])
from_ends zero low high some = a_utf8
from_ends (suc n) low high some = (omega arith, some, fill_ends n)

-- ---- some path

pub record Lives (before : Option (List ℕ)) (taken : List ℕ) : Type 0 where
  pub value : List ℕ
  pub fits : NextPath before value
  pub byte : ℕ
  pub more : List ℕ
  pub begins : ended value ≡ taken ++ byte ∷ more

-- a text that isn't empty has a first byte
first_of : (before : Option (List ℕ)) (taken left value : List ℕ) → NextPath before value → value ≡ taken ++ left → Lives before taken
first_of before taken [] value fits e = record {
  value = value;
  fits = fits;
  byte = 10;
  more = [];
  begins = ap ended e ∙ append_assoc taken [] (10 ∷ []);
}
first_of before taken (b ∷ left) value fits e = record {
  value = value;
  fits = fits;
  byte = b;
  more = left ++ 10 ∷ [];
  begins = ap ended e ∙ append_assoc taken (b ∷ left) (10 ∷ []);
}

longer : (path : List ℕ) → text_cmp path (path ++ 97 ∷ []) ≡ Less
longer path = ap (λ p. text_cmp p (path ++ 97 ∷ [])) (sym (append-nil path)) ∙ same_front path [] (97 ∷ [])

-- what is known of the path before, where all is the same so far
abbrev pub SoFar : Option (List ℕ) → List ℕ → List ℕ → ℕ → Type 0
SoFar before earlier taken i = (before ≡ Some earlier) × (taken ≡ take i earlier) × IsTrue (is_path earlier) × IsUtf8 earlier

pub live_same : (before : Option (List ℕ)) (earlier taken : List ℕ) (i : ℕ) → SoFar before earlier taken i → Lives before taken
live_same before earlier taken i same =
    let whole : earlier ++ 97 ∷ [] ≡ taken ++ (drop i earlier ++ 97 ∷ []) =
    ap (λ t. t ++ 97 ∷ []) (sym (take-append-drop i earlier)) ∙ append_assoc (take i earlier) (drop i earlier) (97 ∷ [])
    ∙ ap (λ t. t ++ (drop i earlier ++ 97 ∷ [])) (sym same.1) in
    first_of before taken (drop i earlier ++ 97 ∷ []) (earlier ++ 97 ∷ []) (record {
      proper = path_behind earlier same.2;
      utf8 = IsUtf8-append earlier (97 ∷ []) same.3 a_utf8;
      order = subst (λ b. ComesAfter b (earlier ++ 97 ∷ [])) (sym same.0) (longer earlier);
    }) whole

-- what leads on where the order is decided
pub after_left : Missing → List ℕ
after_left missing = fill_from missing.count missing.low ++ 97 ∷ []

pub after_ends : (place : Place) (earlier : List ℕ) → place.order ≡ After → GoesOnAbove place.missing → EndsPath place earlier (after_left place.missing)
unfolding after_left
after_ends place earlier is above = record {
  segments = some_segments place.segment (fill_from place.missing.count place.missing.low)
      (from_high place.missing.count place.missing.low above.low (omega (arith, above.some, above.high)));
  characters = from_ends place.missing.count place.missing.low place.missing.high above.some;
  order = subst (λ o. EndsOrder o earlier (after_left place.missing)) (sym is) tt;
}

pub some_left : (missing : Missing) → 0 < length (after_left missing)
unfolding after_left
some_left missing = omega (arith, length-append (fill_from missing.count missing.low) (97 ∷ []))

pub live_after : (before : Option (List ℕ)) (taken : List ℕ) (missing : Missing) → NextPath before (taken ++ after_left missing) → Lives before taken
live_after before taken missing fits = first_of before taken (after_left missing) (taken ++ after_left missing) fits refl

-- after each path there is one
pub next_path : (before : Option (List ℕ)) → IsEarlier before → (path : List ℕ) × NextPath before path
next_path None is = ([], record { proper = refl; utf8 = IsUtf8-nil; order = tt })
next_path (Some earlier) is = (
  earlier ++ 97 ∷ [],
  record {
    proper = path_behind earlier is.0;
    utf8 = IsUtf8-append earlier (97 ∷ []) is.1 a_utf8;
    order = longer earlier;
  },
)
