-- A listing's text has one listing.
use Rattle.std.proofs.Common.{◌≡◌, ℕ, ◌<◌, Bool, true, false, not, ◌&&◌, ◌||◌, List, [], ◌∷◌, ◌++◌, length, length-append, append_assoc, cond, refl, sym, ◌∙◌, ap, arith}
use Rattle.std.specs.List.{All, list_all, list_any, slice_split, onto_first}
use Rattle.std.specs.Prelude.{◌^◌, decimal}
use Rattle.std.specs.Str.Parse.{AllDigits}
use Rattle.std.proofs.lemmas.Fmt.{decimal_is_IsNumeral, decimal_injective}
use Rattle.std.proofs.lemmas.List.Elements.{All-head, All-tail}
use Rattle.std.proofs.lemmas.Str.Parse.{tells_digits}
use Rattle.hex.specs.Hex.{encode_lower, lower_digits, decode_of, IsBytes}
use Rattle.hex.proofs.HexLemmas.{decode_of-encode_lower, length-encode_with}
use Rattle.mx_base.specs.declared.row.FileRow.{FileRow}
use Rattle.mx_base.specs.Listing.{IsRow, row_text, listing_text}
use Rattle.mx_base.specs.Path.{is_outside, is_path, is_segment, is_slash}
use Rattle.mx_base.proofs.PathLemmas.{is_clean, clean_segment}

-- the byte doesn't stand in the text
abbrev pub IsFree : ℕ → List ℕ → Type 0
IsFree c [] = Unit {0}
IsFree c (b ∷ bs) = (b ≡ c → ⊥) × IsFree c bs

-- two texts that end at the first such byte are one
pub split_free : (c : ℕ) (a b x y : List ℕ) → IsFree c a → IsFree c b → a ++ c ∷ x ≡ b ++ c ∷ y → (a ≡ b) × (x ≡ y)
split_free c [] [] x y p q e = (refl, cc)
split_free c [] (b ∷ bs) x y p q e = let is : b ≡ c = cc in absurd (q.0 is)
split_free c (a ∷ as') [] x y p q e = let is : a ≡ c = cc in absurd (p.0 is)
split_free c (a ∷ as') (b ∷ bs) x y p q e =
    let rest : as' ++ c ∷ x ≡ bs ++ c ∷ y = cc in
    let same = split_free c as' bs x y p.1 q.1 rest in
    let first : a ≡ b = cc in (cc (first, same.0), same.1)

pub split_long : (a b x y : List ℕ) → length a ≡ length b → a ++ x ≡ b ++ y → (a ≡ b) × (x ≡ y)
split_long [] [] x y long e = (refl, e)
split_long [] (b ∷ bs) x y long e = cc
split_long (a ∷ as') [] x y long e = cc
split_long (a ∷ as') (b ∷ bs) x y long e =
    let rest : as' ++ x ≡ bs ++ y = cc in
    let short : length as' ≡ length bs = omega arith in
    let same = split_long as' bs x y short rest in
    let first : a ≡ b = cc in (cc (first, same.0), same.1)

no_space : (digits : List ℕ) → AllDigits 10 digits → IsFree 32 digits
no_space [] all = tt
no_space (d ∷ ds) all = let parts = tells_digits.parts d ds all in (λ is. absurd (omega (arith, parts.0.0, is)), no_space ds parts.1)

both : (x y : Bool) → (x && y) ≡ true → (x ≡ true) × (y ≡ true)
both true y e = (refl, e)
both false y e = cc

clean_byte : (b : ℕ) (bs : List ℕ) → is_clean (b ∷ bs) ≡ true → (is_outside b ≡ false) × (is_clean bs ≡ true)
clean_byte b bs e = at (is_outside b) refl e
  where
    at : (t : Bool) → is_outside b ≡ t → not (t || list_any is_outside bs) ≡ true → (is_outside b ≡ false) × (is_clean bs ≡ true)
    at true is h = cc
    at false is h = (is, h)

clean_parts : (b : ℕ) (parts : List (List ℕ)) → list_all is_clean (onto_first b parts) ≡ true → (is_outside b ≡ false) × (list_all is_clean parts ≡ true)
clean_parts b [] all = ((clean_byte b [] (both (is_clean (b ∷ [])) true all).0).0, refl)
clean_parts b (part ∷ parts) all =
    let split = both (is_clean (b ∷ part)) (list_all is_clean parts) all in
    let byte = clean_byte b part split.0 in
    (byte.0, ap (λ (t : Bool). t && list_all is_clean parts) byte.1 ∙ split.1)

-- a text of clean parts has no newline
no_newline_split : (text : List ℕ) → list_all is_clean (slice_split is_slash text) ≡ true → IsFree 10 text
no_newline_split [] all = tt
no_newline_split (b ∷ bs) all = at (is_slash b) refl all (no_newline_split bs)
  where
    at : (t : Bool) → is_slash b ≡ t → list_all is_clean (cond t ([] ∷ slice_split is_slash bs) (onto_first b (slice_split is_slash bs))) ≡ true → (list_all is_clean (slice_split is_slash bs) ≡ true → IsFree 10 bs) → IsFree 10 (b ∷ bs)
    at true is h rest = (λ ten. let e : is_slash 10 ≡ true = ap is_slash (sym ten) ∙ is in cc, rest h)
    at false is h rest =
        let parts = clean_parts b (slice_split is_slash bs) h in
        (λ ten. let e : is_outside 10 ≡ false = ap is_outside (sym ten) ∙ parts.0 in cc, rest parts.1)

clean_segments : (names : List (List ℕ)) → list_all is_segment names ≡ true → list_all is_clean names ≡ true
clean_segments [] all = refl
clean_segments (name ∷ names) all =
    let split = both (is_segment name) (list_all is_segment names) all in
    ap (λ (t : Bool). t && list_all is_clean names) (clean_segment name split.0) ∙ clean_segments names split.1

no_newline : (path : List ℕ) → is_path path ≡ true → IsFree 10 path
no_newline [] is = tt
no_newline (b ∷ bs) is = no_newline_split (b ∷ bs) (clean_segments (slice_split is_slash (b ∷ bs)) is)

-- a digest is read back from its digits
one_digest : (one other : List ℕ) → IsBytes one → IsBytes other → encode_lower one ≡ encode_lower other → one ≡ other
one_digest one other p q e =
    let said = sym (decode_of-encode_lower one p) ∙ (ap decode_of e ∙ decode_of-encode_lower other q) in cc

same_row : (one other : FileRow) → one.path ≡ other.path → one.length ≡ other.length → one.digest ≡ other.digest → one ≡ other
same_row one other p l d = from_parts (λ path length digest. record { path = path; length = length; digest = digest }) p l d
  where
    from_parts : (row : List ℕ → ℕ → List ℕ → FileRow) → one.path ≡ other.path → one.length ≡ other.length → one.digest ≡ other.digest → row one.path one.length one.digest ≡ row other.path other.length other.digest
    from_parts row p l d = cc

-- the text of a row tells the row, and where it ends
pub one_row : (one other : FileRow) (x y : List ℕ) → IsRow one → IsRow other → row_text one ++ x ≡ row_text other ++ y → (one ≡ other) × (x ≡ y)
one_row one other x y p q e =
    let long : length (encode_lower one.digest) ≡ length (encode_lower other.digest) =
    omega (arith, length-encode_with lower_digits one.digest, length-encode_with lower_digits other.digest, p.digest.long, q.digest.long) in
    let digests = split_long (encode_lower one.digest) (encode_lower other.digest) _ _ long (simp append_assoc at e) in
    let tail : decimal one.length ++ 32 ∷ (one.path ++ 10 ∷ x) ≡ decimal other.length ++ 32 ∷ (other.path ++ 10 ∷ y) = cc (digests.1) in
    let small : one.length < 2 ^ 64 = omega (arith, p.length) in
    let low : other.length < 2 ^ 64 = omega (arith, q.length) in
    let lengths = split_free 32 (decimal one.length) (decimal other.length) _ _
    (no_space _ (decimal_is_IsNumeral one.length small).0.1) (no_space _ (decimal_is_IsNumeral other.length low).0.1) tail in
    let paths = split_free 10 one.path other.path x y (no_newline one.path p.path) (no_newline other.path q.path) lengths.1 in (
      same_row one other paths.0 (decimal_injective one.length other.length small low lengths.0)
          (one_digest one.digest other.digest p.digest.fits q.digest.fits digests.0),
      paths.1,
    )

not_empty : (row : FileRow) (x : List ℕ) → [] ≡ row_text row ++ x → ⊥
not_empty row x e = let long = ap length e in absurd (omega (arith, simp length-append at long))

-- two listings of one text are the same
pub one_listing : (one other : List FileRow) → All IsRow one → All IsRow other → listing_text one ≡ listing_text other → one ≡ other
one_listing [] [] p q e = refl
one_listing [] (b ∷ bs) p q e = absurd (not_empty b (listing_text bs) e)
one_listing (a ∷ as') [] p q e = absurd (not_empty a (listing_text as') (sym e))
one_listing (a ∷ as') (b ∷ bs) p q e =
    let first = one_row a b (listing_text as') (listing_text bs) (All-head IsRow a as' p) (All-head IsRow b bs q) e in
    let rest = one_listing as' bs (All-tail IsRow a as' p) (All-tail IsRow b bs q) first.1 in cc (first.0, rest)
