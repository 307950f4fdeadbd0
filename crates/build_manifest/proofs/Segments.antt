-- How the segments of a path go on, byte by byte.
use Rattle.std.proofs.Common.{◌≡◌, ◌↔◌, ℕ, Bool, true, false, ◌==◌, ◌||◌, List, [], ◌∷◌, ◌++◌, refl, sym, ap, ◌∙◌}
use Rattle.std.specs.List.{list_all, onto_first, slice_split}
use Rattle.std.proofs.lemmas.List.Splits.{slice_split-cons_no}
use Rattle.mx_base.specs.Path.{is_outside, is_refused, is_segment, is_slash}
use Rattle.mx_base.proofs.PathLemmas.{is_clean}
use Rattle.build_manifest.specs.declared.paths.Segment.{Segment}
use Rattle.build_manifest.specs.declared.paths.Segment.TheVariants.{Nothing, Dot, TwoDots, Name}
use Rattle.build_manifest.specs.Paths.{EndsSegments, segment_text}
use Rattle.build_manifest.proofs.Lines.{clean_all, from_onto}

-- ---- slashes and dots

pub slash_ends_name : (bytes : List ℕ) → EndsSegments Name (47 ∷ bytes) ↔ EndsSegments Nothing bytes
slash_ends_name bytes = (λ h. h, λ h. h)

pub no_slash : (now : Segment) (bytes : List ℕ) → (now ≡ Name → ⊥) → EndsSegments now (47 ∷ bytes) → ⊥
no_slash Nothing bytes other h = cc
no_slash Dot bytes other h = cc
no_slash TwoDots bytes other h = cc
no_slash Name bytes other h = other refl

-- ---- other bytes

-- the bytes of a segment that has come so far, in front of the first part
abbrev onto : Segment → List (List ℕ) → List (List ℕ)
onto Nothing parts = parts
onto Dot parts = onto_first 46 parts
onto TwoDots parts = onto_first 46 (onto_first 46 parts)
onto Name parts = onto_first 97 parts

split_with : (now : Segment) (bytes : List ℕ) → slice_split is_slash (segment_text now ++ bytes) ≡ onto now (slice_split is_slash bytes)
split_with Nothing bytes = refl
split_with Dot bytes = refl
split_with TwoDots bytes = refl
split_with Name bytes = refl

-- the parts behind it are clean where all are
clean_behind : (now : Segment) (parts : List (List ℕ)) → list_all is_segment (onto now parts) ≡ true → list_all is_clean parts ≡ true
clean_behind Nothing parts h = clean_all parts h
clean_behind Dot parts h = (from_onto 46 parts (clean_all (onto_first 46 parts) h)).1
clean_behind TwoDots parts h =
    (from_onto 46 parts (from_onto 46 (onto_first 46 parts) (clean_all (onto_first 46 (onto_first 46 parts)) h)).1).1
clean_behind Name parts h = (from_onto 97 parts (clean_all (onto_first 97 parts) h)).1

-- no path has a byte that is refused
pub no_refused : (now : Segment) (byte : ℕ) (bytes : List ℕ) → is_slash byte ≡ false → is_refused byte ≡ true → EndsSegments now (byte ∷ bytes) → ⊥
no_refused now byte bytes other bad h =
    let parts = slice_split is_slash bytes in
    let cut : slice_split is_slash (segment_text now ++ byte ∷ bytes) ≡ onto now (onto_first byte parts) =
    split_with now (byte ∷ bytes) ∙ ap (onto now) (slice_split-cons_no is_slash byte bytes other) in
    let clean = clean_behind now (onto_first byte parts) (sym (ap (list_all is_segment) cut) ∙ h) in
    let inside = (from_onto byte parts clean).0 in
    let outside : is_outside byte ≡ true = ap (λ (t : Bool). t || is_refused byte) other ∙ bad in
    cc (inside, outside)

-- the byte makes no dot or two of them
abbrev pub NoDots : Segment → ℕ → Type 0
NoDots Nothing byte = (byte == 46) ≡ false
NoDots Dot byte = (byte == 46) ≡ false
NoDots TwoDots byte = Unit {0}
NoDots Name byte = Unit {0}

name_of : (now : Segment) (byte : ℕ) (part : List ℕ) → is_outside byte ≡ false → NoDots now byte
    → (more : List (List ℕ)) → list_all is_segment (onto now ((byte ∷ part) ∷ more)) ≡ list_all is_segment ((97 ∷ part) ∷ more)
name_of Nothing byte part clean plain more = rw (plain, clean) refl
name_of Dot byte part clean plain more = rw (plain, clean) refl
name_of TwoDots byte part clean plain more = rw clean refl
name_of Name byte part clean plain more = rw clean refl

name_onto : (now : Segment) (byte : ℕ) (parts : List (List ℕ)) → is_outside byte ≡ false → NoDots now byte
    → list_all is_segment (onto now (onto_first byte parts)) ≡ list_all is_segment (onto_first 97 parts)
name_onto now byte [] clean plain = name_of now byte [] clean plain []
name_onto now byte (part ∷ parts) clean plain = name_of now byte part clean plain parts

-- with any other byte it is a name
pub becomes_name : (now : Segment) (byte : ℕ) (bytes : List ℕ) → is_slash byte ≡ false → is_refused byte ≡ false → NoDots now byte
    → EndsSegments now (byte ∷ bytes) ↔ EndsSegments Name bytes
becomes_name now byte bytes other good plain =
    let parts = slice_split is_slash bytes in
    let clean : is_outside byte ≡ false = ap (λ (t : Bool). t || is_refused byte) other ∙ good in
    let cut : slice_split is_slash (segment_text now ++ byte ∷ bytes) ≡ onto now (onto_first byte parts) =
    split_with now (byte ∷ bytes) ∙ ap (onto now) (slice_split-cons_no is_slash byte bytes other) in
    let same : list_all is_segment (slice_split is_slash (segment_text now ++ byte ∷ bytes)) ≡ list_all is_segment (onto_first 97 parts) =
    ap (list_all is_segment) cut ∙ name_onto now byte parts clean plain in
    (λ h. sym same ∙ h, λ h. same ∙ h)

-- ---- dots

pub past_dot_first : (bytes : List ℕ) → EndsSegments Nothing (46 ∷ bytes) ↔ EndsSegments Dot bytes
past_dot_first bytes = (λ h. h, λ h. h)

pub past_dot_second : (bytes : List ℕ) → EndsSegments Dot (46 ∷ bytes) ↔ EndsSegments TwoDots bytes
past_dot_second bytes = (λ h. h, λ h. h)

pub past_dot_third : (bytes : List ℕ) → EndsSegments TwoDots (46 ∷ bytes) ↔ EndsSegments Name bytes
past_dot_third bytes = becomes_name TwoDots 46 bytes refl refl tt

pub past_dot_name : (bytes : List ℕ) → EndsSegments Name (46 ∷ bytes) ↔ EndsSegments Name bytes
past_dot_name bytes = becomes_name Name 46 bytes refl refl tt

-- ---- ends

pub ends_name : (now : Segment) → EndsSegments now [] → now ≡ Name
ends_name Nothing h = cc
ends_name Dot h = cc
ends_name TwoDots h = cc
ends_name Name h = refl

pub name_ends : EndsSegments Name []
name_ends = refl

no_dots : (now : Segment) (byte : ℕ) → (byte == 46) ≡ false → NoDots now byte
no_dots Nothing byte h = h
no_dots Dot byte h = h
no_dots TwoDots byte h = tt
no_dots Name byte h = tt

-- bytes above ASCII, and then an `a`
abbrev pub AreHigh : List ℕ → Type 0
AreHigh [] = Unit {0}
AreHigh (byte ∷ bytes) = (is_slash byte ≡ false) × (is_refused byte ≡ false) × ((byte == 46) ≡ false) × AreHigh bytes

pub some_segments : (now : Segment) (bytes : List ℕ) → AreHigh bytes → EndsSegments now (bytes ++ 97 ∷ [])
some_segments now [] high = (becomes_name now 97 [] refl refl (no_dots now 97 refl)).1 name_ends
some_segments now (byte ∷ bytes) high =
    (becomes_name now byte (bytes ++ 97 ∷ []) high.0 high.1 (no_dots now byte high.2)).1 (some_segments Name bytes high.3)
