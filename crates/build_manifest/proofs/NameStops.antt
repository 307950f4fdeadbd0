-- Where the readers of names and needs stop.
use Rattle.std.proofs.Common.{◌≡◌, ℕ, ◌<◌, List, [], ◌∷◌, ◌++◌, length, get_or, slice_index, IsTrue, refl, sym, ap, ◌∙◌, arith, subst, ⊎_elim, append_assoc, append-nil, length-append}
use Rattle.std.proofs.lemmas.List.{get_or-append-add}
use Rattle.hex.specs.Hex.{encode_lower}
use Rattle.reading.specs.Field.{PairFits, Sticks, Stops, pair_text}
use Rattle.reading.proofs.Fields.{first_stops, second_stops, told_otherwise}
use Rattle.reading.proofs.Numbers.{last_split}
use Rattle.mx_base.specs.AppName.{IsAppName, fits_at}
use Rattle.mx_base.specs.Digest.{IsDigest}
use Rattle.build_manifest.specs.Fields.{ended, lead_text}
use Rattle.build_manifest.specs.Mark.{Need, NeedFits}
use Rattle.build_manifest.specs.Names.{BeginsFree, IsFreeFront, IsFreeName, IsLongestFront, NoneGoesOn}
use Rattle.build_manifest.specs.Text.{need_text}
use Rattle.build_manifest.proofs.RowStops.{lead_tells}

-- ---- names

byte_at : (front more : List ℕ) (next : ℕ) → slice_index (front ++ next ∷ more) (length front) ≡ next
byte_at front more next =
    ap (λ n. get_or (front ++ next ∷ more) n 0) (omega arith) ∙ get_or-append-add front (next ∷ more) 0 0

-- a name that goes on has a byte there that may stand
pub goes_on : (front more name : List ℕ) (next : ℕ) → IsAppName name → name ≡ front ++ next ∷ more
    → (length front < 255) × IsTrue (fits_at (length front) next)
goes_on front more name next is e =
    let long : length name ≡ length (front ++ next ∷ more) = ap length e in
    let within : length front < length name = omega (arith, long, length-append front (next ∷ more)) in (
      omega (arith, within, is.not_long),
      sym (ap (fits_at (length front)) (ap (λ t. slice_index t (length front)) e ∙ byte_at front more next)) ∙ is.bytes (length front) within,
    )

pub none_goes_on : (front rest more name others : List ℕ) (next : ℕ) → NoneGoesOn front rest → rest ≡ next ∷ others → IsAppName name
    → name ≡ front ++ next ∷ more
    → ⊥
none_goes_on front [] more name others next ends e is on = cc
none_goes_on front (b ∷ rest) more name others next ends e is on =
    let same : b ≡ next = cc in
    let further = goes_on front more name next is on in
    cc (further.1, ends further.0, ap (fits_at (length front)) same)

-- no listed name stands there, and what follows ends none
pub name_stuck : (listed : List Need) (text front : List ℕ) (long : IsLongestFront text front) → IsFreeName listed front
    → ((others : List ℕ) → long.rest ≡ 10 ∷ others → ⊥) → Stops ended (IsFreeName listed) text (length long.rest)
name_stuck listed text front long free unended = record {
  taken = front;
  rest = long.rest;
  bytes = long.cut;
  size = refl;
  sticks = record {
    value = front;
    fits = free;
    byte = 10;
    more = [];
    begins = refl;
    refuses = λ next others further other e fits whole. ⊎_elim
        (λ (one : (other ≡ front) × (10 ≡ next)). unended others (e ∙ ap (λ b. b ∷ others) (sym one.1)))
        (λ (on : (more : List ℕ) × (other ≡ front ++ next ∷ more)). none_goes_on front long.rest on.0 other others next long.ends e fits.proper on.1)
        (last_split other front further 10 next whole);
  };
}

-- what some free name begins with, and no free one with the next byte too
pub name_used : (listed : List Need) (text name front after : List ℕ) → text ≡ name ++ after → (free : IsFreeFront listed name front)
    → ((others : List ℕ) → free.rest ++ after ≡ 10 ∷ others → IsFreeName listed front → ⊥)
    → ((next : ℕ) (others : List ℕ) → free.rest ++ after ≡ next ∷ others → BeginsFree listed (front ++ next ∷ []) → ⊥)
    → Stops ended (IsFreeName listed) text (length (free.rest ++ after))
name_used listed text name front after cut free ends goes = record {
  taken = front;
  rest = free.rest ++ after;
  bytes = cut ∙ ap (λ t. t ++ after) free.cut ∙ append_assoc front free.rest after;
  size = refl;
  sticks = sticks free.free.0 free.free.1;
}
  where
    refused : (next : ℕ) (others further other : List ℕ) → free.rest ++ after ≡ next ∷ others → IsFreeName listed other → ended other ≡ front ++ next ∷ further
        → ⊥
    refused next others further other e fits whole = ⊎_elim
        (λ (one : (other ≡ front) × (10 ≡ next)). ends others (e ∙ ap (λ b. b ∷ others) (sym one.1)) (subst (IsFreeName listed) one.0 fits))
        (λ (on : (more : List ℕ) × (other ≡ front ++ next ∷ more)).
        goes next others e (on.0, subst (IsFreeName listed) (on.1 ∙ sym (append_assoc front (next ∷ []) on.0)) fits))
        (last_split other front further 10 next whole)

    sticks : (more : List ℕ) → IsFreeName listed (front ++ more) → Sticks ended (IsFreeName listed) front (free.rest ++ after)
    sticks [] is = record {
      value = front ++ [];
      fits = is;
      byte = 10;
      more = [];
      begins = ap ended (append-nil front);
      refuses = refused;
    }
    sticks (b ∷ more) is = record {
      value = front ++ b ∷ more;
      fits = is;
      byte = b;
      more = more ++ 10 ∷ [];
      begins = append_assoc front (b ∷ more) (10 ∷ []);
      refuses = refused;
    }

-- ---- needs

need_grouped : (d a : List ℕ) → d ++ 32 ∷ a ++ 10 ∷ [] ≡ (d ++ 32 ∷ []) ++ (a ++ 10 ∷ [])
need_grouped d a = simp append_assoc

need_fits : (listed : List Need) (p : List ℕ × List ℕ) → PairFits IsDigest (λ _. IsFreeName listed) p
    → NeedFits listed p × (need_text p ≡ pair_text lead_text (λ _. ended) p)
need_fits listed p fits = (
  record { digest = fits.0; app = fits.1.proper; differs = fits.1.free },
  need_grouped (encode_lower p.0) p.1,
)

fits_need : (listed : List Need) (need : Need) → NeedFits listed need
    → PairFits IsDigest (λ _. IsFreeName listed) need × (pair_text lead_text (λ _. ended) need ≡ need_text need)
fits_need listed need fits = (
  (fits.digest, record { proper = fits.app; free = fits.differs }),
  sym (need_grouped (encode_lower need.0) need.1),
)

need_told : (listed : List Need) (text : List ℕ) (left : ℕ)
    → Stops (pair_text lead_text (λ _. ended)) (PairFits IsDigest (λ _. IsFreeName listed)) text left → Stops need_text (NeedFits listed) text left
need_told listed text left s =
    told_otherwise (pair_text lead_text (λ _. ended)) (PairFits IsDigest (λ _. IsFreeName listed)) need_text (NeedFits listed) (λ n. n) (λ n. n)
    (need_fits listed) (fits_need listed) text left s

pub need_lead_stops : (listed : List Need) (text : List ℕ) (left : ℕ) → (name : List ℕ) × IsFreeName listed name → Stops lead_text IsDigest text left
    → Stops need_text (NeedFits listed) text left
need_lead_stops listed text left some s =
    need_told listed text left (first_stops lead_text IsDigest (λ _. ended) (λ _. IsFreeName listed) lead_tells (λ _ _. some) text left s)

pub need_name_stops : (listed : List Need) (digest text rest : List ℕ) (left : ℕ) → IsDigest digest → text ≡ lead_text digest ++ rest
    → Stops ended (IsFreeName listed) rest left → Stops need_text (NeedFits listed) text left
need_name_stops listed digest text rest left is cut s =
    need_told listed text left (second_stops lead_text IsDigest (λ _. ended) (λ _. IsFreeName listed) lead_tells digest is text rest left cut s)
