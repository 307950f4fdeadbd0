-- What the reader of a name comes to, where the text is cut behind the longest front that a name may begin with.
use Rattle.std.proofs.Common.{◌≡◌, ℕ, zero, suc, ◌-◌, ◌<◌, ◌==◌, false, List, [], ◌∷◌, ◌++◌, length, take, drop, get_or, refl, sym, ap, ◌∙◌, arith, subst, append_assoc, append-nil, length-append}
use Rattle.std.proofs.Math.Seq.{drop-append_seam, take-length}
use Rattle.std.proofs.lemmas.List.{length-drop}
use Rattle.reading.specs.Field.{Stops}
use Rattle.mx_base.specs.AppName.{IsAppName}
use Rattle.build_manifest.specs.Fields.{ended}
use Rattle.build_manifest.specs.Mark.{Need}
use Rattle.build_manifest.specs.Names.{BeginsFree, IsFreeFront, IsFreeName, IsLongestFront}
use Rattle.build_manifest.proofs.Lines.{name_has_no_break}
use Rattle.build_manifest.proofs.NameStops.{name_stuck, name_used, none_goes_on}

pub is_name : (text front : List ℕ) → IsLongestFront text front → 0 < length front → IsAppName front
is_name text front long some = record { not_empty = some; not_long = long.not_long; bytes = long.bytes }

-- what is left of a text from a place on
abbrev pub from_place : List ℕ → ℕ → List ℕ
from_place text n = take (length text - n) (drop n text)

take_whole : (text : List ℕ) (n : ℕ) → n ≡ length text → take n text ≡ text
take_whole text n same = ap (λ k. take k text) same ∙ take-length text

behind : (text front rest : List ℕ) → text ≡ front ++ rest → from_place text (length front) ≡ rest
behind text front rest cut =
    take_whole (drop (length front) text) (length text - length front) (sym (length-drop (length front) text))
    ∙ ap (drop (length front)) cut ∙ drop-append_seam front rest

-- the front is no free name, and this much of it begins one
pub used_up : (listed : List Need) (text name front : List ℕ) → IsLongestFront text name → IsFreeFront listed name front → (IsFreeName listed name → ⊥)
    → Stops ended (IsFreeName listed) text (length (from_place text (length front)))
used_up listed text name front long free used =
    let whole : text ≡ front ++ (free.rest ++ long.rest) =
    long.cut ∙ ap (λ t. t ++ long.rest) free.cut ∙ append_assoc front free.rest long.rest in
    subst (Stops ended (IsFreeName listed) text) (ap length (sym (behind text front (free.rest ++ long.rest) whole)))
    (name_used listed text name front long.rest long.cut free (ends free.rest free.cut) (goes free.rest free.cut free.longest))
  where
    no_break : (f m : List ℕ) → name ≡ f ++ 10 ∷ m → ⊥
    no_break f m e = name_has_no_break name (is_name text name long (omega (arith, ap length e, length-append f (10 ∷ m)))) f m e

    ends : (rest : List ℕ) → name ≡ front ++ rest → (others : List ℕ) → rest ++ long.rest ≡ 10 ∷ others → IsFreeName listed front → ⊥
    ends [] cut others e is = used (subst (IsFreeName listed) (sym (cut ∙ append-nil front)) is)
    ends (b ∷ rest) cut others e is =
        let same : b ≡ 10 = ap (λ (t : List ℕ). get_or t 0 0) e in
        no_break front rest (cut ∙ ap (λ (c : ℕ). front ++ c ∷ rest) same)

    goes : (rest : List ℕ) → name ≡ front ++ rest
        → ((next : ℕ) (others : List ℕ) → rest ≡ next ∷ others → BeginsFree listed (front ++ next ∷ []) → ⊥) → (next : ℕ) (others : List ℕ)
        → rest ++ long.rest ≡ next ∷ others → BeginsFree listed (front ++ next ∷ []) → ⊥
    goes [] cut longest next others e (more, is) =
        let same : name ≡ front = cut ∙ append-nil front in
        none_goes_on name long.rest more ((front ++ next ∷ []) ++ more) others next long.ends e is.proper
        (append_assoc front (next ∷ []) more ∙ ap (λ (t : List ℕ). t ++ next ∷ more) (sym same))
    goes (b ∷ rest) cut longest next others e begins =
        let same : b ≡ next = ap (λ (t : List ℕ). get_or t 0 0) e in
        longest next rest (ap (λ (c : ℕ). c ∷ rest) same) begins

-- no name begins there
pub nothing_begins : (listed : List Need) (text front : List ℕ) → IsLongestFront text front → length front ≡ 0 → BeginsFree listed []
    → Stops ended (IsFreeName listed) text (length text)
nothing_begins listed text [] long none begins =
    subst (Stops ended (IsFreeName listed) text) (ap length (behind text [] text refl))
    (used_up listed text [] [] long (record { rest = []; cut = refl; free = begins; longest = λ next others e. absurd (omega (arith, ap length e)) })
    (λ is. omega (arith, is.proper.not_empty)))
nothing_begins listed text (b ∷ front) long none begins = absurd (omega (arith, none))

-- a free name stands there, and no newline behind it
pub unended : (listed : List Need) (text front : List ℕ) (long : IsLongestFront text front) → IsFreeName listed front
    → ((others : List ℕ) → from_place text (length front) ≡ 10 ∷ others → ⊥) → Stops ended (IsFreeName listed) text (length (from_place text (length front)))
unended listed text front long free none =
    let same = behind text front long.rest long.cut in
    subst (Stops ended (IsFreeName listed) text) (ap length (sym same))
    (name_stuck listed text front long free (λ others e. none others (same ∙ e)))

-- .. and it does
pub name_read : (text front rest : List ℕ) → IsLongestFront text front → from_place text (length front) ≡ 10 ∷ rest → text ≡ ended front ++ rest
name_read text front rest long is =
    long.cut ∙ ap (λ t. front ++ t) (sym (behind text front long.rest long.cut) ∙ is) ∙ sym (append_assoc front (10 ∷ []) rest)

pub some_bytes : (n : ℕ) → (n == 0) ≡ false → 0 < n
some_bytes zero e = cc e
some_bytes (suc n) e = omega arith
