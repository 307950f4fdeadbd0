-- Which names are free, and begin with a name: itself, and those that begin with it and one byte more.
use Rattle.std.proofs.Common.{◌≡◌, ℕ, suc, ◌+◌, ◌<◌, ◌≤◌, ◌↔◌, Bool, true, false, ◌||◌, not, true≢false, if◌then◌else◌, nat_eq, List, [], ◌∷◌, ◌++◌, length, take, drop, get_or, drop-cons, map, IsTrue, refl, sym, ap, ◌∙◌, arith, subst, append_assoc, append-nil}
use Rattle.std.specs.Cmp.Lexicographic.{pointwise}
use Rattle.std.specs.List.{list_any}
use Rattle.std.proofs.lemmas.Bool.Decides.{nat_tests}
use Rattle.std.proofs.lemmas.List.{length-drop, take-append-drop, take_more}
use Rattle.std.proofs.lemmas.Slice.Eq.{bytes_eq-Decides}
use Rattle.indexmap.specs.IndexSet.{IndexSet, insert_key, keys}
use Rattle.reading.proofs.Lists.{same_head}
use Rattle.mx_base.specs.AppName.{fits_at}
use Rattle.build_manifest.specs.Mark.{Need}
use Rattle.build_manifest.specs.Names.{BeginsFree, HasApps, IsFreeFront, IsFreeName, NoneHas}
use Rattle.build_manifest.proofs.NameStops.{goes_on}

pub itself : (listed : List Need) (name : List ℕ) → IsFreeName listed name → BeginsFree listed name
itself listed name is = ([], subst (IsFreeName listed) (sym (append-nil name)) is)

pub one_byte_more : (listed : List Need) (name : List ℕ) (byte : ℕ) → BeginsFree listed (name ++ byte ∷ []) → BeginsFree listed name
one_byte_more listed name byte (more, is) = (byte ∷ more, subst (IsFreeName listed) (append_assoc name (byte ∷ []) more) is)

-- it isn't free, and no byte leads on
pub none_begins : (listed : List Need) (name : List ℕ) → (IsFreeName listed name → ⊥)
    → ((byte : ℕ) → length name < 255 → IsTrue (fits_at (length name) byte) → BeginsFree listed (name ++ byte ∷ []) → ⊥) → BeginsFree listed name → ⊥
none_begins listed name used none ([], is) = used (subst (IsFreeName listed) (append-nil name) is)
none_begins listed name used none (byte ∷ more, is) =
    let further = goes_on name more (name ++ byte ∷ more) byte is.proper refl in
    none byte further.0 further.1 (more, subst (IsFreeName listed) (sym (append_assoc name (byte ∷ []) more)) is)

-- ---- names that a set has

abbrev pub apps_of : List Need → List (List ℕ)
apps_of listed = map (λ need. need.1) listed

same_app : (a b : List ℕ) → pointwise nat_eq a b ≡ true → a ≡ b
same_app a b = (bytes_eq-Decides a b).0

own_app : (a : List ℕ) → pointwise nat_eq a a ≡ true
own_app a = (bytes_eq-Decides a a).1 refl

taken : (listed : List Need) (name : List ℕ) → list_any (pointwise nat_eq name) (apps_of listed) ≡ true → NoneHas listed name → ⊥
taken [] name has none = true≢false (sym has)
taken (need ∷ listed) name has none = at (pointwise nat_eq name need.1) refl has (taken listed name)
  where
    at : (t : Bool) → pointwise nat_eq name need.1 ≡ t → (t || list_any (pointwise nat_eq name) (apps_of listed)) ≡ true
        → (list_any (pointwise nat_eq name) (apps_of listed) ≡ true → NoneHas listed name → ⊥) → ⊥
    at true e any rest = none.0 (sym (same_app name need.1 e))
    at false e any rest = rest any none.1

untaken : (listed : List Need) (name : List ℕ) → list_any (pointwise nat_eq name) (apps_of listed) ≡ false → NoneHas listed name
untaken [] name has = tt
untaken (need ∷ listed) name has = at (pointwise nat_eq name need.1) refl has (untaken listed name)
  where
    at : (t : Bool) → pointwise nat_eq name need.1 ≡ t → (t || list_any (pointwise nat_eq name) (apps_of listed)) ≡ false
        → (list_any (pointwise nat_eq name) (apps_of listed) ≡ false → NoneHas listed name) → NoneHas (need ∷ listed) name
    at true e any rest = absurd (true≢false any)
    at false e any rest = (λ is. true≢false (sym (own_app name) ∙ ap (pointwise nat_eq name) (sym is) ∙ e), rest any)

-- a set that has the apps of the needs tells which names are free
pub free_by_set : {Hasher : Type 0} (apps : IndexSet (List ℕ) Hasher) (listed : List Need) (name : List ℕ) (has : Bool) → HasApps apps listed
    → has ≡ list_any (pointwise nat_eq name) (keys apps) → IsTrue (not has) ↔ NoneHas listed name
free_by_set apps listed name has same is = at has (is ∙ ap (list_any (pointwise nat_eq name)) same)
  where
    at : (t : Bool) → t ≡ list_any (pointwise nat_eq name) (apps_of listed) → IsTrue (not t) ↔ NoneHas listed name
    at true e = (λ no. absurd (true≢false (sym no)), λ none. absurd (taken listed name (sym e) none))
    at false e = (λ yes. untaken listed name (sym e), λ none. refl)

pub one_app_more : (listed : List Need) (need : Need) → apps_of (listed ++ need ∷ []) ≡ apps_of listed ++ need.1 ∷ []
one_app_more [] need = refl
one_app_more (n ∷ listed) need = ap (λ l. n.1 ∷ l) (one_app_more listed need)

pub set_with_more : {Hasher : Type 0} (apps new : IndexSet (List ℕ) Hasher) (listed items : List Need) (need : Need) (app : List ℕ) → HasApps apps listed
    → NoneHas listed need.1 → app ≡ need.1 → keys new ≡ insert_key (pointwise nat_eq) (keys apps) app → items ≡ listed ++ need ∷ [] → HasApps new items
set_with_more apps new listed items need app same none named inserted pushed =
    at (list_any (pointwise nat_eq need.1) (apps_of listed)) refl
  where
    at : (t : Bool) → list_any (pointwise nat_eq need.1) (apps_of listed) ≡ t → HasApps new items
    at true e = absurd (taken listed need.1 e none)
    at false e =
        inserted ∙ ap (λ ks. insert_key (pointwise nat_eq) ks app) same ∙ ap (insert_key (pointwise nat_eq) (apps_of listed)) named
        ∙ ap (λ (t : Bool). if t then apps_of listed else apps_of listed ++ need.1 ∷ []) e ∙ sym (one_app_more listed need)
        ∙ ap apps_of (sym pushed)

-- ---- fronts

pub fits_low : (k byte : ℕ) → IsTrue (fits_at k byte) → byte < 123
fits_low k byte e = grind (arith, nat_tests)

pub any_begins : (listed : List Need) (front : List ℕ) → (name : List ℕ) × IsFreeName listed name → length front ≡ 0 → BeginsFree listed front
any_begins listed [] some none = some
any_begins listed (b ∷ front) some none = absurd (omega (arith, none))

-- a front of a name with which some free name begins, and none where it has one byte more
pub free_at : (listed : List Need) (name front : List ℕ) → front ≡ take (length front) name → length front ≤ length name
    → (length front < length name → BeginsFree listed (take (length front + 1) name) → ⊥) → BeginsFree listed front → IsFreeFront listed name front
free_at listed name front cut within used begins =
    let n = length front in
    record {
      rest = drop n name;
      cut = sym (take-append-drop n name) ∙ ap (λ t. t ++ drop n name) (sym cut);
      free = begins;
      longest = λ next others e more.
          let below : n < length name = omega (arith, ap length e, length-drop n name, within) in
          let same : drop n name ≡ get_or name n 0 ∷ drop (suc n) name = drop-cons name n 0 below in
          let byte : get_or name n 0 ≡ next = same_head (get_or name n 0) next (drop (suc n) name) others (sym same ∙ e) in
          let whole : take (n + 1) name ≡ front ++ next ∷ [] =
          take_more name n 0 below ∙ ap (λ t. t ++ get_or name n 0 ∷ []) (sym cut) ∙ ap (λ b. front ++ b ∷ []) byte in
          used below (subst (BeginsFree listed) (sym whole) more);
    }
