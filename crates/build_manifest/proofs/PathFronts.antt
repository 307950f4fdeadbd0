-- The path at the front of a text, as far as it has come.
use Rattle.std.proofs.Common.{◌≡◌, ℕ, zero, suc, ◌+◌, ◌<◌, ◌≤◌, List, [], ◌∷◌, ◌++◌, length, take, drop, get_or, slice_get, Option, Some, refl, sym, ap, ◌∙◌, subst, arith, inl, inr, ⊎_elim, append_assoc, append-nil, length-append, drop-cons, add-one, IsTrue}
use Rattle.std.specs.Prelude.{◌↔◌}
use Rattle.std.proofs.Math.Seq.{take-suc}
use Rattle.std.proofs.lemmas.List.{length-drop, length-take, take-append-drop}
use Rattle.std.proofs.lemmas.Str.{IsUtf8-nil}
use Rattle.std.specs.Str.{IsUtf8}
use Rattle.mx_base.specs.Path.{is_path}
use Rattle.reading.specs.Field.{Stops}
use Rattle.reading.proofs.Lists.{same_head}
use Rattle.reading.proofs.Numbers.{last_split}
use Rattle.build_manifest.specs.declared.paths.Order.{Order}
use Rattle.build_manifest.specs.declared.paths.Order.TheVariants.{Same, After}
use Rattle.build_manifest.specs.declared.paths.Place.{Place}
use Rattle.build_manifest.specs.Fields.{ComesAfter, NextPath, ended}
use Rattle.build_manifest.specs.Paths.{EndsCharacter, EndsOrder, EndsPath, EndsSegments, GoesOnAbove, IsStart, MayEnd}
use Rattle.build_manifest.proofs.PathLives.{Lives, after_ends, after_left, live_after, live_same, some_left}
use Rattle.build_manifest.proofs.Segments.{ends_name, name_ends}

-- so many bytes of a text have led to a place
pub record HasLed (before : Option (List ℕ)) (earlier text : List ℕ) (i : ℕ) (place : Place) : Type 0 where
  pub ends : (bytes : List ℕ) → 0 < length (take i text ++ bytes) → NextPath before (take i text ++ bytes) ↔ EndsPath place (drop i earlier) bytes
  pub goes_on : GoesOnAbove place.missing
  pub root : i ≡ 0 → (place.missing.count ≡ 0) × (ComesAfter before [] ↔ EndsOrder place.order earlier [])
  pub same : place.order ≡ Same
      → (before ≡ Some earlier) × (take i text ≡ take i earlier) × (i ≤ length earlier) × IsTrue (is_path earlier) × IsUtf8 earlier

-- ---- where it begins

from_start : (before : Option (List ℕ)) (earlier : List ℕ) (place : Place) → IsStart before earlier place → (bytes : List ℕ) → 0 < length bytes
    → NextPath before bytes ↔ EndsPath place earlier bytes
from_start before earlier place s [] some = absurd (omega (arith, some))
from_start before earlier place s (b ∷ bytes) some = (
  λ next. record {
    segments = subst (λ g. EndsSegments g (b ∷ bytes)) (sym s.segment) next.proper;
    characters = subst (λ n. EndsCharacter n place.missing.low place.missing.high (b ∷ bytes)) (sym s.characters) next.utf8;
    order = (s.order (b ∷ bytes)).0 next.order;
  },
  λ ends. record {
    proper = subst (λ g. EndsSegments g (b ∷ bytes)) s.segment ends.segments;
    utf8 = subst (λ n. EndsCharacter n place.missing.low place.missing.high (b ∷ bytes)) s.characters ends.characters;
    order = (s.order (b ∷ bytes)).1 ends.order;
  },
)

pub led_nowhere : (before : Option (List ℕ)) (earlier text : List ℕ) (place : Place) → IsStart before earlier place → HasLed before earlier text 0 place
led_nowhere before earlier text place s = record {
  ends = λ bytes some. from_start before earlier place s bytes some;
  goes_on = s.goes_on;
  root = λ _. (s.characters, s.order []);
  same = λ same. ((s.same same).0, refl, omega arith, (s.same same).1, (s.same same).2);
}

-- ---- one byte more

one_more : (text : List ℕ) (i b : ℕ) (bytes : List ℕ) → i < length text → b ≡ get_or text i 0 → take (i + 1) text ++ bytes ≡ take i text ++ b ∷ bytes
one_more text i b bytes within is =
    rw add-one (ap (λ t. t ++ bytes) (take-suc text i 0 within) ∙ ap (λ x. (take i text ++ x ∷ []) ++ bytes) (sym is)
    ∙ append_assoc (take i text) (b ∷ []) bytes)

pub get_at : (list : List ℕ) (i : ℕ) → slice_get (drop i list) 0 ≡ slice_get list i
get_at [] zero = refl
get_at [] (suc i) = refl
get_at (x ∷ list) zero = refl
get_at (x ∷ list) (suc i) = get_at list i

drop_one : (list : List ℕ) (i : ℕ) → drop 1 (drop i list) ≡ drop (suc i) list
drop_one [] zero = refl
drop_one [] (suc i) = refl
drop_one (x ∷ list) zero = refl
drop_one (x ∷ list) (suc i) = drop_one list i

take_got : (list : List ℕ) (i b : ℕ) → slice_get list i ≡ Some b → (i < length list) × (take (suc i) list ≡ take i list ++ b ∷ [])
take_got [] i b e = cc
take_got (x ∷ list) zero b e = (omega arith, ap (λ y. y ∷ []) (let same : x ≡ b = cc in same))
take_got (x ∷ list) (suc i) b e = let rest = take_got list i b e in (omega (arith, rest.0), ap (λ t. x ∷ t) rest.1)

abbrev pub Leads : Place → Place → ℕ → Option ℕ → Type 0
Leads now next b other = (earlier bytes : List ℕ) → slice_get earlier 0 ≡ other → EndsPath now earlier (b ∷ bytes) ↔ EndsPath next (drop 1 earlier) bytes

pub led_further : (before : Option (List ℕ)) (earlier text : List ℕ) (i b : ℕ) (other : Option ℕ) (now next : Place) → HasLed before earlier text i now
    → i < length text → b ≡ get_or text i 0 → other ≡ slice_get earlier i → Leads now next b other → GoesOnAbove next.missing
    → (next.order ≡ Same → (now.order ≡ Same) × (other ≡ Some b)) → HasLed before earlier text (i + 1) next
led_further before earlier text i b other now next led within is other_is leads goes_on same =
    let head : slice_get (drop i earlier) 0 ≡ other = get_at earlier i ∙ sym other_is in
    let step : i + 1 ≡ suc i = omega arith in
    let left : drop 1 (drop i earlier) ≡ drop (i + 1) earlier = drop_one earlier i ∙ ap (λ n. drop n earlier) (sym step) in
    record {
      ends = λ bytes some.
          let cut = one_more text i b bytes within is in
          let here = led.ends (b ∷ bytes) (omega (arith, length-append (take i text) (b ∷ bytes))) in
          let there = leads (drop i earlier) bytes head in (
            λ path. subst (λ e. EndsPath next e bytes) left (there.0 (here.0 (subst (NextPath before) cut path))),
            λ ends. subst (NextPath before) (sym cut) (here.1 (there.1 (subst (λ e. EndsPath next e bytes) (sym left) ends))),
          );
      goes_on = goes_on;
      root = λ none. absurd (omega arith);
      same = λ e.
          let was = led.same (same e).0 in
          let got = take_got earlier i b (sym other_is ∙ (same e).1) in
          let taken : take (i + 1) text ≡ take (i + 1) earlier =
          rw add-one (take-suc text i 0 within ∙ ap (λ x. take i text ++ x ∷ []) (sym is) ∙ ap (λ t. t ++ b ∷ []) was.1 ∙ sym got.1) in
          (was.0, taken, omega (arith, got.0), was.3, was.4);
    }

-- ---- where it may end

pub path_read : (before : Option (List ℕ)) (earlier text : List ℕ) (i : ℕ) (place : Place) → HasLed before earlier text i place → i < length text
    → get_or text i 0 ≡ 10 → MayEnd place i → NextPath before (take i text) × (text ≡ ended (take i text) ++ drop (i + 1) text)
path_read before earlier text i place led within break may = (
  at i refl,
  sym (take-append-drop i text) ∙ ap (λ t. take i text ++ t) (drop-cons text i 0 within) ∙ ap (λ b. take i text ++ b ∷ drop (suc i) text) break
      ∙ sym (append_assoc (take i text) (10 ∷ []) (drop (suc i) text)) ∙ ap (λ n. ended (take i text) ++ drop n text) (sym step),
)
  where
    step : i + 1 ≡ suc i
    step = omega arith

    order : EndsOrder place.order (drop i earlier) []
    order = subst (λ o. EndsOrder o (drop i earlier) []) (sym may.order) tt

    at : (k : ℕ) → i ≡ k → NextPath before (take i text)
    at zero none =
        let e : take i text ≡ [] = ap (λ n. take n text) none in
        let root = led.root none in
        subst (NextPath before) (sym e) (record {
          proper = refl;
          utf8 = IsUtf8-nil;
          order = root.1.1 (subst (λ o. EndsOrder o earlier []) (sym may.order) tt);
        })
    at (suc k) more =
        let long : 0 < length (take i text ++ []) = omega (arith, length-append (take i text) [], length-take i text) in
        let name = ⊎_elim (λ e. e) (λ none. absurd (omega (arith, none, more))) may.segment in
        subst (NextPath before) (append-nil (take i text)) ((led.ends [] long).1 (record {
          segments = subst (λ g. EndsSegments g []) (sym name) name_ends;
          characters = subst (λ n. EndsCharacter n place.missing.low place.missing.high []) (sym may.characters) IsUtf8-nil;
          order = order;
        }))

-- ---- where it sticks

not_after_all : (now : Order) (earlier : List ℕ) → EndsOrder now earlier [] → now ≡ After
not_after_all After earlier e = refl
not_after_all Same [] e = cc
not_after_all Same (x ∷ earlier) e = cc

whole_character : (n low high : ℕ) → EndsCharacter n low high [] → n ≡ 0
whole_character zero low high e = refl
whole_character (suc n) low high e = absurd e

may_end : (before : Option (List ℕ)) (earlier text : List ℕ) (i : ℕ) (place : Place) → HasLed before earlier text i place → i ≤ length text
    → NextPath before (take i text) → MayEnd place i
may_end before earlier text i place led within next = at i refl
  where
    at : (k : ℕ) → i ≡ k → MayEnd place i
    at zero none =
        let root = led.root none in
        let order : ComesAfter before [] = subst (ComesAfter before) (ap (λ n. take n text) none) next.order in
        record { order = not_after_all place.order earlier (root.1.0 order); characters = root.0; segment = inr none }
    at (suc k) more =
        let long : 0 < length (take i text ++ []) = omega (arith, length-append (take i text) [], length-take i text) in
        let ends = (led.ends [] long).0 (subst (NextPath before) (sym (append-nil (take i text))) next) in
        record {
          order = not_after_all place.order (drop i earlier) ends.order;
          characters = whole_character place.missing.count place.missing.low place.missing.high ends.characters;
          segment = inl (ends_name place.segment ends.segments);
        }

pub path_stuck : (before : Option (List ℕ)) (earlier text : List ℕ) (i : ℕ) (place : Place) → HasLed before earlier text i place → i ≤ length text
    → ((b : ℕ) (others : List ℕ) → drop i text ≡ b ∷ others
    → (b ≡ 10 → MayEnd place i → ⊥) × ((bytes : List ℕ) → EndsPath place (drop i earlier) (b ∷ bytes) → ⊥))
    → Stops ended (NextPath before) text (length (drop i text))
path_stuck before earlier text i place led within none =
    let some = lives place.order refl in
    record {
      taken = take i text;
      rest = drop i text;
      bytes = sym (take-append-drop i text);
      size = refl;
      sticks = record {
        value = some.value;
        fits = some.fits;
        byte = some.byte;
        more = some.more;
        begins = some.begins;
        refuses = λ next others further other e fits whole. ⊎_elim
            (λ (one : (other ≡ take i text) × (10 ≡ next)).
            (none next others e).0 (sym one.1) (may_end before earlier text i place led within (subst (NextPath before) one.0 fits)))
            (λ (on : (more : List ℕ) × (other ≡ take i text ++ next ∷ more)).
            (none next others e).1 on.0 ((led.ends (next ∷ on.0) (omega (arith, length-append (take i text) (next ∷ on.0)))).0
            (subst (NextPath before) on.1 fits)))
            (last_split other (take i text) further 10 next whole);
      };
    }
  where
    lives : (now : Order) → place.order ≡ now → Lives before (take i text)
    lives Same is =
        let was = led.same is in
        live_same before earlier (take i text) i (was.0, was.1, was.3, was.4)
    lives After is =
        let left = after_left place.missing in
        live_after before (take i text) place.missing ((led.ends left
        (omega (arith, some_left place.missing, length-append (take i text) left))).1 (after_ends place (drop i earlier) is led.goes_on))

-- the same, by the byte that stands there
pub path_stuck_at : (before : Option (List ℕ)) (earlier text : List ℕ) (i : ℕ) (place : Place) → HasLed before earlier text i place → i ≤ length text
    → (i < length text → (get_or text i 0 ≡ 10 → MayEnd place i → ⊥)
    × ((bytes : List ℕ) → EndsPath place (drop i earlier) (get_or text i 0 ∷ bytes) → ⊥))
    → Stops ended (NextPath before) text (length (drop i text))
path_stuck_at before earlier text i place led within none =
    path_stuck before earlier text i place led within (λ b others e.
    let inside : i < length text = omega (arith, ap length e, length-drop i text) in
    let same : get_or text i 0 ≡ b = same_head (get_or text i 0) b (drop (suc i) text) others (sym (drop-cons text i 0 inside) ∙ e) in (
      λ is may. (none inside).0 (same ∙ is) may,
      λ bytes ends. (none inside).1 bytes (subst (λ x. EndsPath place (drop i earlier) (x ∷ bytes)) (sym same) ends),
    ))
