-- Some name is free, however many needs there are.
use Rattle.std.proofs.Common.{◌≡◌, ◌⊎◌, ℕ, zero, suc, ◌+◌, ◌*◌, ◌^◌, ◌<◌, ◌≤◌, ◌==◌, Bool, true, false, cond, List, [], ◌∷◌, ◌++◌, length, get_or, map, refl, ap, arith, inl, inr, ⊎_elim, length-append}
use Rattle.std.specs.Prelude.{IsTrue, replicate}
use Rattle.std.specs.List.{AllByRecursion}
use Rattle.std.proofs.lemmas.Bool.{eqb-true}
use Rattle.reading.proofs.Lists.{same_head, same_tail}
use Rattle.reading.proofs.Repeats.{GoesOn, fit_one_more}
use Rattle.mx_base.specs.AppName.{IsAppName, fits_at}
use Rattle.build_manifest.specs.Mark.{Need, NeedFits, limit}
use Rattle.build_manifest.specs.Names.{IsFreeName}
use Rattle.build_manifest.proofs.LineStops.{zero_digest}

-- ---- fewer texts than there are words of so many letters, each of them `a` or `b`

abbrev NoneIs : List ℕ → List (List ℕ) → Type 0
NoneIs word texts = AllByRecursion (λ text. text ≡ word → ⊥) texts

-- what follows this letter in the texts that begin with it
abbrev tails : ℕ → List (List ℕ) → List (List ℕ)
tails letter [] = []
tails letter ([] ∷ texts) = tails letter texts
tails letter ((b ∷ bs) ∷ texts) = cond (b == letter) (bs ∷ tails letter texts) (tails letter texts)

split : (b : ℕ) (bs : List ℕ) (firsts others : List (List ℕ)) (n : ℕ) → length firsts + length others ≤ n
    → length (cond (b == 97) (bs ∷ firsts) firsts) + length (cond (b == 98) (bs ∷ others) others) ≤ suc n
split b bs firsts others n few = at (b == 97) (b == 98) (λ e f. absurd (omega (arith, eqb-true b 97 e, eqb-true b 98 f)))
  where
    at : (t u : Bool) → ((t ≡ true) → (u ≡ true) → ⊥) → length (cond t (bs ∷ firsts) firsts) + length (cond u (bs ∷ others) others) ≤ suc n
    at true true both = absurd (both refl refl)
    at true false both = omega (arith, few)
    at false true both = omega (arith, few)
    at false false both = omega (arith, few)

tails_fit : (texts : List (List ℕ)) → length (tails 97 texts) + length (tails 98 texts) ≤ length texts
tails_fit [] = omega arith
tails_fit ([] ∷ texts) = omega (arith, tails_fit texts)
tails_fit ((b ∷ bs) ∷ texts) = split b bs (tails 97 texts) (tails 98 texts) (length texts) (tails_fit texts)

differs : (b letter : ℕ) → (b == letter) ≡ false → b ≡ letter → ⊥
differs b letter e same = grind (arith, e, same)

none_behind : (letter : ℕ) (word : List ℕ) (texts : List (List ℕ)) → NoneIs word (tails letter texts) → NoneIs (letter ∷ word) texts
none_behind letter word [] none = tt
none_behind letter word ([] ∷ texts) none = (λ e. cc e, none_behind letter word texts none)
none_behind letter word ((b ∷ bs) ∷ texts) none = at (b == letter) refl none (none_behind letter word texts)
  where
    at : (t : Bool) → (b == letter) ≡ t → NoneIs word (cond t (bs ∷ tails letter texts) (tails letter texts))
        → (NoneIs word (tails letter texts) → NoneIs (letter ∷ word) texts) → NoneIs (letter ∷ word) ((b ∷ bs) ∷ texts)
    at true is all rest = (λ e. all.0 (same_tail b letter bs word e), rest all.1)
    at false other all rest = (λ e. differs b letter other (same_head b letter bs word e), rest all)

abbrev IsLetter : ℕ → Type 0
IsLetter b = (b ≡ 97) ⊎ (b ≡ 98)

record IsWord (size : ℕ) (word : List ℕ) : Type 0 where
  long : length word ≡ size
  letters : AllByRecursion IsLetter word

one_more_letter : (size letter : ℕ) (word : List ℕ) → IsLetter letter → IsWord size word → IsWord (suc size) (letter ∷ word)
one_more_letter size letter word is w = record { long = ap suc w.long; letters = (is, w.letters) }

no_text : (texts : List (List ℕ)) → length texts < 1 → NoneIs [] texts
no_text [] few = tt
no_text (text ∷ texts) few = absurd (omega (arith, few))

free_word : (size : ℕ) (texts : List (List ℕ)) → length texts < 2 ^ size → (word : List ℕ) × IsWord size word × NoneIs word texts
free_word zero texts few = ([], record { long = refl; letters = tt }, no_text texts few)
free_word (suc size) texts few =
    ⊎_elim
    (λ (less : length (tails 97 texts) < 2 ^ size).
    let rest = free_word size (tails 97 texts) less in
    (97 ∷ rest.0, one_more_letter size 97 rest.0 (inl refl) rest.1, none_behind 97 rest.0 texts rest.2))
    (λ (less : length (tails 98 texts) < 2 ^ size).
    let rest = free_word size (tails 98 texts) less in
    (98 ∷ rest.0, one_more_letter size 98 rest.0 (inr refl) rest.1, none_behind 98 rest.0 texts rest.2))
    (one_is_less (length (tails 97 texts)) (length (tails 98 texts)) (2 ^ size) (omega (arith, few, tails_fit texts)))
  where
    one_is_less : (a b n : ℕ) → a + b < n * 2 → (a < n) ⊎ (b < n)
    one_is_less a b n few = grind arith

-- ---- such a word is a name

letter_at : (word : List ℕ) → AllByRecursion IsLetter word → (k : ℕ) → k < length word → IsLetter (get_or word k 0)
letter_at [] all k within = absurd (omega (arith, within))
letter_at (b ∷ word) all zero within = all.0
letter_at (b ∷ word) all (suc k) within = letter_at word all.1 k (omega (arith, within))

letter_fits : (k b : ℕ) → IsLetter b → IsTrue (fits_at k b)
letter_fits k b (inl e) = rw e refl
letter_fits k b (inr e) = rw e refl

word_is_name : (word : List ℕ) → IsWord 63 word → IsAppName word
word_is_name word is = record {
  not_empty = omega (arith, is.long);
  not_long = omega (arith, is.long);
  bytes = λ k within. letter_fits k (get_or word k 0) (letter_at word is.letters k within);
}

no_app_is : (word : List ℕ) (listed : List Need) → NoneIs word (map (λ need. need.1) listed) → AllByRecursion (λ earlier. earlier.1 ≡ word → ⊥) listed
no_app_is word [] none = tt
no_app_is word (need ∷ listed) none = (none.0, no_app_is word listed none.1)

apps_long : (listed : List Need) → length (map (λ (need : Need). need.1) listed) ≡ length listed
apps_long [] = refl
apps_long (need ∷ listed) = ap suc (apps_long listed)

pub some_free : (listed : List Need) → length listed < limit → (name : List ℕ) × IsFreeName listed name
some_free listed few =
    let word = free_word 63 (map (λ (need : Need). need.1) listed) (omega (arith, few, apps_long listed)) in
    (word.0, record { proper = word_is_name word.0 word.1; free = no_app_is word.0 listed word.2 })

-- ---- there are more needs

pub needs_go_on : (total : ℕ) → total < limit → GoesOn NeedFits total
needs_go_on total small before zero sum fits = ([], (refl, tt))
needs_go_on total small before (suc n) sum fits =
    let name = some_free before (omega (arith, sum)) in
    let need : Need = (replicate 32 0, name.0) in
    let now : NeedFits before need = record { digest = zero_digest; app = name.1.proper; differs = name.1.free } in
    let rest = needs_go_on total small (before ++ need ∷ []) n (omega (arith, sum, length-append before (need ∷ [])))
    (fit_one_more NeedFits [] before need fits now) in
    (need ∷ rest.0, (ap suc rest.1.0, (now, rest.1.1)))
