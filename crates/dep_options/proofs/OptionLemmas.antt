-- Options one after another.
use Rattle.std.proofs.Common.{◌≡◌, ℕ, ◌+◌, ◌<◌, Bool, true, false, ◌||◌, List, [], ◌∷◌, ◌++◌, take, drop, length, get_or, Option, Some, None, if◌then◌else◌, refl, sym, ◌∙◌, ap, subst, bytes_eq}
use Rattle.std.proofs.lemmas.Slice.Eq.{bytes_eq-Decides}
use Rattle.std.specs.Borrow.{Bor}
use Rattle.std.specs.List.{list_any}
use Rattle.std.proofs.lemmas.List.{take_more, at_drop_more, map-append}
use Rattle.std.proofs.lemmas.List.Folds.{list_any-append}
use Rattle.term_values.specs.Views.{Named, Lent, named}
use Rattle.dep_options.specs.declared.error.OptionCause.{OptionCause}
use Rattle.dep_options.specs.Options.{has_name, fault_of, first_fault, or_else}

-- the options up to the one at a place
pub named_more : (xs : List Lent) (i : ℕ) (o : Lent) → i < length xs → o ≡ get_or xs i o → named (take (i + 1) xs) ≡ named (take i xs) ++ (o.0.now, o.1.now) ∷ []
named_more xs i o within is =
    ap named (take_more xs i o within ∙ ap (λ (x : Lent). take i xs ++ x ∷ []) (sym is)) ∙ map-append (λ (x : Lent). (x.0.now, x.1.now)) (take i xs) (o ∷ [])

-- the options from a place on
pub named_rest : (xs : List Lent) (i : ℕ) (o : Lent) → i < length xs → o ≡ get_or xs i o → named (drop i xs) ≡ (o.0.now, o.1.now) ∷ named (drop (i + 1) xs)
named_rest xs i o within is =
    at_drop_more named xs i o within ∙ ap (λ (x : Lent). named (x ∷ drop (i + 1) xs)) (sym is)

-- what is wrong with an option after these
abbrev pub fault_after : List ℕ → List Named → Named → Option OptionCause
fault_after base before option = if has_name option.0 before then None else fault_of base option

-- the first fault from the option at a place on
pub fault_from : (base : List ℕ) (xs : List Lent) (i : ℕ) (o : Lent) → i < length xs → o ≡ get_or xs i o → first_fault base (named (take i xs)) (named (drop i xs)) ≡ or_else (fault_after base (named (take i xs)) (o.0.now, o.1.now)) (first_fault base (named (take (i + 1) xs)) (named (drop (i + 1) xs)))
fault_from base xs i o within is =
    ap (first_fault base (named (take i xs))) (named_rest xs i o within is)
    ∙ ap (λ (before : List Named). or_else (fault_after base (named (take i xs)) (o.0.now, o.1.now)) (first_fault base before (named (drop (i + 1) xs)))) (sym (named_more xs i o within is))

-- past an option with nothing wrong
pub fault_past : (base : List ℕ) (xs : List Lent) (i : ℕ) (o : Lent) (first : Option OptionCause) → i < length xs → o ≡ get_or xs i o → fault_after base (named (take i xs)) (o.0.now, o.1.now) ≡ None → first_fault base (named (take i xs)) (named (drop i xs)) ≡ first → first_fault base (named (take (i + 1) xs)) (named (drop (i + 1) xs)) ≡ first
fault_past base xs i o first within is free before =
    sym (ap (λ (fault : Option OptionCause). or_else fault (first_fault base (named (take (i + 1) xs)) (named (drop (i + 1) xs)))) free)
    ∙ sym (fault_from base xs i o within is) ∙ before

-- at an option that is refused
pub fault_found : (base : List ℕ) (xs : List Lent) (i : ℕ) (o : Lent) (first : Option OptionCause) (cause : OptionCause) → i < length xs → o ≡ get_or xs i o → has_name o.0.now (named (take i xs)) ≡ false → fault_of base (o.0.now, o.1.now) ≡ Some cause → first_fault base (named (take i xs)) (named (drop i xs)) ≡ first → first ≡ Some cause
fault_found base xs i o first cause within is new fault before =
    let rest = first_fault base (named (take (i + 1) xs)) (named (drop (i + 1) xs)) in
    sym before ∙ fault_from base xs i o within is
    ∙ ap (λ (has : Bool). or_else (if has then None else fault_of base (o.0.now, o.1.now)) rest) new
    ∙ ap (λ (found : Option OptionCause). or_else found rest) fault

pub free_new : (has : Bool) (fault : Option OptionCause) → has ≡ false → fault ≡ None → (if has then None else fault) ≡ None
free_new has fault new free = ap (λ (b : Bool). if b then None else fault) new ∙ free

pub free_again : (has : Bool) (fault : Option OptionCause) → has ≡ true → (if has then None else fault) ≡ None
free_again has fault again = ap (λ (b : Bool). if b then None else fault) again

-- the names that were seen are those of these options
abbrev pub Seen : List (Bor (List ℕ)) → List Named → Type 0
Seen seen before = (q : List ℕ) → list_any (λ (other : Bor (List ℕ)). bytes_eq q other.now) seen ≡ has_name q before

pub seen_has : (found : Bool) (name : List ℕ) (slice seen : List (Bor (List ℕ))) (before : List Named) → found ≡ list_any (λ (other : Bor (List ℕ)). bytes_eq name other.now) slice → slice ≡ seen → Seen seen before → has_name name before ≡ found
seen_has found name slice seen before is same held =
    sym (held name) ∙ ap (list_any (λ (other : Bor (List ℕ)). bytes_eq name other.now)) (sym same) ∙ sym is

-- one more option
has_more : (q : List ℕ) (xs : List Lent) (i : ℕ) (o : Lent) → i < length xs → o ≡ get_or xs i o → has_name q (named (take (i + 1) xs)) ≡ (has_name q (named (take i xs)) || (bytes_eq q o.0.now || false))
has_more q xs i o within is =
    ap (has_name q) (named_more xs i o within is) ∙ list_any-append (λ (x : Named). bytes_eq q x.0) (named (take i xs)) ((o.0.now, o.1.now) ∷ [])

pub seen_push : (xs : List Lent) (i : ℕ) (o : Lent) (seen new : List (Bor (List ℕ))) → i < length xs → o ≡ get_or xs i o → new ≡ seen ++ o.0 ∷ [] → Seen seen (named (take i xs)) → Seen new (named (take (i + 1) xs))
seen_push xs i o seen new within is pushed held q =
    let Same : Bor (List ℕ) → Bool = λ other. bytes_eq q other.now in
    ap (list_any Same) pushed ∙ list_any-append Same seen (o.0 ∷ [])
    ∙ ap (λ (has : Bool). has || (bytes_eq q o.0.now || false)) (held q)
    ∙ sym (has_more q xs i o within is)

or_none : (b : Bool) → b ≡ (b || (false || false))
or_none true = refl
or_none false = refl

pub seen_again : (xs : List Lent) (i : ℕ) (o : Lent) (seen : List (Bor (List ℕ))) → i < length xs → o ≡ get_or xs i o → has_name o.0.now (named (take i xs)) ≡ true → Seen seen (named (take i xs)) → Seen seen (named (take (i + 1) xs))
seen_again xs i o seen within is again held q = held q ∙ at (bytes_eq q o.0.now) refl ∙ sym (has_more q xs i o within is)
  where
    at : (b : Bool) → bytes_eq q o.0.now ≡ b → has_name q (named (take i xs)) ≡ (has_name q (named (take i xs)) || (b || false))
    at true same =
        let Has : List ℕ → Type 0 = λ n. has_name n (named (take i xs)) ≡ true in
        let has = subst Has (sym ((bytes_eq-Decides q o.0.now).0 same)) again in
        has ∙ sym (ap (λ (b : Bool). b || (true || false)) has)
    at false same = or_none (has_name q (named (take i xs)))
