-- Each text says a lock or is refused, where each text has a reading or a refusal.
use Rattle.std.specs.Prelude.{IsFalse}
use Rattle.std.proofs.Common.{◌≡◌, ◌⊎◌, inl, inr, ℕ, Bool, true, false, List, [], ◌∷◌, Option, Some, None, Result, Ok, Err, refl, subst, ⊎_elim}
use Rattle.elixir_terms.specs.declared.error.TermError.{TermError}
use Rattle.elixir_terms.specs.Refusals.{IsRefusal}
use Rattle.elixir_terms.specs.Within.{Within, Fits, deepest}
use Rattle.term_print.specs.Spells.{Spells}
use Rattle.term_tokens.specs.Refused.{is_memory}
use Rattle.term_values.specs.declared.term.Term.{Term}
use Rattle.term_values.specs.Views.{Pair, map_of}
use Rattle.version_req.specs.Grammar.{IsSpelled}
use Rattle.mix_lock.specs.declared.entry.Entry.{Entry}
use Rattle.mix_lock.specs.declared.entry.Entry.TheVariants.{Hex, Other}
use Rattle.mix_lock.specs.declared.entry.HexEntry.{HexEntry}
use Rattle.mix_lock.specs.declared.entry.LockDep.{LockDep}
use Rattle.mix_lock.specs.declared.error.LockError.{LockError}
use Rattle.mix_lock.specs.declared.error.LockError.TheVariants as lock
use Rattle.mix_lock.specs.Lock.{AppEntry}
use Rattle.mix_lock.specs.Says.{AreRead, IsEntry, IsPair, AreEntries, TermSays, SaysLock, key_name}
use Rattle.mix_lock.specs.Says.IsEntry.{other, hex, shape, requirement}
use Rattle.mix_lock.specs.Says.IsPair.{good as good_pair, nameless, entryless}
use Rattle.mix_lock.specs.Says.AreEntries.{end, refused, later, more}
use Rattle.mix_lock.specs.Says.TermSays.{no_map, refused as refused_term, good}
use Rattle.mix_lock.specs.Says.SaysLock.{unread, read}
use Rattle.term_values.specs.Apps.{app_of}
use Rattle.mix_lock.specs.Terms.{hex_of, is_hex}
use Rattle.mix_lock.proofs.ApartLemmas.{apps_apart}
use Rattle.mix_lock.proofs.SortLemmas.{sorted}
use Rattle.mix_lock.proofs.ViewLemmas.{map_named}

-- each text is read as a term within the limits, or refused
abbrev pub EachReading : Type 0
EachReading = (text : List ℕ) → ((t : Term) × Spells text t × Within text t)
    ⊎ ((error : TermError) × IsFalse (is_memory error.cause) × IsRefusal text error.at error.cause)

-- each text is a requirement or none
abbrev pub EachRequirement : Type 0
EachRequirement = (text : List ℕ) → IsSpelled text ⊎ (IsSpelled text → ⊥)

all_or_none : EachRequirement → (deps : List LockDep) → AreRead deps ⊎ (AreRead deps → ⊥)
all_or_none each [] = inl tt
all_or_none each (d ∷ deps) =
    ⊎_elim
    (λ (is : IsSpelled d.requirement). ⊎_elim (λ (are : AreRead deps). inl (is, are))
    (λ (bad : AreRead deps → ⊥). inr (λ (all : AreRead (d ∷ deps)). bad all.1)) (all_or_none each deps))
    (λ (bad : IsSpelled d.requirement → ⊥). inr (λ (all : AreRead (d ∷ deps)). bad all.0))
    (each d.requirement)

abbrev AnEntry : Term → Type 0
AnEntry value = (found : Option Entry) × IsEntry value found

by_hex : EachRequirement → (value : Term) → is_hex value ≡ true → (o : Option HexEntry) → hex_of value ≡ o → AnEntry value
by_hex each value is None none = (None, shape is none)
by_hex each value is (Some e) says =
    ⊎_elim (λ (are : AreRead e.deps). (Some (Hex e), hex e is says are))
    (λ (bad : AreRead e.deps → ⊥). (None, requirement e is says bad)) (all_or_none each e.deps)

by_tag : EachRequirement → (value : Term) (b : Bool) → is_hex value ≡ b → AnEntry value
by_tag each value true is = by_hex each value is (hex_of value) refl
by_tag each value false kept = (Some (Other value), other kept)

abbrev APair : Term → Term → Type 0
APair key value = (answer : Result AppEntry LockError) × IsPair key value answer

with_app : (key value : Term) (app : List ℕ) → app_of key ≡ Some app → (found : Option Entry) → IsEntry value found → APair key value
with_app key value app named (Some entry) is = (Ok (app, entry), good_pair named is)
with_app key value app named None is = (Err (lock.Shape (key_name key)), entryless named is)

by_app : EachRequirement → (key value : Term) (o : Option (List ℕ)) → app_of key ≡ o → APair key value
by_app each key value None none = (Err (lock.Shape (key_name key)), nameless none)
by_app each key value (Some app) named = let found = by_tag each value (is_hex value) refl in with_app key value app named found.0 found.1

abbrev SomeEntries : List Pair → Type 0
SomeEntries pairs = (answer : Result (List AppEntry) LockError) × AreEntries pairs answer

and_rest : (key value : Term) (pairs : List Pair) (first : Result AppEntry LockError) → IsPair key value first
    → (rest : Result (List AppEntry) LockError) → AreEntries pairs rest → SomeEntries ((key, value) ∷ pairs)
and_rest key value pairs (Err e) is rest are = (Err e, refused is)
and_rest key value pairs (Ok entry) is (Err e) are = (Err e, later is are)
and_rest key value pairs (Ok entry) is (Ok entries) are = (Ok (entry ∷ entries), more is are)

some_entries : EachRequirement → (pairs : List Pair) → SomeEntries pairs
some_entries each [] = (Ok [], end)
some_entries each (p ∷ pairs) =
    let first = by_app each p.0 p.1 (app_of p.0) refl in
    let rest = some_entries each pairs in
    and_rest p.0 p.1 pairs first.0 first.1 rest.0 rest.1

abbrev Says : Term → Type 0
Says t = (answer : Result (List AppEntry) LockError) × TermSays t answer

in_turn : (t : Term) (pairs : List Pair) → Fits deepest t → map_of t ≡ Some pairs → (answer : Result (List AppEntry) LockError)
    → AreEntries pairs answer → Says t
in_turn t pairs fits is (Err e) are = (Err e, refused_term is are)
in_turn t pairs fits is (Ok entries) are =
    let order = sorted entries (apps_apart pairs entries (subst (Fits deepest) (map_named t pairs is) fits) are) in
    (Ok order.result, good is are order.same order.in_order)

by_map : EachRequirement → (t : Term) → Fits deepest t → (o : Option (List Pair)) → map_of t ≡ o → Says t
by_map each t fits None none = (Err (lock.Shape []), no_map none)
by_map each t fits (Some pairs) is = let found = some_entries each pairs in in_turn t pairs fits is found.0 found.1

-- a text says a lock, or is refused
pub some_lock : EachReading → EachRequirement → (text : List ℕ) → (answer : Result (List AppEntry) LockError) × SaysLock text answer
some_lock reading each text =
    ⊎_elim
    (λ (spelled : (t : Term) × Spells text t × Within text t).
    let said = by_map each spelled.0 spelled.2.fits (map_of spelled.0) refl in
    (said.0, read spelled.0 (spelled.1, spelled.2) said.1))
    (λ (why : (error : TermError) × IsFalse (is_memory error.cause) × IsRefusal text error.at error.cause). (Err (lock.Term why.0), unread (why.1, why.2)))
    (reading text)
