-- What a text says of a lock.
use Rattle.std.specs.Prelude.{◌≡◌, ℕ, true, false, List, [], ◌∷◌, Option, Some, None, Result, Ok, Err}
use Rattle.std.specs.List.{AllByRecursion}
use Rattle.std.specs.List.Sorted.{IsPermutation}
use Rattle.elixir_terms.specs.declared.error.TermError.{TermError}
use Rattle.term_values.specs.declared.term.Term.{Term}
use Rattle.term_values.specs.Views.{Pair, atom_of, map_of}
use Rattle.version_req.specs.Grammar.{IsSpelled}
use Rattle.elixir_terms.specs.ReadAs.{IsReadAs, IsRefusedText}
use Rattle.mix_lock.specs.declared.entry.Entry.{Entry}
use Rattle.mix_lock.specs.declared.entry.Entry.TheVariants.{Hex, Other}
use Rattle.mix_lock.specs.declared.entry.HexEntry.{HexEntry}
use Rattle.mix_lock.specs.declared.entry.LockDep.{LockDep}
use Rattle.mix_lock.specs.declared.error.LockError.{LockError}
use Rattle.mix_lock.specs.declared.error.LockError.TheVariants as lock
use Rattle.mix_lock.specs.Lock.{AppEntry, AreInOrder}
use Rattle.term_values.specs.Apps.{app_of}
use Rattle.mix_lock.specs.Terms.{hex_of, is_hex}

-- each requirement is one
abbrev pub AreRead : List LockDep → Type 0
AreRead deps = AllByRecursion (λ d. IsSpelled d.requirement) deps

-- the entry that a value is, where it is one: a tuple with `:hex` first is a release or none, another value is kept
pub data IsEntry (value : Term) : Option Entry → Type 0 where
  other : is_hex value ≡ false → IsEntry value (Some (Other value))
  hex : (e : HexEntry) → is_hex value ≡ true → hex_of value ≡ Some e → AreRead e.deps → IsEntry value (Some (Hex e))
  shape : is_hex value ≡ true → hex_of value ≡ None → IsEntry value None
  requirement : (e : HexEntry) → is_hex value ≡ true → hex_of value ≡ Some e → (AreRead e.deps → ⊥) → IsEntry value None

abbrev or_empty : Option (List ℕ) → List ℕ
or_empty (Some name) = name
or_empty None = []

-- the text of a key, where it is an atom
abbrev pub key_name : Term → List ℕ
key_name key = or_empty (atom_of key)

-- the app that a key names, and what stands for it; without one of both the key is refused
pub data IsPair (key value : Term) : Result AppEntry LockError → Type 0 where
  good : {app : List ℕ} {entry : Entry} → app_of key ≡ Some app → IsEntry value (Some entry) → IsPair key value (Ok (app, entry))
  nameless : app_of key ≡ None → IsPair key value (Err (lock.Shape (key_name key)))
  entryless : {app : List ℕ} → app_of key ≡ Some app → IsEntry value None → IsPair key value (Err (lock.Shape (key_name key)))

-- the apps and their entries in the order in which they stand, or the first refusal
pub data AreEntries : List Pair → Result (List AppEntry) LockError → Type 0 where
  end : AreEntries [] (Ok [])
  refused : {key value : Term} {pairs : List Pair} {e : LockError} → IsPair key value (Err e) → AreEntries ((key, value) ∷ pairs) (Err e)
  later : {key value : Term} {entry : AppEntry} {pairs : List Pair} {e : LockError} → IsPair key value (Ok entry) → AreEntries pairs (Err e)
      → AreEntries ((key, value) ∷ pairs) (Err e)
  more : {key value : Term} {entry : AppEntry} {pairs : List Pair} {entries : List AppEntry}
      → IsPair key value (Ok entry) → AreEntries pairs (Ok entries)
      → AreEntries ((key, value) ∷ pairs) (Ok (entry ∷ entries))

-- what a term says: a map says the entries of its keys, in the order of the apps
pub data TermSays (t : Term) : Result (List AppEntry) LockError → Type 0 where
  no_map : map_of t ≡ None → TermSays t (Err (lock.Shape []))
  refused : {pairs : List Pair} {e : LockError} → map_of t ≡ Some pairs → AreEntries pairs (Err e) → TermSays t (Err e)
  good : {pairs : List Pair} {entries sorted : List AppEntry} → map_of t ≡ Some pairs → AreEntries pairs (Ok entries)
      → IsPermutation entries sorted → AreInOrder sorted → TermSays t (Ok sorted)

-- what the text of a lock says, or why it is refused
pub data SaysLock (text : List ℕ) : Result (List AppEntry) LockError → Type 0 where
  unread : {error : TermError} → IsRefusedText text error → SaysLock text (Err (lock.Term error))
  read : (t : Term) {answer : Result (List AppEntry) LockError} → IsReadAs text t → TermSays t answer → SaysLock text answer
