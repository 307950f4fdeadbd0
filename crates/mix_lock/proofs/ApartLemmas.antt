-- The apps of a map whose keys differ, differ.
use Rattle.std.proofs.Common.{◌≡◌, ℕ, Bool, true, false, List, map, Ok, refl, sym, ◌∙◌, ap, bytes_eq}
use Rattle.std.specs.Bool.{Decides}
use Rattle.std.specs.List.{AllByRecursion, IsDistinct}
use Rattle.std.proofs.lemmas.Slice.Eq.{bytes_eq-Decides}
use Rattle.elixir_terms.specs.Within.{IsNone, Differ, Fits, deepest, limits}
use Rattle.elixir_terms.proofs.BoundedLemmas.{map_parts}
use Rattle.term_values.specs.declared.term.Term.{Term}
use Rattle.term_values.specs.declared.term.Term.TheVariants as term
use Rattle.term_values.specs.Views.{Pair}
use Rattle.mix_lock.specs.Lock.{AppEntry, apps_of}
use Rattle.mix_lock.specs.Says.{IsPair, AreEntries}
use Rattle.mix_lock.specs.Says.IsPair.{good}
use Rattle.mix_lock.specs.Says.AreEntries.{end, more}
use Rattle.mix_lock.proofs.FactLemmas.{atom_with}
use Rattle.mix_lock.proofs.ViewLemmas.{atom_named}

abbrev keys_of : List Pair → List Term
keys_of pairs = map (λ p. p.0) pairs

key_is : (key value : Term) (entry : AppEntry) → IsPair key value (Ok entry) → key ≡ term.Atom entry.0
key_is key value _ (good {app = app} named is) = atom_named key app (atom_with key app named)

apart_test : (a b : List ℕ) → (a ≡ b → ⊥) → bytes_eq a b ≡ false
apart_test a b differ = at (bytes_eq a b) (bytes_eq-Decides a b)
  where
    at : (test : Bool) → Decides test (a ≡ b) → test ≡ false
    at true same = absurd (differ (same.0 refl))
    at false differs = refl

apart_all : (key : Term) (app : List ℕ) (pairs : List Pair) (entries : List AppEntry) → key ≡ term.Atom app
    → IsNone key (keys_of pairs) → AreEntries pairs (Ok entries)
    → AllByRecursion (λ other. bytes_eq app other ≡ false) (apps_of entries)
apart_all key app _ _ is none end = tt
apart_all key app _ _ is none (more {key = k} {value = value} {entry = entry} {pairs = pairs} {entries = entries} one are) =
    (apart_test app entry.0 (λ same. none.0 (is ∙ ap term.Atom same ∙ sym (key_is k value entry one))), apart_all key app pairs entries is none.1 are)

distinct : (pairs : List Pair) (entries : List AppEntry) → Differ (keys_of pairs) → AreEntries pairs (Ok entries) → IsDistinct bytes_eq (apps_of entries)
unfolding IsDistinct
distinct _ _ differ end = tt
distinct _ _ differ (more {key = key} {value = value} {entry = entry} {pairs = pairs} {entries = entries} one are) =
    (apart_all key entry.0 pairs entries (key_is key value entry one) differ.0 are, distinct pairs entries differ.1 are)

-- the entries of a map within the limits are of different apps
pub apps_apart : (pairs : List Pair) (entries : List AppEntry) → Fits deepest (term.Map pairs) → AreEntries pairs (Ok entries)
    → IsDistinct bytes_eq (apps_of entries)
apps_apart pairs entries fits are = distinct pairs entries (map_parts {r = limits} deepest pairs fits).3 are
