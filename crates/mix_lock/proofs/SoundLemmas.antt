-- The entries that are read keep to what a lock can say.
use Rattle.std.proofs.Common.{◌≡◌, ℕ, Bool, true, false, List, [], ◌∷◌, Option, Some, None, Ok, codes, sym, ap, subst, arith}
use Rattle.std.specs.Prelude.{IsTrue}
use Rattle.std.specs.List.{AllByRecursion}
use Rattle.std.proofs.lemmas.Option.{same_Some, none-some}
use Rattle.hex.specs.Hex.{IsBytes}
use Rattle.mx_base.specs.AppName.{is_app_name}
use Rattle.term_values.specs.declared.term.Term.{Term}
use Rattle.term_values.specs.Views.{Pair, tuple_of}
use Rattle.mix_lock.specs.declared.entry.Entry.{Entry}
use Rattle.mix_lock.specs.declared.entry.HexEntry.{HexEntry}
use Rattle.mix_lock.specs.declared.entry.LockDep.{LockDep}
use Rattle.mix_lock.specs.declared.release.Build.{Build}
use Rattle.mix_lock.specs.declared.release.Release.{Release}
use Rattle.mix_lock.specs.Lock.{AppEntry, IsHexEntry, IsLockEntry, IsAppEntry}
use Rattle.mix_lock.specs.Says.{AreRead, IsEntry, IsPair, AreEntries}
use Rattle.mix_lock.specs.Says.IsEntry.{other, hex}
use Rattle.mix_lock.specs.Says.IsPair.{good}
use Rattle.mix_lock.specs.Says.AreEntries.{end, more}
use Rattle.term_values.specs.Apps.{app_of}
use Rattle.version_req.specs.Version.{is_version}
use Rattle.mix_lock.specs.Terms.{names_of, version_of, bytes_of, is_hexpm, deps_of, release, release_by, build, build_by, outer_of, hex_entry, with_rest, hex_in, hex_of}
use Rattle.mix_lock.proofs.FactLemmas.{AreNamed, chained, app_named, version_is, bytes_are, names_named, deps_named, sound_deps}

record Released (name version inner : Option (List ℕ)) (r : Release) : Type 0 where
  named : name ≡ Some r.name
  numbered : version ≡ Some r.version
  summed : inner ≡ Some r.inner

released : (name version inner : Option (List ℕ)) (r : Release) → release name version inner ≡ Some r → Released name version inner r
released (Some name) (Some version) (Some inner) r e =
    let is = same_Some _ r e in
    record { named = ap (λ (x : Release). Some x.name) is; numbered = ap (λ (x : Release). Some x.version) is; summed = ap (λ (x : Release). Some x.inner) is }
released (Some name) (Some version) None r e = absurd (none-some r e)
released (Some name) None inner r e = absurd (none-some r e)
released None version inner r e = absurd (none-some r e)

record Built (managers : Option (List (List ℕ))) (deps : Option (List LockDep)) (b : Build) : Type 0 where
  managed : managers ≡ Some b.managers
  needed : deps ≡ Some b.deps

built : (managers : Option (List (List ℕ))) (deps : Option (List LockDep)) (b : Build) → build managers deps ≡ Some b → Built managers deps b
built (Some managers) (Some deps) b e =
    let is = same_Some _ b e in
    record { managed = ap (λ (x : Build). Some x.managers) is; needed = ap (λ (x : Build). Some x.deps) is }
built (Some managers) None b e = absurd (none-some b e)
built None deps b e = absurd (none-some b e)

abbrev release_in : HexEntry → Release
release_in e = record { name = e.name; version = e.version; inner = e.inner }

abbrev build_in : HexEntry → Build
build_in e = record { managers = e.managers; deps = e.deps }

record Entered (r : Release) (b : Option Build) (outer : Option (List ℕ)) (e : HexEntry) : Type 0 where
  released_as : r ≡ release_in e
  built_as : b ≡ Some (build_in e)
  summed : outer ≡ Some e.outer
  repo : e.repo ≡ codes "hexpm"

entered : (r : Release) (b : Option Build) (repo : Bool) (outer : Option (List ℕ)) (e : HexEntry) → hex_entry r b repo outer ≡ Some e → Entered r b outer e
entered r (Some b) true (Some outer) e is =
    let same = same_Some _ e is in
    record {
      released_as = ap release_in same;
      built_as = ap (λ (x : HexEntry). Some (build_in x)) same;
      summed = ap (λ (x : HexEntry). Some x.outer) same;
      repo = ap (λ (x : HexEntry). x.repo) (sym same);
    }
entered r (Some b) true None e is = absurd (none-some e is)
entered r (Some b) false outer e is = absurd (none-some e is)
entered r None repo outer e is = absurd (none-some e is)

no_bytes : IsBytes []
no_bytes i = grind arith

outer_are : (outer : Option Term) (bytes : List ℕ) → outer_of outer ≡ Some bytes → IsBytes bytes
outer_are None bytes e = subst IsBytes (same_Some [] bytes e) no_bytes
outer_are (Some t) bytes e = bytes_are t bytes e

record SoundRelease (r : Release) : Type 0 where
  name : IsTrue (is_app_name r.name)
  version : IsTrue (is_version r.version)
  inner : IsBytes r.inner

sound_release : (name version inner : Term) (r : Release) → release_by name version inner ≡ Some r → SoundRelease r
unfolding release_by
sound_release name version inner r e =
    let parts = released (app_of name) (version_of version) (bytes_of inner) r e in
    record { name = app_named name r.name parts.named; version = version_is version r.version parts.numbered; inner = bytes_are inner r.inner parts.summed }

record SoundBuild (b : Build) : Type 0 where
  managers : AllByRecursion (λ n. IsTrue (is_app_name n)) b.managers
  deps : AllByRecursion AreNamed b.deps

sound_build : (managers deps : Term) (b : Build) → build_by managers deps ≡ Some b → SoundBuild b
unfolding build_by
sound_build managers deps b e =
    let parts = built (names_of managers) (deps_of deps) b e in
    record { managers = names_named managers b.managers parts.managed; deps = deps_named deps b.deps parts.needed }

sound_entry : (r : Release) (managers deps : Term) (repo : Bool) (outer : Option Term) (e : HexEntry) → SoundRelease r
    → hex_entry r (build_by managers deps) repo (outer_of outer) ≡ Some e → AreRead e.deps → IsHexEntry e
sound_entry r managers deps repo outer e sound is reads =
    let parts = entered r (build_by managers deps) repo (outer_of outer) e is in
    let first = subst SoundRelease parts.released_as sound in
    let second = sound_build managers deps (build_in e) parts.built_as in
    record {
      name = first.name;
      version = first.version;
      inner = first.inner;
      managers = second.managers;
      deps = sound_deps e.deps second.deps reads;
      repo = parts.repo;
      outer = outer_are outer e.outer parts.summed;
    }

sound_rest : (r : Release) (rest : List Term) (e : HexEntry) → SoundRelease r → with_rest r rest ≡ Some e → AreRead e.deps → IsHexEntry e
unfolding with_rest
sound_rest r [] e sound is reads = absurd (none-some e is)
sound_rest r (a ∷ []) e sound is reads = absurd (none-some e is)
sound_rest r (a ∷ b ∷ []) e sound is reads = absurd (none-some e is)
sound_rest r (managers ∷ deps ∷ repo ∷ []) e sound is reads = sound_entry r managers deps (is_hexpm repo) None e sound is reads
sound_rest r (managers ∷ deps ∷ repo ∷ outer ∷ []) e sound is reads = sound_entry r managers deps (is_hexpm repo) (Some outer) e sound is reads
sound_rest r (a ∷ b ∷ c ∷ d ∷ x ∷ others) e sound is reads = absurd (none-some e is)

sound_in : (ts : List Term) (e : HexEntry) → hex_in ts ≡ Some e → AreRead e.deps → IsHexEntry e
sound_in [] e is reads = absurd (none-some e is)
sound_in (a ∷ []) e is reads = absurd (none-some e is)
sound_in (a ∷ b ∷ []) e is reads = absurd (none-some e is)
sound_in (a ∷ b ∷ c ∷ []) e is reads = absurd (none-some e is)
sound_in (tag ∷ name ∷ version ∷ inner ∷ rest) e is reads =
    let c = chained (release_by name version inner) (λ (r : Release). with_rest r rest) e is in
    sound_rest c.value rest e (sound_release name version inner c.value c.first) c.then_ reads

sound_hex : (t : Term) (e : HexEntry) → hex_of t ≡ Some e → AreRead e.deps → IsHexEntry e
unfolding hex_of
sound_hex t e is reads = let c = chained (tuple_of t) hex_in e is in sound_in c.value e c.then_ reads

sound_value : (value : Term) (entry : Entry) → IsEntry value (Some entry) → IsLockEntry entry
sound_value value _ (other kept) = kept
sound_value value _ (hex e is reads all) = sound_hex value e reads all

sound_pair : (key value : Term) (entry : AppEntry) → IsPair key value (Ok entry) → IsAppEntry entry
sound_pair key value _ (good {app = app} {entry = entry} named is) = record { app = app_named key app named; entry = sound_value value entry is }

-- the entries of a map keep to what a lock can say
pub sound_entries : (pairs : List Pair) (entries : List AppEntry) → AreEntries pairs (Ok entries) → AllByRecursion IsAppEntry entries
sound_entries _ _ end = tt
sound_entries _ _ (more {key = key} {value = value} {entry = entry} {pairs = pairs} {entries = entries} is are) =
    (sound_pair key value entry is, sound_entries pairs entries are)
