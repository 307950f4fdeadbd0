-- What is read of names, bytes and dependencies keeps to what a lock can say.
use Rattle.std.proofs.Common.{◌≡◌, ℕ, Bool, true, false, List, [], ◌∷◌, Option, Some, None, option_and_then, Result, Ok, Err, if◌then◌else◌, codes, refl, ◌∙◌, ap, subst}
use Rattle.std.specs.Prelude.{IsTrue}
use Rattle.std.specs.List.{AllByRecursion, list_all}
use Rattle.std.proofs.lemmas.Option.{same_Some, none-some}
use Rattle.hex.specs.Hex.{IsBytes, decode_of}
use Rattle.hex.specs.declared.error.FromHexError.{FromHexError}
use Rattle.hex.proofs.HexLemmas.{decode_of-ok}
use Rattle.mx_base.specs.AppName.{is_app_name}
use Rattle.term_values.specs.declared.term.Term.{Term}
use Rattle.term_values.specs.Views.{Named, atom_of, string_of, list_of, tuple_of, keywords_of, all_of}
use Rattle.mix_lock.specs.declared.deps.Link.{Link}
use Rattle.mix_lock.specs.declared.entry.LockDep.{LockDep}
use Rattle.mix_lock.specs.Lock.{IsLockDep}
use Rattle.mix_lock.specs.Says.{AreRead}
use Rattle.term_values.specs.Apps.{if_app, app_of}
use Rattle.version_req.specs.Version.{is_version}
use Rattle.mix_lock.specs.Terms.{names_of, version_of, is_lower_digit, if_decoded, bytes_in, bytes_of, under, truth_of, says_hexpm, link, three, link_of, dep, dep_by, dep_in, dep_of, deps_of}

-- what an answer is made of
pub record Chained {A B : Type 0} (o : Option A) (f : A → Option B) (b : B) : Type 0 where
  pub value : A
  pub first : o ≡ Some value
  pub then_ : f value ≡ Some b

pub chained : {A B : Type 0} (o : Option A) (f : A → Option B) (b : B) → option_and_then f o ≡ Some b → Chained o f b
chained None f b e = absurd (none-some b e)
chained (Some a) f b e = record { value = a; first = refl; then_ = e }

tested : {A : Type 0} (t : Bool) (x y : A) → (if t then Some x else None) ≡ Some y → IsTrue t × (x ≡ y)
tested true x y e = (refl, same_Some x y e)
tested false x y e = absurd (none-some y e)

-- a test of texts that gives them
texts_tested : (test : List ℕ → Bool) (o : Option (List ℕ)) (text : List ℕ)
    → option_and_then (λ x. if test x then Some x else None) o ≡ Some text → IsTrue (test text)
texts_tested test o text e =
    let c = chained o (λ (x : List ℕ). if test x then Some x else None) text e in
    let t = tested (test c.value) c.value text c.then_ in
    subst (λ (x : List ℕ). IsTrue (test x)) t.1 t.0

-- a name of an app is an atom's
pub atom_with : (t : Term) (app : List ℕ) → app_of t ≡ Some app → atom_of t ≡ Some app
atom_with t app e =
    let c = chained (atom_of t) if_app app e in
    c.first ∙ ap (λ (x : List ℕ). Some x) (tested (is_app_name c.value) c.value app c.then_).1

pub app_named : (t : Term) (app : List ℕ) → app_of t ≡ Some app → IsTrue (is_app_name app)
app_named t app e = texts_tested is_app_name (atom_of t) app e

pub version_is : (t : Term) (version : List ℕ) → version_of t ≡ Some version → IsTrue (is_version version)
version_is t version e = texts_tested is_version (string_of t) version e

decoded : (text bytes : List ℕ) (r : Result (List ℕ) FromHexError) → decode_of text ≡ r → if_decoded r ≡ Some bytes → IsBytes bytes
decoded text bytes (Ok found) is e = subst IsBytes (same_Some found bytes e) (decode_of-ok text found is).3
decoded text bytes (Err error) is e = absurd (none-some bytes e)

bytes_in_are : (text bytes : List ℕ) → bytes_in text ≡ Some bytes → IsBytes bytes
bytes_in_are text bytes = at (list_all is_lower_digit text)
  where
    at : (b : Bool) → (if b then if_decoded (decode_of text) else None) ≡ Some bytes → IsBytes bytes
    at true e = decoded text bytes (decode_of text) refl e
    at false e = absurd (none-some bytes e)

pub bytes_are : (t : Term) (bytes : List ℕ) → bytes_of t ≡ Some bytes → IsBytes bytes
bytes_are t bytes e = let c = chained (string_of t) bytes_in bytes e in bytes_in_are c.value bytes c.then_

-- each of a list
each_of : {A B : Type 0} (P : B → Type 0) (f : A → Option B) → ((a : A) (b : B) → f a ≡ Some b → P b) → (xs : List A) (bs : List B)
    → all_of f xs ≡ Some bs → AllByRecursion P bs
each_of P f one [] bs e = subst (AllByRecursion P) (same_Some [] bs e) tt
each_of {B = B} P f one (a ∷ xs) bs e =
    let c = chained (f a) (λ (b : B). option_and_then (λ (bs : List B). Some (b ∷ bs)) (all_of f xs)) bs e in
    let d = chained (all_of f xs) (λ (bs : List B). Some (c.value ∷ bs)) bs c.then_ in
    subst (AllByRecursion P) (same_Some (c.value ∷ d.value) bs d.then_) (one a c.value c.first, each_of P f one xs d.value d.first)

-- ---- dependencies

abbrev pub AreNamed : LockDep → Type 0
AreNamed d = IsTrue (is_app_name d.app) × IsTrue (is_app_name d.package)

linked : (name : Option (List ℕ)) (repo : Bool) (optional : Option Bool) (l : Link) → link name repo optional ≡ Some l → name ≡ Some l.package
linked (Some name) true (Some optional) l e = ap (λ (x : Link). Some x.package) (same_Some _ l e)
linked (Some name) true None l e = absurd (none-some l e)
linked (Some name) false optional l e = absurd (none-some l e)
linked None repo optional l e = absurd (none-some l e)

three_linked : (options : List Named) (l : Link) → three options ≡ Some l → IsTrue (is_app_name l.package)
three_linked [] l e = absurd (none-some l e)
three_linked (a ∷ []) l e = absurd (none-some l e)
three_linked (a ∷ b ∷ []) l e = absurd (none-some l e)
three_linked (a ∷ b ∷ c ∷ []) l e =
    let options = a ∷ b ∷ c ∷ [] in
    let name = linked (option_and_then app_of (under (codes "hex") options)) (says_hexpm (under (codes "repo") options))
    (option_and_then truth_of (under (codes "optional") options)) l e in
    let value = chained (under (codes "hex") options) app_of l.package name in
    app_named value.value l.package value.then_
three_linked (a ∷ b ∷ c ∷ d ∷ others) l e = absurd (none-some l e)

link_named : (t : Term) (l : Link) → link_of t ≡ Some l → IsTrue (is_app_name l.package)
link_named t l e = let c = chained (keywords_of t) three l e in three_linked c.value l c.then_

record Parts (app : Option (List ℕ)) (l : Option Link) (d : LockDep) : Type 0 where
  named : app ≡ Some d.app
  link : Link
  linked : l ≡ Some link
  same : link.package ≡ d.package

parted : (app requirement : Option (List ℕ)) (l : Option Link) (d : LockDep) → dep app requirement l ≡ Some d → Parts app l d
parted (Some app) (Some requirement) (Some l) d e =
    let is = same_Some _ d e in
    record { named = ap (λ (x : LockDep). Some x.app) is; link = l; linked = refl; same = ap (λ (x : LockDep). x.package) is }
parted (Some app) (Some requirement) None d e = absurd (none-some d e)
parted (Some app) None l d e = absurd (none-some d e)
parted None requirement l d e = absurd (none-some d e)

by_named : (app requirement options : Term) (d : LockDep) → dep_by app requirement options ≡ Some d → AreNamed d
by_named app requirement options d e =
    let p = parted (app_of app) (string_of requirement) (link_of options) d e in
    (app_named app d.app p.named, subst (λ (x : List ℕ). IsTrue (is_app_name x)) p.same (link_named options p.link p.linked))

in_named : (ts : List Term) (d : LockDep) → dep_in ts ≡ Some d → AreNamed d
in_named [] d e = absurd (none-some d e)
in_named (a ∷ []) d e = absurd (none-some d e)
in_named (a ∷ b ∷ []) d e = absurd (none-some d e)
in_named (a ∷ b ∷ c ∷ []) d e = by_named a b c d e
in_named (a ∷ b ∷ c ∷ x ∷ others) d e = absurd (none-some d e)

dep_named : (t : Term) (d : LockDep) → dep_of t ≡ Some d → AreNamed d
unfolding dep_of
dep_named t d e = let c = chained (tuple_of t) dep_in d e in in_named c.value d c.then_

pub deps_named : (t : Term) (deps : List LockDep) → deps_of t ≡ Some deps → AllByRecursion AreNamed deps
deps_named t deps e = let c = chained (list_of t) (all_of dep_of) deps e in each_of AreNamed dep_of dep_named c.value deps c.then_

pub names_named : (t : Term) (names : List (List ℕ)) → names_of t ≡ Some names → AllByRecursion (λ n. IsTrue (is_app_name n)) names
names_named t names e = let c = chained (list_of t) (all_of app_of) names e in each_of (λ n. IsTrue (is_app_name n)) app_of app_named c.value names c.then_

pub sound_deps : (deps : List LockDep) → AllByRecursion AreNamed deps → AreRead deps → AllByRecursion IsLockDep deps
sound_deps [] named reads = tt
sound_deps (d ∷ deps) named reads = (record { app = named.0.0; requirement = reads.0; «package» = named.0.1 }, sound_deps deps named.1 reads.1)
