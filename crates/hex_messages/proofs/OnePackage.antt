-- Bytes stand for one package.
use Rattle.std.proofs.Common.{◌≡◌, ℕ, Bool, true, false, cond, eqb, Option, Some, None, List, [], ◌∷◌, refl, sym, ap, ◌∙◌, subst}
use Rattle.hex_messages.specs.declared.package.Package.{Package}
use Rattle.hex_messages.specs.declared.package.Release.{Release}
use Rattle.hex_messages.specs.declared.package.Dependency.{Dependency}
use Rattle.hex_messages.specs.declared.package.Retired.{Retired}
use Rattle.hex_messages.specs.declared.package.Reason.{Reason}
use Rattle.hex_messages.specs.declared.package.Reason.TheVariants as reason
use Rattle.hex_messages.specs.Fields.{Field}
use Rattle.hex_messages.specs.Good.{Merged, has}
use Rattle.hex_messages.specs.Schema.{retired_number}
use Rattle.hex_messages.specs.Stands.{last_bytes, last_number, all_bytes, is_set, reason_number, Each, StandsRetirement, StandsDependency, StandsRelease, Stands}
use Rattle.hex_messages.proofs.OneReading.{one_fields}
use Rattle.hex_messages.proofs.Apart.{one_merged}

some_one : {A : Type 0} (a b : A) (o p : Option A) → o ≡ p → o ≡ Some a → p ≡ Some b → a ≡ b
some_one a b o p e x y = cc

reason_of : ℕ → Reason
reason_of n = cond (eqb n 0) reason.Other
    (cond (eqb n 1) reason.Invalid (cond (eqb n 2) reason.Security (cond (eqb n 3) reason.Deprecated reason.Renamed)))

reason_back : (r : Reason) → reason_of (reason_number r) ≡ r
unfolding reason_of
reason_back reason.Other = refl
reason_back reason.Invalid = refl
reason_back reason.Security = refl
reason_back reason.Deprecated = refl
reason_back reason.Renamed = refl

one_reason : (r s : Reason) → reason_number r ≡ reason_number s → r ≡ s
one_reason r s e = sym (reason_back r) ∙ (ap reason_of e ∙ reason_back s)

each_one : {A : Type 0} (R : List ℕ → A → Type 0) (xs ys : List (List ℕ)) (cs bs : List A) → ((x : List ℕ) (a b : A) → R x a → R x b → a ≡ b)
    → xs ≡ ys → Each R xs cs → Each R ys bs → cs ≡ bs
each_one R [] [] [] [] one e h k = refl
each_one R [] [] [] (b ∷ bs) one e h k = absurd k
each_one R [] [] (a ∷ cs) bs one e h k = absurd h
each_one R [] (y ∷ ys) cs bs one e h k = absurd cc
each_one R (x ∷ xs) [] cs bs one e h k = absurd cc
each_one R (x ∷ xs) (y ∷ ys) [] bs one e h k = absurd h
each_one R (x ∷ xs) (y ∷ ys) (a ∷ cs) [] one e h k = absurd k
each_one R (x ∷ xs) (y ∷ ys) (a ∷ cs) (b ∷ bs) one e h k =
    let same : y ≡ x = cc in
    let rest : xs ≡ ys = cc in
    let first : a ≡ b = one x a b h.0 (subst (λ l. R l b) same k.0) in
    let others : cs ≡ bs = each_one R xs ys cs bs one rest h.1 k.1 in
    cc

abbrev make_dependency : List ℕ → List ℕ → Bool → Option (List ℕ) → Option (List ℕ) → Dependency
make_dependency p r o a s = record { «package» = p; requirement = r; optional = o; app = a; repository = s }

dependency_is : (d e : Dependency) → d.«package» ≡ e.«package» → d.requirement ≡ e.requirement → d.optional ≡ e.optional → d.app ≡ e.app
    → d.repository ≡ e.repository → d ≡ e
dependency_is d e a b c x y =
    ap (λ (z : List ℕ). make_dependency z d.requirement d.optional d.app d.repository) a
    ∙ (ap (λ (z : List ℕ). make_dependency e.«package» z d.optional d.app d.repository) b
    ∙ (ap (λ (z : Bool). make_dependency e.«package» e.requirement z d.app d.repository) c
    ∙ (ap (λ (z : Option (List ℕ)). make_dependency e.«package» e.requirement e.optional z d.repository) x
    ∙ ap (λ (z : Option (List ℕ)). make_dependency e.«package» e.requirement e.optional e.app z) y)))

one_dependency : (bytes : List ℕ) (d e : Dependency) → StandsDependency bytes d → StandsDependency bytes e → d ≡ e
one_dependency bytes d e s t =
    let f : s.fields ≡ t.fields = one_fields s.fields t.fields s.spelled t.spelled in
    dependency_is d e
    (some_one d.«package» e.«package» (last_bytes 1 s.fields) (last_bytes 1 t.fields) (ap (last_bytes 1) f) s.names t.names)
    (some_one d.requirement e.requirement (last_bytes 2 s.fields) (last_bytes 2 t.fields) (ap (last_bytes 2) f) s.requirement t.requirement)
    (sym s.optional ∙ (ap (λ (l : List Field). is_set (last_number 3 l)) f ∙ t.optional))
    (sym s.app ∙ (ap (last_bytes 4) f ∙ t.app))
    (sym s.repository ∙ (ap (last_bytes 5) f ∙ t.repository))

abbrev make_retired : Reason → Option (List ℕ) → Retired
make_retired r m = record { reason = r; message = m }

one_retired : (a b : Bool) (l m : List Field) (r s : Option Retired) → a ≡ b → l ≡ m → StandsRetirement a l r → StandsRetirement b m s → r ≡ s
one_retired true false l m r s e f x y = absurd cc
one_retired false true l m r s e f x y = absurd cc
one_retired false false l m r s e f x y = x ∙ sym y
one_retired true true l m None s e f x y = absurd x
one_retired true true l m (Some r) None e f x y = absurd y
one_retired true true l m (Some r) (Some s) e f x y =
    let n : reason_number r.reason ≡ reason_number s.reason = some_one (reason_number r.reason) (reason_number s.reason) (last_number 1 l)
    (last_number 1 m) (ap (last_number 1) f) x.reason y.reason in
    let o : r.message ≡ s.message = sym x.message ∙ (ap (last_bytes 2) f ∙ y.message) in
    ap (λ (z : Retired). Some z) (ap (λ (z : Reason). make_retired z r.message) (one_reason r.reason s.reason n)
    ∙ ap (λ (z : Option (List ℕ)). make_retired s.reason z) o)

abbrev make_release : List ℕ → List ℕ → List Dependency → Option Retired → Option (List ℕ) → Release
make_release v i d r o = record { version = v; inner_checksum = i; dependencies = d; retired = r; outer_checksum = o }

release_is : (d e : Release) → d.version ≡ e.version → d.inner_checksum ≡ e.inner_checksum → d.dependencies ≡ e.dependencies → d.retired ≡ e.retired
    → d.outer_checksum ≡ e.outer_checksum → d ≡ e
release_is d e a b c x y =
    ap (λ (z : List ℕ). make_release z d.inner_checksum d.dependencies d.retired d.outer_checksum) a
    ∙ (ap (λ (z : List ℕ). make_release e.version z d.dependencies d.retired d.outer_checksum) b
    ∙ (ap (λ (z : List Dependency). make_release e.version e.inner_checksum z d.retired d.outer_checksum) c
    ∙ (ap (λ (z : Option Retired). make_release e.version e.inner_checksum e.dependencies z d.outer_checksum) x
    ∙ ap (λ (z : Option (List ℕ)). make_release e.version e.inner_checksum e.dependencies e.retired z) y)))

one_release : (bytes : List ℕ) (d e : Release) → StandsRelease bytes d → StandsRelease bytes e → d ≡ e
one_release bytes d e s t =
    let f : s.fields ≡ t.fields = one_fields s.fields t.fields s.spelled t.spelled in
    let m : s.merged ≡ t.merged = one_merged s.merges (subst (λ (l : List Field). Merged l t.merged) (sym f) t.merges) in
    release_is d e
    (some_one d.version e.version (last_bytes 1 s.fields) (last_bytes 1 t.fields) (ap (last_bytes 1) f) s.version t.version)
    (some_one d.inner_checksum e.inner_checksum (last_bytes 2 s.fields) (last_bytes 2 t.fields) (ap (last_bytes 2) f) s.inner_checksum
    t.inner_checksum)
    (each_one StandsDependency (all_bytes 3 s.fields) (all_bytes 3 t.fields) d.dependencies e.dependencies one_dependency (ap (all_bytes 3) f)
    s.dependencies t.dependencies)
    (one_retired (has retired_number s.fields) (has retired_number t.fields) s.merged t.merged d.retired e.retired
    (ap (λ (l : List Field). has retired_number l) f) m s.retired t.retired)
    (sym s.outer_checksum ∙ (ap (last_bytes 5) f ∙ t.outer_checksum))

abbrev make_package : List Release → List ℕ → List ℕ → Package
make_package r n s = record { releases = r; name = n; repository = s }

pub one_package : (bytes : List ℕ) (p q : Package) → Stands bytes p → Stands bytes q → p ≡ q
one_package bytes p q s t =
    let f : s.fields ≡ t.fields = one_fields s.fields t.fields s.spelled t.spelled in
    let a : p.releases ≡ q.releases = each_one StandsRelease (all_bytes 1 s.fields) (all_bytes 1 t.fields) p.releases q.releases one_release
    (ap (all_bytes 1) f) s.releases t.releases in
    let b : p.name ≡ q.name = some_one p.name q.name (last_bytes 2 s.fields) (last_bytes 2 t.fields) (ap (last_bytes 2) f) s.name t.name in
    let c : p.repository ≡ q.repository = some_one p.repository q.repository (last_bytes 3 s.fields) (last_bytes 3 t.fields) (ap (last_bytes 3) f)
    s.repository t.repository in
    ap (λ (z : List Release). make_package z p.name p.repository) a
    ∙ (ap (λ (z : List ℕ). make_package q.releases z p.repository) b ∙ ap (λ (z : List ℕ). make_package q.releases q.name z) c)
