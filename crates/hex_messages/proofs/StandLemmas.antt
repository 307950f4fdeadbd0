-- What a message without a fault stands for.
use Rattle.std.proofs.Common.{◌≡◌, ℕ, ◌≤◌, Bool, true, false, ◌&&◌, not, cond, eqb, Option, Some, None, List, [], ◌∷◌, refl, sym, ap, ◌∙◌, subst}
use Rattle.std.specs.Prelude.{is_some}
use Rattle.std.proofs.lemmas.Bool.{eqb-true}
use Rattle.hex_messages.specs.declared.error.FieldName.{FieldName}
use Rattle.hex_messages.specs.declared.error.FieldName.TheVariants as name
use Rattle.hex_messages.specs.declared.message.Message.{Message}
use Rattle.hex_messages.specs.declared.message.Message.TheVariants as message
use Rattle.hex_messages.specs.declared.package.Release.{Release}
use Rattle.hex_messages.specs.declared.package.Dependency.{Dependency}
use Rattle.hex_messages.specs.declared.package.Retired.{Retired}
use Rattle.hex_messages.specs.declared.schema.Kind.{Kind}
use Rattle.hex_messages.specs.declared.schema.Kind.TheVariants.{Reason}
use Rattle.hex_messages.specs.declared.schema.Known.{Known}
use Rattle.hex_messages.specs.Fields.{Payload, Varint, Length, Field, Fields, wire_type}
use Rattle.hex_messages.specs.Schema.{field_at, retired_number}
use Rattle.hex_messages.specs.Good.{AllGood, IsOf, IsWhole, Merged, has, absent_in}
use Rattle.hex_messages.specs.Stands.{later, all_bytes, last_bytes, last_number, is_set, reason_number, Each, StandsRetired, StandsRetirement, StandsDependency, StandsRelease, Stands}
use Rattle.hex_messages.specs.Finding.{InFields, InMerged, HasWire, last_value}
use Rattle.hex_messages.proofs.GoodLemmas.{good_first, good_rest, kind_at, reason_inv, whole_parts}
use Rattle.hex_messages.proofs.ValueLemmas.{bytes_agree, AgreesBytes, number_agree, AgreesNumber, has_value}
use Rattle.hex_messages.proofs.OneReading.{one_fields, merged_good}
use Rattle.hex_messages.proofs.Apart.{one_merged}
use Rattle.hex_messages.proofs.MergeLemmas.{merged_apart, merged_of}
use Rattle.hex_messages.proofs.BuildLemmas.{last_some, varint_same}

both_there : (a b : Bool) (x y : FieldName) → cond a (cond b None (Some y)) (Some x) ≡ None → (a ≡ true) × (b ≡ true)
both_there true true x y e = (refl, refl)
both_there true false x y e = absurd cc
both_there false b x y e = absurd cc

all_there : (a b c : Bool) (x y z : FieldName) → cond a (Some z) (cond b (cond c None (Some y)) (Some x)) ≡ None
    → (a ≡ false) × (b ≡ true) × (c ≡ true)
all_there true b c x y z e = absurd cc
all_there false b c x y z e = let p = both_there b c x y e in (refl, p.0, p.1)

pub dependency_there : {text : List ℕ} {fields : List Field} → IsWhole message.Dependency text → Fields text fields
    → (has 1 fields ≡ true) × (has 2 fields ≡ true)
dependency_there {fields = fields} w s =
    let p = whole_parts w in
    let m = p.misses in
    let e : absent_in message.Dependency m.merged fields ≡ None = ap (absent_in message.Dependency m.merged) (one_fields fields p.fields s p.spelled)
    ∙ m.answers in
    both_there (has 1 fields) (has 2 fields) name.Package name.Requirement e

pub package_there : {text : List ℕ} {fields : List Field} → IsWhole message.Package text → Fields text fields
    → (has 2 fields ≡ true) × (has 3 fields ≡ true)
package_there {fields = fields} w s =
    let p = whole_parts w in
    let m = p.misses in
    let e : absent_in message.Package m.merged fields ≡ None = ap (absent_in message.Package m.merged) (one_fields fields p.fields s p.spelled)
    ∙ m.answers in
    both_there (has 2 fields) (has 3 fields) name.Name name.Repository e

pub release_there : {text : List ℕ} {fields merged : List Field} → IsWhole message.Release text → Fields text fields → Merged fields merged
    → ((has 4 fields && not (has 1 merged)) ≡ false) × (has 1 fields ≡ true) × (has 2 fields ≡ true)
release_there {fields = fields} {merged = merged} w s h =
    let p = whole_parts w in
    let m = p.misses in
    let f : fields ≡ p.fields = one_fields fields p.fields s p.spelled in
    let o : merged ≡ m.merged = one_merged h (subst (λ l. Merged l m.merged) (sym f) (m.merges refl)) in
    let e : absent_in message.Release merged fields ≡ None = ap (λ l. absent_in message.Release l fields) o
    ∙ (ap (absent_in message.Release m.merged) f ∙ m.answers) in
    all_there (has 4 fields && not (has 1 merged)) (has 1 fields) (has 2 fields) name.Version name.InnerChecksum name.Reason e

pub dependency_stands : (text p r : List ℕ) (o : Bool) (a b : Option (List ℕ)) → IsWhole message.Dependency text
    → InFields message.Dependency text (λ fields. has 1 fields ≡ true → last_bytes 1 fields ≡ Some p)
    → InFields message.Dependency text (λ fields. has 2 fields ≡ true → last_bytes 2 fields ≡ Some r)
    → InFields message.Dependency text (λ fields. o ≡ is_set (last_number 3 fields))
    → InFields message.Dependency text (λ fields. a ≡ last_bytes 4 fields) → InFields message.Dependency text (λ fields. b ≡ last_bytes 5 fields)
    → StandsDependency text (record { «package» = p; requirement = r; optional = o; app = a; repository = b })
dependency_stands text p r o a b w one two three four five =
    let x = whole_parts w in
    let s = x.spelled in
    let g = x.good in
    let there = dependency_there w s in
    record {
      fields = x.fields;
      spelled = s;
      good = g;
      names = one x.fields s g there.0;
      requirement = two x.fields s g there.1;
      optional = sym (three x.fields s g);
      app = sym (four x.fields s g);
      repository = sym (five x.fields s g);
    }

pub release_stands : (text v i : List ℕ) (d : List Dependency) (r : Option Retired) (o : Option (List ℕ)) → IsWhole message.Release text
    → InFields message.Release text (λ fields. has 1 fields ≡ true → last_bytes 1 fields ≡ Some v)
    → InFields message.Release text (λ fields. has 2 fields ≡ true → last_bytes 2 fields ≡ Some i)
    → InFields message.Release text (λ fields. Each StandsDependency (all_bytes 3 fields) d)
    → InMerged text (λ fields merged. StandsRetirement (has retired_number fields) merged r)
    → InFields message.Release text (λ fields. o ≡ last_bytes 5 fields)
    → StandsRelease text (record { version = v; inner_checksum = i; dependencies = d; retired = r; outer_checksum = o })
release_stands text v i d r o w one two three four five =
    let x = whole_parts w in
    let s = x.spelled in
    let g = x.good in
    let m = merged_of x.fields g in
    let there = release_there w s m.1 in
    record {
      fields = x.fields;
      merged = m.0;
      spelled = s;
      good = g;
      merges = m.1;
      version = one x.fields s g there.1;
      inner_checksum = two x.fields s g there.2;
      dependencies = three x.fields s g;
      retired = four x.fields m.0 s g m.1;
      outer_checksum = sym (five x.fields s g);
    }

pub package_stands : (text : List ℕ) (r : List Release) (n o : List ℕ) → IsWhole message.Package text
    → InFields message.Package text (λ fields. Each StandsRelease (all_bytes 1 fields) r)
    → InFields message.Package text (λ fields. has 2 fields ≡ true → last_bytes 2 fields ≡ Some n)
    → InFields message.Package text (λ fields. has 3 fields ≡ true → last_bytes 3 fields ≡ Some o)
    → Stands text (record { releases = r; name = n; repository = o })
package_stands text r n o w one two three =
    let x = whole_parts w in
    let s = x.spelled in
    let g = x.good in
    let there = package_there w s in
    record {
      fields = x.fields;
      spelled = s;
      good = g;
      releases = one x.fields s g;
      name = two x.fields s g there.0;
      repository = three x.fields s g there.1;
    }

-- the bytes of the last merged value
pub merged_some : (number : ℕ) (text bytes : List ℕ) (p : Payload) → HasWire message.Retired number 2
    → InMerged text (λ fields merged. Some p ≡ last_value number merged) → (wire_type p ≡ 2 → p ≡ Length bytes)
    → InMerged text (λ fields merged. Some bytes ≡ last_bytes number merged)
merged_some number text bytes p w h is = λ fields merged s g m.
    let a = subst (λ o. AgreesBytes o (last_bytes number merged)) (sym (h fields merged s g m)) (bytes_agree number merged w (merged_good g m)) in
    sym (last_some (last_bytes number merged) p bytes a is)

pub merged_none : (number : ℕ) (text : List ℕ) → HasWire message.Retired number 2 → InMerged text (λ fields merged. None ≡ last_value number merged)
    → InMerged text (λ fields merged. None ≡ last_bytes number merged)
merged_none number text w h = λ fields merged s g m. sym
    (subst (λ o. AgreesBytes o (last_bytes number merged)) (sym (h fields merged s g m)) (bytes_agree number merged w (merged_good g m)))

none_stands : (b c : Bool) (merged : List Field) → (b && not c) ≡ false → c ≡ false → StandsRetirement b merged None
none_stands true true merged e h = absurd cc
none_stands true false merged e h = absurd cc
none_stands false c merged e h = refl

pub retired_none : (text : List ℕ) → IsWhole message.Release text → InMerged text (λ fields merged. None ≡ last_value 1 merged)
    → InMerged text (λ fields merged. StandsRetirement (has retired_number fields) merged None)
retired_none text w h = λ fields merged s g m.
    let there = release_there w s m in
    let c : has 1 merged ≡ false = has_value 1 merged ∙ ap is_some (sym (h fields merged s g m)) in
    none_stands (has 4 fields) (has 1 merged) merged there.0 c

kind_step : (t : Bool) (k : Kind) (q p : Payload) (o : Option Payload) → (t ≡ true → IsOf k q) → (o ≡ Some p → IsOf k p)
    → later (cond t (Some q) None) o ≡ Some p → IsOf k p
kind_step t k q p (Some x) here more e = more e
kind_step true k q p None here more e = let same : q ≡ p = cc in subst (λ x. IsOf k x) same (here refl)
kind_step false k q p None here more e = absurd cc

-- the last value with a known number is of its kind
pub last_kind : {m : Message} (n : ℕ) (k : Known) (fields : List Field) (p : Payload) → field_at m n ≡ Some k → AllGood m fields
    → last_value n fields ≡ Some p → IsOf k.kind p
last_kind n k [] p at g e = absurd cc
last_kind {m = m} n k (f ∷ fields) p at g e =
    kind_step (eqb f.number n) k.kind f.payload p (last_value n fields)
    (λ t. kind_at f k (good_first g) (ap (λ (x : ℕ). field_at m x) (eqb-true f.number n t) ∙ at))
    (λ h. last_kind n k fields p at (good_rest g) h) e

some_stands : (b : Bool) (fields merged : List Field) (r : Retired) (p : Payload) → has retired_number fields ≡ b → Merged fields merged
    → Some p ≡ last_value 1 merged → StandsRetired merged r → StandsRetirement b merged (Some r)
some_stands true fields merged r p e m h s = s
some_stands false fields merged r p e m h s = let z : last_value 1 merged ≡ None = ap (last_value 1) (merged_apart e m) in absurd cc

pub retired_some : (text : List ℕ) (p : Payload) (n : ℕ) (r : Retired) → InMerged text (λ fields merged. Some p ≡ last_value 1 merged)
    → (wire_type p ≡ 0 → p ≡ Varint n) → (n ≤ 4 → reason_number r.reason ≡ n) → InMerged text (λ fields merged. r.message ≡ last_bytes 2 merged)
    → InMerged text (λ fields merged. StandsRetirement (has retired_number fields) merged (Some r))
retired_some text p n r h is called said = λ fields merged s g m.
    let e = h fields merged s g m in
    let all = merged_good g m in
    let a = subst (λ o. AgreesNumber o (last_number 1 merged)) (sym e) (number_agree 1 merged refl all) in
    let q : p ≡ Varint n = is (ap wire_type a.1) in
    let same : a.0 ≡ n = varint_same a.0 n (sym a.1 ∙ q) in
    let small = reason_inv n (subst (λ x. IsOf Reason x) q (last_kind 1 (record { name = name.Reason; kind = Reason }) merged p refl all (sym e))) in
    let k : last_number 1 merged ≡ Some (reason_number r.reason) = a.2 ∙ ap (λ x. Some x) (same ∙ sym (called small)) in
    some_stands (has retired_number fields) fields merged r p refl m e (record { reason = k; message = sym (said fields merged s g m) })
