-- A message without a fault stands for a package, so all bytes do or have a first fault.
use Rattle.std.proofs.Common.{◌≡◌, ℕ, zero, suc, ◌≤◌, Bool, true, false, ◌&&◌, not, eqb, Option, Some, None, List, [], ◌∷◌, refl, sym, ap, ◌∙◌, subst, inl, inr, ◌⊎◌, arith}
use Rattle.std.specs.Prelude.{is_some}
use Rattle.std.specs.List.{AllByRecursion}
use Rattle.std.proofs.lemmas.Bool.{eqb-true}
use Rattle.hex_messages.specs.declared.error.FieldName.TheVariants as name
use Rattle.hex_messages.specs.declared.error.WireCause.{WireCause}
use Rattle.hex_messages.specs.declared.message.Message.{Message}
use Rattle.hex_messages.specs.declared.message.Message.TheVariants as message
use Rattle.hex_messages.specs.declared.package.Package.{Package}
use Rattle.hex_messages.specs.declared.package.Release.{Release}
use Rattle.hex_messages.specs.declared.package.Dependency.{Dependency}
use Rattle.hex_messages.specs.declared.package.Retired.{Retired}
use Rattle.hex_messages.specs.declared.package.Reason.{Reason as Cause}
use Rattle.hex_messages.specs.declared.package.Reason.TheVariants as cause
use Rattle.hex_messages.specs.declared.schema.Kind.TheVariants.{Reason, Inner}
use Rattle.hex_messages.specs.declared.schema.Known.{Known}
use Rattle.hex_messages.specs.Fields.{Payload, Length, Field}
use Rattle.hex_messages.specs.Schema.{field_at, retired_number}
use Rattle.hex_messages.specs.Good.{AllGood, IsOf, IsWhole, has}
use Rattle.hex_messages.specs.Stands.{bytes_in, holding, all_bytes, last_bytes, last_number, is_set, reason_number, Each, StandsRetirement, StandsDependency, StandsRelease, Stands}
use Rattle.hex_messages.specs.Faults.{Fault}
use Rattle.hex_messages.specs.Finding.{HasWire, last_value}
use Rattle.hex_messages.proofs.GoodLemmas.{good_rest, reason_inv, whole_parts}
use Rattle.hex_messages.proofs.ValueLemmas.{bytes_agree, AgreesBytes, number_agree, AgreesNumber, has_value}
use Rattle.hex_messages.proofs.OneReading.{merged_good}
use Rattle.hex_messages.proofs.MergeLemmas.{inner_at, merged_of}
use Rattle.hex_messages.proofs.StandLemmas.{dependency_there, package_there, release_there, last_kind}
use Rattle.hex_messages.proofs.Decide.{Judged, whole, fails, judge}

some_text : (p : Option Payload) (o : Option (List ℕ)) → AgreesBytes p o → is_some p ≡ true → (bytes : List ℕ) × (o ≡ Some bytes)
some_text None o h e = absurd cc
some_text (Some p) o h e = (h.0, h.2)

text_there : {m : Message} {fields : List Field} (n : ℕ) → HasWire m n 2 → AllGood m fields → has n fields ≡ true
    → (bytes : List ℕ) × (last_bytes n fields ≡ Some bytes)
text_there {fields = fields} n w g e = some_text (last_value n fields) (last_bytes n fields) (bytes_agree n fields w g) (sym (has_value n fields) ∙ e)

inner_step : (P : List ℕ → Type 0) (t : Bool) (p : Payload) (more : List (List ℕ)) → (t ≡ true → (bytes : List ℕ) × (p ≡ Length bytes) × P bytes)
    → AllByRecursion P more → AllByRecursion P (holding t (bytes_in p) more)
inner_step P true p more here h = let i = here refl in subst (λ q. AllByRecursion P (holding true (bytes_in q) more)) (sym i.1) (i.2, h)
inner_step P false p more here h = h

-- the messages within have no fault
inner_whole : (m inside : Message) (n : ℕ) (k : Known) (fields : List Field) → field_at m n ≡ Some k → k.kind ≡ Inner inside → AllGood m fields
    → AllByRecursion (IsWhole inside) (all_bytes n fields)
inner_whole m inside n k [] at is g = tt
inner_whole m inside n k (f ∷ fields) at is g =
    inner_step (IsWhole inside) (eqb f.number n) f.payload (all_bytes n fields) (λ t. inner_at inside n k f at is (eqb-true f.number n t) g)
    (inner_whole m inside n k fields at is (good_rest g))

each_of : {B : Type 0} (R : List ℕ → B → Type 0) (P : List ℕ → Type 0) (texts : List (List ℕ)) → ((text : List ℕ) → P text → (b : B) × R text b)
    → AllByRecursion P texts → (bs : List B) × Each R texts bs
each_of R P [] one h = ([], tt)
each_of R P (t ∷ texts) one h =
    let b = one t h.0 in
    let bs = each_of R P texts one h.1 in
    (b.0 ∷ bs.0, (b.1, bs.1))

dependency_of : (text : List ℕ) → IsWhole message.Dependency text → (d : Dependency) × StandsDependency text d
dependency_of text w =
    let x = whole_parts w in
    let there = dependency_there w x.spelled in
    let p = text_there 1 refl x.good there.0 in
    let r = text_there 2 refl x.good there.1 in
    let d : Dependency = record {
      «package» = p.0;
      requirement = r.0;
      optional = is_set (last_number 3 x.fields);
      app = last_bytes 4 x.fields;
      repository = last_bytes 5 x.fields;
    } in (
      d,
      record {
        fields = x.fields;
        spelled = x.spelled;
        good = x.good;
        names = p.1;
        requirement = r.1;
        optional = refl;
        app = refl;
        repository = refl;
      },
    )

reason_from : (n : ℕ) → n ≤ 4 → (r : Cause) × (reason_number r ≡ n)
reason_from zero h = (cause.Other, refl)
reason_from (suc zero) h = (cause.Invalid, refl)
reason_from (suc (suc zero)) h = (cause.Security, refl)
reason_from (suc (suc (suc zero))) h = (cause.Deprecated, refl)
reason_from (suc (suc (suc (suc zero)))) h = (cause.Renamed, refl)
reason_from (suc (suc (suc (suc (suc n))))) h = absurd (omega arith)

some_reason : (merged : List Field) (o : Option Payload) → AllGood message.Retired merged → last_value 1 merged ≡ o → is_some o ≡ true
    → (r : Cause) × (last_number 1 merged ≡ Some (reason_number r))
some_reason merged None g e there = absurd cc
some_reason merged (Some p) g e there =
    let a = subst (λ o. AgreesNumber o (last_number 1 merged)) e (number_agree 1 merged refl g) in
    let small = reason_inv a.0 (subst (λ x. IsOf Reason x) a.1 (last_kind 1 (record { name = name.Reason; kind = Reason }) merged p refl g e)) in
    let r = reason_from a.0 small in
    (r.0, a.2 ∙ ap (λ x. Some x) (sym r.1))

not_false : (b : Bool) → not b ≡ false → b ≡ true
not_false true e = refl
not_false false e = absurd cc

retired_of : (b : Bool) (merged : List Field) → (b && not (has 1 merged)) ≡ false → AllGood message.Retired merged
    → (r : Option Retired) × StandsRetirement b merged r
retired_of false merged e g = (None, refl)
retired_of true merged e g =
    let r = some_reason merged (last_value 1 merged) g refl (sym (has_value 1 merged) ∙ not_false (has 1 merged) e) in
    (Some (record { reason = r.0; message = last_bytes 2 merged }), record { reason = r.1; message = refl })

release_of : (text : List ℕ) → IsWhole message.Release text → (r : Release) × StandsRelease text r
release_of text w =
    let x = whole_parts w in
    let m = merged_of x.fields x.good in
    let there = release_there w x.spelled m.1 in
    let v = text_there 1 refl x.good there.1 in
    let i = text_there 2 refl x.good there.2 in
    let d = each_of StandsDependency (IsWhole message.Dependency) (all_bytes 3 x.fields) dependency_of
    (inner_whole message.Release message.Dependency 3 (record { name = name.Dependencies; kind = Inner message.Dependency }) x.fields refl refl
    x.good) in
    let t = retired_of (has retired_number x.fields) m.0 there.0 (merged_good x.good m.1) in
    let r : Release = record { version = v.0; inner_checksum = i.0; dependencies = d.0; retired = t.0; outer_checksum = last_bytes 5 x.fields } in (
      r,
      record {
        fields = x.fields;
        merged = m.0;
        spelled = x.spelled;
        good = x.good;
        merges = m.1;
        version = v.1;
        inner_checksum = i.1;
        dependencies = d.1;
        retired = t.1;
        outer_checksum = refl;
      },
    )

package_of : (text : List ℕ) → IsWhole message.Package text → (whole : Package) × Stands text whole
package_of text w =
    let x = whole_parts w in
    let there = package_there w x.spelled in
    let n = text_there 2 refl x.good there.0 in
    let o = text_there 3 refl x.good there.1 in
    let r = each_of StandsRelease (IsWhole message.Release) (all_bytes 1 x.fields) release_of
    (inner_whole message.Package message.Release 1 (record { name = name.Releases; kind = Inner message.Release }) x.fields refl refl x.good) in
    let p : Package = record { releases = r.0; name = n.0; repository = o.0 } in
    (p, record { fields = x.fields; spelled = x.spelled; good = x.good; releases = r.1; name = n.1; repository = o.1 })

stands_or_fails : (text : List ℕ) → Judged message.Package text
    → ((whole : Package) × Stands text whole) ⊎ ((at : ℕ) × (cause : WireCause) × Fault message.Package text at cause)
stands_or_fails text (whole w) = inl (package_of text w)
stands_or_fails text (fails at cause f) = inr (at, cause, f)

pub each_stands_or_fails : (text : List ℕ)
    → ((whole : Package) × Stands text whole) ⊎ ((at : ℕ) × (cause : WireCause) × Fault message.Package text at cause)
each_stands_or_fails text = stands_or_fails text (judge message.Package text)
