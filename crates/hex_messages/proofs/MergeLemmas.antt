-- The merged retirements of a release.
use Rattle.std.proofs.Common.{◌≡◌, ℕ, Bool, true, false, eqb, Option, Some, None, List, [], ◌∷◌, ◌++◌, refl, sym, ap, ◌∙◌, subst, arith}
use Rattle.std.specs.Prelude.{option_map}
use Rattle.std.specs.Option.{option_or}
use Rattle.std.proofs.lemmas.List.{append_assoc, append-nil}
use Rattle.std.proofs.lemmas.Bool.{or_parts, eqb-true}
use Rattle.std.proofs.lemmas.Bool.Decides.{nat_tests}
use Rattle.hex_messages.specs.declared.error.FieldName.TheVariants as name
use Rattle.hex_messages.specs.declared.message.Message.{Message}
use Rattle.hex_messages.specs.declared.message.Message.TheVariants as message
use Rattle.hex_messages.specs.declared.schema.Kind.{Kind}
use Rattle.hex_messages.specs.declared.schema.Kind.TheVariants.{Inner}
use Rattle.hex_messages.specs.declared.schema.Known.{Known}
use Rattle.hex_messages.specs.Fields.{Payload, Length, Field, Fields, wire_type}
use Rattle.hex_messages.specs.Schema.{field_at, retired_number}
use Rattle.hex_messages.specs.Good.{AllGood, IsOf, IsWhole, Merged, has}
use Rattle.hex_messages.specs.Good as good
use Rattle.hex_messages.specs.Stands.{later}
use Rattle.hex_messages.specs.declared.wire.Value.{Value}
use Rattle.hex_messages.specs.Reading.{payload_of}
use Rattle.hex_messages.specs.Finding.{InFields, InMerged, Finds, last_value}
use Rattle.hex_messages.proofs.FieldsLemmas.{At, at_start}
use Rattle.hex_messages.proofs.GoodLemmas.{good_behind, good_front, good_rest, whole_parts}
use Rattle.hex_messages.proofs.ValueLemmas.{last_append}
use Rattle.hex_messages.proofs.OneReading.{one_fields}
use Rattle.hex_messages.proofs.FindLemmas.{behind, found_at}

-- what two lists of fields merge into
pub record Parts (fields others merged : List Field) : Type 0 where
  pub first : List Field
  pub second : List Field
  pub front : Merged fields first
  pub behind : Merged others second
  pub split : merged ≡ first ++ second

parts_from : {all merged : List Field} (fields others : List Field) → all ≡ fields ++ others → Merged all merged → Parts fields others merged
parts_from {merged = merged} [] others e h = record {
  first = [];
  second = merged;
  front = good.none;
  behind = subst (λ l. Merged l merged) e h;
  split = refl;
}
parts_from (f ∷ fields) others e good.none = absurd cc
parts_from (f ∷ fields) others e (good.retired {bytes = bytes} {inner = inner} {more = more} {fields = rest} s h) =
    let same : record { number = retired_number; payload = Length bytes } ≡ f = cc in
    let p = parts_from fields others (cc) h in
    record {
      first = inner ++ p.first;
      second = p.second;
      front = subst (λ x. Merged (x ∷ fields) (inner ++ p.first)) same (good.retired s p.front);
      behind = p.behind;
      split = ap (λ l. inner ++ l) p.split ∙ sym (append_assoc inner p.first p.second);
    }
parts_from (f ∷ fields) others e (good.other {field = g} apart h) =
    let same : g ≡ f = cc in
    let p = parts_from fields others (cc) h in
    record {
      first = p.first;
      second = p.second;
      front = good.other (λ q. apart (ap (λ (x : Field). x.number) same ∙ q)) p.front;
      behind = p.behind;
      split = p.split;
    }

pub parts : {merged : List Field} (fields others : List Field) → Merged (fields ++ others) merged → Parts fields others merged
parts fields others h = parts_from fields others refl h

-- where no field is a retirement, nothing is merged
pub merged_apart : {fields merged : List Field} → has retired_number fields ≡ false → Merged fields merged → merged ≡ []
merged_apart e good.none = refl
merged_apart e (good.retired s h) = absurd cc
merged_apart e (good.other {field = f} {fields = fields} apart h) =
    let p = or_parts (eqb f.number retired_number) (has retired_number fields) e in
    merged_apart p.1 h

abbrev bytes_of : Payload → List ℕ
bytes_of (Length bytes) = bytes
bytes_of p = []

abbrev first_bytes : List Field → List ℕ
first_bytes [] = []
first_bytes (f ∷ fields) = bytes_of f.payload

-- one retirement
record Single (bytes : List ℕ) (merged : List Field) : Type 0 where
  inner : List Field
  spelled : Fields bytes inner
  same : merged ≡ inner

single_from : {all merged : List Field} (bytes : List ℕ) → all ≡ record { number = retired_number; payload = Length bytes } ∷ [] → Merged all merged
    → Single bytes merged
single_from bytes e good.none = absurd cc
single_from bytes e (good.retired {bytes = b} {inner = inner} {more = more} {fields = rest} s h) =
    let same : b ≡ bytes = ap first_bytes e in
    let nothing : rest ≡ [] = cc in
    let m : more ≡ [] = merged_apart (ap (has retired_number) nothing) h in
    record { inner = inner; spelled = subst (λ l. Fields l inner) same s; same = ap (λ l. inner ++ l) m ∙ append-nil inner }
single_from bytes e (good.other {field = f} apart h) =
    let same : f ≡ record { number = retired_number; payload = Length bytes } = cc in
    absurd (apart (ap (λ (x : Field). x.number) same))

inner_length : (k : Kind) (m : Message) (p : Payload) → k ≡ Inner m → IsOf k p → (bytes : List ℕ) × (p ≡ Length bytes) × IsWhole m bytes
inner_length k m p e (good.text h) = absurd cc
inner_length k m p e good.bytes = absurd cc
inner_length k m p e good.truth = absurd cc
inner_length k m p e (good.reason h) = absurd cc
inner_length k m p e (good.inner {m = other} {bytes = bytes} h) =
    let same : other ≡ m = cc in
    (bytes, refl, subst (λ x. IsWhole x bytes) same h)

-- a message within, at a known number
pub inner_at : {m : Message} {fs : List Field} (inside : Message) (n : ℕ) (k : Known) (f : Field) → field_at m n ≡ Some k → k.kind ≡ Inner inside
    → f.number ≡ n → AllGood m (f ∷ fs) → (bytes : List ℕ) × (f.payload ≡ Length bytes) × IsWhole inside bytes
inner_at inside n k f at kind e (good.known {m = m} {k = other} known v all) =
    let w : field_at m f.number ≡ field_at m n = ap (λ (x : ℕ). field_at m x) e in
    let same : other ≡ k = cc in
    inner_length other.kind inside f.payload (ap (λ (x : Known). x.kind) same ∙ kind) v
inner_at inside n k f at kind e (good.unknown {m = m} known all) =
    let w : field_at m f.number ≡ field_at m n = ap (λ (x : ℕ). field_at m x) e in
    absurd cc

abbrev as_field : ℕ → Payload → Field
as_field n p = record { number = n; payload = p }

field_is : (f : Field) (bytes : List ℕ) → f.number ≡ retired_number → f.payload ≡ Length bytes
    → f ≡ record { number = retired_number; payload = Length bytes }
field_is f bytes e p = ap (λ (n : ℕ). as_field n f.payload) e ∙ ap (λ (q : Payload). as_field retired_number q) p

length_same : (a b : List ℕ) → Length a ≡ Length b → a ≡ b
length_same a b e = cc

abbrev retired_known : Known
retired_known = record { name = name.Retired; kind = Inner message.Retired }

merge_step : {fields merged : List Field} (f : Field) (t : Bool) → eqb f.number retired_number ≡ t → AllGood message.Release (f ∷ fields)
    → Merged fields merged → (more : List Field) × Merged (f ∷ fields) more
merge_step {merged = merged} f false e g h = (merged, good.other (λ q. absurd (grind (arith, nat_tests))) h)
merge_step {fields = fields} {merged = merged} f true e g h =
    let n : f.number ≡ retired_number = eqb-true f.number retired_number e in
    let i = inner_at message.Retired retired_number retired_known f refl refl n g in
    let w = whole_parts i.2 in
    let same : record { number = retired_number; payload = Length i.0 } ≡ f = sym (field_is f i.0 n i.1) in
    (w.fields ++ merged, subst (λ x. Merged (x ∷ fields) (w.fields ++ merged)) same (good.retired w.spelled h))

-- the retirements of a release that may stand can be merged
pub merged_of : (fields : List Field) → AllGood message.Release fields → (merged : List Field) × Merged fields merged
merged_of [] g = ([], good.none)
merged_of (f ∷ fields) g =
    let m = merged_of fields (good_rest g) in
    merge_step f (eqb f.number retired_number) refl g m.1

-- the last value with a number among the merged fields, as far as the text was passed
pub record MergedSoFar (number : ℕ) (text rest : List ℕ) (value : Option Payload) : Type 0 where
  pub fields : List Field
  pub at : At text rest fields
  pub held : AllGood message.Release fields → (merged : List Field) → Merged fields merged → value ≡ last_value number merged

none_merged : {fields merged : List Field} (number : ℕ) → fields ≡ [] → Merged fields merged → None ≡ last_value number merged
none_merged number e h = let m = merged_apart (ap (has retired_number) e) h in ap (last_value number) (sym m)

pub merged_start : (number : ℕ) (text : List ℕ) → MergedSoFar number text text None
merged_start number text = record { fields = []; at = at_start text; held = λ g merged h. none_merged number refl h }

pub merged_more : (number : ℕ) (text rest after bytes : List ℕ) (value inside : Option Payload) (p : Payload) → MergedSoFar number text rest value
    → Finds retired_number rest p after → (wire_type p ≡ 2 → p ≡ Length bytes)
    → InFields message.Retired bytes (λ fields. inside ≡ last_value number fields) → MergedSoFar number text after (later value inside)
merged_more number text rest after bytes value inside p l f is h = record {
  fields = l.fields ++ (f.others ++ record { number = retired_number; payload = p } ∷ []);
  at = found_at l.at f;
  held = λ g merged all.
      let found = record { number = retired_number; payload = p } ∷ [] in
      let x = parts l.fields (f.others ++ found) all in
      let y = parts f.others found x.behind in
      let g2 = good_behind f.others found (good_behind l.fields (f.others ++ found) g) in
      let i = inner_at message.Retired retired_number retired_known (record { number = retired_number; payload = p }) refl refl refl g2 in
      let typed : wire_type p ≡ 2 = ap wire_type i.1 in
      let e : p ≡ Length bytes = is typed in
      let s = single_from bytes (ap (λ q. record { number = retired_number; payload = q } ∷ []) e) y.behind in
      let none = merged_apart f.apart y.front in
      let same : i.0 ≡ bytes = length_same i.0 bytes (sym i.1 ∙ e) in
      let w = whole_parts (subst (λ b. IsWhole message.Retired b) same i.2) in
      let good_inner : AllGood message.Retired s.inner = subst (λ q. AllGood message.Retired q) (one_fields w.fields s.inner w.spelled s.spelled)
      w.good in
      let v : value ≡ last_value number x.first = l.held (good_front l.fields (f.others ++ found) g) x.first x.front in
      let u : inside ≡ last_value number s.inner = h s.inner s.spelled good_inner in
      let m : merged ≡ x.first ++ s.inner = x.split ∙ ap (λ q. x.first ++ q) (y.split ∙ (ap (λ q. q ++ y.second) none ∙ s.same)) in
      let joined : last_value number merged ≡ later (last_value number x.first) (last_value number s.inner) = ap (last_value number) m
      ∙ last_append (λ q. Some q) number x.first s.inner in
      ap (λ q. later q inside) v ∙ (ap (λ q. later (last_value number x.first) q) u ∙ sym joined);
}

pub merged_end : (number : ℕ) (text rest : List ℕ) (value : Option Payload) → MergedSoFar number text rest value
    → InFields message.Release rest (λ fields. has retired_number fields ≡ false) → InMerged text (λ fields merged. value ≡ last_value number merged)
merged_end number text rest value l none = λ all merged s g h.
    let b = behind s l.at in
    let g2 : AllGood message.Release (l.fields ++ b.others) = subst (λ x. AllGood message.Release x) b.split g in
    let x = parts l.fields b.others (subst (λ q. Merged q merged) b.split h) in
    let empty = merged_apart (none b.others b.spelled (good_behind l.fields b.others g2)) x.behind in
    let m : merged ≡ x.first = x.split ∙ (ap (λ q. x.first ++ q) empty ∙ append-nil x.first) in
    l.held (good_front l.fields b.others g2) x.first x.front ∙ ap (last_value number) (sym m)

pub or_later : (a b : Option Value) → option_map payload_of (option_or a b) ≡ later (option_map payload_of b) (option_map payload_of a)
or_later (Some a) b = refl
or_later None b = refl
