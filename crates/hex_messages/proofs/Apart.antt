-- Bytes that stand for a package have no fault, and stand for one alone.
use Rattle.std.proofs.Common.{◌≡◌, ℕ, ◌+◌, ◌*◌, ◌<◌, ◌≤◌, true, Option, Some, None, List, [], ◌∷◌, ◌++◌, length, take, refl, sym, ap, ◌∙◌, subst, inl, inr, ⊎_elim, ◌⊎◌, arith}
use Rattle.std.specs.List.{list_all}
use Rattle.std.proofs.lemmas.List.{length-append, append_assoc, take_all}
use Rattle.hex_messages.specs.declared.error.FieldName.{FieldName}
use Rattle.hex_messages.specs.declared.error.WireCause.{WireCause}
use Rattle.hex_messages.specs.declared.message.Message.{Message}
use Rattle.hex_messages.specs.declared.message.Message.TheVariants as message
use Rattle.hex_messages.specs.declared.package.Package.{Package}
use Rattle.hex_messages.specs.Varint.{goes_on, number_of, IsVarint}
use Rattle.hex_messages.specs.Fields.{Payload, Varint, Fixed64, Length, Fixed32, Field, Fields, SpellsField, SpellsPayload, wire_type, greatest_number}
use Rattle.hex_messages.specs.Fields as fields
use Rattle.hex_messages.specs.declared.schema.Kind.{Kind}
use Rattle.hex_messages.specs.declared.schema.Kind.TheVariants.{Text, Reason, Inner}
use Rattle.hex_messages.specs.declared.schema.Known.{Known}
use Rattle.hex_messages.specs.Schema.{field_at, wire_of}
use Rattle.hex_messages.specs.Good.{AllGood, IsOf, IsWhole, Merged, Misses, has, absent_in}
use Rattle.hex_messages.specs.Good as good
use Rattle.hex_messages.specs.Stands.{bytes_in, Stands}
use Rattle.hex_messages.specs.Faults.{VarintFault, ValueFault, IsWire, IsKey, FieldFault, Fault}
use Rattle.hex_messages.specs.Faults as fault
use Rattle.hex_messages.proofs.VarintLemmas.{whole_split, whole_stops, one_varint}
use Rattle.hex_messages.proofs.OneReading.{one_field, one_fields, not_empty, key_apart, type_small}
use Rattle.hex_messages.proofs.GoodLemmas.{wire_typed, kind_at, text_inv, reason_inv, inner_inv, good_first, good_rest}
use Rattle.hex_messages.proofs.ValueLemmas.{has_last}

-- where a varint begins, none is faulty
pub varint_apart : {text : List ℕ} {cause : WireCause} (front rest : List ℕ) (n : ℕ) → IsVarint front n → text ≡ front ++ rest
    → VarintFault text cause → ⊥
varint_apart {text = text} front rest n v e (fault.long many on) = whole_stops front rest 10 v.whole v.short
    (subst (λ l. list_all goes_on (take 10 l) ≡ true) e on)
varint_apart {text = text} front rest n v e (fault.great f r whole short big split) =
    let w = whole_split front f rest r v.whole whole (sym e ∙ split) in
    let same : number_of front ≡ number_of f = ap number_of w.0 in
    let value = v.value in
    let small = v.small in
    omega arith
varint_apart {text = text} front rest n v e (fault.cut few on) =
    let all : take 10 text ≡ text = take_all 10 text (omega arith) in
    whole_stops front rest 10 v.whole v.short (subst (λ l. list_all goes_on (take 10 l) ≡ true) e (rw all on))

pub length_split : (text front rest : List ℕ) → text ≡ front ++ rest → length text ≡ length front + length rest
length_split text front rest e = ap length e ∙ length-append front rest

-- where a value begins, none is faulty
pub value_apart : {text : List ℕ} {cause : WireCause} (w : ℕ) (p : Payload) (front rest : List ℕ) → wire_type p ≡ w → SpellsPayload front p
    → text ≡ front ++ rest → ValueFault w text cause → ⊥
value_apart w (Varint n) front rest t s e (fault.varint f) = varint_apart front rest n s e f
value_apart w (Varint n) front rest t s e (fault.eight short) = omega arith
value_apart w (Varint n) front rest t s e (fault.size f) = omega arith
value_apart w (Varint n) front rest t s e (fault.bytes r v split short) = omega arith
value_apart w (Varint n) front rest t s e (fault.four short) = omega arith
value_apart w (Fixed64 x) front rest t s e (fault.varint f) = omega arith
value_apart {text = text} w (Fixed64 x) front rest t s e (fault.eight short) = let l = length_split text front rest e in let k : length front ≡ length
    x = ap length s.0 in let j = s.1 in omega arith
value_apart w (Fixed64 x) front rest t s e (fault.size f) = omega arith
value_apart w (Fixed64 x) front rest t s e (fault.bytes r v split short) = omega arith
value_apart w (Fixed64 x) front rest t s e (fault.four short) = omega arith
value_apart w (Fixed32 x) front rest t s e (fault.varint f) = omega arith
value_apart w (Fixed32 x) front rest t s e (fault.eight short) = omega arith
value_apart w (Fixed32 x) front rest t s e (fault.size f) = omega arith
value_apart w (Fixed32 x) front rest t s e (fault.bytes r v split short) = omega arith
value_apart {text = text} w (Fixed32 x) front rest t s e (fault.four short) = let l = length_split text front rest e in let k : length front ≡ length
    x = ap length s.0 in let j = s.1 in omega arith
value_apart w (Length x) front rest t s e (fault.varint f) = omega arith
value_apart w (Length x) front rest t s e (fault.eight short) = omega arith
value_apart {text = text} w (Length x) front rest t s e (fault.size f) = varint_apart s.0 (x ++ rest) (length x) s.1
    (e ∙ (ap (λ l. l ++ rest) s.2 ∙ append_assoc s.0 x rest)) f
value_apart {text = text} w (Length x) front rest t s e (fault.bytes {size = size} r {n = n} v split short) =
    let whole : s.0 ++ (x ++ rest) ≡ size ++ r = sym (append_assoc s.0 x rest) ∙ (ap (λ l. l ++ rest) (sym s.2) ∙ (sym e ∙ split)) in
    let o = one_varint s.0 size (x ++ rest) r (length x) n s.1 v whole in
    let same : length x ≡ n = o.1 in
    let l : length r ≡ length x + length rest = ap length (sym o.2) ∙ length-append x rest in
    omega arith
value_apart w (Length x) front rest t s e (fault.four short) = omega arith

-- what may stand at the front of a text
pub record Stood (m : Message) (text : List ℕ) : Type 0 where
  pub field : Field
  pub front : List ℕ
  pub rest : List ℕ
  pub spelled : SpellsField front field
  pub good : AllGood m (field ∷ [])
  pub split : text ≡ front ++ rest

-- the key that a stood field begins with
record Keyed (m : Message) (text : List ℕ) (number wire : ℕ) (rest : List ℕ) : Type 0 where
  field : Field
  value : List ℕ
  after : List ℕ
  is_number : field.number ≡ number
  is_wire : wire_type field.payload ≡ wire
  least : 1 ≤ field.number
  most : field.number ≤ greatest_number
  good : AllGood m (field ∷ [])
  valued : SpellsPayload value field.payload
  split : rest ≡ value ++ after

keyed : (m : Message) (text bytes rest : List ℕ) (number wire : ℕ) → Stood m text → wire < 8 → IsVarint bytes (number * 8 + wire)
    → text ≡ bytes ++ rest → Keyed m text number wire rest
keyed m text bytes rest number wire s w v e =
    let p = s.spelled in
    let whole : p.key ++ (p.value ++ s.rest) ≡ bytes ++ rest = sym (append_assoc p.key p.value s.rest)
    ∙ (ap (λ l. l ++ s.rest) (sym p.split) ∙ (sym s.split ∙ e)) in
    let o = one_varint p.key bytes (p.value ++ s.rest) rest (s.field.number * 8 + wire_type s.field.payload) (number * 8 + wire) p.keyed v whole in
    let k = key_apart s.field.number number (wire_type s.field.payload) wire (type_small s.field.payload) w o.1 in
    record {
      field = s.field;
      value = p.value;
      after = s.rest;
      is_number = k.0;
      is_wire = k.1;
      least = p.least;
      most = p.most;
      good = s.good;
      valued = p.valued;
      split = sym o.2;
    }

pub wire_small : (wire : ℕ) → IsWire wire → wire < 8
wire_small wire h = ⊎_elim (λ e. omega arith) (λ a. ⊎_elim (λ e. omega arith) (λ b. ⊎_elim (λ e. omega arith) (λ e. omega arith) b) a) h

pub wire_is : (p : Payload) (w : ℕ) → wire_type p ≡ w → IsWire w
wire_is (Varint n) w e = inl (sym e)
wire_is (Fixed64 x) w e = inr (inl (sym e))
wire_is (Length x) w e = inr (inr (inl (sym e)))
wire_is (Fixed32 x) w e = inr (inr (inr (sym e)))

-- what stands at the front is this field
same_kind : {m : Message} {text : List ℕ} (f : Field) (front rest : List ℕ) (k : Known) (kind : Kind) → Stood m text → SpellsField front f
    → text ≡ front ++ rest → field_at m f.number ≡ Some k → k.kind ≡ kind → IsOf kind f.payload
same_kind {m = m} f front rest k kind s h e at is =
    let o = one_field s.field f s.front front s.rest rest s.spelled h (sym s.split ∙ e) in
    let g : AllGood m (f ∷ []) = subst (λ (x : Field). AllGood m (x ∷ [])) o.field s.good in
    subst (λ (x : Kind). IsOf x f.payload) is (kind_at f k g at)

key_good : {m : Message} {text rest : List ℕ} (number wire : ℕ) → Keyed m text number wire rest → IsKey number wire
key_good number wire k =
    let n = k.is_number in
    let l = k.least in
    let u = k.most in
    record { least = omega arith; most = omega arith; typed = wire_is k.field.payload wire k.is_wire }

own_typed : {m : Message} {text rest : List ℕ} (number wire : ℕ) (k : Known) → Keyed m text number wire rest → field_at m number ≡ Some k
    → wire ≡ wire_of k.kind
own_typed {m = m} number wire k s at =
    let at' : field_at m s.field.number ≡ Some k = subst (λ (n : ℕ). field_at m n ≡ Some k) (sym s.is_number) at in
    sym s.is_wire ∙ wire_typed k.kind s.field.payload (kind_at s.field k s.good at')

text_not_empty : (bytes rest : List ℕ) (n : ℕ) → IsVarint bytes n → bytes ++ rest ≡ [] → ⊥
text_not_empty [] rest n v e = let w = v.whole in cc
text_not_empty (x ∷ bytes) rest n v e = cc

-- a faulty field has a byte
pub faulty_some : {m : Message} {text : List ℕ} {at : ℕ} {cause : WireCause} → FieldFault m text at cause → text ≡ [] → ⊥
faulty_some (fault.key some f) e = some e
faulty_some (fault.bad_key {bytes = bytes} rest number wire v w bad split) e = text_not_empty bytes rest (number * 8 + wire) v (sym split ∙ e)
faulty_some (fault.wrong_wire {bytes = bytes} rest {number = number} {wire = wire} v k at other split) e = text_not_empty bytes rest
    (number * 8 + wire) v (sym split ∙ e)
faulty_some (fault.value {bytes = bytes} {rest = rest} {number = number} {wire = wire} v k own f split) e = text_not_empty bytes rest
    (number * 8 + wire) v (sym split ∙ e)
faulty_some (fault.utf8 {front = front} {bytes = bytes} rest {number = number} s at kind bad split) e = not_empty
    (record { number = number; payload = Length bytes }) front rest s (sym split ∙ e)
faulty_some (fault.reason {front = front} rest {number = number} {n = n} s at kind big split) e = not_empty
    (record { number = number; payload = Varint n }) front rest s (sym split ∙ e)
faulty_some (fault.inner {bytes = bytes} front rest {number = number} s at kind f split) e = not_empty
    (record { number = number; payload = Length bytes }) (front ++ bytes) rest s (sym split ∙ e)

-- behind fields that begin a text, nothing stands or the next one
pub next_field : {m : Message} {text front : List ℕ} {fs gs : List Field} (rest : List ℕ) → Fields text fs → AllGood m fs → Fields front gs
    → text ≡ front ++ rest → (rest ≡ []) ⊎ Stood m rest
next_field rest fields.none g fields.none e = inl (sym e)
next_field rest (fields.more {front = f} {rest = r} {field = a} s others split) g fields.none e = inr
    (record { field = a; front = f; rest = r; spelled = s; good = good_first g; split = sym e ∙ split })
next_field rest fields.none g (fields.more {front = f} {rest = r} {field = a} s others split) e = absurd
    (not_empty a f (r ++ rest) s (sym (append_assoc f r rest) ∙ (ap (λ l. l ++ rest) (sym split) ∙ sym e)))
next_field rest (fields.more {front = f} {rest = r} {field = a} s others split) g (fields.more {front = h} {rest = t} {field = b} k further kept) e =
    let o = one_field a b f h r (t ++ rest) s k (sym split ∙ (e ∙ (ap (λ l. l ++ rest) kept ∙ append_assoc h t rest))) in
    next_field rest others (good_rest g) further o.rest

pub one_merged : {fs a b : List Field} → Merged fs a → Merged fs b → a ≡ b
one_merged good.none good.none = refl
one_merged (good.retired {inner = x} {more = m} s h) (good.retired {inner = y} {more = n} t k) =
    let i : x ≡ y = one_fields x y s t in
    let j : m ≡ n = one_merged h k in
    cc
one_merged (good.retired s h) (good.other apart k) = absurd (apart refl)
one_merged (good.other apart h) (good.retired t k) = absurd (apart refl)
one_merged (good.other apart h) (good.other apart' k) = one_merged h k

pub one_miss : (m : Message) (fs : List Field) (a b : Option FieldName) → Misses m fs a → Misses m fs b → a ≡ b
one_miss message.Package fs a b x y = sym x.answers ∙ y.answers
one_miss message.Dependency fs a b x y = sym x.answers ∙ y.answers
one_miss message.Retired fs a b x y = sym x.answers ∙ y.answers
one_miss message.Release fs a b x y =
    let e : x.merged ≡ y.merged = one_merged (x.merges refl) (y.merges refl) in
    sym x.answers ∙ (ap (λ (l : List Field). absent_in message.Release l fs) e ∙ y.answers)

mutual
  pub field_apart : {m : Message} {text : List ℕ} {at : ℕ} {cause : WireCause} → Stood m text → FieldFault m text at cause → ⊥
  field_apart s (fault.key some f) =
      let p = s.spelled in
      varint_apart p.key (p.value ++ s.rest) (s.field.number * 8 + wire_type s.field.payload) p.keyed
      (s.split ∙ (ap (λ l. l ++ s.rest) p.split ∙ append_assoc p.key p.value s.rest)) f
  field_apart {m = m} {text = text} s (fault.bad_key {bytes = bytes} rest number wire v w bad split) =
      bad (key_good number wire (keyed m text bytes rest number wire s w v split))
  field_apart {m = m} {text = text} s (fault.wrong_wire {bytes = bytes} rest {number = number} {wire = wire} {k = k} v key at other split) =
      other (own_typed number wire k (keyed m text bytes rest number wire s (wire_small wire key.typed) v split) at)
  field_apart {m = m} {text = text} s (fault.value {bytes = bytes} {rest = rest} {number = number} {wire = wire} v key own f split) =
      let k = keyed m text bytes rest number wire s (wire_small wire key.typed) v split in
      value_apart wire k.field.payload k.value k.after k.is_wire k.valued k.split f
  field_apart s (fault.utf8 {front = front} {bytes = bytes} rest {number = number} {k = k} h at kind bad split) =
      bad (text_inv bytes (same_kind (record { number = number; payload = Length bytes }) front rest k Text s h split at kind))
  field_apart s (fault.reason {front = front} rest {number = number} {n = n} {k = k} h at kind big split) =
      let small = reason_inv n (same_kind (record { number = number; payload = Varint n }) front rest k Reason s h split at kind) in
      omega arith
  field_apart s (fault.inner {inside = inside} {bytes = bytes} front rest {number = number} {k = k} h at kind f split) =
      whole_apart (inner_inv inside bytes
      (same_kind (record { number = number; payload = Length bytes }) (front ++ bytes) rest k (Inner inside) s h split at kind)) f

  pub whole_apart : {m : Message} {text : List ℕ} {at : ℕ} {cause : WireCause} → IsWhole m text → Fault m text at cause → ⊥
  whole_apart (good.whole own all misses) (fault.field {rest = rest} s g f split) = ⊎_elim (λ e. faulty_some f e) (λ x. field_apart x f)
      (next_field rest own all s split)
  whole_apart {m = m} (good.whole {fields = fs} own all misses) (fault.missing {fields = gs} {name = called} s g other) =
      let same : gs ≡ fs = one_fields gs fs s own in
      let e : None ≡ Some called = one_miss m fs None (Some called) misses (subst (λ (l : List Field). Misses m l (Some called)) same other) in
      absurd cc

whole_package : (bytes : List ℕ) (p : Package) → Stands bytes p → IsWhole message.Package bytes
whole_package bytes p s =
    let a : has 2 s.fields ≡ true = has_last bytes_in 2 s.fields p.name s.name in
    let b : has 3 s.fields ≡ true = has_last bytes_in 3 s.fields p.repository s.repository in
    good.whole s.spelled s.good (record { merged = []; merges = λ e. absurd cc; answers = rw (a, b) refl })

pub package_apart : (bytes : List ℕ) (p : Package) (at : ℕ) (cause : WireCause) → Stands bytes p → Fault message.Package bytes at cause → ⊥
package_apart bytes p at cause s f = whole_apart (whole_package bytes p s) f
