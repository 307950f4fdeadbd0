-- A message has one first fault.
use Rattle.std.proofs.Common.{◌≡◌, ℕ, ◌+◌, Some, List, [], ◌++◌, length, refl, sym, ap, ◌∙◌, subst, inl, inr, ⊎_elim, ◌⊎◌, arith}
use Rattle.std.proofs.lemmas.List.{append_assoc, append_cancel_right}
use Rattle.hex_messages.specs.declared.error.FieldName.{FieldName}
use Rattle.hex_messages.specs.declared.error.WireCause.{WireCause}
use Rattle.hex_messages.specs.declared.error.WireCause.TheVariants.{BadUtf8, BadEnum, Missing}
use Rattle.hex_messages.specs.declared.message.Message.{Message}
use Rattle.hex_messages.specs.declared.message.Message.TheVariants as message
use Rattle.hex_messages.specs.Fields.{Payload, Varint, Length, Field, Fields, SpellsField, wire_type}
use Rattle.hex_messages.specs.Fields as fields
use Rattle.hex_messages.specs.declared.schema.Kind.{Kind}
use Rattle.hex_messages.specs.declared.schema.Kind.TheVariants.{Text, Reason, Inner}
use Rattle.hex_messages.specs.declared.schema.Known.{Known}
use Rattle.hex_messages.specs.Schema.{field_at}
use Rattle.hex_messages.specs.Good.{AllGood, Misses}
use Rattle.hex_messages.specs.Faults.{VarintFault, ValueFault, IsWire, IsKey, IsOwnWire, FieldFault, Fault}
use Rattle.hex_messages.specs.Faults as fault
use Rattle.hex_messages.proofs.OneReading.{one_field, one_fields}
use Rattle.hex_messages.proofs.Apart.{length_split, wire_small, Stood, field_apart, faulty_some, next_field, one_miss}
use Rattle.hex_messages.proofs.GoodLemmas.{good_first, good_rest}
use Rattle.hex_messages.proofs.EarlyFaults.{sound_of, Last, sound_view, kind_wire, Early, view, Same, one_known, early_one, early_last, utf8, reason, inner, keyless, refused, wrong, valueless}

-- a value with a length has one place
last_front : (front bytes front' bytes' : List ℕ) → front ++ bytes ≡ front' ++ bytes' → bytes ≡ bytes' → front ≡ front'
last_front front bytes front' bytes' e b = append_cancel_right front front' bytes (e ∙ ap (λ l. front' ++ l) (sym b))

kinds_apart : (k j : Known) (x y : Kind) → k ≡ j → k.kind ≡ x → j.kind ≡ y → x ≡ y
kinds_apart k j x y e a b = sym a ∙ (ap (λ (z : Known). z.kind) e ∙ b)

-- the behind fields of two beginnings, one goes on or they are one
meet : {m : Message} {f h : List ℕ} {fs gs : List Field} (r t : List ℕ) → Fields f fs → Fields h gs → AllGood m fs → AllGood m gs → f ++ r ≡ h ++ t
    → ((length f ≡ length h) × (r ≡ t)) ⊎ (Stood m r ⊎ Stood m t)
meet r t fields.none fields.none a b e = inl (refl, e)
meet r t fields.none (fields.more {front = x} {rest = y} {field = z} s others split) a b e = inr
    (inl (record {
      field = z;
      front = x;
      rest = y ++ t;
      spelled = s;
      good = good_first b;
      split = e ∙ (ap (λ l. l ++ t) split ∙ append_assoc x y t);
    }))
meet r t (fields.more {front = x} {rest = y} {field = z} s others split) fields.none a b e = inr
    (inr (record {
      field = z;
      front = x;
      rest = y ++ r;
      spelled = s;
      good = good_first a;
      split = sym e ∙ (ap (λ l. l ++ r) split ∙ append_assoc x y r);
    }))
meet {f = f} {h = h} r t (fields.more {front = x} {rest = y} {field = z} s others split)
    (fields.more {front = x'} {rest = y'} {field = z'} s' others' split') a b e =
    let o = one_field z z' x x' (y ++ r) (y' ++ t) s s'
    (sym (append_assoc x y r) ∙ (ap (λ l. l ++ r) (sym split) ∙ (e ∙ (ap (λ l. l ++ t) split' ∙ append_assoc x' y' t)))) in
    ⊎_elim
    (λ w. inl (let i = length_split f x y split in let j = length_split h x' y' split' in let k = ap length o.front in let q = w.0 in
    (omega arith, w.1)))
    (λ w. inr w)
    (meet r t others others' (good_rest a) (good_rest b) o.rest)

missing_one : (x y : FieldName) → Some x ≡ Some y → Missing x ≡ Missing y
missing_one x y e = cc

abbrev length_in : Payload → List ℕ
length_in (Length b) = b
length_in p = []

text_inner : (m : Message) → Text ≡ Inner m → ⊥
text_inner m e = cc

text_reason : Text ≡ Reason → ⊥
text_reason e = cc

reason_inner : (m : Message) → Reason ≡ Inner m → ⊥
reason_inner m e = cc

inner_inner : (m n : Message) → Inner m ≡ Inner n → m ≡ n
inner_inner m n e = cc

-- one field of a text, seen twice
one_seen : (m : Message) (text f r g s : List ℕ) (a b : Field) (k j : Known) (x y : Kind) → SpellsField f a → SpellsField g b → text ≡ f ++ r
    → text ≡ g ++ s → field_at m a.number ≡ Some k → field_at m b.number ≡ Some j → k.kind ≡ x → j.kind ≡ y → (a ≡ b) × (f ≡ g) × (k ≡ j) × (x ≡ y)
one_seen m text f r g s a b k j x y h i e q at bt kx jy =
    let o = one_field a b f g r s h i (sym e ∙ q) in
    let n : a.number ≡ b.number = ap (λ (z : Field). z.number) o.field in
    let kj : k ≡ j = one_known m a.number b.number k j n at bt in
    (o.field, o.front, kj, kinds_apart k j x y kj kx jy)

abbrev as_field : ℕ → Payload → Field
as_field n p = record { number = n; payload = p }

text_last : {m : Message} {text : List ℕ} {b : ℕ} {d : WireCause} (front rest bytes : List ℕ) (n : ℕ) (k : Known)
    → SpellsField front (as_field n (Length bytes)) → field_at m n ≡ Some k → k.kind ≡ Text → text ≡ front ++ rest → Last m text b d
    → Same 0 b (BadUtf8 k.name) d
text_last {m = m} {text = text} front rest bytes n k h at kind e (utf8 front' rest' bytes' n' k' h' at' kind' e') =
    let o = one_seen m text front rest front' rest' (as_field n (Length bytes)) (as_field n' (Length bytes')) k k' Text Text h h' e e' at at' kind
    kind' in
    record { at = refl; cause = ap (λ (z : Known). BadUtf8 z.name) o.2 }
text_last {m = m} {text = text} front rest bytes n k h at kind e (reason front' rest' n' x' k' h' at' kind' e') =
    let o = one_seen m text front rest front' rest' (as_field n (Length bytes)) (as_field n' (Varint x')) k k' Text Reason h h' e e' at at' kind kind'
    in
    absurd (text_reason o.3)
text_last {m = m} {text = text} front rest bytes n k h at kind e (inner inside front' rest' bytes' n' a' k' c' h' at' kind' f' e') =
    let o = one_seen m text front rest (front' ++ bytes') rest' (as_field n (Length bytes)) (as_field n' (Length bytes')) k k' Text (Inner inside) h
    h' e e' at at' kind kind' in
    absurd (text_inner inside o.3)

reason_last : {m : Message} {text : List ℕ} {b : ℕ} {d : WireCause} (front rest : List ℕ) (n x : ℕ) (k : Known)
    → SpellsField front (as_field n (Varint x)) → field_at m n ≡ Some k → k.kind ≡ Reason → text ≡ front ++ rest → Last m text b d
    → Same 0 b BadEnum d
reason_last {m = m} {text = text} front rest n x k h at kind e (utf8 front' rest' bytes' n' k' h' at' kind' e') =
    let o = one_seen m text front rest front' rest' (as_field n (Varint x)) (as_field n' (Length bytes')) k k' Reason Text h h' e e' at at' kind kind'
    in
    absurd (text_reason (sym o.3))
reason_last front rest n x k h at kind e (reason front' rest' n' x' k' h' at' kind' e') = record { at = refl; cause = refl }
reason_last {m = m} {text = text} front rest n x k h at kind e (inner inside front' rest' bytes' n' a' k' c' h' at' kind' f' e') =
    let o = one_seen m text front rest (front' ++ bytes') rest' (as_field n (Varint x)) (as_field n' (Length bytes')) k k' Reason (Inner inside) h h'
    e e' at at' kind kind' in
    absurd (reason_inner inside o.3)

-- the same message within, and where it begins
record Within (inside : Message) (front bytes : List ℕ) (b : ℕ) (d : WireCause) : Type 0 where
  at : ℕ
  fault : Fault inside bytes at d
  place : b ≡ length front + at

inner_last : {m : Message} {text : List ℕ} {b : ℕ} {d : WireCause} (inside : Message) (front rest bytes : List ℕ) (n : ℕ) (k : Known)
    → SpellsField (front ++ bytes) (as_field n (Length bytes)) → field_at m n ≡ Some k → k.kind ≡ Inner inside → text ≡ front ++ bytes ++ rest
    → Last m text b d → Within inside front bytes b d
inner_last {m = m} {text = text} inside front rest bytes n k h at kind e (utf8 front' rest' bytes' n' k' h' at' kind' e') =
    let o = one_seen m text (front ++ bytes) rest front' rest' (as_field n (Length bytes)) (as_field n' (Length bytes')) k k' (Inner inside) Text h h'
    e e' at at' kind kind' in
    absurd (text_inner inside (sym o.3))
inner_last {m = m} {text = text} inside front rest bytes n k h at kind e (reason front' rest' n' x' k' h' at' kind' e') =
    let o = one_seen m text (front ++ bytes) rest front' rest' (as_field n (Length bytes)) (as_field n' (Varint x')) k k' (Inner inside) Reason h h' e
    e' at at' kind kind' in
    absurd (reason_inner inside (sym o.3))
inner_last {m = m} {text = text} inside front rest bytes n k h at kind e (inner inside' front' rest' bytes' n' a' k' c' h' at' kind' f' e') =
    let o = one_seen m text (front ++ bytes) rest (front' ++ bytes') rest' (as_field n (Length bytes)) (as_field n' (Length bytes')) k k'
    (Inner inside) (Inner inside') h h' e e' at at' kind kind' in
    let same : bytes ≡ bytes' = ap (λ (z : Field). length_in z.payload) o.0 in
    let fronts : front ≡ front' = last_front front bytes front' bytes' o.1 same in
    let m' : inside' ≡ inside = sym (inner_inner inside inside' o.3) in
    record {
      at = a';
      fault = subst (λ (l : List ℕ). Fault inside l a' c') (sym same) (subst (λ (z : Message). Fault z bytes' a' c') m' f');
      place = ap (λ (l : List ℕ). length l + a') (sym fronts);
    }

early_or_last : {m : Message} {text : List ℕ} {a b : ℕ} {c d : WireCause} → Early m text a c → FieldFault m text b d → Same a b c d
early_or_last early second = ⊎_elim (λ e. early_one early e) (λ l. absurd (early_last early l)) (view second)

mutual
  one_field_fault : {m : Message} {text : List ℕ} {a b : ℕ} {c d : WireCause} → FieldFault m text a c → FieldFault m text b d → Same a b c d
  one_field_fault (fault.key some f) second = early_or_last (keyless f) second
  one_field_fault (fault.bad_key {bytes = bytes} rest number wire v small bad e) second = early_or_last
      (refused number wire rest (record { bytes = bytes; varint = v; small = small; split = e }) bad) second
  one_field_fault (fault.wrong_wire {bytes = bytes} rest {number = number} {wire = wire} {k = known} v may at other e) second = early_or_last
      (wrong number wire rest known (record { bytes = bytes; varint = v; small = wire_small wire may.typed; split = e }) may at other) second
  one_field_fault (fault.value {bytes = bytes} {rest = rest} {number = number} {wire = wire} v may own f e) second = early_or_last
      (valueless number wire rest (record { bytes = bytes; varint = v; small = wire_small wire may.typed; split = e }) may own f) second
  one_field_fault {m = m} {text = text} (fault.utf8 {front = front} {bytes = bytes} rest {number = number} {k = known} h at kind bad e) second =
      let s = sound_of m text front rest (as_field number (Length bytes)) known h e at (kind_wire known Text 2 kind refl) in
      text_last front rest bytes number known h at kind e (sound_view number 2 (h.value ++ rest) s second)
  one_field_fault {m = m} {text = text} (fault.reason {front = front} rest {number = number} {n = x} {k = known} h at kind big e) second =
      let s = sound_of m text front rest (as_field number (Varint x)) known h e at (kind_wire known Reason 0 kind refl) in
      reason_last front rest number x known h at kind e (sound_view number 0 (h.value ++ rest) s second)
  one_field_fault {m = m} {text = text} (fault.inner {inside = inside} {bytes = bytes} front rest {number = number} {k = known} h at kind f e)
      second =
      let s = sound_of m text (front ++ bytes) rest (as_field number (Length bytes)) known h e at (kind_wire known (Inner inside) 2 kind refl) in
      let w = inner_last inside front rest bytes number known h at kind e (sound_view number 2 (h.value ++ rest) s second) in
      let o = one_fault f w.fault in
      record { at = ap (λ (n : ℕ). length front + n) o.at ∙ sym w.place; cause = o.cause }

  one_fault : {m : Message} {text : List ℕ} {a b : ℕ} {c d : WireCause} → Fault m text a c → Fault m text b d → Same a b c d
  one_fault {m = m} {d = d} (fault.field {front = front} {rest = rest} s g f e) (fault.field {front = front'} {rest = rest'} {at = b} s' g' f' e') =
      ⊎_elim
      (λ w.
      let o = one_field_fault f (subst (λ (l : List ℕ). FieldFault m l b d) (sym w.1) f') in
      record { at = ap (λ (n : ℕ). length front + n) o.at ∙ ap (λ (n : ℕ). n + b) w.0; cause = o.cause })
      (λ w. absurd (⊎_elim (λ x. field_apart x f) (λ x. field_apart x f') w))
      (meet rest rest' s s' g g' (sym e ∙ e'))
  one_fault (fault.field {rest = rest} s g f e) (fault.missing s' g' misses) = absurd
      (⊎_elim (λ x. faulty_some f x) (λ x. field_apart x f) (next_field rest s' g' s e))
  one_fault (fault.missing s g misses) (fault.field {rest = rest} s' g' f e) = absurd
      (⊎_elim (λ x. faulty_some f x) (λ x. field_apart x f) (next_field rest s g s' e))
  one_fault {m = m} (fault.missing {fields = fs} {name = x} s g misses) (fault.missing {fields = gs} {name = y} s' g' misses') =
      let same : gs ≡ fs = one_fields gs fs s' s in
      let e : Some x ≡ Some y = one_miss m fs (Some x) (Some y) misses (subst (λ (l : List Field). Misses m l (Some y)) same misses') in
      record { at = refl; cause = missing_one x y e }

pub one_first_fault : (bytes : List ℕ) (at other : ℕ) (c d : WireCause) → Fault message.Package bytes at c → Fault message.Package bytes other d
    → (at ≡ other) × (c ≡ d)
one_first_fault bytes at other c d x y = let o = one_fault x y in (o.at, o.cause)
