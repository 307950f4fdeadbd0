-- Fields that may stand in a message.
use Rattle.std.proofs.Common.{◌≡◌, ℕ, ◌≤◌, Option, Some, None, List, [], ◌∷◌, ◌++◌, refl, sym, ◌∙◌, subst}
use Rattle.std.specs.Prelude.{option_map}
use Rattle.std.specs.Str.{IsUtf8}
use Rattle.hex_messages.specs.declared.message.Message.{Message}
use Rattle.hex_messages.specs.declared.message.Message.TheVariants as message
use Rattle.hex_messages.specs.declared.schema.Kind.{Kind}
use Rattle.hex_messages.specs.declared.schema.Kind.TheVariants.{Text, Reason, Inner}
use Rattle.hex_messages.specs.declared.schema.Known.{Known}
use Rattle.hex_messages.specs.Fields.{Payload, Varint, Fixed64, Length, Fixed32, Field, Fields, wire_type}
use Rattle.hex_messages.specs.Schema.{field_at, wire_of}
use Rattle.hex_messages.specs.Good.{AllGood, IsOf, IsWhole, Misses}
use Rattle.hex_messages.specs.Good as good
use Rattle.hex_messages.specs.Finding.{HasWire}

pub good_append : {m : Message} {fields : List Field} (others : List Field) → AllGood m fields → AllGood m others → AllGood m (fields ++ others)
good_append others good.none h = h
good_append others (good.known k v all) h = good.known k v (good_append others all h)
good_append others (good.unknown k all) h = good.unknown k (good_append others all h)

pub good_first : {m : Message} {f : Field} {fs : List Field} → AllGood m (f ∷ fs) → AllGood m (f ∷ [])
good_first (good.known e v all) = good.known e v good.none
good_first (good.unknown e all) = good.unknown e good.none

pub good_rest : {m : Message} {f : Field} {fs : List Field} → AllGood m (f ∷ fs) → AllGood m fs
good_rest (good.known e v all) = all
good_rest (good.unknown e all) = all

-- the fields in front and behind
pub good_front : {m : Message} (fields others : List Field) → AllGood m (fields ++ others) → AllGood m fields
good_front [] others g = good.none
good_front (f ∷ fields) others g = good_append fields (good_first g) (good_front fields others (good_rest g))

pub good_behind : {m : Message} (fields others : List Field) → AllGood m (fields ++ others) → AllGood m others
good_behind [] others g = g
good_behind (f ∷ fields) others g = good_behind fields others (good_rest g)

pub wire_typed : (k : Kind) (p : Payload) → IsOf k p → wire_type p ≡ wire_of k
wire_typed k p (good.text h) = refl
wire_typed k p good.bytes = refl
wire_typed k p good.truth = refl
wire_typed k p (good.reason h) = refl
wire_typed k p (good.inner h) = refl

-- a field that may stand is of its kind
pub kind_at : {m : Message} (f : Field) (k : Known) → AllGood m (f ∷ []) → field_at m f.number ≡ Some k → IsOf k.kind f.payload
kind_at f k (good.known {k = other} e v all) at = let same : other ≡ k = cc in subst (λ (x : Known). IsOf x.kind f.payload) same v
kind_at f k (good.unknown e all) at = absurd cc

pub text_inv : (b : List ℕ) → IsOf Text (Length b) → IsUtf8 b
text_inv b (good.text h) = h

pub reason_inv : (n : ℕ) → IsOf Reason (Varint n) → n ≤ 4
reason_inv n (good.reason h) = h

pub inner_inv : (m : Message) (b : List ℕ) → IsOf (Inner m) (Length b) → IsWhole m b
inner_inv m b (good.inner h) = h

pub length_of : (p : Payload) → wire_type p ≡ 2 → (bytes : List ℕ) × (p ≡ Length bytes)
length_of (Varint n) e = absurd cc
length_of (Fixed64 bytes) e = absurd cc
length_of (Length bytes) e = (bytes, refl)
length_of (Fixed32 bytes) e = absurd cc

pub varint_of : (p : Payload) → wire_type p ≡ 0 → (n : ℕ) × (p ≡ Varint n)
varint_of (Varint n) e = (n, refl)
varint_of (Fixed64 bytes) e = absurd cc
varint_of (Length bytes) e = absurd cc
varint_of (Fixed32 bytes) e = absurd cc

known_wire : (o : Option Known) (w : ℕ) → option_map (λ (k : Known). wire_of k.kind) o ≡ Some w → (k : Known) × (o ≡ Some k) × (wire_of k.kind ≡ w)
known_wire None w e = absurd cc
known_wire (Some k) w e = (k, refl, cc)

-- a field that may stand has the wire type of its number
pub typed : {m : Message} {f : Field} {fs : List Field} (n w : ℕ) → HasWire m n w → AllGood m (f ∷ fs) → f.number ≡ n → wire_type f.payload ≡ w
typed {m = m} {f = f} n w h g e =
    let k = known_wire (field_at m n) w h in
    let at : field_at m f.number ≡ Some k.0 = subst (λ (x : ℕ). field_at m x ≡ Some k.0) (sym e) k.1 in
    wire_typed k.0.kind f.payload (kind_at f k.0 (good_first g) at) ∙ k.2

-- what a message without a fault is made of
pub record Whole (m : Message) (text : List ℕ) : Type 0 where
  pub fields : List Field
  pub spelled : Fields text fields
  pub good : AllGood m fields
  pub misses : Misses m fields None

pub whole_parts : {m : Message} {text : List ℕ} → IsWhole m text → Whole m text
whole_parts (good.whole {fields = fs} s g misses) = record { fields = fs; spelled = s; good = g; misses = misses }

-- the end of a retirement by itself misses nothing
pub whole_retired : (bytes : List ℕ) (fields : List Field) → Fields bytes fields → AllGood message.Retired fields → IsWhole message.Retired bytes
whole_retired bytes fields s g = good.whole s g (record { merged = []; merges = λ e. absurd cc; answers = refl })
