-- The faults of a field before its content, and those of its content.
use Rattle.std.proofs.Common.{◌≡◌, ℕ, ◌+◌, ◌*◌, ◌<◌, ◌≤◌, true, Option, Some, List, ◌++◌, length, take, refl, sym, ap, ◌∙◌, subst, inl, inr, ◌⊎◌, arith}
use Rattle.std.specs.List.{list_all}
use Rattle.std.proofs.lemmas.List.{append_assoc, take_all}
use Rattle.hex_messages.specs.declared.error.WireCause.{WireCause}
use Rattle.hex_messages.specs.declared.error.WireCause.TheVariants.{BadKey, BadUtf8, BadEnum, WrongWire}
use Rattle.hex_messages.specs.declared.message.Message.{Message}
use Rattle.hex_messages.specs.Varint.{goes_on, is_whole, IsVarint}
use Rattle.hex_messages.specs.Fields.{Varint, Length, Field, SpellsField, wire_type}
use Rattle.hex_messages.specs.declared.schema.Kind.{Kind}
use Rattle.hex_messages.specs.declared.schema.Kind.TheVariants.{Text, Reason, Inner}
use Rattle.hex_messages.specs.declared.schema.Known.{Known}
use Rattle.hex_messages.specs.Schema.{field_at, wire_of}
use Rattle.hex_messages.specs.Faults.{VarintFault, ValueFault, IsWire, IsKey, IsOwnWire, FieldFault, Fault}
use Rattle.hex_messages.specs.Faults as fault
use Rattle.hex_messages.proofs.VarintLemmas.{whole_stops, one_varint}
use Rattle.hex_messages.proofs.OneReading.{key_apart, type_small}
use Rattle.hex_messages.proofs.Apart.{varint_apart, value_apart, wire_is, wire_small}

pub great_not_cut : {text : List ℕ} (f r : List ℕ) → is_whole f ≡ true → length f ≤ 10 → text ≡ f ++ r → length text < 10
    → list_all goes_on text ≡ true → ⊥
great_not_cut {text = text} f r w short e few on =
    let all : take 10 text ≡ text = take_all 10 text (omega arith) in
    whole_stops f r 10 w short (subst (λ l. list_all goes_on (take 10 l) ≡ true) e (rw all on))

pub one_varint_fault : {text : List ℕ} {c d : WireCause} → VarintFault text c → VarintFault text d → c ≡ d
one_varint_fault (fault.long a b) (fault.long x y) = refl
one_varint_fault (fault.long a b) (fault.great f r w s big e) = refl
one_varint_fault (fault.long a b) (fault.cut few on) = absurd (omega arith)
one_varint_fault (fault.great f r w s big e) (fault.long x y) = refl
one_varint_fault (fault.great f r w s big e) (fault.great g t v u large k) = refl
one_varint_fault (fault.great f r w s big e) (fault.cut few on) = absurd (great_not_cut f r w s e few on)
one_varint_fault (fault.cut few on) (fault.long x y) = absurd (omega arith)
one_varint_fault (fault.cut few on) (fault.great f r w s big e) = absurd (great_not_cut f r w s e few on)
one_varint_fault (fault.cut few on) (fault.cut few' on') = refl

pub one_value_fault : {text : List ℕ} {c d : WireCause} (w v : ℕ) → w ≡ v → ValueFault w text c → ValueFault v text d → c ≡ d
one_value_fault w v e (fault.varint a) (fault.varint b) = one_varint_fault a b
one_value_fault w v e (fault.varint a) (fault.eight b) = absurd (omega arith)
one_value_fault w v e (fault.varint a) (fault.size b) = absurd (omega arith)
one_value_fault w v e (fault.varint a) (fault.bytes r k s b) = absurd (omega arith)
one_value_fault w v e (fault.varint a) (fault.four b) = absurd (omega arith)
one_value_fault w v e (fault.eight a) (fault.varint b) = absurd (omega arith)
one_value_fault w v e (fault.eight a) (fault.eight b) = refl
one_value_fault w v e (fault.eight a) (fault.size b) = absurd (omega arith)
one_value_fault w v e (fault.eight a) (fault.bytes r k s b) = refl
one_value_fault w v e (fault.eight a) (fault.four b) = refl
one_value_fault w v e (fault.size a) (fault.varint b) = absurd (omega arith)
one_value_fault w v e (fault.size a) (fault.eight b) = absurd (omega arith)
one_value_fault w v e (fault.size a) (fault.size b) = one_varint_fault a b
one_value_fault w v e (fault.size a) (fault.bytes {size = size} r {n = n} k s b) = absurd (varint_apart size r n k s a)
one_value_fault w v e (fault.size a) (fault.four b) = absurd (omega arith)
one_value_fault w v e (fault.bytes r k s a) (fault.varint b) = absurd (omega arith)
one_value_fault w v e (fault.bytes r k s a) (fault.eight b) = refl
one_value_fault w v e (fault.bytes {size = size} r {n = n} k s a) (fault.size b) = absurd (varint_apart size r n k s b)
one_value_fault w v e (fault.bytes r k s a) (fault.bytes r' k' s' b) = refl
one_value_fault w v e (fault.bytes r k s a) (fault.four b) = refl
one_value_fault w v e (fault.four a) (fault.varint b) = absurd (omega arith)
one_value_fault w v e (fault.four a) (fault.eight b) = refl
one_value_fault w v e (fault.four a) (fault.size b) = absurd (omega arith)
one_value_fault w v e (fault.four a) (fault.bytes r k s b) = refl
one_value_fault w v e (fault.four a) (fault.four b) = refl

-- the key that a text begins with
pub record Key (text : List ℕ) (number wire : ℕ) (after : List ℕ) : Type 0 where
  pub bytes : List ℕ
  pub varint : IsVarint bytes (number * 8 + wire)
  pub small : wire < 8
  pub split : text ≡ bytes ++ after

pub record SameKey (n m w v : ℕ) (after rest : List ℕ) : Type 0 where
  pub number : n ≡ m
  pub wire : w ≡ v
  pub behind : after ≡ rest

pub keys_same : (text : List ℕ) (n w m v : ℕ) (a b : List ℕ) → Key text n w a → Key text m v b → SameKey n m w v a b
keys_same text n w m v a b h k =
    let o = one_varint h.bytes k.bytes a b (n * 8 + w) (m * 8 + v) h.varint k.varint (sym h.split ∙ k.split) in
    let p = key_apart n m w v h.small k.small o.1 in
    record { number = p.0; wire = p.1; behind = o.2 }

pub no_key : {text a : List ℕ} {c : WireCause} (n w : ℕ) → Key text n w a → VarintFault text c → ⊥
no_key {a = a} n w k f = varint_apart k.bytes a (n * 8 + w) k.varint k.split f

pub key_move : (n m w v : ℕ) → n ≡ m → w ≡ v → IsKey m v → IsKey n w
key_move n m w v e f k = let l = k.least in let u = k.most in record { least = omega arith; most = omega arith; typed = subst IsWire (sym f) k.typed }

pub own_move : (m : Message) (n k w v : ℕ) → n ≡ k → w ≡ v → IsOwnWire (field_at m k) v → IsOwnWire (field_at m n) w
own_move m n k w v e f o = subst (λ (x : ℕ). IsOwnWire (field_at m n) x) (sym f) (subst (λ (x : ℕ). IsOwnWire (field_at m x) v) (sym e) o)

pub own_at : (m : Message) (n w : ℕ) (k : Known) → field_at m n ≡ Some k → IsOwnWire (field_at m n) w → w ≡ wire_of k.kind
own_at m n w k at own = subst (λ (o : Option Known). IsOwnWire o w) at own

-- a known field whose value is spelled in full
pub record Sound (m : Message) (text : List ℕ) (n w : ℕ) (after : List ℕ) : Type 0 where
  pub key : Key text n w after
  pub may : IsKey n w
  pub own : IsOwnWire (field_at m n) w
  pub full : (c : WireCause) → ValueFault w after c → ⊥

pub own_from : (m : Message) (n w : ℕ) (k : Known) → field_at m n ≡ Some k → w ≡ wire_of k.kind → IsOwnWire (field_at m n) w
own_from m n w k at e = subst (λ (o : Option Known). IsOwnWire o w) (sym at) e

pub sound_of : (m : Message) (text front rest : List ℕ) (f : Field) (k : Known) (s : SpellsField front f) → text ≡ front ++ rest
    → field_at m f.number ≡ Some k → wire_type f.payload ≡ wire_of k.kind → Sound m text f.number (wire_type f.payload) (s.value ++ rest)
sound_of m text front rest f k s e at typed = record {
  key = record {
    bytes = s.key;
    varint = s.keyed;
    small = type_small f.payload;
    split = e ∙ (ap (λ l. l ++ rest) s.split ∙ append_assoc s.key s.value rest);
  };
  may = record { least = s.least; most = s.most; typed = wire_is f.payload (wire_type f.payload) refl };
  own = own_from m f.number (wire_type f.payload) k at typed;
  full = λ c v. value_apart (wire_type f.payload) f.payload s.value rest refl s.valued refl v;
}

-- the faults behind a value that is spelled in full
pub data Last : Message → List ℕ → ℕ → WireCause → Type 0 where
  utf8 : {m : Message} {text : List ℕ} (front rest bytes : List ℕ) (n : ℕ) (k : Known)
      → SpellsField front (record { number = n; payload = Length bytes }) → field_at m n ≡ Some k → k.kind ≡ Text → text ≡ front ++ rest
      → Last m text 0 (BadUtf8 k.name)
  reason : {m : Message} {text : List ℕ} (front rest : List ℕ) (n x : ℕ) (k : Known) → SpellsField front (record { number = n; payload = Varint x })
      → field_at m n ≡ Some k → k.kind ≡ Reason → text ≡ front ++ rest → Last m text 0 BadEnum
  inner : {m : Message} {text : List ℕ} (inside : Message) (front rest bytes : List ℕ) (n at : ℕ) (k : Known) (c : WireCause)
      → SpellsField (front ++ bytes) (record { number = n; payload = Length bytes }) → field_at m n ≡ Some k → k.kind ≡ Inner inside
      → Fault inside bytes at c → text ≡ front ++ bytes ++ rest → Last m text (length front + at) c

pub sound_view : {m : Message} {text : List ℕ} {b : ℕ} {d : WireCause} (n w : ℕ) (a : List ℕ) → Sound m text n w a → FieldFault m text b d
    → Last m text b d
sound_view n w a s (fault.key some f) = absurd (no_key n w s.key f)
sound_view {text = text} n w a s (fault.bad_key {bytes = bytes} rest number wire v small bad e) =
    let k = keys_same text n w number wire a rest s.key (record { bytes = bytes; varint = v; small = small; split = e }) in
    absurd (bad (key_move number n wire w (sym k.number) (sym k.wire) s.may))
sound_view {m = m} {text = text} n w a s (fault.wrong_wire {bytes = bytes} rest {number = number} {wire = wire} {k = known} v may at other e) =
    let k = keys_same text n w number wire a rest s.key (record { bytes = bytes; varint = v; small = wire_small wire may.typed; split = e }) in
    absurd (other (own_at m number wire known at (own_move m number n wire w (sym k.number) (sym k.wire) s.own)))
sound_view {text = text} {d = d} n w a s (fault.value {bytes = bytes} {rest = rest} {number = number} {wire = wire} v may own f e) =
    let k = keys_same text n w number wire a rest s.key (record { bytes = bytes; varint = v; small = wire_small wire may.typed; split = e }) in
    absurd (s.full d (subst (λ (x : ℕ). ValueFault x a d) (sym k.wire) (subst (λ (l : List ℕ). ValueFault wire l d) (sym k.behind) f)))
sound_view n w a s (fault.utf8 {front = front} {bytes = bytes} rest {number = number} {k = known} h at kind bad e) = utf8 front rest bytes number
    known h at kind e
sound_view n w a s (fault.reason {front = front} rest {number = number} {n = x} {k = known} h at kind big e) = reason front rest number x known h at
    kind e
sound_view n w a s (fault.inner {inside = inside} {bytes = bytes} front rest {number = number} {at = at} {k = known} {cause = c} h known_at kind f e)
    = inner inside front rest bytes number at known c h known_at kind f e

pub kind_wire : (k : Known) (kind : Kind) (w : ℕ) → k.kind ≡ kind → w ≡ wire_of kind → w ≡ wire_of k.kind
kind_wire k kind w e h = h ∙ ap wire_of (sym e)

-- what stands behind the key of a fault of the content
pub last_sound : {m : Message} {text : List ℕ} {b : ℕ} {d : WireCause} → Last m text b d → (n : ℕ) × (w : ℕ) × (a : List ℕ) × Sound m text n w a
last_sound {m = m} {text = text} (utf8 front rest bytes n k s at kind e) =
    (n, 2, s.value ++ rest, sound_of m text front rest (record { number = n; payload = Length bytes }) k s e at (kind_wire k Text 2 kind refl))
last_sound {m = m} {text = text} (reason front rest n x k s at kind e) =
    (n, 0, s.value ++ rest, sound_of m text front rest (record { number = n; payload = Varint x }) k s e at (kind_wire k Reason 0 kind refl))
last_sound {m = m} {text = text} (inner inside front rest bytes n at k c s known_at kind f e) = (
  n,
  2,
  s.value ++ rest,
  sound_of m text (front ++ bytes) rest (record { number = n; payload = Length bytes }) k s e known_at
      (kind_wire k (Inner inside) 2 kind refl),
)

-- the faults before that
pub data Early : Message → List ℕ → ℕ → WireCause → Type 0 where
  keyless : {m : Message} {text : List ℕ} {c : WireCause} → VarintFault text c → Early m text 0 c
  refused : {m : Message} {text : List ℕ} (n w : ℕ) (a : List ℕ) → Key text n w a → (IsKey n w → ⊥) → Early m text 0 BadKey
  wrong : {m : Message} {text : List ℕ} (n w : ℕ) (a : List ℕ) (k : Known) → Key text n w a → IsKey n w → field_at m n ≡ Some k
      → (w ≡ wire_of k.kind → ⊥) → Early m text 0 (WrongWire k.name)
  valueless : {m : Message} {text : List ℕ} {c : WireCause} (n w : ℕ) (a : List ℕ) → Key text n w a → IsKey n w → IsOwnWire (field_at m n) w
      → ValueFault w a c → Early m text 0 c

pub view : {m : Message} {text : List ℕ} {b : ℕ} {d : WireCause} → FieldFault m text b d → Early m text b d ⊎ Last m text b d
view (fault.key some f) = inl (keyless f)
view (fault.bad_key {bytes = bytes} rest number wire v small bad e) = inl
    (refused number wire rest (record { bytes = bytes; varint = v; small = small; split = e }) bad)
view (fault.wrong_wire {bytes = bytes} rest {number = number} {wire = wire} {k = known} v may at other e) = inl
    (wrong number wire rest known (record { bytes = bytes; varint = v; small = wire_small wire may.typed; split = e }) may at other)
view (fault.value {bytes = bytes} {rest = rest} {number = number} {wire = wire} v may own f e) = inl
    (valueless number wire rest (record { bytes = bytes; varint = v; small = wire_small wire may.typed; split = e }) may own f)
view (fault.utf8 {front = front} {bytes = bytes} rest {number = number} {k = known} h at kind bad e) = inr
    (utf8 front rest bytes number known h at kind e)
view (fault.reason {front = front} rest {number = number} {n = x} {k = known} h at kind big e) = inr (reason front rest number x known h at kind e)
view (fault.inner {inside = inside} {bytes = bytes} front rest {number = number} {at = at} {k = known} {cause = c} h known_at kind f e) = inr
    (inner inside front rest bytes number at known c h known_at kind f e)

pub record Same (a b : ℕ) (c d : WireCause) : Type 0 where
  pub at : a ≡ b
  pub cause : c ≡ d

-- a key that may stand, and one that may not, are two
pub key_clash : (text : List ℕ) (n w m v : ℕ) (a b : List ℕ) → Key text n w a → Key text m v b → (IsKey n w → ⊥) → IsKey m v → ⊥
key_clash text n w m v a b h k bad may = let s = keys_same text n w m v a b h k in bad (key_move n m w v s.number s.wire may)

pub own_clash : (m : Message) (text : List ℕ) (n w o v : ℕ) (a b : List ℕ) (k : Known) → Key text n w a → Key text o v b → field_at m n ≡ Some k
    → (w ≡ wire_of k.kind → ⊥) → IsOwnWire (field_at m o) v → ⊥
own_clash m text n w o v a b k h j at other own = let s = keys_same text n w o v a b h j in other
    (own_at m n w k at (own_move m n o w v s.number s.wire own))

pub one_known : (m : Message) (n o : ℕ) (k j : Known) → n ≡ o → field_at m n ≡ Some k → field_at m o ≡ Some j → k ≡ j
one_known m n o k j e x y = let w : field_at m n ≡ field_at m o = ap (λ (z : ℕ). field_at m z) e in cc

pub early_one : {m : Message} {text : List ℕ} {a b : ℕ} {c d : WireCause} → Early m text a c → Early m text b d → Same a b c d
early_one (keyless f) (keyless g) = record { at = refl; cause = one_varint_fault f g }
early_one (keyless f) (refused n w a k bad) = absurd (no_key n w k f)
early_one (keyless f) (wrong n w a j k may at other) = absurd (no_key n w k f)
early_one (keyless f) (valueless n w a k may own g) = absurd (no_key n w k f)
early_one (refused n w a k bad) (keyless g) = absurd (no_key n w k g)
early_one (refused n w a k bad) (refused n' w' a' k' bad') = record { at = refl; cause = refl }
early_one {text = text} (refused n w a k bad) (wrong n' w' a' j k' may at other) = absurd (key_clash text n w n' w' a a' k k' bad may)
early_one {text = text} (refused n w a k bad) (valueless n' w' a' k' may own g) = absurd (key_clash text n w n' w' a a' k k' bad may)
early_one (wrong n w a j k may at other) (keyless g) = absurd (no_key n w k g)
early_one {text = text} (wrong n w a j k may at other) (refused n' w' a' k' bad) = absurd (key_clash text n' w' n w a' a k' k bad may)
early_one {m = m} {text = text} (wrong n w a j k may at other) (wrong n' w' a' j' k' may' at' other') =
    let s = keys_same text n w n' w' a a' k k' in
    record { at = refl; cause = ap (λ (x : Known). WrongWire x.name) (one_known m n n' j j' s.number at at') }
early_one {m = m} {text = text} (wrong n w a j k may at other) (valueless n' w' a' k' may' own g) = absurd
    (own_clash m text n w n' w' a a' j k k' at other own)
early_one (valueless n w a k may own f) (keyless g) = absurd (no_key n w k g)
early_one {text = text} (valueless n w a k may own f) (refused n' w' a' k' bad) = absurd (key_clash text n' w' n w a' a k' k bad may)
early_one {m = m} {text = text} (valueless n w a k may own f) (wrong n' w' a' j k' may' at other) = absurd
    (own_clash m text n' w' n w a' a j k' k at other own)
early_one {text = text} {d = d} (valueless n w a k may own f) (valueless n' w' a' k' may' own' g) =
    let s = keys_same text n w n' w' a a' k k' in
    record { at = refl; cause = one_value_fault w w' s.wire f (subst (λ (l : List ℕ). ValueFault w' l d) (sym s.behind) g) }

pub sound_early : {m : Message} {text : List ℕ} {b : ℕ} {d : WireCause} (n w : ℕ) (a : List ℕ) → Sound m text n w a → Early m text b d → ⊥
sound_early n w a s (keyless f) = no_key n w s.key f
sound_early {text = text} n w a s (refused n' w' a' k bad) = key_clash text n' w' n w a' a k s.key bad s.may
sound_early {m = m} {text = text} n w a s (wrong n' w' a' j k may at other) = own_clash m text n' w' n w a' a j k s.key at other s.own
sound_early {text = text} {d = d} n w a s (valueless n' w' a' k may own f) =
    let e = keys_same text n w n' w' a a' s.key k in
    s.full d (subst (λ (x : ℕ). ValueFault x a d) (sym e.wire) (subst (λ (l : List ℕ). ValueFault w' l d) (sym e.behind) f))

pub early_last : {m : Message} {text : List ℕ} {a b : ℕ} {c d : WireCause} → Early m text a c → Last m text b d → ⊥
early_last {m = m} {text = text} {c = c} early last =
    let s = last_sound last in
    sound_early s.0 s.1 s.2 s.3 early
