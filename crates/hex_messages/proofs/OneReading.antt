-- A text is the fields of one list at most.
use Rattle.std.proofs.Common.{◌≡◌, ℕ, ◌+◌, ◌*◌, ◌<◌, true, Option, Some, None, List, [], ◌∷◌, ◌++◌, length, refl, sym, ap, ◌∙◌, subst, arith}
use Rattle.std.proofs.lemmas.List.{append_assoc}
use Rattle.hex_messages.specs.declared.message.Message.TheVariants as message
use Rattle.hex_messages.specs.Varint.{is_whole}
use Rattle.hex_messages.specs.Fields.{Payload, Varint, Fixed64, Length, Fixed32, Field, Fields, none, more, SpellsField, SpellsPayload, wire_type}
use Rattle.hex_messages.specs.declared.schema.Kind.{Kind}
use Rattle.hex_messages.specs.declared.schema.Kind.TheVariants.{Text, Inner}
use Rattle.hex_messages.specs.declared.schema.Known.{Known}
use Rattle.hex_messages.specs.Schema.{field_at, retired_number}
use Rattle.hex_messages.specs.Good.{AllGood, IsOf, IsWhole, Merged}
use Rattle.hex_messages.specs.Good as good
use Rattle.hex_messages.proofs.VarintLemmas.{one_varint}
use Rattle.hex_messages.proofs.GoodLemmas.{good_append}

-- fronts of one length
pub same_fronts : (f g r s : List ℕ) → length f ≡ length g → f ++ r ≡ g ++ s → (f ≡ g) × (r ≡ s)
same_fronts [] [] r s l e = (refl, e)
same_fronts [] (y ∷ g) r s l e = absurd (omega arith)
same_fronts (x ∷ f) [] r s l e = absurd (omega arith)
same_fronts (x ∷ f) (y ∷ g) r s l e =
    let more = same_fronts f g r s (omega arith) cc in
    let fg : f ≡ g = more.0 in
    (cc, more.1)

pub record Same (p q : Payload) (f g r s : List ℕ) : Type 0 where
  pub payload : p ≡ q
  pub front : f ≡ g
  pub rest : r ≡ s

fixed64_of : (f g : List ℕ) → f ≡ g → Fixed64 f ≡ Fixed64 g
fixed64_of f g e = cc

one_length : (f g r s a b : List ℕ) → SpellsPayload f (Length a) → SpellsPayload g (Length b) → f ++ r ≡ g ++ s → Same (Length a) (Length b) f g r s
one_length f g r s a b h k e =
    let whole : h.0 ++ (a ++ r) ≡ k.0 ++ (b ++ s) = sym (append_assoc h.0 a r)
    ∙ (ap (λ l. l ++ r) (sym h.2) ∙ (e ∙ (ap (λ l. l ++ s) k.2 ∙ append_assoc k.0 b s))) in
    let v = one_varint h.0 k.0 (a ++ r) (b ++ s) (length a) (length b) h.1 k.1 whole in
    let w = same_fronts a b r s v.1 v.2 in
    let x : h.0 ≡ k.0 = v.0 in
    let y : a ≡ b = w.0 in
    let p : f ≡ h.0 ++ a = h.2 in
    let q : g ≡ k.0 ++ b = k.2 in
    record { payload = cc; front = cc; rest = w.1 }

pub one_payload : (p q : Payload) (f g r s : List ℕ) → wire_type p ≡ wire_type q → SpellsPayload f p → SpellsPayload g q → f ++ r ≡ g ++ s
    → Same p q f g r s
one_payload (Varint n) (Varint m) f g r s t a b e =
    let v = one_varint f g r s n m a b e in
    let x : n ≡ m = v.1 in
    record { payload = cc; front = v.0; rest = v.2 }
one_payload (Fixed64 x) (Fixed64 y) f g r s t a b e =
    let fx : f ≡ x = a.0 in
    let gy : g ≡ y = b.0 in
    let l : length f ≡ length g = ap length fx ∙ (a.1 ∙ (sym b.1 ∙ ap length (sym gy))) in
    let w = same_fronts f g r s l e in
    let fg : f ≡ g = w.0 in
    record { payload = cc; front = fg; rest = w.1 }
one_payload (Fixed32 x) (Fixed32 y) f g r s t a b e =
    let fx : f ≡ x = a.0 in
    let gy : g ≡ y = b.0 in
    let l : length f ≡ length g = ap length fx ∙ (a.1 ∙ (sym b.1 ∙ ap length (sym gy))) in
    let w = same_fronts f g r s l e in
    let fg : f ≡ g = w.0 in
    record { payload = cc; front = fg; rest = w.1 }
one_payload (Length x) (Length y) f g r s t a b e = one_length f g r s x y a b e
one_payload (Varint n) (Fixed64 y) f g r s t a b e = absurd (omega arith)
one_payload (Varint n) (Length y) f g r s t a b e = absurd (omega arith)
one_payload (Varint n) (Fixed32 y) f g r s t a b e = absurd (omega arith)
one_payload (Fixed64 x) (Varint m) f g r s t a b e = absurd (omega arith)
one_payload (Fixed64 x) (Length y) f g r s t a b e = absurd (omega arith)
one_payload (Fixed64 x) (Fixed32 y) f g r s t a b e = absurd (omega arith)
one_payload (Length x) (Varint m) f g r s t a b e = absurd (omega arith)
one_payload (Length x) (Fixed64 y) f g r s t a b e = absurd (omega arith)
one_payload (Length x) (Fixed32 y) f g r s t a b e = absurd (omega arith)
one_payload (Fixed32 x) (Varint m) f g r s t a b e = absurd (omega arith)
one_payload (Fixed32 x) (Fixed64 y) f g r s t a b e = absurd (omega arith)
one_payload (Fixed32 x) (Length y) f g r s t a b e = absurd (omega arith)

pub type_small : (p : Payload) → wire_type p < 8
type_small (Varint n) = omega arith
type_small (Fixed64 x) = omega arith
type_small (Length x) = omega arith
type_small (Fixed32 x) = omega arith

-- a key has one number and one wire type
pub key_apart : (n m a b : ℕ) → a < 8 → b < 8 → n * 8 + a ≡ m * 8 + b → (n ≡ m) × (a ≡ b)
key_apart n m a b h k e = (omega arith, omega arith)

abbrev as_field : ℕ → Payload → Field
as_field n p = record { number = n; payload = p }

pub record SameField (a b : Field) (f g r s : List ℕ) : Type 0 where
  pub field : a ≡ b
  pub front : f ≡ g
  pub rest : r ≡ s

pub one_field : (a b : Field) (f g r s : List ℕ) → SpellsField f a → SpellsField g b → f ++ r ≡ g ++ s → SameField a b f g r s
one_field a b f g r s h k e =
    let whole : h.key ++ (h.value ++ r) ≡ k.key ++ (k.value ++ s) = sym (append_assoc h.key h.value r)
    ∙ (ap (λ l. l ++ r) (sym h.split) ∙ (e ∙ (ap (λ l. l ++ s) k.split ∙ append_assoc k.key k.value s))) in
    let v = one_varint h.key k.key (h.value ++ r) (k.value ++ s) (a.number * 8 + wire_type a.payload) (b.number * 8 + wire_type b.payload) h.keyed
    k.keyed whole in
    let n = key_apart a.number b.number (wire_type a.payload) (wire_type b.payload) (type_small a.payload) (type_small b.payload) v.1 in
    let p = one_payload a.payload b.payload h.value k.value r s n.1 h.valued k.valued v.2 in
    let x : h.key ≡ k.key = v.0 in
    let y : h.value ≡ k.value = p.front in
    let i : f ≡ h.key ++ h.value = h.split in
    let j : g ≡ k.key ++ k.value = k.split in
    record { field = ap (λ (z : ℕ). as_field z a.payload) n.0 ∙ ap (λ (q : Payload). as_field b.number q) p.payload; front = cc; rest = p.rest }

empty_key : (key value f r : List ℕ) → is_whole key ≡ true → f ≡ key ++ value → f ++ r ≡ [] → ⊥
empty_key [] value f r w e h = cc
empty_key (x ∷ key) value [] r w e h = cc
empty_key (x ∷ key) value (y ∷ f) r w e h = cc

pub not_empty : (a : Field) (f r : List ℕ) → SpellsField f a → f ++ r ≡ [] → ⊥
not_empty a f r h e = empty_key h.key h.value f r h.keyed.whole h.split e

fields_from : {text other : List ℕ} {fs gs : List Field} → text ≡ other → Fields text fs → Fields other gs → fs ≡ gs
fields_from e none none = refl
fields_from e none (more {front = g} {rest = s} {field = b} k others split) = absurd (not_empty b g s k (sym split ∙ sym e))
fields_from e (more {front = f} {rest = r} {field = a} h others split) none = absurd (not_empty a f r h (sym split ∙ e))
fields_from e (more {front = f} {rest = r} {field = a} {fields = fs} h others split)
    (more {front = g} {rest = s} {field = b} {fields = gs} k further other_split) =
    let w = one_field a b f g r s h k (sym split ∙ (e ∙ other_split)) in
    let x : a ≡ b = w.field in
    let y : fs ≡ gs = fields_from w.rest others further in
    cc

pub one_fields : {text : List ℕ} (fs gs : List Field) → Fields text fs → Fields text gs → fs ≡ gs
one_fields fs gs h k = fields_from refl h k

-- the fields of merged retirements may stand in a retirement
whole_good : (bytes : List ℕ) (fields : List Field) → IsWhole message.Retired bytes → Fields bytes fields → AllGood message.Retired fields
whole_good bytes fields (good.whole {fields = own} s g m) h = subst (λ l. AllGood message.Retired l) (one_fields own fields s h) g

retired_good : (bytes : List ℕ) (fields : List Field) → IsOf (Inner message.Retired) (Length bytes) → Fields bytes fields
    → AllGood message.Retired fields
retired_good bytes fields (good.inner w) s = whole_good bytes fields w s

abbrev kind_in : Option Known → Kind
kind_in None = Text
kind_in (Some k) = k.kind

kind_of : (k : Known) → field_at message.Release retired_number ≡ Some k → k.kind ≡ Inner message.Retired
kind_of k e = sym (ap kind_in e)

inner_good : (k : Known) (bytes : List ℕ) (fields : List Field) → field_at message.Release retired_number ≡ Some k → IsOf k.kind (Length bytes)
    → Fields bytes fields → AllGood message.Retired fields
inner_good k bytes fields e h s = retired_good bytes fields (subst (λ x. IsOf x (Length bytes)) (kind_of k e) h) s

pub merged_good : {fields merged : List Field} → AllGood message.Release fields → Merged fields merged → AllGood message.Retired merged
merged_good g good.none = good.none
merged_good (good.known {k = k} e v all) (good.retired {bytes = bytes} {inner = inside} {more = others} s h) = good_append others
    (inner_good k bytes inside e v s) (merged_good all h)
merged_good (good.unknown e all) (good.retired s h) = absurd cc
merged_good (good.known e v all) (good.other apart h) = merged_good all h
merged_good (good.unknown e all) (good.other apart h) = merged_good all h
