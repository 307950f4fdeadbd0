-- Keys, values and fields at the front of a text.
use Rattle.std.proofs.Common.{◌≡◌, ◌≢◌, ℕ, ◌+◌, ◌*◌, ◌/◌, ◌%◌, ◌<◌, Option, Some, None, List, [], ◌++◌, length, refl, sym, ap, ◌∙◌, subst, arith}
use Rattle.std.proofs.lemmas.List.{append_assoc}
use Rattle.hex_messages.specs.declared.error.WireCause.{WireCause}
use Rattle.hex_messages.specs.declared.error.WireCause.TheVariants.{BadKey, Truncated, WrongWire}
use Rattle.hex_messages.specs.declared.message.Message.{Message}
use Rattle.hex_messages.specs.Varint.{IsVarint}
use Rattle.hex_messages.specs.Fields.{Payload, Length}
use Rattle.hex_messages.specs.declared.schema.Known.{Known}
use Rattle.hex_messages.specs.Schema.{field_at, wire_of}
use Rattle.hex_messages.specs.Faults.{VarintFault, ValueFault, bytes, IsKey, IsOwnWire, FieldFault, key, bad_key, wrong_wire, value}
use Rattle.hex_messages.specs.Reading.{BeginsVarint, BeginsKey, BeginsValue, BeginsField}

-- a key with its number and its wire type apart
pub key_parts : (n number code : ℕ) → number ≡ n / 8 → code ≡ n % 8 → number * 8 + code ≡ n
key_parts n number code a b = let q : n ≡ 8 * (n / 8) + n % 8 = omega arith in omega arith

pub bad_key_at : (text rest : List ℕ) (n : ℕ) → BeginsVarint text n rest → (IsKey (n / 8) (n % 8) → ⊥) → (m : Message) → FieldFault m text 0 BadKey
bad_key_at text rest n b bad m =
    let e : n / 8 * 8 + n % 8 ≡ n = key_parts n (n / 8) (n % 8) refl refl in
    let v : IsVarint b.front (n / 8 * 8 + n % 8) = rw e b.varint in
    bad_key rest (n / 8) (n % 8) v (omega arith) bad b.split

pub key_at : (text : List ℕ) (cause : WireCause) → VarintFault text cause → (m : Message) → text ≢ [] → FieldFault m text 0 cause
key_at text cause fault m some = key some fault

pub bytes_at : (text after : List ℕ) (n : ℕ) → BeginsVarint text n after → length after < n → ValueFault 2 text Truncated
bytes_at text after n b short = bytes after b.varint b.split short

pub length_at : (text after front rest : List ℕ) (n : ℕ) → BeginsVarint text n after → length front ≡ n → after ≡ front ++ rest
    → BeginsValue text 2 (Length front) rest
length_at text after front rest n b len e = record {
  front = b.front ++ front;
  typed = refl;
  spelled = (b.front, rw len b.varint, refl);
  split = b.split ∙ (ap (λ l. b.front ++ l) e ∙ sym (append_assoc b.front front rest));
}

pub wrong_at : (m : Message) (text rest : List ℕ) (number wire : ℕ) (k : Known) → BeginsKey text number wire rest → Some k ≡ field_at m number
    → (wire ≡ wire_of k.kind → ⊥) → FieldFault m text 0 (WrongWire k.name)
wrong_at m text rest number wire k b e other = wrong_wire rest b.varint b.key (sym e) other b.split

pub own_some : (o : Option Known) (k : Known) (wire : ℕ) → Some k ≡ o → wire ≡ wire_of k.kind → IsOwnWire o wire
own_some o k wire e same = subst (λ x. IsOwnWire x wire) e same

pub own_none : (o : Option Known) (wire : ℕ) → None ≡ o → IsOwnWire o wire
own_none o wire e = subst (λ x. IsOwnWire x wire) e tt

pub value_at : (m : Message) (text rest : List ℕ) (number wire : ℕ) (cause : WireCause) → BeginsKey text number wire rest
    → IsOwnWire (field_at m number) wire → ValueFault wire rest cause → FieldFault m text 0 cause
value_at m text rest number wire cause b own fault = value b.varint b.key own fault b.split

pub field_at_front : (m : Message) (text after rest : List ℕ) (number wire : ℕ) (payload : Payload) → BeginsKey text number wire after
    → IsOwnWire (field_at m number) wire → BeginsValue after wire payload rest
    → BeginsField m text (record { number = number; payload = payload }) rest
field_at_front m text after rest number wire payload b own v = record {
  front = b.front ++ v.front;
  spelled = record {
    key = b.front;
    value = v.front;
    least = b.key.least;
    most = b.key.most;
    keyed = rw v.typed b.varint;
    valued = v.spelled;
    split = refl;
  };
  own = rw v.typed own;
  split = b.split ∙ (ap (λ l. b.front ++ l) v.split ∙ sym (append_assoc b.front v.front rest));
}
