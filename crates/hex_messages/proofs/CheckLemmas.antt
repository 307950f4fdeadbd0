-- The first fault of a message.
use Rattle.std.proofs.Common.{◌≡◌, ℕ, ◌+◌, ◌-◌, ◌<◌, ◌≤◌, Bool, true, false, ◌&&◌, not, cond, eqb, Option, Some, None, List, [], ◌∷◌, ◌++◌, length, refl, sym, ap, ◌∙◌, subst, arith}
use Rattle.std.specs.Option.{option_or}
use Rattle.std.specs.Str.{IsUtf8}
use Rattle.std.proofs.lemmas.List.{length-append, append_assoc}
use Rattle.hex_messages.specs.declared.error.FieldName.{FieldName}
use Rattle.hex_messages.specs.declared.error.FieldName.TheVariants as name
use Rattle.hex_messages.specs.declared.error.WireCause.{WireCause}
use Rattle.hex_messages.specs.declared.error.WireCause.TheVariants.{BadUtf8, BadEnum, Missing, OutOfMemory}
use Rattle.hex_messages.specs.declared.error.WireError.{WireError}
use Rattle.hex_messages.specs.declared.message.Message.{Message}
use Rattle.hex_messages.specs.declared.message.Message.TheVariants as message
use Rattle.hex_messages.specs.declared.schema.Kind.{Kind}
use Rattle.hex_messages.specs.declared.schema.Kind.TheVariants.{Text, Bytes, Truth, Reason, Inner}
use Rattle.hex_messages.specs.declared.schema.Known.{Known}
use Rattle.hex_messages.specs.declared.wire.Wire.{Wire}
use Rattle.hex_messages.specs.Fields.{Payload, Varint, Length, Field, Fields, SpellsField, wire_type}
use Rattle.hex_messages.specs.Schema.{field_at, wire_of}
use Rattle.hex_messages.specs.Good.{AllGood, IsOf, IsWhole, Misses, Merged, has, absent_in}
use Rattle.hex_messages.specs.Good as good
use Rattle.hex_messages.specs.Faults.{VarintFault, ValueFault, Fault, FieldFault, IsOwnWire, utf8, reason, inner, field, missing}
use Rattle.hex_messages.specs.Faults as fault
use Rattle.hex_messages.specs.Reading.{BeginsField, payload_of, field_of}
use Rattle.hex_messages.specs.Finding.{InFields, InMerged, Finds}
use Rattle.hex_messages.specs.Checking.{IsPlaced, BlamesField, FaultFrom}
use Rattle.hex_messages.proofs.FieldsLemmas.{At, at_start, at_push, at_end}
use Rattle.hex_messages.proofs.GoodLemmas.{good_append, length_of, varint_of}
use Rattle.hex_messages.proofs.ValueLemmas.{has_append, same_test}
use Rattle.hex_messages.proofs.FindLemmas.{behind, found_at}
use Rattle.hex_messages.proofs.MergeLemmas.{merged_of}

-- how deep messages stand within a message
abbrev pub depth : Message → ℕ
depth message.Package = 2
depth message.Release = 1
depth message.Dependency = 0
depth message.Retired = 0

-- the text as far as its fields may stand
pub record Checked (m : Message) (text rest : List ℕ) : Type 0 where
  pub fields : List Field
  pub at : At text rest fields
  pub good : AllGood m fields

pub checked_start : (m : Message) (text : List ℕ) → Checked m text text
checked_start m text = record { fields = []; at = at_start text; good = good.none }

pub checked_on : (m : Message) (text rest next : List ℕ) (f : Field) → Checked m text rest → BeginsField m rest f next → AllGood m (f ∷ [])
    → Checked m text next
checked_on m text rest next f w b g = record {
  fields = w.fields ++ f ∷ [];
  at = at_push w.at b.spelled b.split;
  good = good_append (f ∷ []) w.good g;
}

pub checked_whole : (m : Message) (text rest : List ℕ) → Checked m text rest → rest ≡ [] → InFields m text (λ fields. Misses m fields None)
    → IsWhole m text
checked_whole m text rest w e misses = let s = at_end w.at e in good.whole s w.good (misses w.fields s w.good)

pub checked_missing : (m : Message) (text rest : List ℕ) (start : ℕ) (called : FieldName) (error : WireError) → Checked m text rest → rest ≡ []
    → InFields m text (λ fields. Misses m fields (Some called)) → error.at ≡ start + length text → error.cause ≡ Missing called
    → FaultFrom m start text error
checked_missing m text rest start called error w e misses at cause =
    let s = at_end w.at e in
    record {
      at = length text;
      place = at;
      fault = subst (λ c. Fault m text (length text) c) (sym cause) (missing s w.good (misses w.fields s w.good));
    }

-- a faulty field is the first fault of the text
pub checked_faults : (m : Message) (text rest : List ℕ) (start place at : ℕ) (error : WireError) → Checked m text rest
    → place ≡ start + (length text - length rest) → error.at ≡ place + at → FieldFault m rest at error.cause → FaultFrom m start text error
checked_faults m text rest start place at error w p e fault =
    let a = w.at in
    let l : length text ≡ length a.front + length rest = ap length a.split ∙ length-append a.front rest in
    record { at = length a.front + at; place = omega arith; fault = field a.spelled w.good fault a.split }

pub placed : (m : Message) (at : ℕ) (wire : Wire) (rest next : List ℕ) → BeginsField m rest (field_of wire) next → wire.at ≡ at
    → wire.end + length next ≡ at + length rest → IsPlaced wire
placed m at wire rest next b a e =
    let l : length rest ≡ length b.front + length next = ap length b.split ∙ length-append b.front next in
    record { front = b.front; spelled = b.spelled; ends = omega arith }

pub field_faults : (m : Message) (text rest next : List ℕ) (start place : ℕ) (wire : Wire) (error : WireError) → Checked m text rest
    → BeginsField m rest (field_of wire) next → wire.at ≡ place → wire.end + length next ≡ place + length rest
    → place ≡ start + (length text - length rest) → BlamesField m wire error → FaultFrom m start text error
field_faults m text rest next start place wire error w b a e p h =
    let l : length rest ≡ length b.front + length next = ap length b.split ∙ length-append b.front next in
    let f : FieldFault m (b.front ++ next) h.at error.cause = h.fault b.front next b.spelled (omega arith) in
    checked_faults m text rest start place h.at error w p (h.place ∙ ap (λ n. n + h.at) a)
    (subst (λ t. FieldFault m t h.at error.cause) (sym b.split) f)

-- a known field has the wire type of its kind
pub own_is : (m : Message) (wire : Wire) (k : Known) → Some k ≡ field_at m wire.number
    → IsOwnWire (field_at m wire.number) (wire_type (payload_of wire.value)) → wire_type (payload_of wire.value) ≡ wire_of k.kind
own_is m wire k e own = subst (λ o. IsOwnWire o (wire_type (payload_of wire.value))) (sym e) own

pub good_unknown : (m : Message) (wire : Wire) → None ≡ field_at m wire.number → AllGood m (field_of wire ∷ [])
good_unknown m wire e = good.unknown (sym e) good.none

good_known : (m : Message) (wire : Wire) (k : Known) (kind : Kind) (p : Payload) → Some k ≡ field_at m wire.number → k.kind ≡ kind
    → payload_of wire.value ≡ p → IsOf kind p → AllGood m (field_of wire ∷ [])
good_known m wire k kind p e is q h = good.known (sym e) (subst (λ x. IsOf x (payload_of wire.value)) (sym is) (subst (λ x. IsOf kind x) (sym q) h))
    good.none

pub good_bytes : (m : Message) (wire : Wire) (k : Known) → Some k ≡ field_at m wire.number → k.kind ≡ Bytes
    → wire_type (payload_of wire.value) ≡ wire_of k.kind → AllGood m (field_of wire ∷ [])
good_bytes m wire k e is w = let b = length_of (payload_of wire.value) (w ∙ ap wire_of is) in good_known m wire k Bytes (Length b.0) e is b.1
    good.bytes

pub good_truth : (m : Message) (wire : Wire) (k : Known) → Some k ≡ field_at m wire.number → k.kind ≡ Truth
    → wire_type (payload_of wire.value) ≡ wire_of k.kind → AllGood m (field_of wire ∷ [])
good_truth m wire k e is w = let n = varint_of (payload_of wire.value) (w ∙ ap wire_of is) in good_known m wire k Truth (Varint n.0) e is n.1
    good.truth

pub good_text : (m : Message) (wire : Wire) (k : Known) (bytes : List ℕ) → Some k ≡ field_at m wire.number → k.kind ≡ Text
    → payload_of wire.value ≡ Length bytes → IsUtf8 bytes → AllGood m (field_of wire ∷ [])
good_text m wire k bytes e is p h = good_known m wire k Text (Length bytes) e is p (good.text h)

pub good_reason : (m : Message) (wire : Wire) (k : Known) (n : ℕ) → Some k ≡ field_at m wire.number → k.kind ≡ Reason
    → payload_of wire.value ≡ Varint n → n ≤ 4 → AllGood m (field_of wire ∷ [])
good_reason m wire k n e is p h = good_known m wire k Reason (Varint n) e is p (good.reason h)

pub good_inner : (m inside : Message) (wire : Wire) (k : Known) (bytes : List ℕ) → Some k ≡ field_at m wire.number → k.kind ≡ Inner inside
    → payload_of wire.value ≡ Length bytes → IsWhole inside bytes → AllGood m (field_of wire ∷ [])
good_inner m inside wire k bytes e is p h = good_known m wire k (Inner inside) (Length bytes) e is p (good.inner h)

spelled_as : (front : List ℕ) (n : ℕ) (p q : Payload) → p ≡ q → SpellsField front (record { number = n; payload = p })
    → SpellsField front (record { number = n; payload = q })
spelled_as front n p q e s = subst (λ x. SpellsField front (record { number = n; payload = x })) e s

pub text_refused : (m : Message) (wire : Wire) (k : Known) (bytes : List ℕ) (error : WireError) → Some k ≡ field_at m wire.number → k.kind ≡ Text
    → payload_of wire.value ≡ Length bytes → (IsUtf8 bytes → ⊥) → error.at ≡ wire.at → error.cause ≡ BadUtf8 k.name → BlamesField m wire error
text_refused m wire k bytes error e is p other place cause = record {
  at = 0;
  place = omega arith;
  fault = λ front rest s ends. subst (λ c. FieldFault m (front ++ rest) 0 c) (sym cause)
      (utf8 rest (spelled_as front wire.number (payload_of wire.value) (Length bytes) p s) (sym e) is other refl);
}

pub reason_refused : (m : Message) (wire : Wire) (k : Known) (n : ℕ) (error : WireError) → Some k ≡ field_at m wire.number → k.kind ≡ Reason
    → payload_of wire.value ≡ Varint n → 4 < n → error.at ≡ wire.at → error.cause ≡ BadEnum → BlamesField m wire error
reason_refused m wire k n error e is p big place cause = record {
  at = 0;
  place = omega arith;
  fault = λ front rest s ends. subst (λ c. FieldFault m (front ++ rest) 0 c) (sym cause)
      (reason rest (spelled_as front wire.number (payload_of wire.value) (Varint n) p s) (sym e) is big refl);
}

pub inner_refused : (m inside : Message) (wire : Wire) (k : Known) (bytes : List ℕ) (start : ℕ) (error : WireError) → Some k ≡ field_at m wire.number
    → k.kind ≡ Inner inside → payload_of wire.value ≡ Length bytes → start + length bytes ≡ wire.end → wire.at ≤ start
    → FaultFrom inside start bytes error → BlamesField m wire error
inner_refused m inside wire k bytes start error e is p ends after h =
    let place = h.place in
    record {
      at = start - wire.at + h.at;
      place = omega arith;
      fault = λ front rest s whole.
          let s' = spelled_as front wire.number (payload_of wire.value) (Length bytes) p s in
          let v = s'.valued in
          let f : front ≡ (s'.key ++ v.0) ++ bytes = s'.split ∙ (ap (λ l. s'.key ++ l) v.2 ∙ sym (append_assoc s'.key v.0 bytes)) in
          let l : length front ≡ length (s'.key ++ v.0) + length bytes = ap length f ∙ length-append (s'.key ++ v.0) bytes in
          let same : length (s'.key ++ v.0) + h.at ≡ start - wire.at + h.at = omega arith in
          let split : front ++ rest ≡ (s'.key ++ v.0) ++ bytes ++ rest = ap (λ x. x ++ rest) f in
          subst (λ x. FieldFault m (front ++ rest) x error.cause) same
          (inner (s'.key ++ v.0) rest (subst (λ x. SpellsField x (record { number = wire.number; payload = Length bytes })) f s') (sym e) is h.fault
          split);
    }

-- a message within stands less deep
abbrev kind_depth : Kind → ℕ
kind_depth (Inner inside) = depth inside + 1
kind_depth kind = 0

abbrev known_depth : Option Known → ℕ
known_depth None = 0
known_depth (Some k) = kind_depth k.kind

either_depth : (b : Bool) (x y : Option Known) (d : ℕ) → known_depth x ≤ d → known_depth y ≤ d → known_depth (cond b x y) ≤ d
either_depth true x y d h k = h
either_depth false x y d h k = k

field_depth : (m : Message) (n : ℕ) → known_depth (field_at m n) ≤ depth m
field_depth message.Package n =
    either_depth (eqb n 1) _ _ 2 (omega arith) (either_depth (eqb n 2) _ _ 2 (omega arith) (either_depth (eqb n 3) _ _ 2 (omega arith) (omega arith)))
field_depth message.Release n =
    either_depth (eqb n 1) _ _ 1 (omega arith) (either_depth (eqb n 2) _ _ 1 (omega arith) (either_depth (eqb n 3) _ _ 1 (omega arith)
    (either_depth (eqb n 4) _ _ 1 (omega arith) (either_depth (eqb n 5) _ _ 1 (omega arith) (omega arith)))))
field_depth message.Dependency n =
    either_depth (eqb n 1) _ _ 0 (omega arith) (either_depth (eqb n 2) _ _ 0 (omega arith) (either_depth (eqb n 3) _ _ 0 (omega arith)
    (either_depth (eqb n 4) _ _ 0 (omega arith) (either_depth (eqb n 5) _ _ 0 (omega arith) (omega arith)))))
field_depth message.Retired n =
    either_depth (eqb n 1) _ _ 0 (omega arith) (either_depth (eqb n 2) _ _ 0 (omega arith) (omega arith))

pub deeper : (m : Message) (n : ℕ) (k : Known) (inside : Message) → Some k ≡ field_at m n → k.kind ≡ Inner inside → depth inside < depth m
deeper m n k inside e is =
    let a : known_depth (field_at m n) ≡ kind_depth k.kind = ap known_depth (sym e) in
    let b : kind_depth k.kind ≡ depth inside + 1 = ap kind_depth is in
    let c : known_depth (field_at m n) ≤ depth m = field_depth m n in
    omega arith

-- what is missing at the end of each message
pub misses_package : (fields : List Field) (o : Option FieldName) → absent_in message.Package [] fields ≡ o → Misses message.Package fields o
misses_package fields o e = record { merged = []; merges = λ q. absurd cc; answers = e }

pub misses_dependency : (fields : List Field) (o : Option FieldName) → absent_in message.Dependency [] fields ≡ o → Misses message.Dependency fields o
misses_dependency fields o e = record { merged = []; merges = λ q. absurd cc; answers = e }

pub misses_retired : (fields : List Field) (o : Option FieldName) → None ≡ o → Misses message.Retired fields o
misses_retired fields o e = record { merged = []; merges = λ q. absurd cc; answers = e }

pub misses_release : (text : List ℕ) (fields : List Field) (o : Option FieldName) → Fields text fields → AllGood message.Release fields
    → InMerged text (λ all merged. absent_in message.Release merged all ≡ o) → Misses message.Release fields o
misses_release text fields o s g h =
    let m = merged_of fields g in
    record { merged = m.0; merges = λ q. m.1; answers = h fields m.0 s g m.1 }

-- a field that is found stands there
pub found_there : {m : Message} {number : ℕ} {text rest : List ℕ} {p : Payload} {all : List Field} → Fields text all → AllGood m all
    → Finds number text p rest → has number all ≡ true
found_there {number = number} {p = p} {all = all} s g f =
    let found = record { number = number; payload = p } ∷ [] in
    let b = behind s (found_at (at_start _) f) in
    let one : has number found ≡ true = rw (same_test number) refl in
    let two : has number (f.others ++ found) ≡ true = has_append number f.others found ∙ rw (f.apart, one) refl in
    ap (has number) b.split ∙ (has_append number (f.others ++ found) b.others ∙ rw two refl)

cond_same : (d : Bool) → (cond d None (Some name.InnerChecksum)) ≡ option_or None (cond d None (Some name.InnerChecksum))
cond_same true = refl
cond_same false = refl

-- the names of what is missing in a release, one or the other
lost_first : (a b c d : Bool) → (cond (a && not b) (Some name.Reason) (cond c (cond d None (Some name.InnerChecksum)) (Some name.Version)))
    ≡ option_or (option_or (cond (a && not b) (Some name.Reason) None) (cond c None (Some name.Version))) (cond d None (Some name.InnerChecksum))
lost_first true true true d = cond_same d
lost_first true true false d = refl
lost_first true false c d = refl
lost_first false b true d = cond_same d
lost_first false b false d = refl

pub lost_or : (a b c d : Bool) (all two lost first second : Option FieldName) → all ≡ option_or two second → two ≡ option_or lost first
    → lost ≡ cond (a && not b) (Some name.Reason) None → first ≡ cond c None (Some name.Version) → second ≡ cond d None (Some name.InnerChecksum)
    → cond (a && not b) (Some name.Reason) (cond c (cond d None (Some name.InnerChecksum)) (Some name.Version)) ≡ all
lost_or a b c d all two lost first second e f g h i = lost_first a b c d ∙ sym (e ∙ rw (f, g, h, i) refl)

-- no fault of a message is want of memory
varint_never : {text : List ℕ} {cause : WireCause} → VarintFault text cause → cause ≡ OutOfMemory → ⊥
varint_never (fault.long a b) e = cc
varint_never (fault.great f r w s big k) e = cc
varint_never (fault.cut few on) e = cc

value_never : {wire : ℕ} {text : List ℕ} {cause : WireCause} → ValueFault wire text cause → cause ≡ OutOfMemory → ⊥
value_never (fault.varint f) e = varint_never f e
value_never (fault.eight s) e = cc
value_never (fault.size f) e = varint_never f e
value_never (fault.bytes r v k s) e = cc
value_never (fault.four s) e = cc

mutual
  field_never : {m : Message} {text : List ℕ} {at : ℕ} {cause : WireCause} → FieldFault m text at cause → cause ≡ OutOfMemory → ⊥
  field_never (fault.key some f) e = varint_never f e
  field_never (fault.bad_key rest number wire v w bad split) e = cc
  field_never (fault.wrong_wire rest v k at other split) e = cc
  field_never (fault.value v k own f split) e = value_never f e
  field_never (fault.utf8 rest s at kind bad split) e = cc
  field_never (fault.reason rest s at kind big split) e = cc
  field_never (fault.inner front rest s at kind f split) e = never_memory f e

  pub never_memory : {m : Message} {text : List ℕ} {at : ℕ} {cause : WireCause} → Fault m text at cause → cause ≡ OutOfMemory → ⊥
  never_memory (fault.field s g f split) e = field_never f e
  never_memory (fault.missing s g misses) e = cc
