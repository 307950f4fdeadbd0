-- A message may stand, or has a first fault.
use Rattle.std.proofs.Common.{◌≡◌, ◌≢◌, ℕ, zero, suc, ◌+◌, ◌<◌, ◌≤◌, Bool, true, false, Option, Some, None, List, [], ◌∷◌, ◌++◌, length, refl, sym, ap, ◌∙◌, subst, ⊎_elim, arith}
use Rattle.std.specs.Str.{IsUtf8, is_utf8}
use Rattle.std.proofs.lemmas.Bool.{cases_lt}
use Rattle.std.proofs.lemmas.List.{append_assoc}
use Rattle.std.proofs.lemmas.Str.{IsUtf8-from_is_utf8, is_utf8-from_IsUtf8}
use Rattle.hex_messages.specs.declared.error.FieldName.{FieldName}
use Rattle.hex_messages.specs.declared.error.WireCause.{WireCause}
use Rattle.hex_messages.specs.declared.error.WireCause.TheVariants.{BadUtf8, BadEnum, Missing}
use Rattle.hex_messages.specs.declared.message.Message.{Message}
use Rattle.hex_messages.specs.declared.message.Message.TheVariants as message
use Rattle.hex_messages.specs.declared.schema.Kind.{Kind}
use Rattle.hex_messages.specs.declared.schema.Kind.TheVariants.{Text, Bytes, Truth, Reason, Inner}
use Rattle.hex_messages.specs.declared.schema.Known.{Known}
use Rattle.hex_messages.specs.Fields.{Payload, Varint, Length, Field, Fields, SpellsField, wire_type}
use Rattle.hex_messages.specs.Schema.{field_at, wire_of}
use Rattle.hex_messages.specs.Good.{AllGood, IsOf, IsWhole, Misses, absent_in}
use Rattle.hex_messages.specs.Good as good
use Rattle.hex_messages.specs.Faults.{FieldFault, Fault, IsOwnWire}
use Rattle.hex_messages.specs.Faults as fault
use Rattle.hex_messages.specs.Reading.{BeginsField}
use Rattle.hex_messages.proofs.FieldsLemmas.{at_end}
use Rattle.hex_messages.proofs.GoodLemmas.{length_of, varint_of}
use Rattle.hex_messages.proofs.FindLemmas.{begins_shorter}
use Rattle.hex_messages.proofs.MergeLemmas.{merged_of}
use Rattle.hex_messages.proofs.CheckLemmas.{depth, deeper, Checked, checked_start, checked_on, misses_package, misses_dependency, misses_retired}
use Rattle.hex_messages.proofs.DecideField.{Begun, begins, faulty, decide_field}

pub data Judged : Message → List ℕ → Type 0 where
  whole : {m : Message} {text : List ℕ} → IsWhole m text → Judged m text
  fails : {m : Message} {text : List ℕ} (at : ℕ) (cause : WireCause) → Fault m text at cause → Judged m text

-- a field that a text begins with may stand, or its content is faulty
data Content : Message → List ℕ → Field → Type 0 where
  stands : {m : Message} {text : List ℕ} {f : Field} → AllGood m (f ∷ []) → Content m text f
  spoils : {m : Message} {text : List ℕ} {f : Field} (at : ℕ) (cause : WireCause) → FieldFault m text at cause → Content m text f

abbrev as_field : ℕ → Payload → Field
as_field n p = record { number = n; payload = p }

-- the judge of the messages within
abbrev Judge : Message → Type 0
Judge m = (inside : Message) → depth inside < depth m → (bytes : List ℕ) → Judged inside bytes

of_kind : (m : Message) (n : ℕ) (k : Known) (kind : Kind) (p : Payload) (text : List ℕ) → field_at m n ≡ Some k → k.kind ≡ kind → IsOf kind p
    → Content m text (as_field n p)
of_kind m n k kind p text at is h = stands (good.known at (subst (λ x. IsOf x p) (sym is) h) good.none)

text_content : (m : Message) (n : ℕ) (k : Known) (bytes text rest front : List ℕ) (b : Bool) → is_utf8 bytes ≡ b → field_at m n ≡ Some k
    → k.kind ≡ Text → SpellsField front (as_field n (Length bytes)) → text ≡ front ++ rest → Content m text (as_field n (Length bytes))
text_content m n k bytes text rest front true e at is s split = of_kind m n k Text (Length bytes) text at is (good.text (IsUtf8-from_is_utf8 bytes e))
text_content m n k bytes text rest front false e at is s split =
    spoils 0 (BadUtf8 k.name) (fault.utf8 rest s at is (λ (u : IsUtf8 bytes). let t : is_utf8 bytes ≡ true = is_utf8-from_IsUtf8 bytes u in cc) split)

reason_content : (m : Message) (n x : ℕ) (k : Known) (text rest front : List ℕ) → field_at m n ≡ Some k → k.kind ≡ Reason
    → SpellsField front (as_field n (Varint x)) → text ≡ front ++ rest → Content m text (as_field n (Varint x))
reason_content m n x k text rest front at is s split =
    ⊎_elim (λ (big : 4 < x). spoils 0 BadEnum (fault.reason rest s at is big split))
    (λ (small : x ≤ 4). of_kind m n k Reason (Varint x) text at is (good.reason small)) (cases_lt 4 x)

inner_content : (m inside : Message) (n : ℕ) (k : Known) (bytes text rest front : List ℕ) → field_at m n ≡ Some k → k.kind ≡ Inner inside
    → (s : SpellsField front (as_field n (Length bytes))) → text ≡ front ++ rest → Judged inside bytes → Content m text (as_field n (Length bytes))
inner_content m inside n k bytes text rest front at is s split (whole w) = of_kind m n k (Inner inside) (Length bytes) text at is (good.inner w)
inner_content m inside n k bytes text rest front at is s split (fails place cause f) =
    let v = s.valued in
    let e : front ≡ (s.key ++ v.0) ++ bytes = s.split ∙ (ap (λ l. s.key ++ l) v.2 ∙ sym (append_assoc s.key v.0 bytes)) in
    spoils (length (s.key ++ v.0) + place) cause
    (fault.inner (s.key ++ v.0) rest (subst (λ l. SpellsField l (as_field n (Length bytes))) e s) at is f (split ∙ ap (λ l. l ++ rest) e))

kind_content : (m : Message) (n : ℕ) (p : Payload) (k : Known) (kind : Kind) (text rest front : List ℕ) → field_at m n ≡ Some k → k.kind ≡ kind
    → wire_type p ≡ wire_of kind → SpellsField front (as_field n p) → text ≡ front ++ rest → Judge m → Content m text (as_field n p)
kind_content m n p k Text text rest front at is w s split judge =
    let b = length_of p w in
    subst (λ q. Content m text (as_field n q)) (sym b.1)
    (text_content m n k b.0 text rest front (is_utf8 b.0) refl at is (subst (λ q. SpellsField front (as_field n q)) b.1 s) split)
kind_content m n p k Bytes text rest front at is w s split judge =
    let b = length_of p w in
    subst (λ q. Content m text (as_field n q)) (sym b.1) (of_kind m n k Bytes (Length b.0) text at is good.bytes)
kind_content m n p k Truth text rest front at is w s split judge =
    let b = varint_of p w in
    subst (λ q. Content m text (as_field n q)) (sym b.1) (of_kind m n k Truth (Varint b.0) text at is good.truth)
kind_content m n p k Reason text rest front at is w s split judge =
    let b = varint_of p w in
    subst (λ q. Content m text (as_field n q)) (sym b.1)
    (reason_content m n b.0 k text rest front at is (subst (λ q. SpellsField front (as_field n q)) b.1 s) split)
kind_content m n p k (Inner inside) text rest front at is w s split judge =
    let b = length_of p w in
    subst (λ q. Content m text (as_field n q)) (sym b.1)
    (inner_content m inside n k b.0 text rest front at is (subst (λ q. SpellsField front (as_field n q)) b.1 s) split
    (judge inside (deeper m n k inside (sym at) is) b.0))

content : (m : Message) (text rest : List ℕ) (f : Field) (o : Option Known) → field_at m f.number ≡ o → BeginsField m text f rest → Judge m
    → Content m text f
content m text rest f None e b judge = stands (good.unknown e good.none)
content m text rest f (Some k) e b judge = kind_content m f.number f.payload k k.kind text rest b.front e refl
    (subst (λ o. IsOwnWire o (wire_type f.payload)) e b.own) b.spelled b.split judge

misses_of : (m : Message) (fields : List Field) → AllGood m fields → (o : Option FieldName) × Misses m fields o
misses_of message.Package fields g = (absent_in message.Package [] fields, misses_package fields (absent_in message.Package [] fields) refl)
misses_of message.Dependency fields g = (
  absent_in message.Dependency [] fields,
  misses_dependency fields (absent_in message.Dependency [] fields) refl,
)
misses_of message.Retired fields g = (None, misses_retired fields None refl)
misses_of message.Release fields g = let x = merged_of fields g in
    (absent_in message.Release x.0 fields, record { merged = x.0; merges = λ q. x.1; answers = refl })

ended : (m : Message) (text : List ℕ) (fields : List Field) (o : Option FieldName) → Fields text fields → AllGood m fields → Misses m fields o
    → Judged m text
ended m text fields None s g misses = whole (good.whole s g misses)
ended m text fields (Some name) s g misses = fails (length text) (Missing name) (fault.missing s g misses)

-- what is found behind the fields so far
abbrev Next : Message → List ℕ → ℕ → Type 0
Next m text k = (after : List ℕ) → length after ≤ k → Checked m text after → Judged m text

content_step : (m : Message) (text : List ℕ) (k : ℕ) (rest after : List ℕ) (f : Field) → length rest ≤ suc k → Checked m text rest
    → BeginsField m rest f after → Content m rest f → Next m text k → Judged m text
content_step m text k rest after f l c b (spoils at cause h) next = let a = c.at in fails (length a.front + at) cause
    (fault.field a.spelled c.good h a.split)
content_step m text k rest after f l c b (stands g) next =
    let s = begins_shorter m rest after f b in
    next after (omega arith) (checked_on m text rest after f c b g)

field_step : (m : Message) (text : List ℕ) (k : ℕ) (rest : List ℕ) → length rest ≤ suc k → Checked m text rest → Judge m → Begun m rest
    → Next m text k → Judged m text
field_step m text k rest l c judge (faulty cause f) next = let a = c.at in fails (length a.front + 0) cause (fault.field a.spelled c.good f a.split)
field_step m text k rest l c judge (begins f after b) next = content_step m text k rest after f l c b
    (content m rest after f (field_at m f.number) refl b judge) next

byte_some : (x : ℕ) (rest : List ℕ) → x ∷ rest ≢ []
byte_some x rest = λ e. cc

walk : (m : Message) (text : List ℕ) (k : ℕ) (rest : List ℕ) → length rest ≤ k → Checked m text rest → Judge m → Judged m text
walk m text k [] l c judge = let o = misses_of m c.fields c.good in ended m text c.fields o.0 (at_end c.at refl) c.good o.1
walk m text zero (x ∷ rest) l c judge = absurd (omega arith)
walk m text (suc k) (x ∷ rest) l c judge = field_step m text k (x ∷ rest) l c judge (decide_field m (x ∷ rest) (byte_some x rest))
    (λ after less d. walk m text k after less d judge)

judge_within : (d : ℕ) (m : Message) → depth m < d → (text : List ℕ) → Judged m text
judge_within zero m h text = absurd (omega arith)
judge_within (suc d) m h text = walk m text (length text) text (omega arith) (checked_start m text)
    (λ inside less bytes. judge_within d inside (omega arith) bytes)

pub judge : (m : Message) (text : List ℕ) → Judged m text
judge m text = judge_within (suc (depth m)) m (omega arith) text
