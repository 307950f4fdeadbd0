-- What is written of a dependency stands for it; fields that may be written.
use Rattle.std.proofs.Common.{◌≡◌, ℕ, ◌≤◌, Bool, true, false, Option, Some, None, List, [], ◌∷◌, ◌++◌, map, refl, arith}
use Rattle.std.specs.List.{AllByRecursion}
use Rattle.hex_messages.specs.declared.message.Message.{Message}
use Rattle.hex_messages.specs.declared.message.Message.TheVariants as message
use Rattle.hex_messages.specs.declared.error.FieldName.TheVariants as name
use Rattle.hex_messages.specs.declared.package.Dependency.{Dependency}
use Rattle.hex_messages.specs.Fields.{Payload, Varint, Fixed64, Length, Fixed32, Field, Fields, SpellsField, SpellsPayload, greatest_number}
use Rattle.hex_messages.specs.Fields as fields
use Rattle.hex_messages.specs.declared.schema.Kind.TheVariants.{Text, Bytes, Truth, Inner}
use Rattle.hex_messages.specs.declared.schema.Known.{Known}
use Rattle.hex_messages.specs.Schema.{field_at}
use Rattle.hex_messages.specs.Good.{AllGood, IsOf, IsWhole, Merged, has}
use Rattle.hex_messages.specs.Good as good
use Rattle.hex_messages.specs.Stands.{last_bytes, last_number, is_set, Each, StandsDependency}
use Rattle.hex_messages.specs.Canonical.{WritesPayload, WritesField, WritesFields, bytes_field, perhaps, truth_field, WritesDependency, dependency_fields, WritesRetirement, retired_fields, WritesRelease, release_fields, Writes, IsText, IfThere, IsWritableDependency, IsWritableRetirement, IsWritableRelease, IsWritable}
use Rattle.hex_messages.specs.Canonical as written
use Rattle.hex_messages.proofs.GoodLemmas.{good_append}

-- a field's number may stand
abbrev pub Numbered : Field → Type 0
Numbered f = (1 ≤ f.number) × (f.number ≤ greatest_number)

pub payload_from : (p : Payload) (text : List ℕ) → WritesPayload text p → SpellsPayload text p
payload_from (Varint n) text w = w.varint
payload_from (Length b) text w = (w.0, w.1.varint, w.2)
payload_from (Fixed64 b) text w = absurd w
payload_from (Fixed32 b) text w = absurd w

pub field_from : (f : Field) (text : List ℕ) → Numbered f → WritesField text f → SpellsField text f
field_from f text n w = record {
  key = w.key;
  value = w.value;
  least = n.0;
  most = n.1;
  keyed = w.keyed.varint;
  valued = payload_from f.payload w.value w.valued;
  split = w.split;
}

pub fields_from : {text : List ℕ} {fs : List Field} → AllByRecursion Numbered fs → WritesFields text fs → Fields text fs
fields_from n written.none = fields.none
fields_from n (written.more {front = front} {field = f} w others split) = fields.more (field_from f front n.0 w) (fields_from n.1 others) split

pub all_append : {X : Type 0} (P : X → Type 0) (xs ys : List X) → AllByRecursion P xs → AllByRecursion P ys → AllByRecursion P (xs ++ ys)
all_append P [] ys h k = k
all_append P (x ∷ xs) ys h k = (h.0, all_append P xs ys h.1 k)

pub numbered_map : (n : ℕ) (texts : List (List ℕ)) → 1 ≤ n → n ≤ greatest_number → AllByRecursion Numbered (map (bytes_field n) texts)
numbered_map n [] a b = tt
numbered_map n (t ∷ texts) a b = ((a, b), numbered_map n texts a b)

pub numbered_perhaps : (n : ℕ) (o : Option (List ℕ)) → 1 ≤ n → n ≤ greatest_number → AllByRecursion Numbered (perhaps n o)
numbered_perhaps n None a b = tt
numbered_perhaps n (Some t) a b = ((a, b), tt)

pub numbered_truth : (b : Bool) → AllByRecursion Numbered (truth_field 3 b)
numbered_truth true = ((omega arith, omega arith), tt)
numbered_truth false = tt

pub good_one : (m : Message) (n : ℕ) (k : Known) (t : List ℕ) → field_at m n ≡ Some k → IsOf k.kind (Length t) → AllGood m (bytes_field n t ∷ [])
good_one m n k t e h = good.known e h good.none

pub good_map : (m : Message) (n : ℕ) (k : Known) (texts : List (List ℕ)) → field_at m n ≡ Some k → AllByRecursion (λ t. IsOf k.kind (Length t)) texts
    → AllGood m (map (bytes_field n) texts)
good_map m n k [] e h = good.none
good_map m n k (t ∷ texts) e h = good.known e h.0 (good_map m n k texts e h.1)

pub good_perhaps : (m : Message) (n : ℕ) (k : Known) (o : Option (List ℕ)) → field_at m n ≡ Some k → IfThere (λ t. IsOf k.kind (Length t)) o
    → AllGood m (perhaps n o)
good_perhaps m n k None e h = good.none
good_perhaps m n k (Some t) e h = good.known e h good.none

pub there_text : (o : Option (List ℕ)) → IfThere IsText o → IfThere (λ t. IsOf Text (Length t)) o
there_text None h = tt
there_text (Some t) h = good.text h.0

pub there_bytes : (o : Option (List ℕ)) → IfThere (λ t. IsOf Bytes (Length t)) o
there_bytes None = tt
there_bytes (Some t) = good.bytes

pub record DependencyValues (p r : List ℕ) (o : Bool) (a s : Option (List ℕ)) (fs : List Field) : Type 0 where
  pub one : last_bytes 1 fs ≡ Some p
  pub two : last_bytes 2 fs ≡ Some r
  pub three : is_set (last_number 3 fs) ≡ o
  pub four : last_bytes 4 fs ≡ a
  pub five : last_bytes 5 fs ≡ s

pub dependency_values : (p r : List ℕ) (o : Bool) (a s : Option (List ℕ))
    → DependencyValues p r o a s (bytes_field 1 p ∷ bytes_field 2 r ∷ truth_field 3 o ++ perhaps 4 a ++ perhaps 5 s)
dependency_values p r true None None = record { one = refl; two = refl; three = refl; four = refl; five = refl }
dependency_values p r true None (Some s) = record { one = refl; two = refl; three = refl; four = refl; five = refl }
dependency_values p r true (Some a) None = record { one = refl; two = refl; three = refl; four = refl; five = refl }
dependency_values p r true (Some a) (Some s) = record { one = refl; two = refl; three = refl; four = refl; five = refl }
dependency_values p r false None None = record { one = refl; two = refl; three = refl; four = refl; five = refl }
dependency_values p r false None (Some s) = record { one = refl; two = refl; three = refl; four = refl; five = refl }
dependency_values p r false (Some a) None = record { one = refl; two = refl; three = refl; four = refl; five = refl }
dependency_values p r false (Some a) (Some s) = record { one = refl; two = refl; three = refl; four = refl; five = refl }

pub good_truth : (b : Bool) → AllGood message.Dependency (truth_field 3 b)
good_truth true = good.known {k = record { name = name.Optional; kind = Truth }} refl good.truth good.none
good_truth false = good.none

pub dependency_good : (d : Dependency) → IsWritableDependency d → AllGood message.Dependency (dependency_fields d)
dependency_good d w =
    let f1 = good_one message.Dependency 1 (record { name = name.Package; kind = Text }) d.«package» refl (good.text w.named.0) in
    let f2 = good_one message.Dependency 2 (record { name = name.Requirement; kind = Text }) d.requirement refl (good.text w.requirement.0) in
    let f4 = good_perhaps message.Dependency 4 (record { name = name.App; kind = Text }) d.app refl (there_text d.app w.app) in
    let f5 = good_perhaps message.Dependency 5 (record { name = name.Repository; kind = Text }) d.repository refl
    (there_text d.repository w.repository) in
    good_append (perhaps 5 d.repository) (good_append (perhaps 4 d.app)
    (good_append (truth_field 3 d.optional) (good_append (bytes_field 2 d.requirement ∷ []) f1 f2) (good_truth d.optional)) f4) f5

pub dependency_numbered : (d : Dependency) → AllByRecursion Numbered (dependency_fields d)
dependency_numbered d =
    let front = bytes_field 1 d.«package» ∷ bytes_field 2 d.requirement ∷ truth_field 3 d.optional in
    let n1 : AllByRecursion Numbered front = ((omega arith, omega arith), ((omega arith, omega arith), numbered_truth d.optional)) in
    all_append Numbered (front ++ perhaps 4 d.app) (perhaps 5 d.repository)
    (all_append Numbered front (perhaps 4 d.app) n1 (numbered_perhaps 4 d.app (omega arith) (omega arith)))
    (numbered_perhaps 5 d.repository (omega arith) (omega arith))

pub dependency_reads : (t : List ℕ) (d : Dependency) → WritesDependency t d → IsWritableDependency d
    → StandsDependency t d × IsWhole message.Dependency t
dependency_reads t d h w =
    let v = dependency_values d.«package» d.requirement d.optional d.app d.repository in
    let s = fields_from (dependency_numbered d) h in
    let g = dependency_good d w in (
      record {
        fields = dependency_fields d;
        spelled = s;
        good = g;
        names = v.one;
        requirement = v.two;
        optional = v.three;
        app = v.four;
        repository = v.five;
      },
      good.whole s g (record { merged = []; merges = λ e. absurd cc; answers = refl }),
    )

pub each_reads : {A : Type 0} (R S : List ℕ → A → Type 0) (W : A → Type 0) (Q : List ℕ → Type 0) (texts : List (List ℕ)) (items : List A)
    → ((t : List ℕ) (a : A) → R t a → W a → S t a × Q t) → Each R texts items → AllByRecursion W items → Each S texts items × AllByRecursion Q texts
each_reads R S W Q [] [] one h w = (tt, tt)
each_reads R S W Q [] (b ∷ bs) one h w = absurd h
each_reads R S W Q (t ∷ texts) [] one h w = absurd h
each_reads R S W Q (t ∷ texts) (b ∷ bs) one h w =
    let x = one t b h.0 w.0 in
    let y = each_reads R S W Q texts bs one h.1 w.1 in
    ((x.0, y.0), (x.1, y.1))

pub inner_all : (m : Message) (texts : List (List ℕ)) → AllByRecursion (IsWhole m) texts → AllByRecursion (λ t. IsOf (Inner m) (Length t)) texts
inner_all m [] h = tt
inner_all m (t ∷ texts) h = (good.inner h.0, inner_all m texts h.1)
