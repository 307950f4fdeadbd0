-- What is built of a message without a fault.
use Rattle.std.proofs.Common.{◌≡◌, ℕ, Bool, true, false, Option, Some, None, List, [], ◌∷◌, ◌++◌, refl, sym, ap, ◌∙◌, subst}
use Rattle.std.specs.Prelude.{is_some}
use Rattle.std.proofs.lemmas.List.{append-nil}
use Rattle.hex_messages.specs.declared.message.Message.{Message}
use Rattle.hex_messages.specs.declared.message.Message.TheVariants as message
use Rattle.hex_messages.specs.declared.schema.Kind.TheVariants.{Inner}
use Rattle.hex_messages.specs.declared.schema.Known.{Known}
use Rattle.hex_messages.specs.Fields.{Payload, Varint, Length, Field, wire_type}
use Rattle.hex_messages.specs.Schema.{field_at}
use Rattle.hex_messages.specs.Good.{AllGood, IsWhole, has}
use Rattle.hex_messages.specs.Stands.{all_bytes, last_bytes, last_number, is_set, Each}
use Rattle.hex_messages.specs.Finding.{InFields, HasWire, Finds, last_value}
use Rattle.hex_messages.proofs.FieldsLemmas.{At, at_start}
use Rattle.hex_messages.proofs.GoodLemmas.{good_behind}
use Rattle.hex_messages.proofs.ValueLemmas.{all_append, all_apart, all_found, each_push, bytes_agree, AgreesBytes, number_agree, AgreesNumber, has_value}
use Rattle.hex_messages.proofs.FindLemmas.{behind, found_at, whole_front}
use Rattle.hex_messages.proofs.MergeLemmas.{inner_at}

length_same : (a b : List ℕ) → Length a ≡ Length b → a ≡ b
length_same a b e = cc

pub varint_same : (a b : ℕ) → Varint a ≡ Varint b → a ≡ b
varint_same a b e = cc

-- one value for each message within of a number, as far as the text was passed
pub record Made {B : Type 0} (R : List ℕ → B → Type 0) (number : ℕ) (text rest : List ℕ) (made : List B) : Type 0 where
  pub fields : List Field
  pub at : At text rest fields
  pub each : Each R (all_bytes number fields) made

pub made_start : {B : Type 0} (R : List ℕ → B → Type 0) (number : ℕ) (text : List ℕ) → Made R number text text []
made_start R number text = record { fields = []; at = at_start text; each = tt }

-- the message that was found has no fault
pub made_whole : {B : Type 0} (R : List ℕ → B
    → Type 0) (m inside : Message) (number : ℕ) (k : Known) (text rest after bytes : List ℕ) (made : List B) (p : Payload) → IsWhole m text
    → field_at m number ≡ Some k → k.kind ≡ Inner inside → Made R number text rest made → Finds number rest p after
    → (wire_type p ≡ 2 → p ≡ Length bytes) → (p ≡ Length bytes) × IsWhole inside bytes
made_whole R m inside number k text rest after bytes made p w at kind l f is =
    let found = record { number = number; payload = p } ∷ [] in
    let g : AllGood m (l.fields ++ (f.others ++ found)) = whole_front w (found_at l.at f) in
    let g2 = good_behind f.others found (good_behind l.fields (f.others ++ found) g) in
    let i = inner_at inside number k (record { number = number; payload = p }) at kind refl g2 in
    let typed : wire_type p ≡ 2 = ap wire_type i.1 in
    let e : p ≡ Length bytes = is typed in
    (e, subst (λ b. IsWhole inside b) (length_same i.0 bytes (sym i.1 ∙ e)) i.2)

pub made_more : {B : Type 0} (R : List ℕ → B → Type 0) (number : ℕ) (text rest after bytes : List ℕ) (made next : List B) (p : Payload) (item : B)
    → Made R number text rest made → Finds number rest p after → p ≡ Length bytes → R bytes item → next ≡ made ++ item ∷ []
    → Made R number text after next
made_more R number text rest after bytes made next p item l f e r n =
    let found = record { number = number; payload = p } ∷ [] in
    let same : all_bytes number (f.others ++ found) ≡ bytes ∷ [] =
    ap (λ q. all_bytes number (f.others ++ record { number = number; payload = q } ∷ [])) e
    ∙ (all_found number bytes f.others ∙ ap (λ x. x ++ bytes ∷ []) (all_apart number f.others f.apart)) in
    let all : all_bytes number (l.fields ++ (f.others ++ found)) ≡ all_bytes number l.fields ++ bytes ∷ [] =
    all_append number l.fields (f.others ++ found) ∙ ap (λ x. all_bytes number l.fields ++ x) same in
    record {
      fields = l.fields ++ (f.others ++ found);
      at = found_at l.at f;
      each = rw (all, n) (each_push R (all_bytes number l.fields) made bytes item l.each r);
    }

pub made_end : {B : Type 0} (R : List ℕ → B → Type 0) (m : Message) (number : ℕ) (text rest : List ℕ) (made : List B) → Made R number text rest made
    → InFields m rest (λ fields. has number fields ≡ false) → InFields m text (λ fields. Each R (all_bytes number fields) made)
made_end R m number text rest made l none = λ all s g.
    let b = behind s l.at in
    let h = none b.others b.spelled (good_behind l.fields b.others (subst (λ x. AllGood m x) b.split g)) in
    let e : all_bytes number all ≡ all_bytes number l.fields = ap (all_bytes number) b.split
    ∙ (all_append number l.fields b.others
    ∙ (ap (λ x. all_bytes number l.fields ++ x) (all_apart number b.others h) ∙ append-nil (all_bytes number l.fields))) in
    rw e l.each

-- the bytes of the last value
pub last_some : (o : Option (List ℕ)) (p : Payload) (bytes : List ℕ) → AgreesBytes (Some p) o → (wire_type p ≡ 2 → p ≡ Length bytes) → o ≡ Some bytes
last_some o p bytes h is =
    let typed : wire_type p ≡ 2 = ap wire_type h.1 in
    h.2 ∙ ap (λ x. Some x) (length_same h.0 bytes (sym h.1 ∙ is typed))

pub given_some : (m : Message) (number : ℕ) (text bytes : List ℕ) (p : Payload) → HasWire m number 2
    → InFields m text (λ fields. Some p ≡ last_value number fields) → (wire_type p ≡ 2 → p ≡ Length bytes)
    → InFields m text (λ fields. Some bytes ≡ last_bytes number fields)
given_some m number text bytes p w h is = λ all s g.
    let a = subst (λ o. AgreesBytes o (last_bytes number all)) (sym (h all s g)) (bytes_agree number all w g) in
    sym (last_some (last_bytes number all) p bytes a is)

pub given_none : (m : Message) (number : ℕ) (text : List ℕ) → HasWire m number 2 → InFields m text (λ fields. None ≡ last_value number fields)
    → InFields m text (λ fields. None ≡ last_bytes number fields)
given_none m number text w h = λ all s g. sym (subst (λ o. AgreesBytes o (last_bytes number all)) (sym (h all s g)) (bytes_agree number all w g))

pub required_none : (m : Message) (number : ℕ) (text bytes : List ℕ) → InFields m text (λ fields. None ≡ last_value number fields)
    → InFields m text (λ fields. has number fields ≡ true → last_bytes number fields ≡ Some bytes)
required_none m number text bytes h = λ all s g there. let e : has number all ≡ false = has_value number all
    ∙ ap is_some (sym (h all s g)) in absurd cc

-- a truth value
pub truth_some : (text : List ℕ) (n : ℕ) (p : Payload) (truth : Bool) → InFields message.Dependency text (λ fields. Some p ≡ last_value 3 fields)
    → (wire_type p ≡ 0 → p ≡ Varint n) → truth ≡ is_set (Some n) → InFields message.Dependency text (λ fields. truth ≡ is_set (last_number 3 fields))
truth_some text n p truth h is e = λ all s g.
    let a = subst (λ o. AgreesNumber o (last_number 3 all)) (sym (h all s g)) (number_agree 3 all refl g) in
    let typed : wire_type p ≡ 0 = ap wire_type a.1 in
    e ∙ ap is_set (ap (λ x. Some x) (varint_same n a.0 (sym (is typed) ∙ a.1)) ∙ sym a.2)

pub truth_none : (text : List ℕ) → InFields message.Dependency text (λ fields. None ≡ last_value 3 fields)
    → InFields message.Dependency text (λ fields. false ≡ is_set (last_number 3 fields))
truth_none text h = λ all s g.
    let a = subst (λ o. AgreesNumber o (last_number 3 all)) (sym (h all s g)) (number_agree 3 all refl g) in
    ap is_set (sym a)
