-- How a field is found by its number.
use Rattle.std.proofs.Common.{◌≡◌, ◌≢◌, ℕ, ◌+◌, ◌<◌, ◌≤◌, Bool, true, false, eqb, Option, Some, None, List, [], ◌∷◌, ◌++◌, length, refl, sym, ap, ◌∙◌, subst, ⊎_elim, arith}
use Rattle.std.proofs.lemmas.Bool.{ne_eqb, eqb-true}
use Rattle.std.proofs.lemmas.List.{append_assoc, append-nil, length-append}
use Rattle.hex_messages.specs.declared.error.WireCause.{WireCause}
use Rattle.hex_messages.specs.declared.message.Message.{Message}
use Rattle.hex_messages.specs.declared.wire.Wire.{Wire}
use Rattle.hex_messages.specs.Fields.{Payload, Field, Fields}
use Rattle.hex_messages.specs.Fields as fields
use Rattle.hex_messages.specs.Good.{AllGood, IsWhole, has}
use Rattle.hex_messages.specs.Stands.{later}
use Rattle.hex_messages.specs.Faults.{FieldFault}
use Rattle.hex_messages.specs.Reading.{BeginsField, payload_of, field_of}
use Rattle.hex_messages.specs.Finding.{InFields, Finds, last_value}
use Rattle.hex_messages.proofs.FieldsLemmas.{At, at_start, at_push, at_append, at_end}
use Rattle.hex_messages.proofs.GoodLemmas.{good_front, good_behind, whole_parts}
use Rattle.hex_messages.proofs.ValueLemmas.{last_append, last_apart, last_found, has_append}
use Rattle.hex_messages.proofs.OneReading.{one_field, one_fields, not_empty}
use Rattle.hex_messages.proofs.Apart.{field_apart, next_field}

-- the fields behind those that a text begins with
pub record Behind (rest : List ℕ) (all fields : List Field) : Type 0 where
  pub others : List Field
  pub spelled : Fields rest others
  pub split : all ≡ fields ++ others

behind_step : (a b : Field) (fs all others : List Field) → a ≡ b → all ≡ fs ++ others → a ∷ all ≡ (b ∷ fs) ++ others
behind_step a b fs all others e h = cc

behind_front : {text front : List ℕ} {all fs : List Field} (rest : List ℕ) → Fields text all → Fields front fs → text ≡ front ++ rest
    → Behind rest all fs
behind_front {all = all} rest h fields.none e = record { others = all; spelled = subst (λ l. Fields l all) e h; split = refl }
behind_front rest fields.none (fields.more {front = f} {rest = r} {field = a} s others split) e =
    absurd (not_empty a f (r ++ rest) s (sym (append_assoc f r rest) ∙ (ap (λ l. l ++ rest) (sym split) ∙ sym e)))
behind_front rest (fields.more {front = f} {rest = r} {field = a} {fields = all} s others split)
    (fields.more {front = h} {rest = t} {field = b} {fields = fs} k further kept) e =
    let o = one_field a b f h r (t ++ rest) s k (sym split ∙ (e ∙ (ap (λ l. l ++ rest) kept ∙ append_assoc h t rest))) in
    let more = behind_front rest others further o.rest in
    record { others = more.others; spelled = more.spelled; split = behind_step a b fs all more.others o.field more.split }

pub behind : {text rest : List ℕ} {all fs : List Field} → Fields text all → At text rest fs → Behind rest all fs
behind {rest = rest} h a = behind_front rest h a.spelled a.split

-- what a message without a fault begins with may stand in it
pub whole_front : {m : Message} {text rest : List ℕ} {fs : List Field} → IsWhole m text → At text rest fs → AllGood m fs
whole_front {m = m} {fs = fs} w a =
    let p = whole_parts w in
    let b = behind p.spelled a in
    good_front fs b.others (subst (λ l. AllGood m l) b.split p.good)

-- the text as far as no field of the number was met
pub record Passed (number : ℕ) (text rest : List ℕ) : Type 0 where
  pub fields : List Field
  pub at : At text rest fields
  pub apart : has number fields ≡ false

pub passed_start : (number : ℕ) (text : List ℕ) → Passed number text text
passed_start number text = record { fields = []; at = at_start text; apart = refl }

pub passed_on : (m : Message) (number : ℕ) (text rest after : List ℕ) (wire : Wire) → Passed number text rest
    → BeginsField m rest (field_of wire) after → (wire.number ≡ number → ⊥) → Passed number text after
passed_on m number text rest after wire p b other = record {
  fields = p.fields ++ field_of wire ∷ [];
  at = at_push p.at b.spelled b.split;
  apart = has_append number p.fields (field_of wire ∷ []) ∙ rw (p.apart, ne_eqb wire.number number other) refl;
}

pub passed_found : (m : Message) (number : ℕ) (text rest after : List ℕ) (wire : Wire) → Passed number text rest
    → BeginsField m rest (field_of wire) after → wire.number ≡ number → Finds number text (payload_of wire.value) after
passed_found m number text rest after wire p b e =
    let at : At text after (p.fields ++ field_of wire ∷ []) = at_push p.at b.spelled b.split in
    let same : p.fields ++ field_of wire ∷ [] ≡ p.fields ++ record {
      number = number;
      payload = payload_of wire.value;
    } ∷ [] = ap (λ n. p.fields ++ record { number = n; payload = payload_of wire.value } ∷ []) e in
    record { front = at.front; others = p.fields; apart = p.apart; spelled = subst (λ l. Fields at.front l) same at.spelled; split = at.split }

pub passed_end : (m : Message) (number : ℕ) (text rest : List ℕ) → Passed number text rest → rest ≡ []
    → InFields m text (λ fields. has number fields ≡ false)
passed_end m number text rest p e = λ all s g. subst (λ l. has number l ≡ false) (one_fields p.fields all (at_end p.at e) s) p.apart

-- where no field begins, a message that may stand has ended
pub passed_stuck : (m : Message) (number : ℕ) (text rest : List ℕ) (cause : WireCause) → Passed number text rest → rest ≢ []
    → FieldFault m rest 0 cause → InFields m text (λ fields. has number fields ≡ false)
passed_stuck m number text rest cause p some fault = λ all s g.
    let at = p.at in
    absurd (⊎_elim (λ e. some e) (λ x. field_apart x fault) (next_field rest s g at.spelled at.split))

-- where a field was found, and the fields up to it
pub found_at : {number : ℕ} {text rest after : List ℕ} {p : Payload} {fields : List Field} → At text rest fields → (f : Finds number rest p after)
    → At text after (fields ++ (f.others ++ record { number = number; payload = p } ∷ []))
found_at a f = at_append a f.spelled f.split

-- the last value with a number, as far as the text was passed
pub record LastSoFar (number : ℕ) (text rest : List ℕ) (value : Option Payload) : Type 0 where
  pub fields : List Field
  pub at : At text rest fields
  pub held : value ≡ last_value number fields

pub last_start : (number : ℕ) (text : List ℕ) → LastSoFar number text text None
last_start number text = record { fields = []; at = at_start text; held = refl }

pub last_more : (number : ℕ) (text rest after : List ℕ) (value : Option Payload) (p : Payload) → LastSoFar number text rest value
    → Finds number rest p after → LastSoFar number text after (Some p)
last_more number text rest after value p l f =
    let found = record { number = number; payload = p } ∷ [] in
    record {
      fields = l.fields ++ (f.others ++ found);
      at = found_at l.at f;
      held = sym (last_append (λ x. Some x) number l.fields (f.others ++ found)
          ∙ ap (λ o. later (last_value number l.fields) o) (last_found number p f.others));
    }

pub last_end : (m : Message) (number : ℕ) (text rest : List ℕ) (value : Option Payload) → LastSoFar number text rest value
    → InFields m rest (λ fields. has number fields ≡ false) → InFields m text (λ fields. value ≡ last_value number fields)
last_end m number text rest value l none = λ all s g.
    let b = behind s l.at in
    let h : has number b.others ≡ false = none b.others b.spelled (good_behind l.fields b.others (subst (λ x. AllGood m x) b.split g)) in
    let e : last_value number (l.fields ++ b.others) ≡ last_value number l.fields = last_append (λ x. Some x) number l.fields b.others
    ∙ ap (λ o. later (last_value number l.fields) o) (last_apart (λ x. Some x) number b.others h) in
    l.held ∙ sym (ap (last_value number) b.split ∙ e)

last_field : (fs : List Field) (f : Field) → [] ≡ fs ++ f ∷ [] → ⊥
last_field [] f e = cc
last_field (x ∷ fs) f e = cc

fields_some : (text : List ℕ) (fs : List Field) (f : Field) → Fields text (fs ++ f ∷ []) → 1 ≤ length text
fields_some [] fs f h = absurd (last_field fs f (one_fields [] (fs ++ f ∷ []) fields.none h))
fields_some (x ∷ text) fs f h = omega arith

-- less is left behind a field that was found
pub found_shorter : (number : ℕ) (text rest : List ℕ) (p : Payload) → Finds number text p rest → length rest < length text
found_shorter number text rest p f =
    let l : length text ≡ length f.front + length rest = ap length f.split ∙ length-append f.front rest in
    let some = fields_some f.front f.others (record { number = number; payload = p }) f.spelled in
    omega arith

pub begins_shorter : (m : Message) (text rest : List ℕ) (f : Field) → BeginsField m text f rest → length rest < length text
begins_shorter m text rest f b =
    let l : length text ≡ length b.front + length rest = ap length b.split ∙ length-append b.front rest in
    let s = fields_some b.front [] f (fields.more b.spelled fields.none (sym (append-nil b.front))) in
    omega arith

pub some_bytes : {b : Bool} (text : List ℕ) → b ≡ eqb (length text) 0 → b ≡ false → text ≢ []
some_bytes {b = b} text e h = λ q. let z : b ≡ true = e ∙ ap (λ l. eqb (length l) 0) q in absurd cc

pub no_bytes : {b : Bool} (text : List ℕ) → b ≡ eqb (length text) 0 → b ≡ true → text ≡ []
no_bytes [] e h = refl
no_bytes (x ∷ text) e h = let l : length (x ∷ text) ≡ 0 = eqb-true (length (x ∷ text)) 0 (sym e ∙ h) in absurd (omega arith)
