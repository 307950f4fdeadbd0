-- The fields of a message, passed one after another.
use Rattle.std.proofs.Common.{◌≡◌, ℕ, List, [], ◌∷◌, ◌++◌, refl, sym, ap, ◌∙◌, subst}
use Rattle.std.proofs.lemmas.List.{append_assoc, append-nil}
use Rattle.hex_messages.specs.Fields.{Field, Fields, none, more, SpellsField}

pub fields_append : {front rest : List ℕ} {fields others : List Field} → Fields front fields → Fields rest others
    → Fields (front ++ rest) (fields ++ others)
fields_append none h = h
fields_append {rest = last} (more {front = front} {rest = rest} first others split) h =
    more first (fields_append others h) (ap (λ l. l ++ last) split ∙ append_assoc front rest last)

-- the text begins with these fields, and the rest follows
pub record At (text rest : List ℕ) (fields : List Field) : Type 0 where
  pub front : List ℕ
  pub spelled : Fields front fields
  pub split : text ≡ front ++ rest

pub at_start : (text : List ℕ) → At text text []
at_start text = record { front = []; spelled = none; split = refl }

pub at_append : {text rest last next : List ℕ} {fields others : List Field} → At text rest fields → Fields last others → rest ≡ last ++ next
    → At text next (fields ++ others)
at_append {last = last} {next = next} a h e = record {
  front = a.front ++ last;
  spelled = fields_append a.spelled h;
  split = a.split ∙ (ap (λ l. a.front ++ l) e ∙ sym (append_assoc a.front last next));
}

pub at_push : {text rest last next : List ℕ} {fields : List Field} {f : Field} → At text rest fields → SpellsField last f → rest ≡ last ++ next
    → At text next (fields ++ f ∷ [])
at_push {last = last} a s e = at_append a (more s none (sym (append-nil last))) e

pub at_end : {text rest : List ℕ} {fields : List Field} → At text rest fields → rest ≡ [] → Fields text fields
at_end {fields = fields} a e = subst (λ l. Fields l fields) (sym (append-nil a.front) ∙ (ap (λ l. a.front ++ l) (sym e) ∙ sym a.split)) a.spelled
