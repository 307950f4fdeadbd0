-- Where the reader of a first line stops.
use Rattle.std.proofs.Common.{◌≡◌, ℕ, Bool, true, false, List, [], ◌∷◌, ◌++◌, length, refl, sym, ap, ◌∙◌, codes}
use Rattle.reading.specs.Field.{Stops}
use Rattle.reading.specs.Plain.{Always, after_text, literal_text}
use Rattle.reading.proofs.Fields.{told_otherwise}
use Rattle.reading.proofs.Lists.{same_head, same_tail}
use Rattle.reading.proofs.Literals.{literal_first_stops, literal_second_stops}
use Rattle.build_manifest.specs.Fields.{form_text, tag_digit, tag_text}

-- ---- the digit and the newline behind it

-- neither digit stands there
pub no_digit_stops : (text : List ℕ) → ((next : ℕ) (others : List ℕ) (tag : Bool) → text ≡ next ∷ others → next ≡ tag_digit tag → ⊥)
    → Stops form_text Always text (length text)
no_digit_stops text none = record {
  taken = [];
  rest = text;
  bytes = refl;
  size = refl;
  sticks = record {
    value = false;
    fits = tt;
    byte = 49;
    more = 10 ∷ [];
    begins = refl;
    refuses = λ next others further tag e _ whole. none next others tag e (sym (same_head (tag_digit tag) next (10 ∷ []) further whole));
  };
}

pub form_end_stops : (tag : Bool) (text after : List ℕ) (left : ℕ) → text ≡ tag_digit tag ∷ after → Stops (literal_text (10 ∷ [])) Always after left
    → Stops form_text Always text left
form_end_stops tag text after left cut s = record {
  taken = tag_digit tag ∷ s.taken;
  rest = s.rest;
  bytes = cut ∙ ap (λ t. tag_digit tag ∷ t) s.bytes;
  size = s.size;
  sticks = record {
    value = tag;
    fits = tt;
    byte = s.sticks.byte;
    more = s.sticks.more;
    begins = ap (λ t. tag_digit tag ∷ t) s.sticks.begins;
    refuses = λ byte others further other e _ whole.
        s.sticks.refuses byte others further tt e tt (same_tail (tag_digit other) (tag_digit tag) (10 ∷ []) (s.taken ++ byte ∷ further) whole);
  };
}

pub form_read : (tag : Bool) (text after more : List ℕ) → text ≡ tag_digit tag ∷ after → after ≡ (10 ∷ []) ++ more → text ≡ form_text tag ++ more
form_read tag text after more cut next = cut ∙ ap (λ t. tag_digit tag ∷ t) next

-- ---- the line

tag_parts : (tag : Bool) → after_text (codes "mark ") form_text tag ≡ tag_text tag
tag_parts false = refl
tag_parts true = refl

tag_told : (text : List ℕ) (left : ℕ) → Stops (after_text (codes "mark ") form_text) Always text left → Stops tag_text Always text left
tag_told text left s =
    told_otherwise (after_text (codes "mark ") form_text) Always tag_text Always (λ tag. tag) (λ tag. tag) (λ tag _. (tt, sym (tag_parts tag)))
    (λ tag _. (tt, tag_parts tag)) text left s

pub tag_word_stops : (text : List ℕ) (left : ℕ) → Stops (literal_text (codes "mark ")) Always text left → Stops tag_text Always text left
tag_word_stops text left s = tag_told text left (literal_first_stops (codes "mark ") form_text Always false tt text left s)

pub tag_form_stops : (text rest : List ℕ) (left : ℕ) → text ≡ codes "mark " ++ rest → Stops form_text Always rest left → Stops tag_text Always text left
tag_form_stops text rest left cut s = tag_told text left (literal_second_stops (codes "mark ") form_text Always text rest left cut s)

pub tag_read : (tag : Bool) (text rest more : List ℕ) → text ≡ codes "mark " ++ rest → rest ≡ form_text tag ++ more → text ≡ tag_text tag ++ more
tag_read tag text rest more cut next = cut ∙ ap (λ t. codes "mark " ++ t) next ∙ ap (λ t. t ++ more) (tag_parts tag)
