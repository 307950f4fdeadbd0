-- What fields hold by their number, of one list and of two in a row.
use Rattle.std.proofs.Common.{◌≡◌, ℕ, Bool, true, false, ◌||◌, cond, eqb, Option, Some, None, List, [], ◌∷◌, ◌++◌, refl, sym, ap, ◌∙◌, arith}
use Rattle.std.specs.Prelude.{is_some}
use Rattle.std.proofs.lemmas.List.Folds.{list_any-append}
use Rattle.std.proofs.lemmas.Bool.{or_parts, eqb-true}
use Rattle.std.proofs.lemmas.Bool.Decides.{nat_tests}
use Rattle.hex_messages.specs.declared.message.Message.{Message}
use Rattle.hex_messages.specs.Fields.{Payload, Varint, Length, Field, wire_type}
use Rattle.hex_messages.specs.Good.{AllGood, has}
use Rattle.hex_messages.specs.Stands.{later, last_of, last_bytes, last_number, all_bytes, bytes_in, number_in, holding, Each}
use Rattle.hex_messages.specs.Finding.{last_value, HasWire}
use Rattle.hex_messages.proofs.GoodLemmas.{good_rest, length_of, varint_of, typed}

pub later_none : {A : Type 0} (o : Option A) → later None o ≡ o
later_none None = refl
later_none (Some a) = refl

later_assoc : {A : Type 0} (a b c : Option A) → later a (later b c) ≡ later (later a b) c
later_assoc a b None = refl
later_assoc a b (Some c) = refl

pub last_append : {A : Type 0} (v : Payload → Option A) (n : ℕ) (fields others : List Field)
    → last_of v n (fields ++ others) ≡ later (last_of v n fields) (last_of v n others)
last_append v n [] others = sym (later_none (last_of v n others))
last_append v n (f ∷ fields) others =
    ap (λ o. later (cond (eqb f.number n) (v f.payload) None) o) (last_append v n fields others)
    ∙ later_assoc (cond (eqb f.number n) (v f.payload) None) (last_of v n fields) (last_of v n others)

pub has_append : (n : ℕ) (fields others : List Field) → has n (fields ++ others) ≡ (has n fields || has n others)
has_append n fields others = list_any-append (λ f. eqb f.number n) fields others

holding_append : (c : Bool) (o : Option (List ℕ)) (some others : List (List ℕ)) → holding c o (some ++ others) ≡ holding c o some ++ others
holding_append true (Some b) some others = refl
holding_append true None some others = refl
holding_append false o some others = refl

pub all_append : (n : ℕ) (fields others : List Field) → all_bytes n (fields ++ others) ≡ all_bytes n fields ++ all_bytes n others
all_append n [] others = refl
all_append n (f ∷ fields) others =
    ap (λ l. holding (eqb f.number n) (bytes_in f.payload) l) (all_append n fields others)
    ∙ holding_append (eqb f.number n) (bytes_in f.payload) (all_bytes n fields) (all_bytes n others)

-- where no field has the number, none holds anything
pub last_apart : {A : Type 0} (v : Payload → Option A) (n : ℕ) (fields : List Field) → has n fields ≡ false → last_of v n fields ≡ None
last_apart v n [] e = refl
last_apart v n (f ∷ fields) e =
    let p = or_parts (eqb f.number n) (has n fields) e in
    rw (p.0, last_apart v n fields p.1) refl

pub all_apart : (n : ℕ) (fields : List Field) → has n fields ≡ false → all_bytes n fields ≡ []
all_apart n [] e = refl
all_apart n (f ∷ fields) e =
    let p = or_parts (eqb f.number n) (has n fields) e in
    rw p.0 (all_apart n fields p.1)

pub same_test : (n : ℕ) → eqb n n ≡ true
same_test n = grind (arith, nat_tests)

-- a field with the number counts, whatever stood before it
pub last_found : (n : ℕ) (p : Payload) (fields : List Field) → last_value n (fields ++ record { number = n; payload = p } ∷ []) ≡ Some p
last_found n p fields = last_append (λ x. Some x) n fields (record { number = n; payload = p } ∷ []) ∙ rw (same_test n) refl

pub all_found : (n : ℕ) (bytes : List ℕ) (fields : List Field)
    → all_bytes n (fields ++ record { number = n; payload = Length bytes } ∷ []) ≡ all_bytes n fields ++ bytes ∷ []
all_found n bytes fields = all_append n fields (record { number = n; payload = Length bytes } ∷ []) ∙ rw (same_test n) refl

value_step : (t : Bool) (p : Payload) (o : Option Payload) → is_some (later (cond t (Some p) None) o) ≡ (t || is_some o)
value_step true p None = refl
value_step true p (Some q) = refl
value_step false p None = refl
value_step false p (Some q) = refl

-- a field stands there where one holds a value
pub has_value : (n : ℕ) (fields : List Field) → has n fields ≡ is_some (last_value n fields)
has_value n [] = refl
has_value n (f ∷ fields) = ap (λ b. eqb f.number n || b) (has_value n fields) ∙ sym (value_step (eqb f.number n) f.payload (last_value n fields))

-- the last value with a number of wire type 2, and the bytes that it holds
abbrev pub AgreesBytes : Option Payload → Option (List ℕ) → Type 0
AgreesBytes None o = o ≡ None
AgreesBytes (Some p) o = (bytes : List ℕ) × (p ≡ Length bytes) × (o ≡ Some bytes)

bytes_step : (t : Bool) (p : Payload) (l : Option Payload) (o : Option (List ℕ)) → (t ≡ true → wire_type p ≡ 2) → AgreesBytes l o
    → AgreesBytes (later (cond t (Some p) None) l) (later (cond t (bytes_in p) None) o)
bytes_step t p (Some q) o w h = (h.0, h.1, rw h.2 refl)
bytes_step true p None o w h = let b = length_of p (w refl) in (b.0, b.1, ap (λ x. later (bytes_in p) x) h ∙ ap bytes_in b.1)
bytes_step false p None o w h = rw h refl

pub bytes_agree : {m : Message} (n : ℕ) (fields : List Field) → HasWire m n 2 → AllGood m fields
    → AgreesBytes (last_value n fields) (last_bytes n fields)
bytes_agree n [] h g = refl
bytes_agree n (f ∷ fields) h g =
    bytes_step (eqb f.number n) f.payload (last_value n fields) (last_bytes n fields) (λ t. typed n 2 h g (eqb-true f.number n t))
    (bytes_agree n fields h (good_rest g))

-- the same of wire type 0 and a number
abbrev pub AgreesNumber : Option Payload → Option ℕ → Type 0
AgreesNumber None o = o ≡ None
AgreesNumber (Some p) o = (n : ℕ) × (p ≡ Varint n) × (o ≡ Some n)

number_step : (t : Bool) (p : Payload) (l : Option Payload) (o : Option ℕ) → (t ≡ true → wire_type p ≡ 0) → AgreesNumber l o
    → AgreesNumber (later (cond t (Some p) None) l) (later (cond t (number_in p) None) o)
number_step t p (Some q) o w h = (h.0, h.1, rw h.2 refl)
number_step true p None o w h = let b = varint_of p (w refl) in (b.0, b.1, ap (λ x. later (number_in p) x) h ∙ ap number_in b.1)
number_step false p None o w h = rw h refl

pub number_agree : {m : Message} (n : ℕ) (fields : List Field) → HasWire m n 0 → AllGood m fields
    → AgreesNumber (last_value n fields) (last_number n fields)
number_agree n [] h g = refl
number_agree n (f ∷ fields) h g =
    number_step (eqb f.number n) f.payload (last_value n fields) (last_number n fields) (λ t. typed n 0 h g (eqb-true f.number n t))
    (number_agree n fields h (good_rest g))

has_step : {A : Type 0} (t : Bool) (o l : Option A) (b : Bool) (x : A) → ((y : A) → l ≡ Some y → b ≡ true) → later (cond t o None) l ≡ Some x
    → (t || b) ≡ true
has_step true o l b x more e = refl
has_step false o None b x more e = absurd cc
has_step false o (Some y) b x more e = more y refl

-- a field that holds something stands there
pub has_last : {A : Type 0} (v : Payload → Option A) (n : ℕ) (fields : List Field) (x : A) → last_of v n fields ≡ Some x → has n fields ≡ true
has_last v n [] x e = absurd cc
has_last v n (f ∷ fields) x e = has_step (eqb f.number n) (v f.payload) (last_of v n fields) (has n fields) x (λ y h. has_last v n fields y h) e

-- one for one, and one more
pub each_push : {A B : Type 0} (R : A → B → Type 0) (xs : List A) (bs : List B) (a : A) (b : B) → Each R xs bs → R a b
    → Each R (xs ++ a ∷ []) (bs ++ b ∷ [])
each_push R [] [] a b h r = (r, tt)
each_push R [] (y ∷ bs) a b h r = absurd h
each_push R (x ∷ xs) [] a b h r = absurd h
each_push R (x ∷ xs) (y ∷ bs) a b h r = (h.0, each_push R xs bs a b h.1 r)
