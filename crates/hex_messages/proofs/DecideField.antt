-- A text begins with a field, or a fault stands there.
use Rattle.std.proofs.Common.{◌≡◌, ◌≢◌, ℕ, zero, suc, ◌/◌, ◌%◌, ◌^◌, ◌<◌, ◌≤◌, Bool, true, false, Option, Some, None, List, [], ◌∷◌, ◌++◌, length, take, drop, refl, sym, ap, subst, inl, inr, ⊎_elim, ◌⊎◌, arith}
use Rattle.std.specs.List.{list_all}
use Rattle.std.proofs.lemmas.Bool.{cases_lt}
use Rattle.std.proofs.lemmas.Bool.Decides.{nat_tests, eqb_tells}
use Rattle.std.proofs.lemmas.List.{take_all, take-append-drop, length-take-le}
use Rattle.hex_messages.specs.declared.error.WireCause.{WireCause}
use Rattle.hex_messages.specs.declared.error.WireCause.TheVariants.{BadKey, BadVarint, Truncated, WrongWire}
use Rattle.hex_messages.specs.declared.message.Message.{Message}
use Rattle.hex_messages.specs.declared.schema.Known.{Known}
use Rattle.hex_messages.specs.Varint.{goes_on, is_whole, number_of}
use Rattle.hex_messages.specs.Fields.{Payload, Varint, Fixed64, Length, Fixed32, Field, greatest_number}
use Rattle.hex_messages.specs.Schema.{field_at, wire_of}
use Rattle.hex_messages.specs.Faults.{VarintFault, ValueFault, IsWire, IsKey, IsOwnWire, FieldFault}
use Rattle.hex_messages.specs.Faults as fault
use Rattle.hex_messages.specs.Reading.{BeginsVarint, BeginsKey, BeginsValue, BeginsField}
use Rattle.hex_messages.proofs.WireLemmas.{key_parts, bad_key_at, key_at, bytes_at, length_at, wrong_at, own_some, own_none, value_at, field_at_front}

-- a varint's last byte among the first ones, or all of them go on
data Scan : ℕ → List ℕ → Type 0 where
  ends : {k : ℕ} {text : List ℕ} (front rest : List ℕ) → is_whole front ≡ true → length front ≤ k → text ≡ front ++ rest → Scan k text
  goes : {k : ℕ} {text : List ℕ} → list_all goes_on (take k text) ≡ true → Scan k text

whole_more : (x : ℕ) (front : List ℕ) → goes_on x ≡ true → is_whole front ≡ true → is_whole (x ∷ front) ≡ true
whole_more x [] on w = absurd cc
whole_more x (y ∷ front) on w = grind (arith, nat_tests)

scan_more : (k x : ℕ) (xs : List ℕ) → goes_on x ≡ true → Scan k xs → Scan (suc k) (x ∷ xs)
scan_more k x xs on (ends front rest w l e) = ends (x ∷ front) rest (whole_more x front on w) (omega arith) (ap (λ t. x ∷ t) e)
scan_more k x xs on (goes h) = goes (grind (arith, nat_tests))

scan_step : (k x : ℕ) (xs : List ℕ) (b : Bool) → goes_on x ≡ b → Scan k xs → Scan (suc k) (x ∷ xs)
scan_step k x xs true e s = scan_more k x xs e s
scan_step k x xs false e s = ends (x ∷ []) xs (grind (arith, nat_tests)) (omega arith) refl

scan : (k : ℕ) (text : List ℕ) → Scan k text
scan zero text = goes refl
scan (suc k) [] = goes refl
scan (suc k) (x ∷ xs) = scan_step k x xs (goes_on x) refl (scan k xs)

-- what a text begins with, or why not with that
data Varints : List ℕ → Type 0 where
  read : {text : List ℕ} (n : ℕ) (rest : List ℕ) → BeginsVarint text n rest → Varints text
  refused : {text : List ℕ} (cause : WireCause) → VarintFault text cause → Varints text

scanned : (text : List ℕ) → Scan 10 text → Varints text
scanned text (ends front rest w l e) =
    ⊎_elim
    (λ (small : number_of front < 2 ^ 64). read (number_of front) rest
    (record { front = front; varint = record { whole = w; short = l; value = refl; small = small }; split = e }))
    (λ (big : 2 ^ 64 ≤ number_of front). refused BadVarint (fault.great front rest w l big e)) (cases_lt (number_of front) (2 ^ 64))
scanned text (goes on) =
    ⊎_elim
    (λ (few : length text < 10). refused Truncated (fault.cut few (subst (λ l. list_all goes_on l ≡ true) (take_all 10 text (omega arith)) on)))
    (λ (many : 10 ≤ length text). refused BadVarint (fault.long many on)) (cases_lt (length text) 10)

decide_varint : (text : List ℕ) → Varints text
decide_varint text = scanned text (scan 10 text)

data Values : ℕ → List ℕ → Type 0 where
  value : {wire : ℕ} {text : List ℕ} (payload : Payload) (rest : List ℕ) → BeginsValue text wire payload rest → Values wire text
  valueless : {wire : ℕ} {text : List ℕ} (cause : WireCause) → ValueFault wire text cause → Values wire text

varint_value : (text : List ℕ) → Varints text → Values 0 text
varint_value text (read n rest b) = value (Varint n) rest (record { front = b.front; typed = refl; spelled = b.varint; split = b.split })
varint_value text (refused cause f) = valueless cause (fault.varint f)

length_value : (text : List ℕ) → Varints text → Values 2 text
length_value text (read n after b) =
    ⊎_elim
    (λ (short : length after < n). valueless Truncated (bytes_at text after n b short))
    (λ (long : n ≤ length after). value (Length (take n after)) (drop n after)
    (length_at text after (take n after) (drop n after) n b (length-take-le n after long) (sym (take-append-drop n after))))
    (cases_lt (length after) n)
length_value text (refused cause f) = valueless cause (fault.size f)

eight_value : (text : List ℕ) → Values 1 text
eight_value text =
    ⊎_elim
    (λ (short : length text < 8). valueless Truncated (fault.eight short))
    (λ (long : 8 ≤ length text). value (Fixed64 (take 8 text)) (drop 8 text)
    (record { front = take 8 text; typed = refl; spelled = (refl, length-take-le 8 text long); split = sym (take-append-drop 8 text) }))
    (cases_lt (length text) 8)

four_value : (text : List ℕ) → Values 5 text
four_value text =
    ⊎_elim
    (λ (short : length text < 4). valueless Truncated (fault.four short))
    (λ (long : 4 ≤ length text). value (Fixed32 (take 4 text)) (drop 4 text)
    (record { front = take 4 text; typed = refl; spelled = (refl, length-take-le 4 text long); split = sym (take-append-drop 4 text) }))
    (cases_lt (length text) 4)

decide_value : (wire : ℕ) (text : List ℕ) → IsWire wire → Values wire text
decide_value wire text (inl e) = subst (λ w. Values w text) (sym e) (varint_value text (decide_varint text))
decide_value wire text (inr (inl e)) = subst (λ w. Values w text) (sym e) (eight_value text)
decide_value wire text (inr (inr (inl e))) = subst (λ w. Values w text) (sym e) (length_value text (decide_varint text))
decide_value wire text (inr (inr (inr e))) = subst (λ w. Values w text) (sym e) (four_value text)

wire_test : (w : ℕ) → IsWire w ⊎ (IsWire w → ⊥)
wire_test w =
    ⊎_elim (λ e. inl (inl e.1))
    (λ a. ⊎_elim (λ e. inl (inr (inl e.1)))
    (λ b. ⊎_elim (λ e. inl (inr (inr (inl e.1))))
    (λ c. ⊎_elim (λ e. inl (inr (inr (inr e.1))))
    (λ d. inr (λ h. ⊎_elim a.1 (λ i. ⊎_elim b.1 (λ j. ⊎_elim c.1 d.1 j) i) h)) (eqb_tells w 5)) (eqb_tells w 2)) (eqb_tells w 1)) (eqb_tells w 0)

key_test : (n w : ℕ) → IsKey n w ⊎ (IsKey n w → ⊥)
key_test n w =
    ⊎_elim (λ (a : n < 1). inr (λ (k : IsKey n w). let l = k.least in omega arith))
    (λ (a : 1 ≤ n). ⊎_elim (λ (b : greatest_number < n). inr (λ (k : IsKey n w). let l = k.most in omega arith))
    (λ (b : n ≤ greatest_number). ⊎_elim (λ (t : IsWire w). inl (record { least = a; most = b; typed = t }))
    (λ (t : IsWire w → ⊥). inr (λ (k : IsKey n w). t k.typed)) (wire_test w)) (cases_lt greatest_number n)) (cases_lt n 1)

pub data Begun : Message → List ℕ → Type 0 where
  begins : {m : Message} {text : List ℕ} (f : Field) (rest : List ℕ) → BeginsField m text f rest → Begun m text
  faulty : {m : Message} {text : List ℕ} (cause : WireCause) → FieldFault m text 0 cause → Begun m text

valued : (m : Message) (text rest : List ℕ) (number wire : ℕ) → BeginsKey text number wire rest → IsOwnWire (field_at m number) wire
    → Values wire rest → Begun m text
valued m text rest number wire k own (value payload after v) = begins (record { number = number; payload = payload }) after
    (field_at_front m text rest after number wire payload k own v)
valued m text rest number wire k own (valueless cause f) = faulty cause (value_at m text rest number wire cause k own f)

owned : (m : Message) (text rest : List ℕ) (number wire : ℕ) (o : Option Known) → o ≡ field_at m number → BeginsKey text number wire rest
    → Begun m text
owned m text rest number wire None e k = valued m text rest number wire k (own_none (field_at m number) wire e) (decide_value wire rest k.key.typed)
owned m text rest number wire (Some known) e k =
    ⊎_elim
    (λ same. valued m text rest number wire k (own_some (field_at m number) known wire e same.1) (decide_value wire rest k.key.typed))
    (λ other. faulty (WrongWire known.name) (wrong_at m text rest number wire known k e other.1)) (eqb_tells wire (wire_of known.kind))

keyed : (m : Message) (text : List ℕ) → text ≢ [] → Varints text → Begun m text
keyed m text some (refused cause f) = faulty cause (key_at text cause f m some)
keyed m text some (read n rest b) =
    ⊎_elim
    (λ (k : IsKey (n / 8) (n % 8)). owned m text rest (n / 8) (n % 8) (field_at m (n / 8)) refl
    (record { front = b.front; varint = rw (key_parts n (n / 8) (n % 8) refl refl) b.varint; key = k; split = b.split }))
    (λ (bad : IsKey (n / 8) (n % 8) → ⊥). faulty BadKey (bad_key_at text rest n b bad m)) (key_test (n / 8) (n % 8))

-- a text that has a byte begins with a field, or it is faulty there
pub decide_field : (m : Message) (text : List ℕ) → text ≢ [] → Begun m text
decide_field m text some = keyed m text some (decide_varint text)
