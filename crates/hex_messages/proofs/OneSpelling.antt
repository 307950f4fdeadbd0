-- A package has one canonical spelling.
use Rattle.std.proofs.Common.{◌≡◌, ℕ, ◌+◌, ◌*◌, ◌<◌, ◌≤◌, true, Option, Some, None, List, [], ◌∷◌, ◌++◌, length, map, refl, sym, ap, ◌∙◌, subst, arith}
use Rattle.std.proofs.lemmas.Bool.Decides.{nat_tests}
use Rattle.hex_messages.specs.declared.package.Package.{Package}
use Rattle.hex_messages.specs.declared.package.Release.{Release}
use Rattle.hex_messages.specs.declared.package.Dependency.{Dependency}
use Rattle.hex_messages.specs.declared.package.Retired.{Retired}
use Rattle.hex_messages.specs.Varint.{is_whole, digit, number_of}
use Rattle.hex_messages.specs.Fields.{Payload, Varint, Fixed64, Length, Fixed32, Field, wire_type}
use Rattle.hex_messages.specs.Stands.{Each}
use Rattle.hex_messages.specs.Canonical.{AreBytes, IsShortest, WritesPayload, WritesField, WritesFields, none, more, bytes_field, WritesDependency, WritesRetirement, WritesRelease, release_fields, Writes}

digit_small : (x : ℕ) → x < 256 → digit x < 128
digit_small x h = grind (arith, nat_tests)

digits_apart : (a b n m : ℕ) → a < 128 → b < 128 → a + 128 * n ≡ b + 128 * m → (a ≡ b) × (n ≡ m)
digits_apart a b n m h k e = (omega arith, omega arith)

one_last : (x y : ℕ) → x < 128 → y < 128 → digit x ≡ digit y → x ≡ y
one_last x y h k e = grind (arith, nat_tests)

one_first : (x y : ℕ) → 128 ≤ x → 128 ≤ y → digit x ≡ digit y → x ≡ y
one_first x y h k e = grind (arith, nat_tests)

last_small : (x : ℕ) → is_whole (x ∷ []) ≡ true → x < 128
last_small x h = grind (arith, nat_tests)

first_large : (x z : ℕ) (xs : List ℕ) → is_whole (x ∷ z ∷ xs) ≡ true → 128 ≤ x
first_large x z xs h = grind (arith, nat_tests)

rest_whole : (x z : ℕ) (xs : List ℕ) → is_whole (x ∷ z ∷ xs) ≡ true → is_whole (z ∷ xs) ≡ true
rest_whole x z xs h = grind (arith, nat_tests)

-- digits of one number, and as many
one_digits : (xs ys : List ℕ) → AreBytes xs → AreBytes ys → is_whole xs ≡ true → is_whole ys ≡ true → length xs ≡ length ys
    → number_of xs ≡ number_of ys → xs ≡ ys
one_digits [] ys a b h k l e = absurd cc
one_digits (x ∷ xs) [] a b h k l e = absurd cc
one_digits (x ∷ []) (y ∷ []) a b h k l e =
    let d = digits_apart (digit x) (digit y) 0 0 (digit_small x a.0) (digit_small y b.0) e in
    let s : x ≡ y = one_last x y (last_small x h) (last_small y k) d.0 in
    cc
one_digits (x ∷ []) (y ∷ w ∷ ys) a b h k l e = absurd (omega arith)
one_digits (x ∷ z ∷ xs) (y ∷ []) a b h k l e = absurd (omega arith)
one_digits (x ∷ z ∷ xs) (y ∷ w ∷ ys) a b h k l e =
    let d = digits_apart (digit x) (digit y) (number_of (z ∷ xs)) (number_of (w ∷ ys)) (digit_small x a.0) (digit_small y b.0) e in
    let s : x ≡ y = one_first x y (first_large x z xs h) (first_large y w ys k) d.0 in
    let r : z ∷ xs ≡ w ∷ ys = one_digits (z ∷ xs) (w ∷ ys) a.1 b.1 (rest_whole x z xs h) (rest_whole y w ys k) (omega arith) d.1 in
    cc

one_shortest : (xs ys : List ℕ) (n : ℕ) → IsShortest xs n → IsShortest ys n → xs ≡ ys
one_shortest xs ys n h k =
    let a = h.shortest ys k.each k.varint in
    let b = k.shortest xs h.each h.varint in
    one_digits xs ys h.each k.each h.varint.whole k.varint.whole (omega arith) (h.varint.value ∙ sym k.varint.value)

one_value : (p : Payload) (xs ys : List ℕ) → WritesPayload xs p → WritesPayload ys p → xs ≡ ys
one_value (Varint n) xs ys h k = one_shortest xs ys n h k
one_value (Length b) xs ys h k =
    let s : h.0 ≡ k.0 = one_shortest h.0 k.0 (length b) h.1 k.1 in
    h.2 ∙ (ap (λ l. l ++ b) s ∙ sym k.2)
one_value (Fixed64 b) xs ys h k = absurd h
one_value (Fixed32 b) xs ys h k = absurd h

one_text : (f : Field) (xs ys : List ℕ) → WritesField xs f → WritesField ys f → xs ≡ ys
one_text f xs ys h k =
    let s : h.key ≡ k.key = one_shortest h.key k.key (f.number * 8 + wire_type f.payload) h.keyed k.keyed in
    let v : h.value ≡ k.value = one_value f.payload h.value k.value h.valued k.valued in
    h.split ∙ (ap (λ l. l ++ h.value) s ∙ (ap (λ l. k.key ++ l) v ∙ sym k.split))

one_texts : {xs ys : List ℕ} {fs gs : List Field} → fs ≡ gs → WritesFields xs fs → WritesFields ys gs → xs ≡ ys
one_texts e none none = refl
one_texts e none (more k others split) = absurd cc
one_texts e (more h others split) none = absurd cc
one_texts e (more {front = f} {rest = r} {field = a} {fields = fs} h others split)
    (more {front = g} {rest = s} {field = b} {fields = gs} k further kept) =
    let same : b ≡ a = cc in
    let rest : fs ≡ gs = cc in
    let x : f ≡ g = one_text a f g h (subst (λ (z : Field). WritesField g z) same k) in
    let y : r ≡ s = one_texts rest others further in
    split ∙ (ap (λ l. l ++ r) x ∙ (ap (λ l. g ++ l) y ∙ sym kept))

each_text : {A : Type 0} (R : List ℕ → A → Type 0) (xs ys : List (List ℕ)) (items : List A) → ((x y : List ℕ) (a : A) → R x a → R y a → x ≡ y)
    → Each R xs items → Each R ys items → xs ≡ ys
each_text R [] [] items one h k = refl
each_text R [] (y ∷ ys) [] one h k = absurd k
each_text R [] (y ∷ ys) (a ∷ items) one h k = absurd h
each_text R (x ∷ xs) [] [] one h k = absurd h
each_text R (x ∷ xs) [] (a ∷ items) one h k = absurd k
each_text R (x ∷ xs) (y ∷ ys) [] one h k = absurd h
each_text R (x ∷ xs) (y ∷ ys) (a ∷ items) one h k =
    let s : x ≡ y = one x y a h.0 k.0 in
    let r : xs ≡ ys = each_text R xs ys items one h.1 k.1 in
    cc

dependency_text : (x y : List ℕ) (d : Dependency) → WritesDependency x d → WritesDependency y d → x ≡ y
dependency_text x y d h k = one_texts refl h k

retired_text : (x y : Option (List ℕ)) (r : Option Retired) → WritesRetirement x r → WritesRetirement y r → x ≡ y
retired_text None None r h k = refl
retired_text None (Some y) None h k = absurd k
retired_text None (Some y) (Some r) h k = absurd h
retired_text (Some x) None None h k = absurd h
retired_text (Some x) None (Some r) h k = absurd k
retired_text (Some x) (Some y) None h k = absurd h
retired_text (Some x) (Some y) (Some r) h k = let s : x ≡ y = one_texts refl h k in cc

release_text : (x y : List ℕ) (r : Release) → WritesRelease x r → WritesRelease y r → x ≡ y
release_text x y r h k =
    let d : h.dependencies ≡ k.dependencies = each_text WritesDependency h.dependencies k.dependencies r.dependencies dependency_text
    h.dependencies_written k.dependencies_written in
    let t : h.retired ≡ k.retired = retired_text h.retired k.retired r.retired h.retired_written k.retired_written in
    one_texts (ap (λ (l : List (List ℕ)). release_fields r l h.retired) d ∙ ap (λ (o : Option (List ℕ)). release_fields r k.dependencies o) t)
    h.fields_written k.fields_written

pub one_spelling : (p : Package) (x y : List ℕ) → Writes x p → Writes y p → x ≡ y
one_spelling p x y h k =
    let d : h.releases ≡ k.releases = each_text WritesRelease h.releases k.releases p.releases release_text h.releases_written k.releases_written in
    one_texts (ap (λ (l : List (List ℕ)). map (bytes_field 1) l ++ bytes_field 2 p.name ∷ bytes_field 3 p.repository ∷ []) d) h.fields_written
    k.fields_written
