-- Pre-releases and build metadata are ASCII.
use Rattle.std.proofs.Common.{◌≡◌, ℕ, ◌==◌, ◌&&◌, ◌<◌, List, [], ◌∷◌, Bool, true, refl, sym, arith, inl, inr, subst, IsUtf8, IsAscii}
use Rattle.std.specs.List.{list_all}
use Rattle.std.proofs.lemmas.Bool.{cases_Bool, eqb-true}
use Rattle.std.proofs.lemmas.Str.{IsUtf8-from_ascii}
use Rattle.std.proofs.lemmas.Str.Ascii.{IsAscii-cons, IsAscii-nil}
use Rattle.semver.specs.Grammar.{is_build, is_build_identifier, is_identifier_byte, is_pre_identifier, is_pre_release}
use Rattle.semver.specs.Order.{parts}
use Rattle.semver.specs.OrderLaws.{parts-shape}
use Rattle.semver.proofs.Segments.{and-left, and-right}

byte_below : (b : ℕ) → is_identifier_byte b ≡ true → b < 128
byte_below b h = grind arith

both_true : (x y : Bool) → x ≡ true → y ≡ true → (x && y) ≡ true
both_true x y p q = rw (p, q) refl

parts_ascii : (text : List ℕ) → list_all (list_all is_identifier_byte) (parts text) ≡ true → IsAscii text
parts_ascii [] h = IsAscii-nil
parts_ascii (b ∷ rest) h =
    let shape = parts-shape rest in
    elim (cases_Bool (b == 46)) [
      | inl dot ↦
          let byte : b ≡ 46 = eqb-true b 46 dot in
          IsAscii-cons b rest (omega arith) (parts_ascii rest (rw dot at h))
      | inr other ↦
          let all = rw (other, shape.2) at h in
          let first = and-left _ _ all in
          let tail = both_true (list_all is_identifier_byte shape.0) (list_all (list_all is_identifier_byte) shape.1) (and-right _ _ first)
          (and-right _ _ all) in
          IsAscii-cons b rest (byte_below b (and-left _ _ first))
          (parts_ascii rest (subst (λ (ps : List (List ℕ)). list_all (list_all is_identifier_byte) ps ≡ true) (sym shape.2) tail))
    ]

weaker : (p q : List ℕ → Bool) → ((x : List ℕ) → p x ≡ true → q x ≡ true) → (xs : List (List ℕ)) → list_all p xs ≡ true → list_all q xs ≡ true
weaker p q w [] h = refl
weaker p q w (x ∷ xs) h = rw (w x (and-left (p x) _ h), weaker p q w xs (and-right (p x) _ h)) refl

build_bytes : (part : List ℕ) → is_build_identifier part ≡ true → list_all is_identifier_byte part ≡ true
build_bytes part h = and-right _ _ h

pre_bytes : (part : List ℕ) → is_pre_identifier part ≡ true → list_all is_identifier_byte part ≡ true
pre_bytes part h = build_bytes part (and-left _ _ h)

pub pre_utf8 : (text : List ℕ) → is_pre_release text ≡ true → IsUtf8 text
pre_utf8 [] h = IsUtf8-from_ascii [] IsAscii-nil
pre_utf8 (b ∷ rest) h = IsUtf8-from_ascii (b ∷ rest)
    (parts_ascii (b ∷ rest) (weaker is_pre_identifier (list_all is_identifier_byte) pre_bytes (parts (b ∷ rest)) h))

pub build_utf8 : (text : List ℕ) → is_build text ≡ true → IsUtf8 text
build_utf8 [] h = IsUtf8-from_ascii [] IsAscii-nil
build_utf8 (b ∷ rest) h = IsUtf8-from_ascii (b ∷ rest)
    (parts_ascii (b ∷ rest) (weaker is_build_identifier (list_all is_identifier_byte) build_bytes (parts (b ∷ rest)) h))
