-- Texts that are versions.
use Rattle.std.proofs.Common.{◌≡◌, ℕ, List, Bool, true, false, refl}
use Rattle.std.specs.Str.{is_utf8, IsUtf8}
use Rattle.std.proofs.lemmas.Str.{IsUtf8-from_is_utf8, is_utf8-from_IsUtf8}

pub text_is_utf8 : (text : List ℕ) → IsUtf8 text → is_utf8 text ≡ true
text_is_utf8 = is_utf8-from_IsUtf8

-- a text that isn't UTF-8 fails the test
pub no_text : (text : List ℕ) → (IsUtf8 text → ⊥) → is_utf8 text ≡ false
no_text text none = at (is_utf8 text) refl
  where
    at : (b : Bool) → is_utf8 text ≡ b → b ≡ false
    at true e = absurd (none (IsUtf8-from_is_utf8 text e))
    at false e = refl
