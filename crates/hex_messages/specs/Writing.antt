-- What the steps of the writer promise.
use Rattle.std.specs.Prelude.{◌≡◌, ℕ, List, ◌++◌, map, Option}
use Rattle.hex_messages.specs.declared.package.Retired.{Retired}
use Rattle.hex_messages.specs.Fields.{Field}
use Rattle.hex_messages.specs.Stands.{Each}
use Rattle.hex_messages.specs.Canonical.{IsShortest, WritesFields, WritesRetirement, bytes_field, perhaps}

-- the shortest varint of the number was appended
pub record AppendsVarint (old new : List ℕ) (n : ℕ) : Type 0 where
  pub text : List ℕ
  pub shortest : IsShortest text n
  pub appended : new ≡ old ++ text

-- these fields were appended
pub record Appends (old new : List ℕ) (fields : List Field) : Type 0 where
  pub text : List ℕ
  pub written : WritesFields text fields
  pub appended : new ≡ old ++ text

-- a message of each of these was appended, in a field of this number
pub record AppendsEach {A : Type 0} (R : List ℕ → A → Type 0) (number : ℕ) (old new : List ℕ) (items : List A) : Type 0 where
  pub texts : List (List ℕ)
  pub written : Each R texts items
  pub appended : Appends old new (map (bytes_field number) texts)

-- the retirement was appended, where there is one
pub record AppendsRetired (old new : List ℕ) (r : Option Retired) : Type 0 where
  pub text : Option (List ℕ)
  pub written : WritesRetirement text r
  pub appended : Appends old new (perhaps 4 text)
