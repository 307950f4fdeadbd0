-- When a text is refused, and where, over any language. A text is a list, of bytes or of words.
use Rattle.std.specs.Prelude.{◌≡◌, ℕ, ◌<◌, ◌≤◌, List, ◌∷◌, ◌++◌, length, take}

-- a text that some text of the language begins with
abbrev pub Begins : {X : Type 0} → (List X → Type 0) → List X → Type 0
Begins {X} Spells text = (more : List X) × Spells (text ++ more)

-- the language hasn't the text, and its first `at` parts are the longest of its prefixes that begins one
pub record IsRefusedAt {X : Type 0} (Spells : List X → Type 0) (text : List X) (at : ℕ) : Type 0 where
  pub nothing : Spells text → ⊥
  pub within : at ≤ length text
  pub begins : Begins Spells (take at text)
  pub longest : (k : ℕ) → at < k → k ≤ length text → Begins Spells (take k text) → ⊥

-- a reader in a state: some text leads on from there to an end, what is left doesn't, nor does anything
-- that goes on with its first part
pub record IsStuck {X S : Type 0} (Leads : S → List X → Type 0) (state : S) (left : List X) : Type 0 where
  pub lives : (more : List X) × Leads state more
  pub ends : Leads state left → ⊥
  pub refuses : (next : X) (others more : List X) → left ≡ next ∷ others → Leads state (next ∷ more) → ⊥
