-- Flags in blocks of 64, one of which changes.
use Rattle.std.proofs.Common.{◌≡◌, ℕ, ◌+◌, ◌*◌, ◌/◌, ◌%◌, ◌<◌, ◌≤◌, inl, inr, Bool, true, false, List, length, replicate, Option, Some, None, is_some, IfNone, slice_get, slice_set, refl, sym, ◌∙◌, ap, arith, get_or}
use Rattle.std.proofs.lemmas.Bool.{cases_eq, cases_lt}
use Rattle.std.proofs.lemmas.List.{length-set, length-replicate}
use Rattle.std.proofs.lemmas.Option.{slice_get_within, slice_get-get_or}
use Rattle.partition_core.specs.PlaceSets.{AreBlocksOf, IsFirstOf, IsFirstIn}
use Rattle.partition_core.proofs.Places.{set_same, set_other, get_replicate}

-- no flag is true
pub blocks_empty : (count : ℕ) → AreBlocksOf (replicate count false) (replicate (count / 64 + 1) false)
blocks_empty count =
    let flags = length-replicate count false in
    let blocks = length-replicate (count / 64 + 1) false in
    let parts : count ≡ 64 * (count / 64) + count % 64 = omega arith in
    let rest : count % 64 < 64 = omega arith in
    record {
      enough = omega (arith, flags, blocks, parts, rest);
      needed = omega (arith, flags, blocks, parts);
      stands = λ block place low high lit. let h = get_replicate count place false true lit in cc;
    }

-- the block of a place
pub block_low : (place : ℕ) → 64 * (place / 64) ≤ place
block_low place = omega arith

pub block_high : (place : ℕ) → place < 64 * (place / 64) + 64
block_high place = omega arith

pub block_within : (flags blocks : List Bool) (place : ℕ) → AreBlocksOf flags blocks → place < length flags → place / 64 < length blocks
block_within flags blocks place are within = let low = block_low place in let enough = are.enough in omega arith

-- where no flag of a block is found, none of it is true
found_there : (found : Option ℕ) (flags : List Bool) (block : ℕ) →
    IfNone found ((place : ℕ) → 64 * block ≤ place → place < 64 * block + 64 → slice_get flags place ≡ Some true → ⊥) →
    (place : ℕ) → 64 * block ≤ place → place < 64 * block + 64 → slice_get flags place ≡ Some true → is_some found ≡ true
found_there None flags block none place low high lit = absurd (none place low high lit)
found_there (Some p) flags block none place low high lit = refl

-- a flag changed, and its block says what is found in it
pub blocks_put : (flags blocks : List Bool) (place : ℕ) (flag : Bool) (found : Option ℕ) → AreBlocksOf flags blocks → place < length flags →
    IfNone found ((p : ℕ) → 64 * (place / 64) ≤ p → p < 64 * (place / 64) + 64 → slice_get (slice_set flags place flag) p ≡ Some true → ⊥) →
    AreBlocksOf (slice_set flags place flag) (slice_set blocks (place / 64) (is_some found))
blocks_put flags blocks place flag found are within none =
    let own = place / 64 in
    let long = length-set flags place flag in
    let many = length-set blocks own (is_some found) in
    record {
      enough = omega (arith, long, many, are.enough);
      needed = omega (arith, long, many, are.needed);
      stands = λ block p low high lit. elim (cases_eq block own) [
        | inl same ↦
            let found_it = found_there found (slice_set flags place flag) own none p (let e = same in omega arith) (let e = same in omega arith) lit in
            ap (slice_get (slice_set blocks own (is_some found))) same
            ∙ set_same blocks own (is_some found) (get_or blocks own false) (slice_get-get_or blocks own false (block_within flags blocks place are within))
            ∙ ap Some found_it
        | inr other ↦
            let apart : (p ≡ place → ⊥) = λ e. other (let l = block_low place in let h = block_high place in omega arith) in
            set_other blocks own block (is_some found) other
            ∙ are.stands block p low high (sym (set_other flags place p flag apart) ∙ lit)
      ];
    }

-- a block that isn't true has no flag that is
pub block_off : (flags blocks : List Bool) (block : ℕ) (d : Bool) → AreBlocksOf flags blocks → block < length blocks → get_or blocks block d ≡ false →
    (p : ℕ) → 64 * block ≤ p → p < 64 * block + 64 → slice_get flags p ≡ Some true → ⊥
block_off flags blocks block d are within off p low high lit =
    let h : Some false ≡ Some true = ap Some (sym off) ∙ sym (slice_get-get_or blocks block d within) ∙ are.stands block p low high lit in cc

-- a block begins where there are flags, or at their end
pub block_begins : (flags blocks : List Bool) (block : ℕ) → AreBlocksOf flags blocks → block < length blocks → 64 * block ≤ length flags
block_begins flags blocks block are within = let h = are.needed in omega arith

-- none of the flags so far is true
pub dark_more : (flags : List Bool) (block : ℕ) → ((p : ℕ) → p < 64 * block → slice_get flags p ≡ Some true → ⊥) →
    ((p : ℕ) → 64 * block ≤ p → p < 64 * block + 64 → slice_get flags p ≡ Some true → ⊥) → (p : ℕ) → p < 64 * (block + 1) → slice_get flags p ≡ Some true → ⊥
dark_more flags block before here p below lit =
    elim (cases_lt p (64 * block)) [ inl earlier ↦ before p earlier lit | inr up ↦ here p up (omega arith) lit ]

-- the first of a block is the first of all, where none is true before it
pub first_whole : (flags : List Bool) (block place : ℕ) → ((p : ℕ) → p < 64 * block → slice_get flags p ≡ Some true → ⊥) → IsFirstIn flags block place →
    IsFirstOf flags place
first_whole flags block place dark is = record {
  here = is.here;
  before = λ earlier below lit. elim (cases_lt earlier (64 * block)) [ inl e ↦ dark earlier e lit | inr up ↦ is.before earlier up below lit ];
}

-- the blocks reach over all flags
pub dark_all : (flags blocks : List Bool) (block : ℕ) → AreBlocksOf flags blocks → length blocks ≤ block →
    ((p : ℕ) → p < 64 * block → slice_get flags p ≡ Some true → ⊥) → (p : ℕ) → slice_get flags p ≡ Some true → ⊥
dark_all flags blocks block are ended dark p lit =
    let within : p < length flags = slice_get_within flags p true lit in
    let enough = are.enough in
    dark p (omega arith) lit
