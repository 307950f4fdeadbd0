-- A row beside the winner of its app.
use Rattle.std.specs.Prelude.{◌≡◌, ◌≢◌, ◌↔◌, ℕ, ◌+◌, ◌*◌, ◌<◌, ◌≤◌, ◌⊎◌, Bool, List, length, Option, Some, IsTrue, IsFalse}
use Rattle.std.specs.List.{All, AllPairs, Contains}
use Rattle.semver.specs.Identifiers.{parts_of}
use Rattle.semver.specs.Parse.{Parts}
use Rattle.semver.specs.declared.Version.{Version}
use Rattle.version_req.specs.Condition.{Alternatives}
use Rattle.version_req.specs.Meaning.{sat}
use Rattle.dep_rows.specs.declared.row.Row.{Row}
use Rattle.converger.specs.declared.divergence.Divergence.{Divergence}
use Rattle.converger.specs.declared.divergence.Rule.{Rule}
use Rattle.converger.specs.declared.divergence.Rule.TheVariants.{V1, V2, V3, V4}
use Rattle.dep_rows.specs.Listed.{Listed}
use Rattle.dep_rows.specs.Rows.{most_rows}
use Rattle.converger.specs.Divergence.{Diverges, IsUnder, is_ignored, is_path}
use Rattle.converger.specs.Strays.{is_marked, IsStraySomewhere}

-- the row comes from elsewhere
abbrev pub ComesFromElsewhere : Row → Row → Type 0
ComesFromElsewhere winner row = IsFalse (is_ignored winner row) × (row.decl.source ≢ winner.decl.source)

-- the row is compiled otherwise
abbrev pub IsCompiledOtherwise : Row → Row → Type 0
IsCompiledOtherwise winner row = IsFalse (is_ignored winner row)
    × ((row.decl.app_file ≢ winner.decl.app_file) ⊎ ((row.decl.env ≢ winner.decl.env) ⊎ (row.decl.compile ≢ winner.decl.compile)))

-- the row asks for another version than the winner has
pub record AsksOtherwise (winner row : Row) (found : Option Version) : Type 0 where
  pub kept : IsFalse (is_ignored winner row)
  pub version : Version
  pub has : found ≡ Some version
  pub requirement : Alternatives
  pub asks : row.decl.requirement ≡ Some requirement
  pub fails : IsFalse (sat requirement (parts_of version) (is_path winner.decl.source))

-- the rule meets at a row that isn't the winner, or is it
abbrev pub Meets : Rule → Row → Row → Bool → Option Version → Bool → Type 0
Meets V1 winner row same found stray = IsFalse same × ComesFromElsewhere winner row
Meets V2 winner row same found stray = IsFalse same × IsCompiledOtherwise winner row
Meets V3 winner row same found stray = AsksOtherwise winner row found
Meets V4 winner row same found stray = IsTrue stray

-- the winner of the app of the row at a place stands there
pub record IsUnderAt (rows : List Row) (place other : ℕ) : Type 0 where
  pub winner : Row
  pub row : Row
  pub under : IsUnder rows place winner other row

-- rows, the versions of their winners, and the marks of the strays among them
pub record IsScene (listed : Listed) (versions : List (Option Version)) (strays : List Bool) : Type 0 where
  pub few : length listed.rows ≤ most_rows
  pub long_versions : length versions ≡ length listed.winners
  pub long : length strays ≡ length listed.rows
  pub are_strays : (other : ℕ) → IsTrue (is_marked strays other) ↔ IsStraySomewhere listed.rows other

-- the order of the rules, from 0
abbrev pub index_of : Rule → ℕ
index_of V1 = 0
index_of V2 = 1
index_of V3 = 2
index_of V4 = 3

-- one number for the place of a row and a rule, which rises with the row and then with the rule
abbrev pub turn_of : ℕ → Rule → ℕ
turn_of other rule = 4 * other + index_of rule

-- the row at a place can't live together with its winner by this rule
abbrev pub DivergesIn : Listed → List (Option Parts) → Divergence → Type 0
DivergesIn listed versions d = Diverges listed.rows listed.winners versions d.rule d.winner d.other

-- the divergences of all turns before this one
pub record AreBefore (listed : Listed) (versions : List (Option Parts)) (turn : ℕ) (list : List Divergence) : Type 0 where
  pub in_order : AllPairs (λ earlier later. turn_of earlier.other earlier.rule < turn_of later.other later.rule) list
  pub only : All (λ d. (turn_of d.other d.rule < turn) × DivergesIn listed versions d) list
  pub all : (d : Divergence) → turn_of d.other d.rule < turn → DivergesIn listed versions d → Contains list d
