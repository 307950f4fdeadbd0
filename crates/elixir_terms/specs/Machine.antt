-- The states of the reader between tokens. What a text spells is said without them (Grammar.antt).
use Rattle.std.specs.Prelude.{ℕ, Bool, true, false, not, List, [], ◌∷◌, ◌++◌, length, map, Option, Some, None, option_map, if◌then◌else◌}
use Rattle.term_tokens.specs.declared.bracket.Bracket.{Bracket}
use Rattle.term_tokens.specs.declared.bracket.Bracket.TheVariants as bracket
use Rattle.term_tokens.specs.declared.expected.Expected.{Expected}
use Rattle.elixir_terms.specs.declared.frame.Frame.{Frame}
use Rattle.elixir_terms.specs.declared.frame.Hole.{Hole}
use Rattle.elixir_terms.specs.declared.frame.Slot.{Slot}
use Rattle.elixir_terms.specs.declared.frame.Slot.TheVariants as slot
use Rattle.elixir_terms.specs.declared.state.State.{State}
use Rattle.elixir_terms.specs.declared.state.State.TheVariants as state
use Rattle.term_values.specs.declared.term.Term.{Term}
use Rattle.term_values.specs.declared.term.Term.TheVariants as term
use Rattle.term_tokens.specs.declared.token.Closing.{Closing}
use Rattle.term_tokens.specs.declared.token.Closing.TheVariants.{Square, Curly}
use Rattle.term_tokens.specs.declared.token.Token.{Token}
use Rattle.term_tokens.specs.declared.token.Token.TheVariants.{Atom, Int, Str, Words, Key, Open, Close, Comma, Arrow}
use Rattle.elixir_terms.specs.Codes.{keys_in}
use Rattle.term_print.specs.Grammar.{enclosed, closing_of, word_list}
use Rattle.term_values.specs.Views.{Pair}
use Rattle.elixir_terms.specs.Levels.{HasRoom, Enters}
use Rattle.elixir_terms.specs.Within.{IsNone, Differ}

-- the bracket is closed so
abbrev pub is_closed_by : Bracket → Closing → Bool
is_closed_by bracket.List Square = true
is_closed_by bracket.List Curly = false
is_closed_by bracket.Tuple Square = false
is_closed_by bracket.Tuple Curly = true
is_closed_by bracket.Map Square = false
is_closed_by bracket.Map Curly = true

abbrev pub is_none : {X : Type 0} → List X → Bool
is_none [] = true
is_none (x ∷ xs) = false

-- a keyword may stand here: in a tuple it needs an element before it
abbrev pub takes_key_in : Bracket → List Term → Bool
takes_key_in bracket.List items = true
takes_key_in bracket.Tuple items = not (is_none items)
takes_key_in bracket.Map items = true

abbrev pub takes_key : Frame → Bool
takes_key frame = takes_key_in frame.bracket frame.items

-- an element or an entry may stand here: not after a keyword
abbrev pub takes_part : Frame → Bool
takes_part frame = is_none frame.keywords

-- what a term without a keyword's key is here
abbrev pub part_slot : Bracket → Slot
part_slot bracket.List = slot.Element
part_slot bracket.Tuple = slot.Element
part_slot bracket.Map = slot.EntryKey

-- a bracket in which nothing was read yet
abbrev pub empty : Bracket → Frame
empty kind = record { bracket = kind; items = []; entries = []; keywords = [] }

-- with one more element, entry or keyword
abbrev pub with_item : Frame → Term → Frame
with_item frame t = record frame { items = frame.items ++ t ∷ [] }

abbrev pub with_entry : Frame → Term → Term → Frame
with_entry frame key t = record frame { entries = frame.entries ++ (key, t) ∷ [] }

abbrev pub with_pair : Frame → Term → Term → Frame
with_pair frame key t = record frame { keywords = frame.keywords ++ (key, t) ∷ [] }

abbrev pub with_keyword : Frame → List ℕ → Term → Frame
with_keyword frame key t = with_pair frame (term.Atom key) t

-- a whole term goes into a slot of a bracket
abbrev pub placed_in : Slot → Frame → Term → List Hole → State
placed_in slot.Element frame t holes = state.Separator (record frame { items = frame.items ++ t ∷ [] }) holes
placed_in (slot.Keyword key) frame t holes = state.Separator (record frame { keywords = frame.keywords ++ (term.Atom key, t) ∷ [] }) holes
placed_in slot.EntryKey frame t holes = state.Arrow t frame holes
placed_in (slot.EntryValue key) frame t holes = state.Separator (record frame { entries = frame.entries ++ (key, t) ∷ [] }) holes

-- a whole term goes into the innermost hole
abbrev pub placed : Term → List Hole → State
placed t [] = state.Done t
placed t (hole ∷ holes) = placed_in hole.slot hole.frame t holes

-- a token where a term is wanted
abbrev pub begun : Token → List Hole → Option State
begun (Atom name) holes = Some (placed (term.Atom name) holes)
begun (Int n) holes = Some (placed (term.Int n) holes)
begun (Str bytes) holes = Some (placed (term.Str bytes) holes)
begun (Words kind words) holes = Some (placed (word_list kind words) holes)
begun (Open kind) holes = Some (state.Element (empty kind) holes)
begun token holes = None

-- a closing bracket
abbrev pub closed : Frame → Closing → List Hole → Option State
closed frame closing holes = if is_closed_by frame.bracket closing then option_map (λ t. placed t holes) (enclosed frame.bracket frame.items frame.entries frame.keywords) else None

-- a term without a keyword's key
abbrev pub at_part : Frame → List Hole → Token → Option State
at_part frame holes token = if takes_part frame then begun token (record { frame = frame; slot = part_slot frame.bracket } ∷ holes) else None

-- a keyword's key
abbrev pub at_key : Frame → List Hole → List ℕ → Option State
at_key frame holes key = if takes_key frame then Some (state.Value (record { frame = frame; slot = slot.Keyword key } ∷ holes)) else None

-- a token directly after an opening bracket or a comma
abbrev pub at_element : Frame → List Hole → Token → Option State
at_element frame holes (Close closing) = closed frame closing holes
at_element frame holes (Key key) = at_key frame holes key
at_element frame holes token = at_part frame holes token

-- a token directly after a part of a bracket
abbrev pub at_separator : Frame → List Hole → Token → Option State
at_separator frame holes Comma = Some (state.Element frame holes)
at_separator frame holes (Close closing) = closed frame closing holes
at_separator frame holes token = None

-- a token directly after the key of a map's entry
abbrev pub at_arrow : Term → Frame → List Hole → Token → Option State
at_arrow key frame holes Arrow = Some (state.Value (record { frame = frame; slot = slot.EntryValue key } ∷ holes))
at_arrow key frame holes token = None

-- one more token
abbrev pub step : State → Token → Option State
step (state.Value holes) token = begun token holes
step (state.Element frame holes) token = at_element frame holes token
step (state.Separator frame holes) token = at_separator frame holes token
step (state.Arrow key frame holes) token = at_arrow key frame holes token
step (state.Done t) token = None

-- what may stand next in a state
abbrev pub expected : State → Expected
expected (state.Value holes) = record { term = true; key = false; closing = None; comma = false; arrow = false; outermost = is_none holes }
expected (state.Element frame holes) = record { term = takes_part frame; key = takes_key frame; closing = Some (closing_of frame.bracket); comma = false; arrow = false; outermost = false }
expected (state.Separator frame holes) = record { term = false; key = false; closing = Some (closing_of frame.bracket); comma = true; arrow = false; outermost = false }
expected (state.Arrow key frame holes) = record { term = false; key = false; closing = None; comma = false; arrow = true; outermost = false }
expected (state.Done t) = record { term = false; key = false; closing = None; comma = false; arrow = false; outermost = false }

-- where the bracket is a map's, its keys differ
abbrev pub KeysDiffer : Bracket → List Pair → List Pair → Type 0
KeysDiffer bracket.List entries keywords = Unit {0}
KeysDiffer bracket.Tuple entries keywords = Unit {0}
KeysDiffer bracket.Map entries keywords = Differ (map (λ p. p.0) (entries ++ keywords))

-- a token where a term is wanted is within the limit on levels
abbrev pub BeginsWell : Token → List Hole → Type 0
BeginsWell (Words kind words) holes = HasRoom holes
BeginsWell (Open kind) holes = HasRoom holes
BeginsWell token holes = Unit {0}

abbrev pub PartWell : Frame → List Hole → Token → Type 0
PartWell frame holes token = Enters (record { frame = frame; slot = part_slot frame.bracket }) holes × BeginsWell token (record { frame = frame; slot = part_slot frame.bracket } ∷ holes)

-- a token after an opening bracket or a comma is within the limits on levels and keys
abbrev pub ElementWell : Frame → List Hole → Token → Type 0
ElementWell frame holes (Close closing) = KeysDiffer frame.bracket frame.entries frame.keywords
ElementWell frame holes (Key key) = Enters (record { frame = frame; slot = slot.Keyword key }) holes
ElementWell frame holes token = PartWell frame holes token

-- a token after a part of a bracket is within the limit on keys
abbrev pub SeparatorWell : Frame → Token → Type 0
SeparatorWell frame (Close closing) = KeysDiffer frame.bracket frame.entries frame.keywords
SeparatorWell frame token = Unit {0}

-- the token is within the limits on levels and keys
abbrev pub Allows : State → Token → Type 0
Allows (state.Value holes) token = BeginsWell token holes
Allows (state.Element frame holes) token = ElementWell frame holes token
Allows (state.Separator frame holes) token = SeparatorWell frame token
Allows (state.Arrow key frame holes) token = Enters (record { frame = frame; slot = slot.EntryValue key }) holes
Allows (state.Done t) token = Unit {0}

-- a token after an opening bracket or a comma is within the limit on levels
abbrev pub ElementFits : Frame → List Hole → Token → Type 0
ElementFits frame holes (Close closing) = Unit {0}
ElementFits frame holes (Key key) = Enters (record { frame = frame; slot = slot.Keyword key }) holes
ElementFits frame holes token = PartWell frame holes token

-- the token is within the limit on levels
abbrev pub HasLevels : State → Token → Type 0
HasLevels (state.Value holes) token = BeginsWell token holes
HasLevels (state.Element frame holes) token = ElementFits frame holes token
HasLevels (state.Separator frame holes) token = Unit {0}
HasLevels (state.Arrow key frame holes) token = Enters (record { frame = frame; slot = slot.EntryValue key }) holes
HasLevels (state.Done t) token = Unit {0}

-- in a map the key is none of these
abbrev pub NewIn : Bracket → Term → List Term → Type 0
NewIn bracket.List key keys = Unit {0}
NewIn bracket.Tuple key keys = Unit {0}
NewIn bracket.Map key keys = IsNone key keys

abbrev pub NewInSlot : Slot → Frame → Type 0
NewInSlot (slot.Keyword key) frame = NewIn frame.bracket (term.Atom key) (keys_in frame)
NewInSlot place frame = Unit {0}

-- a keyword's key equals no earlier key of its map
abbrev pub NewKeyword : State → Token → Type 0
NewKeyword (state.Element frame holes) (Key key) = NewIn frame.bracket (term.Atom key) (keys_in frame)
NewKeyword s token = Unit {0}

-- the key of an entry that was read last equals no earlier key of its map
abbrev pub NewEntry : State → Type 0
NewEntry (state.Arrow key frame holes) = NewIn frame.bracket key (keys_in frame)
NewEntry s = Unit {0}

-- how many brackets are open outside of the innermost one
abbrev pub depth : State → ℕ
depth (state.Element frame holes) = length holes
depth (state.Arrow key frame holes) = length holes
depth s = 0

-- the key that was read last equals no earlier one of its map
abbrev pub IsNew : State → Type 0
IsNew (state.Value []) = Unit {0}
IsNew (state.Value (hole ∷ holes)) = NewInSlot hole.slot hole.frame
IsNew (state.Arrow key frame holes) = NewIn frame.bracket key (keys_in frame)
IsNew s = Unit {0}
