-- What a piece more leads to.
use Rattle.std.proofs.Common.{◌≡◌, ℕ, List, [], ◌∷◌, ◌++◌, Option, Some, None, refl, sym, ap, ◌∙◌, subst, append_assoc, append-nil}
use Rattle.mix_words.specs.declared.command.Command.{Command}
use Rattle.mix_words.specs.declared.option.Valued.{Valued}
use Rattle.mix_words.specs.declared.option.Flag.{Flag}
use Rattle.mix_words.specs.declared.settings.Settings.{Settings}
use Rattle.mix_words.specs.declared.verb.Verb.{Verb}
use Rattle.mix_words.specs.Choice.{HasBuild, Takes, given_in, raised_in}
use Rattle.mix_words.specs.Live.{Adds, Bars, BarsOption, Dies, Follows, Goes, Leads, LeadsOn, Lives, LivesOn, MayGive, Place, Reaches, State, ready_at, waiting_word}
use Rattle.mix_words.specs.Meaning.{made_of}
use Rattle.mix_words.specs.Piece.{Piece, Spaced, Joint, Raised, Other, Word, Stand, Stands, flags_of, flag_in, others_of, other_in, valued_word, value_in, values_of, words_in, words_of}
use Rattle.mix_words.proofs.PieceLemmas.{HasValue, IsUnknown, has_value, no_piece, same_piece, unknown_begins_none}

takes_same : (v w : Verb) (s : Settings) (a b : List Word) → v ≡ w → a ≡ b → Takes w s b → Takes v s a
takes_same v w s a b e f t = subst (λ (u : Verb). Takes u s a) (sym e) (subst (λ (c : List Word). Takes w s c) (sym f) t)

made_same : (v w : Verb) (s : Settings) (a b : List Word) → v ≡ w → a ≡ b → made_of v s a ≡ made_of w s b
made_same v w s a b e f = ap (λ (u : Verb). made_of u s a) e ∙ ap (λ (c : List Word). made_of w s c) f

-- one piece was cut off from the pieces of what leads on
pub record Cut (state : State) (piece : Piece) (left : List Word) (command : Command) : Type 0 where
  pub pieces : List Piece
  pub settings : Settings
  pub spelled : left ≡ words_of pieces
  pub stand : Stand pieces
  pub values : (option : Valued) → given_in state.settings option ++ (value_in option piece ++ values_of option pieces) ≡ given_in settings option
  pub flags : (flag : Flag) → raised_in state.settings flag ++ (flag_in flag piece ++ flags_of flag pieces) ≡ raised_in settings flag
  pub takes : Takes state.verb settings (state.others ++ (other_in piece ++ others_of pieces))
  pub build : HasBuild settings
  pub makes : made_of state.verb settings (state.others ++ (other_in piece ++ others_of pieces)) ≡ Some command

-- what leads on is empty, or has a first piece
pub record First (state : State) (text : List Word) (command : Command) : Type 0 where
  pub piece : Piece
  pub left : List Word
  pub spelled : text ≡ words_in piece ++ left
  pub stands : Stands piece
  pub cut : Cut state piece left command

first_of : (state : State) (word : Word) (text : List Word) (command : Command) (l : Leads state (word ∷ text) command)
    (pieces : List Piece) → word ∷ text ≡ words_of pieces → Stand pieces
    → ((option : Valued) → given_in state.settings option ++ values_of option pieces ≡ given_in l.settings option)
    → ((flag : Flag) → raised_in state.settings flag ++ flags_of flag pieces ≡ raised_in l.settings flag)
    → Takes state.verb l.settings (state.others ++ others_of pieces)
    → made_of state.verb l.settings (state.others ++ others_of pieces) ≡ Some command
    → First state (word ∷ text) command
first_of state word text command l [] e stand values flags takes makes = cc
first_of state word text command l (p ∷ ps) e stand values flags takes makes = record {
  piece = p;
  left = words_of ps;
  spelled = e;
  stands = stand.0;
  cut = record {
    pieces = ps;
    settings = l.settings;
    spelled = refl;
    stand = stand.1;
    values = values;
    flags = flags;
    takes = takes;
    build = l.build;
    makes = makes;
  };
}

pub first_piece : (state : State) (word : Word) (text : List Word) (command : Command) → Leads state (word ∷ text) command → First state (word ∷ text) command
first_piece state word text command l = first_of state word text command l l.pieces l.spelled l.stand l.values l.flags l.takes l.makes

cut_same : (state : State) (p q : Piece) (x y : List Word) (command : Command) → p ≡ q → x ≡ y → Cut state q y command → Cut state p x command
cut_same state p q x y command e f cut =
    subst (λ (r : Piece). Cut state r x command) (sym e) (subst (λ (z : List Word). Cut state q z command) (sym f) cut)

-- the piece that is known to stand there is cut off
piece_cut : (state : State) (p : Piece) (left : List Word) (command : Command) → Stands p → (word : Word) (text : List Word) → word ∷ text ≡ words_in p ++ left
    → Leads state (word ∷ text) command → Cut state p left command
piece_cut state p left command stands word text e l =
    let first = first_piece state word text command l in
    let same = same_piece p first.piece left first.left stands first.stands (sym e ∙ first.spelled) in
    cut_same state p first.piece left first.left command same.0 same.1 first.cut

cut_off : (state : State) (p : Piece) (left : List Word) (command : Command) → Stands p → Leads state (words_in p ++ left) command → Cut state p left command
cut_off state (Spaced o v) left command s l = piece_cut state (Spaced o v) left command s (valued_word o) (v ∷ left) refl l
cut_off state (Joint o v) left command s l = piece_cut state (Joint o v) left command s (valued_word o ++ 61 ∷ v) left refl l
cut_off state (Raised f) left command s l = piece_cut state (Raised f) left command s _ left refl l
cut_off state (Other w) left command s l = piece_cut state (Other w) left command s w left refl l

others_along : (old new : State) (p : Piece) → Adds old p new → (more : List Word) → new.others ++ more ≡ old.others ++ (other_in p ++ more)
others_along old new p adds more = ap (λ (t : List Word). t ++ more) adds.others ∙ append_assoc old.others (other_in p) more

pub adds_on : (old new : State) (p : Piece) → Stands p → Adds old p new → (left : List Word) (command : Command)
    → Leads old (words_in p ++ left) command → Leads new left command
adds_on old new p stands adds left command l =
    let cut = cut_off old p left command stands l in record {
      pieces = cut.pieces;
      settings = cut.settings;
      spelled = cut.spelled;
      stand = cut.stand;
      values = λ o. ap (λ (t : List Word). t ++ values_of o cut.pieces) (adds.values o) ∙ append_assoc (given_in old.settings o) (value_in o p)
          (values_of o cut.pieces) ∙ cut.values o;
      flags = λ f. ap (λ (t : List Flag). t ++ flags_of f cut.pieces) (adds.flags f) ∙ append_assoc (raised_in old.settings f) (flag_in f p)
          (flags_of f cut.pieces) ∙ cut.flags f;
      takes = takes_same new.verb old.verb cut.settings _ _ adds.verb (others_along old new p adds (others_of cut.pieces)) cut.takes;
      build = cut.build;
      makes = made_same new.verb old.verb cut.settings _ _ adds.verb (others_along old new p adds (others_of cut.pieces)) ∙ cut.makes;
    }

pub adds_back : (old new : State) (p : Piece) → Stands p → Adds old p new → (left : List Word) (command : Command) → Leads new left command
    → Leads old (words_in p ++ left) command
adds_back old new p stands adds left command l = record {
  pieces = p ∷ l.pieces;
  settings = l.settings;
  spelled = ap (λ (t : List Word). words_in p ++ t) l.spelled;
  stand = (stands, l.stand);
  values = λ o. sym (append_assoc (given_in old.settings o) (value_in o p) (values_of o l.pieces)) ∙ ap (λ (t : List Word). t ++ values_of o l.pieces)
      (sym (adds.values o)) ∙ l.values o;
  flags = λ f. sym (append_assoc (raised_in old.settings f) (flag_in f p) (flags_of f l.pieces)) ∙ ap (λ (t : List Flag). t ++ flags_of f l.pieces)
      (sym (adds.flags f)) ∙ l.flags f;
  takes = takes_same old.verb new.verb l.settings _ _ (sym adds.verb) (sym (others_along old new p adds (others_of l.pieces))) l.takes;
  build = l.build;
  makes = made_same old.verb new.verb l.settings _ _ (sym adds.verb) (sym (others_along old new p adds (others_of l.pieces))) ∙ l.makes;
}

reached : (state : State) (p : Piece) (left : List Word) (command : Command) (cut : Cut state p left command)
    → Reaches state p cut.settings (state.others ++ (other_in p ++ others_of cut.pieces))
reached state p left command cut = record {
  values = λ o. (values_of o cut.pieces, cut.values o);
  flags = λ f. (flags_of f cut.pieces, cut.flags f);
  more = others_of cut.pieces;
  whole = refl;
  takes = cut.takes;
  build = cut.build;
}

pub barred : (state : State) (p : Piece) → Stands p → Bars state p → (left : List Word) (command : Command) → Leads state (words_in p ++ left) command → ⊥
barred state p stands bars left command l =
    let cut = cut_off state p left command stands l in bars cut.settings _ (reached state p left command cut)

as_joint : (state : State) (option : Valued) (value : Word) (settings : Settings) (others : List Word)
    → Reaches state (Spaced option value) settings others → Reaches state (Joint option value) settings others
as_joint state option value settings others r = record {
  values = r.values;
  flags = r.flags;
  more = r.more;
  whole = r.whole;
  takes = r.takes;
  build = r.build;
}

pub spaced_bars : (state : State) (option : Valued) (value : Word) → Bars state (Joint option value) → Bars state (Spaced option value)
spaced_bars state option value bars settings others r = bars settings others (as_joint state option value settings others r)

pub spaced_adds : (old new : State) (option : Valued) (value : Word) → Adds old (Joint option value) new → Adds old (Spaced option value) new
spaced_adds old new option value a = record { verb = a.verb; values = a.values; flags = a.flags; others = a.others }

-- an option that may not be given ends every way on
pub option_barred : (state : State) (option : Valued) → BarsOption state option → (left : List Word) (command : Command)
    → Leads state (valued_word option ∷ left) command → ⊥
option_barred state option bars left command l =
    let first = first_piece state (valued_word option) left command l in
    let has = has_value option left first.left first.piece first.stands first.spelled in
    let cut = cut_same state (Spaced option has.value) first.piece first.left first.left command (sym has.spaced) refl first.cut in
    spaced_bars state option has.value (bars has.value) cut.settings _ (reached state (Spaced option has.value) first.left command cut)

-- an option can't be the last word
pub value_wanted : (state : State) (option : Valued) (command : Command) → Leads state (valued_word option ∷ []) command → ⊥
value_wanted state option command l =
    let first = first_piece state (valued_word option) [] command l in
    let has = has_value option [] first.left first.piece first.stands first.spelled in
    let e : [] ≡ has.value ∷ has.rest = has.before in cc

pub unknown_barred : (state : State) (word : Word) → IsUnknown word → (left : List Word) (command : Command) → Leads state (word ∷ left) command → ⊥
unknown_barred state word unknown left command l =
    let first = first_piece state word left command l in
    unknown_begins_none word left first.left first.piece unknown first.stands first.spelled
