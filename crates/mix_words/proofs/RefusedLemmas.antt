-- Where the words behind a command's name are refused, word by word.
use Rattle.std.proofs.Common.{◌≡◌, ℕ, Bool, true, false, List, [], ◌∷◌, ◌++◌, length, Option, Some, None, refl, sym, ap, ◌∙◌, subst, append_assoc, append-nil}
use Rattle.std.specs.Prelude.{IsTrue, IfSome}
use Rattle.reading.specs.Refusal.{Begins, IsRefusedAt}
use Rattle.reading.proofs.Refusals.{refused_same, refused_where}
use Rattle.mix_words.specs.declared.command.Command.{Command}
use Rattle.mix_words.specs.declared.option.Valued.{Valued}
use Rattle.mix_words.specs.declared.option.Valued.TheVariants.{Env, Target, Partitions}
use Rattle.mix_words.specs.declared.option.Flag.{Flag}
use Rattle.mix_words.specs.declared.option.Flag.TheVariants.{Plain, Trace}
use Rattle.mix_words.specs.declared.settings.Settings.{Settings}
use Rattle.mix_words.specs.declared.verb.Verb.{Verb}
use Rattle.mix_words.specs.declared.verb.Verb.TheVariants.{Help, Deps, Stale, Compile, Clean}
use Rattle.mix_words.specs.Choice.{Takes, given_in, raised_in, unset}
use Rattle.mix_words.specs.Live.{Bars, BarsOption, Dies, Follows, Goes, Leads, LeadsOn, Lives, LivesOn, MayGive, Place, State, ready_at, start_of, waiting_word}
use Rattle.mix_words.specs.Meaning.{Asks, Orders, made_of}
use Rattle.mix_words.specs.Piece.{Joint, Piece, Spaced, Stands, Word, flags_of, others_of, valued_word, values_of, words_in}
use Rattle.mix_words.specs.Reading.{IsAsked}
use Rattle.mix_words.proofs.LeadLemmas.{lives_leads, waits_leads}
use Rattle.mix_words.proofs.PieceLemmas.{IsUnknown}
use Rattle.mix_words.proofs.StateLemmas.{adds_back, adds_on, barred, option_barred, spaced_adds, spaced_bars, unknown_barred, value_wanted}

-- ---- one word more

leads_along : (state : State) (a b : List Word) (command : Command) → a ≡ b → Leads state a command → Leads state b command
leads_along state a b command e l = subst (λ (t : List Word). Leads state t command) e l

whole : (p : Piece) (word : Word) (left : List Word) → words_in p ≡ word ∷ [] → words_in p ++ left ≡ word ∷ left
whole p word left e = ap (λ (t : List Word). t ++ left) e

pub follows_piece : (state new : State) (p : Piece) (word : Word) → Stands p → words_in p ≡ word ∷ [] → Goes state p new
    → Follows (ready_at state) word (ready_at new)
follows_piece state new p word stands e goes = record {
  on = λ left command l. adds_on state new p stands goes.adds left command (leads_along state _ _ command (sym (whole p word left e)) l);
  back = λ left command l. leads_along state _ _ command (whole p word left e) (adds_back state new p stands goes.adds left command l);
  lives = record { state = goes.lives; waiting = tt };
}

pub dies_piece : (state : State) (p : Piece) (word : Word) → Stands p → words_in p ≡ word ∷ [] → Bars state p → Dies (ready_at state) word
dies_piece state p word stands e bars left command l =
    barred state p stands bars left command (leads_along state _ _ command (sym (whole p word left e)) l)

abbrev pub waiting_at : State → Valued → Place
waiting_at state option = record { state = state; waiting = Some option }

pub follows_value : (state new : State) (option : Valued) (value : Word) → Goes state (Joint option value) new
    → Follows (waiting_at state option) value (ready_at new)
follows_value state new option value goes =
    let adds = spaced_adds state new option value goes.adds in record {
      on = λ left command l. adds_on state new (Spaced option value) tt adds left command l;
      back = λ left command l. adds_back state new (Spaced option value) tt adds left command l;
      lives = record { state = goes.lives; waiting = tt };
    }

pub dies_value : (state : State) (option : Valued) (value : Word) → Bars state (Joint option value) → Dies (waiting_at state option) value
dies_value state option value bars left command l = barred state (Spaced option value) tt (spaced_bars state option value bars) left command l

pub follows_option : (state : State) (option : Valued) (word : Word) → word ≡ valued_word option → Lives state → MayGive state option
    → Follows (ready_at state) word (waiting_at state option)
follows_option state option word e lives may = record {
  on = λ left command l. leads_along state _ _ command (ap (λ (w : Word). w ∷ left) e) l;
  back = λ left command l. leads_along state _ _ command (ap (λ (w : Word). w ∷ left) (sym e)) l;
  lives = record { state = lives; waiting = may };
}

pub dies_option : (state : State) (option : Valued) (word : Word) → word ≡ valued_word option → BarsOption state option → Dies (ready_at state) word
dies_option state option word e bars left command l = option_barred state option bars left command (leads_along state _ _ command (ap (λ
    (w : Word). w ∷ left) e) l)

pub dies_unknown : (state : State) (word : Word) → IsUnknown word → Dies (ready_at state) word
dies_unknown state word unknown left command l = unknown_barred state word unknown left command l

-- ---- the words so far

-- the words lead from the command's name to a place
pub record Led (verb : Verb) (words : List Word) (place : Place) : Type 0 where
  pub on : (left : List Word) (command : Command) → Orders verb (words ++ left) command → LeadsOn place left command
  pub back : (left : List Word) (command : Command) → LeadsOn place left command → Orders verb (words ++ left) command
  pub lives : LivesOn place

from_unset : (option : Valued) (xs ys : List Word) → xs ≡ ys → given_in unset option ++ xs ≡ ys
from_unset Env xs ys e = e
from_unset Target xs ys e = e
from_unset Partitions xs ys e = e

to_unset : (option : Valued) (xs ys : List Word) → given_in unset option ++ xs ≡ ys → xs ≡ ys
to_unset Env xs ys e = e
to_unset Target xs ys e = e
to_unset Partitions xs ys e = e

from_lowered : (flag : Flag) (xs ys : List Flag) → xs ≡ ys → raised_in unset flag ++ xs ≡ ys
from_lowered Plain xs ys e = e
from_lowered Trace xs ys e = e

to_lowered : (flag : Flag) (xs ys : List Flag) → raised_in unset flag ++ xs ≡ ys → xs ≡ ys
to_lowered Plain xs ys e = e
to_lowered Trace xs ys e = e

orders_lead : (verb : Verb) (words : List Word) (command : Command) → Orders verb words command → LeadsOn (start_of verb) words command
orders_lead verb words command o = record {
  pieces = o.says.pieces;
  settings = o.settings;
  spelled = o.says.spelled;
  stand = o.says.stand;
  values = λ option. from_unset option _ _ (o.says.values option);
  flags = λ flag. from_lowered flag _ _ (o.says.flags flag);
  takes = subst (Takes verb o.settings) (sym o.says.left) o.takes;
  build = o.build;
  makes = ap (made_of verb o.settings) o.says.left ∙ o.makes;
}

leads_order : (verb : Verb) (words : List Word) (command : Command) → LeadsOn (start_of verb) words command → Orders verb words command
leads_order verb words command l = record {
  settings = l.settings;
  apps = others_of l.pieces;
  says = record {
    pieces = l.pieces;
    spelled = l.spelled;
    stand = l.stand;
    values = λ option. to_unset option _ _ (l.values option);
    flags = λ flag. to_lowered flag _ _ (l.flags flag);
    left = refl;
  };
  takes = l.takes;
  build = l.build;
  makes = l.makes;
}

pub led_start : (verb : Verb) → Led verb [] (start_of verb)
led_start verb = record {
  on = orders_lead verb;
  back = leads_order verb;
  lives = record {
    state = record {
      takes = record {
        env = tt;
        target = tt;
        partitions = tt;
        plain = λ (e : false ≡ true). cc;
        trace = λ (e : false ≡ true). cc;
        apps = tt;
      };
      env = tt;
      target = tt;
    };
    waiting = tt;
  };
}

pub led_more : (verb : Verb) (words : List Word) (old new : Place) (word : Word) → Led verb words old → Follows old word new → Led verb (words ++ word ∷ []) new
led_more verb words old new word led follows = record {
  on = λ left command o. follows.on left command (led.on (word ∷ left) command (subst (λ (t : List Word). Orders verb t command) (append_assoc words
      (word ∷ []) left) o));
  back = λ left command l. subst (λ (t : List Word). Orders verb t command) (sym (append_assoc words (word ∷ []) left)) (led.back
      (word ∷ left) command (follows.back left command l));
  lives = follows.lives;
}

abbrev pub IsOrdered : Verb → List Word → Type 0
IsOrdered verb words = (command : Command) × Orders verb words command

goes_on : (state : State) (waiting : Option Valued) → Lives state → IfSome waiting (MayGive state)
    → (left : List Word) × ((command : Command) × Leads state (waiting_word waiting ++ left) command)
goes_on state None lives may = lives_leads state lives
goes_on state (Some option) lives may = waits_leads state option lives may

led_begins : (verb : Verb) (words : List Word) (place : Place) → Led verb words place → Begins (IsOrdered verb) words
led_begins verb words place led =
    let on = goes_on place.state place.waiting led.lives.state led.lives.waiting in
    (on.0, (on.1.0, led.back on.0 on.1.0 on.1.1))

pub refused_at_word : (verb : Verb) (words rest : List Word) (place : Place) (word : Word) → Led verb words place → Dies place word
    → IsRefusedAt (IsOrdered verb) (words ++ word ∷ rest) (length words)
refused_at_word verb words rest place word led dies =
    refused_where (IsOrdered verb) words (word ∷ rest)
    (λ (o : IsOrdered verb (words ++ word ∷ rest)). dies rest o.0 (led.on (word ∷ rest) o.0 o.1))
    (led_begins verb words place led)
    (λ next others e begins.
    let same : word ≡ next = cc in
    let whole = subst (λ (t : List Word). Orders verb t begins.1.0) (append_assoc words (next ∷ []) begins.0) begins.1.1 in
    dies begins.0 begins.1.0 (led.on (word ∷ begins.0) begins.1.0 (subst (λ (w : Word). Orders verb (words ++ w ∷ begins.0) begins.1.0) (sym same) whole)))

pub refused_at_end : (verb : Verb) (words : List Word) (place : Place) → Led verb words place → ((command : Command) → LeadsOn place [] command → ⊥)
    → IsRefusedAt (IsOrdered verb) words (length words)
refused_at_end verb words place led ends =
    subst (λ (t : List Word). IsRefusedAt (IsOrdered verb) t (length words)) (append-nil words)
    (refused_where (IsOrdered verb) words []
    (λ (o : IsOrdered verb (words ++ [])). ends o.0 (led.on [] o.0 o.1))
    (led_begins verb words place led)
    (λ next others e begins. let never : [] ≡ next ∷ others = e in cc))

-- ---- the same by the table

pub orders_ask : (verb : Verb) → (words : List Word) (command : Command) → Orders verb words command → Asks verb words command
orders_ask Help words command o = o
orders_ask Deps words command o = o
orders_ask Stale words command o = o
orders_ask Compile words command o = o
orders_ask Clean words command o = o

pub asks_order : (verb : Verb) → (words : List Word) (command : Command) → Asks verb words command → Orders verb words command
asks_order Help words command o = o
asks_order Deps words command o = o
asks_order Stale words command o = o
asks_order Compile words command o = o
asks_order Clean words command o = o

pub refused_behind : (verb : Verb) → (words : List Word) (at : ℕ) → IsRefusedAt (IsOrdered verb) words at
    → IsRefusedAt (IsAsked verb) words at
refused_behind verb words at refused =
    refused_same (IsOrdered verb) (IsAsked verb)
    (λ text o. (o.0, orders_ask verb text o.0 o.1)) (λ text o. (o.0, asks_order verb text o.0 o.1)) words at refused

-- ---- the same at a place whose state is told

waiting_is : (at : Place) (option : Valued) → at.waiting ≡ Some option → at ≡ waiting_at at.state option
waiting_is at option e = λ i. record { state = at.state; waiting = e i }

ready_is : (at : Place) → at.waiting ≡ None → at ≡ ready_at at.state
ready_is at e = λ i. record { state = at.state; waiting = e i }

follows_same : (at new other : Place) (word : Word) → other ≡ new → Follows at word new → Follows at word other
follows_same at new other word e follows = subst (Follows at word) (sym e) follows

pub dies_value_at : (at : Place) (option : Valued) (value : Word) → at.waiting ≡ Some option → Bars at.state (Joint option value) → Dies at value
dies_value_at at option value e bars = subst (λ (p : Place). Dies p value) (sym (waiting_is at option e)) (dies_value at.state option value bars)

pub follows_value_at : (at other : Place) (new : State) (option : Valued) (value : Word) → at.waiting ≡ Some option → other ≡ ready_at new
    → Goes at.state (Joint option value) new → Follows at value other
follows_value_at at other new option value e same goes =
    follows_same at (ready_at new) other value same
    (subst (λ (p : Place). Follows p value (ready_at new)) (sym (waiting_is at option e)) (follows_value at.state new option value goes))

pub follows_piece_as : (state new : State) (other : Place) (p : Piece) (word : Word) → Stands p → words_in p ≡ word ∷ [] → other ≡ ready_at new
    → Goes state p new
    → Follows (ready_at state) word other
follows_piece_as state new other p word stands e same goes = follows_same (ready_at state) (ready_at new) other word same
    (follows_piece state new p word stands e goes)

pub ends_wanting : (at : Place) (option : Valued) → at.waiting ≡ Some option → (command : Command) → LeadsOn at [] command → ⊥
ends_wanting at option e command l =
    value_wanted at.state option command (subst (λ (p : Place). LeadsOn p [] command) (waiting_is at option e) l)
