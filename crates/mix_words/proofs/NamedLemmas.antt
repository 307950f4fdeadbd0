-- From the words behind a command's name to all words.
use Rattle.std.proofs.Common.{◌≡◌, ℕ, zero, suc, ◌+◌, ◌<◌, ◌≤◌, List, [], ◌∷◌, ◌++◌, length, take, Option, Some, None, refl, sym, ap, ◌∙◌, subst, arith, add-one}
use Rattle.std.specs.Prelude.{if◌then◌else◌, codes, bytes_eq}
use Rattle.reading.specs.Refusal.{Begins, IsRefusedAt}
use Rattle.mix_words.specs.declared.command.Command.{Command}
use Rattle.mix_words.specs.declared.verb.Verb.{Verb}
use Rattle.mix_words.specs.declared.verb.Verb.TheVariants.{Help, Deps, Stale, Compile, Clean}
use Rattle.mix_words.specs.Live.{start_of}
use Rattle.mix_words.specs.Meaning.{Asks, IsMeant, Means}
use Rattle.mix_words.specs.Piece.{Word}
use Rattle.mix_words.specs.Reading.{IsAsked}
use Rattle.mix_words.specs.Table.{name_of}
use Rattle.mix_words.proofs.LeadLemmas.{lives_leads}
use Rattle.mix_words.proofs.RefusedLemmas.{led_start}

abbrev verb_at : Word → Option Verb
verb_at word =
    if bytes_eq word (codes "help") then Some Help
    else if bytes_eq word (codes "deps") then Some Deps
    else if bytes_eq word (codes "deps.stale") then Some Stale
    else if bytes_eq word (codes "deps.compile") then Some Compile
    else if bytes_eq word (codes "deps.clean") then Some Clean
    else None

verb_of_name : (verb : Verb) → verb_at (name_of verb) ≡ Some verb
verb_of_name Help = refl
verb_of_name Deps = refl
verb_of_name Stale = refl
verb_of_name Compile = refl
verb_of_name Clean = refl

-- a name is one command's
pub one_name : (v w : Verb) → name_of v ≡ name_of w → v ≡ w
one_name v w e = let same : Some v ≡ Some w = sym (verb_of_name v) ∙ ap verb_at e ∙ verb_of_name w in cc

asks_behind : (verb : Verb) (rest : List Word) (command : Command) → Means (name_of verb ∷ rest) command → Asks verb rest command
asks_behind verb rest command m =
    let words : name_of verb ∷ rest ≡ name_of m.verb ∷ m.behind = m.spelled in
    let same : verb ≡ m.verb = one_name verb m.verb (cc) in
    let behind : rest ≡ m.behind = cc in
    subst (λ (v : Verb). Asks v rest command) (sym same) (subst (λ (r : List Word). Asks m.verb r command) (sym behind) m.asks)

means_behind : (verb : Verb) (rest : List Word) (command : Command) → Asks verb rest command → Means (name_of verb ∷ rest) command
means_behind verb rest command a = record { verb = verb; behind = rest; spelled = refl; asks = a }

later : (verb : Verb) (rest : List Word) (at k : ℕ) → IsRefusedAt (IsAsked verb) rest at → suc at < k → k ≤ suc (length rest)
    → Begins IsMeant (take k (name_of verb ∷ rest)) → ⊥
later verb rest at zero refused over within begins = omega arith
later verb rest at (suc j) refused over within begins =
    refused.longest j (omega arith) (omega arith) (begins.0, (begins.1.0, asks_behind verb (take j rest ++ begins.0) begins.1.0 begins.1.1))

-- the words behind the name are refused one place earlier
pub refused_named : (verb : Verb) (rest : List Word) (at : ℕ) → IsRefusedAt (IsAsked verb) rest at → IsRefusedAt IsMeant (name_of verb ∷ rest) (suc at)
refused_named verb rest at refused = record {
  nothing = λ (m : IsMeant (name_of verb ∷ rest)). refused.nothing (m.0, asks_behind verb rest m.0 m.1);
  within = omega (arith, refused.within);
  begins = (refused.begins.0, (refused.begins.1.0, means_behind verb (take at rest ++ refused.begins.0) refused.begins.1.0 refused.begins.1.1));
  longest = λ k over within begins. later verb rest at k refused over within begins;
}

-- some words are a command's
some_words : Begins IsMeant []
some_words =
    let led = led_start Help in
    let on = lives_leads (start_of Help).state led.lives.state in
    (name_of Help ∷ on.0, (on.1.0, means_behind Help on.0 on.1.0 (led.back on.0 on.1.0 on.1.1)))

pub refused_empty : IsRefusedAt IsMeant [] 0
refused_empty = record {
  nothing = λ (m : IsMeant []). let e : [] ≡ name_of m.1.verb ∷ m.1.behind = m.1.spelled in cc;
  within = omega arith;
  begins = some_words;
  longest = λ k over within begins. omega arith;
}

unnamed_later : (first : Word) (rest : List Word) (k : ℕ) → ((verb : Verb) → first ≡ name_of verb → ⊥) → 0 < k → Begins IsMeant (take k (first ∷ rest)) → ⊥
unnamed_later first rest zero never over begins = omega arith
unnamed_later first rest (suc j) never over begins =
    let words : first ∷ (take j rest ++ begins.0) ≡ name_of begins.1.1.verb ∷ begins.1.1.behind = begins.1.1.spelled in
    never begins.1.1.verb (cc)

pub refused_unnamed : (first : Word) (rest : List Word) → ((verb : Verb) → first ≡ name_of verb → ⊥) → IsRefusedAt IsMeant (first ∷ rest) 0
refused_unnamed first rest never = record {
  nothing = λ (m : IsMeant (first ∷ rest)). let words : first ∷ rest ≡ name_of m.1.verb ∷ m.1.behind = m.1.spelled in never m.1.verb (cc);
  within = omega arith;
  begins = some_words;
  longest = λ k over within begins. unnamed_later first rest k never over begins;
}

-- ---- as the reader has them

pub means_named : (verb : Verb) (first : Word) (rest : List Word) (command : Command) → first ≡ name_of verb → Asks verb rest command
    → Means (first ∷ rest) command
means_named verb first rest command e asks = record { verb = verb; behind = rest; spelled = ap (λ (w : Word). w ∷ rest) e; asks = asks }

pub refused_later : (verb : Verb) (first : Word) (rest : List Word) (at : ℕ) → first ≡ name_of verb → IsRefusedAt (IsAsked verb) rest at
    → IsRefusedAt IsMeant (first ∷ rest) (at + 1)
refused_later verb first rest at e refused =
    subst (IsRefusedAt IsMeant (first ∷ rest)) (sym (add-one at))
    (subst (λ (w : Word). IsRefusedAt IsMeant (w ∷ rest) (suc at)) (sym e) (refused_named verb rest at refused))
