-- Words mean one command.
use Rattle.std.proofs.Common.{◌≡◌, ℕ, ◌≤◌, Bool, true, false, List, [], ◌∷◌, ◌++◌, Option, Some, None, Result, Ok, refl, sym, ap, ◌∙◌, subst, arith}
use Rattle.std.specs.Prelude.{IfSome, decimal}
use Rattle.std.proofs.lemmas.Fmt.{decimal_injective}
use Rattle.mix_words.specs.declared.command.Command.{Command}
use Rattle.mix_words.specs.declared.option.Valued.TheVariants.{Env, Target, Partitions}
use Rattle.mix_words.specs.declared.option.Flag.{Flag}
use Rattle.mix_words.specs.declared.option.Flag.TheVariants.{Plain, Trace}
use Rattle.mix_words.specs.declared.settings.Settings.{Settings}
use Rattle.mix_words.specs.declared.verb.Verb.{Verb}
use Rattle.mix_words.specs.declared.verb.Verb.TheVariants.{Help, Deps, Stale, Compile, Clean}
use Rattle.mix_words.specs.Choice.{Takes, flag_if, number_in, word_in}
use Rattle.mix_words.specs.Meaning.{Asks, Means, Orders, made_of}
use Rattle.mix_words.specs.Numbers.{IsPartitionCount}
use Rattle.mix_words.specs.Piece.{Piece, Stand, Word, others_of, values_of, flags_of, words_in, words_of}
use Rattle.mix_words.specs.Said.{Says}
use Rattle.mix_words.proofs.NamedLemmas.{one_name}
use Rattle.mix_words.proofs.PieceLemmas.{no_piece, same_piece}

same_cons : (p q : Piece) (ps qs : List Piece) → p ≡ q → ps ≡ qs → p ∷ ps ≡ q ∷ qs
same_cons p q ps qs e f = cc

same_pieces : (ps qs : List Piece) → Stand ps → Stand qs → words_of ps ≡ words_of qs → ps ≡ qs
same_pieces [] [] s t e = refl
same_pieces [] (q ∷ qs) s t e = absurd (no_piece q (words_of qs) (sym e))
same_pieces (p ∷ ps) [] s t e = absurd (no_piece p (words_of ps) e)
same_pieces (p ∷ ps) (q ∷ qs) s t e =
    let same = same_piece p q (words_of ps) (words_of qs) s.0 t.0 e in
    same_cons p q ps qs same.0 (same_pieces ps qs s.1 t.1 same.1)

same_word : (a b : Option Word) → word_in a ≡ word_in b → a ≡ b
same_word None None e = refl
same_word None (Some w) e = cc
same_word (Some v) None e = cc
same_word (Some v) (Some w) e = cc

same_number : (a b : Option ℕ) → IfSome a (λ n. n ≤ 64) → IfSome b (λ n. n ≤ 64) → number_in a ≡ number_in b → a ≡ b
same_number None None h k e = refl
same_number None (Some w) h k e = cc
same_number (Some v) None h k e = cc
same_number (Some v) (Some w) h k e =
    let bytes : decimal v ≡ decimal w = cc in
    ap Some (decimal_injective v w (omega arith) (omega arith) bytes)

same_flag : (flag : Flag) (a b : Bool) → flag_if flag a ≡ flag_if flag b → a ≡ b
same_flag flag true true e = refl
same_flag flag true false e = cc
same_flag flag false true e = cc
same_flag flag false false e = refl

few : (o : Option ℕ) (P Q : ℕ → Type 0) → IfSome o (λ n. P n × IsPartitionCount n × Q n) → IfSome o (λ n. n ≤ 64)
few None P Q h = tt
few (Some n) P Q h = h.1.most

one_order : (verb : Verb) (words : List Word) (a b : Command) → Orders verb words a → Orders verb words b → a ≡ b
one_order verb words a b x y =
    let pieces : x.says.pieces ≡ y.says.pieces = same_pieces x.says.pieces y.says.pieces x.says.stand y.says.stand (sym x.says.spelled ∙ y.says.spelled) in
    let values = λ (o : _). sym (x.says.values o) ∙ ap (values_of o) pieces ∙ y.says.values o in
    let flags = λ (f : Flag). sym (x.says.flags f) ∙ ap (flags_of f) pieces ∙ y.says.flags f in
    let env : x.settings.env ≡ y.settings.env = same_word x.settings.env y.settings.env (values Env) in
    let target : x.settings.target ≡ y.settings.target = same_word x.settings.target y.settings.target (values Target) in
    let count : x.settings.partitions ≡ y.settings.partitions =
    same_number x.settings.partitions y.settings.partitions (few x.settings.partitions _ _ x.takes.partitions)
    (few y.settings.partitions _ _ y.takes.partitions) (values Partitions) in
    let plain : x.settings.plain ≡ y.settings.plain = same_flag Plain x.settings.plain y.settings.plain (flags Plain) in
    let trace : x.settings.trace ≡ y.settings.trace = same_flag Trace x.settings.trace y.settings.trace (flags Trace) in
    let settings : x.settings ≡ y.settings = λ i. record { env = env i; target = target i; partitions = count i; plain = plain i; trace = trace i } in
    let apps : x.apps ≡ y.apps = sym x.says.left ∙ ap others_of pieces ∙ y.says.left in
    let made : Some a ≡ Some b =
    sym x.makes ∙ ap (λ (s : Settings). made_of verb s x.apps) settings ∙ ap (made_of verb y.settings) apps ∙ y.makes in cc

one_asked : (verb : Verb) (words : List Word) (a b : Command) → Asks verb words a → Asks verb words b → a ≡ b
one_asked Help words a b x y = one_order Help words a b x y
one_asked Deps words a b x y = one_order Deps words a b x y
one_asked Stale words a b x y = one_order Stale words a b x y
one_asked Compile words a b x y = one_order Compile words a b x y
one_asked Clean words a b x y = one_order Clean words a b x y

pub one_meaning : (words : List Word) (a b : Command) → Means words a → Means words b → a ≡ b
one_meaning words a b x y =
    let e = sym x.spelled ∙ y.spelled in
    let verb : x.verb ≡ y.verb = one_name x.verb y.verb (cc e) in
    let behind : x.behind ≡ y.behind = cc e in
    one_asked y.verb y.behind a b
    (subst (λ (v : Verb). Asks v y.behind a) verb (subst (λ (r : List Word). Asks x.verb r a) behind x.asks)) y.asks
