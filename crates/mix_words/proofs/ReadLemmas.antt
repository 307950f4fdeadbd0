-- Reading the words behind a command's name, place by place.
use Rattle.std.proofs.Common.{◌≡◌, ℕ, zero, suc, ◌+◌, ◌<◌, ◌≤◌, List, [], ◌∷◌, ◌++◌, length, map, take, drop, get_or, refl, sym, ap, ◌∙◌, subst, arith, add-one, append-nil}
use Rattle.std.specs.Prelude.{Err}
use Rattle.reading.specs.Refusal.{IsRefusedAt}
use Rattle.mix_words.specs.declared.command.Command.{Command}
use Rattle.mix_words.specs.declared.verb.Verb.{Verb}
use Rattle.mix_words.specs.Live.{Dies, Follows, LeadsOn, Place}
use Rattle.mix_words.specs.Meaning.{Asks, Orders}
use Rattle.mix_words.specs.Piece.{Word}
use Rattle.mx_base.specs.Blame.{Computes}
use Rattle.mix_words.specs.declared.error.Stop.{Stop}
use Rattle.mix_words.specs.declared.error.Stop.TheVariants as stops
use Rattle.mix_words.specs.declared.error.WordsError.{WordsError}
use Rattle.mix_words.specs.Reading.{IsAsked, IsBehind, blame_of, refused_at}
use Rattle.mix_words.proofs.RefusedLemmas.{IsOrdered, Led, led_more, orders_ask, refused_at_end, refused_at_word, refused_behind}

one_taken : {A : Type 0} (f : A → Word) (xs : List A) (i : ℕ) (x : A) → i < length xs → x ≡ get_or xs i x
    → take (suc i) (map f xs) ≡ take i (map f xs) ++ f x ∷ []
one_taken f [] i x within is = absurd (omega arith)
one_taken f (y ∷ ys) zero x within is = ap (λ z. f z ∷ []) (sym is)
one_taken f (y ∷ ys) (suc i) x within is = ap (λ t. f y ∷ t) (one_taken f ys i x (omega arith) is)

cut_at : {A : Type 0} (f : A → Word) (xs : List A) (i : ℕ) (x : A) → i < length xs → x ≡ get_or xs i x
    → (rest : List Word) × (map f xs ≡ take i (map f xs) ++ f x ∷ rest)
cut_at f [] i x within is = absurd (omega arith)
cut_at f (y ∷ ys) zero x within is = (map f ys, ap (λ z. f z ∷ map f ys) (sym is))
cut_at f (y ∷ ys) (suc i) x within is = let more = cut_at f ys i x (omega arith) is in (more.0, ap (λ t. f y ∷ t) more.1)

so_long : {A : Type 0} (f : A → Word) (xs : List A) (i : ℕ) → i ≤ length xs → length (take i (map f xs)) ≡ i
so_long f [] zero within = refl
so_long f [] (suc i) within = absurd (omega arith)
so_long f (y ∷ ys) zero within = refl
so_long f (y ∷ ys) (suc i) within = ap suc (so_long f ys i (omega arith))

taken_whole : {A : Type 0} (f : A → Word) (xs : List A) (i : ℕ) → length xs ≤ i → take i (map f xs) ≡ map f xs
taken_whole f [] zero within = refl
taken_whole f [] (suc i) within = refl
taken_whole f (y ∷ ys) zero within = absurd (omega arith)
taken_whole f (y ∷ ys) (suc i) within = ap (λ t. f y ∷ t) (taken_whole f ys i (omega arith))

module _ {A : Type 0} (f : A → Word) (verb : Verb) (xs : List A) (i : ℕ) where
  -- one word more
  pub led_one_more : (x : A) (old new : Place) → i < length xs → x ≡ get_or xs i x → Led verb (take i (map f xs)) old → Follows old (f x) new
      → Led verb (take (i + 1) (map f xs)) new
  led_one_more x old new within is led follows =
      subst (λ (t : List Word). Led verb t new) (sym (ap (λ n. take n (map f xs)) (add-one i) ∙ one_taken f xs i x within is))
      (led_more verb (take i (map f xs)) old new (f x) led follows)

  -- the word is refused
  pub refused_there : (x : A) (place : Place) → i < length xs → x ≡ get_or xs i x → Led verb (take i (map f xs)) place
      → Dies place (f x)
      → IsRefusedAt (IsAsked verb) (map f xs) i
  refused_there x place within is led dies =
      let cut = cut_at f xs i x within is in
      refused_behind verb (map f xs) i
      (subst (IsRefusedAt (IsOrdered verb) (map f xs)) (so_long f xs i (omega arith))
      (subst (λ (t : List Word). IsRefusedAt (IsOrdered verb) t (length (take i (map f xs)))) (sym cut.1)
      (refused_at_word verb (take i (map f xs)) cut.0 place (f x) led dies)))

  -- the words end, and some are wanting
  pub refused_in_the_end : (place : Place) → length xs ≤ i → i ≤ length xs → Led verb (take i (map f xs)) place
      → ((command : Command) → LeadsOn place [] command → ⊥) → IsRefusedAt (IsAsked verb) (map f xs) (length xs)
  refused_in_the_end place all within led ends =
      let same : i ≡ length xs = omega arith in
      refused_behind verb (map f xs) (length xs)
      (subst (IsRefusedAt (IsOrdered verb) (map f xs)) (so_long f xs i within ∙ same)
      (subst (λ (t : List Word). IsRefusedAt (IsOrdered verb) t (length (take i (map f xs)))) (taken_whole f xs i all)
      (refused_at_end verb (take i (map f xs)) place led ends)))

  -- the words end, and are a command's
  pub asked_in_the_end : (place : Place) (command : Command) → length xs ≤ i → Led verb (take i (map f xs)) place
      → LeadsOn place [] command → Asks verb (map f xs) command
  asked_in_the_end place command all led leads =
      orders_ask verb (map f xs) command
      (subst (λ (t : List Word). Orders verb t command) (append-nil (take i (map f xs)) ∙ taken_whole f xs i all) (led.back [] command leads))

-- what stopped the reader is no command's, or says nothing
pub computes_stopped : (verb : Verb) (words : List Word) (stop : Stop) (at : ℕ) (error : WordsError) → error ≡ refused_at stop at
    → (stop ≡ stops.Refused → IsRefusedAt (IsAsked verb) words at) → Computes blame_of (Err error) (IsBehind verb words)
computes_stopped verb words stop at error e refused =
    subst (λ (x : WordsError). Computes blame_of (Err x) (IsBehind verb words)) (sym e) (by_stop stop refused)
  where
    by_stop : (s : Stop) → (s ≡ stops.Refused → IsRefusedAt (IsAsked verb) words at) → Computes blame_of (Err (refused_at s at)) (IsBehind verb words)
    by_stop stops.Refused r = record { answer = λ _. r refl; alone = refl }
    by_stop stops.OutOfMemory r = record { answer = λ b. cc; alone = refl }
